-- How a recovery ends that doesn't begin.
use Rattle.commit_recover.specs.declared.end.RecoverEnd.{RecoverEnd}
use Rattle.commit_recover.specs.declared.end.RecoverEnd.TheVariants as end
use Rattle.recovery_start.specs.declared.end.StartEnd.{StartEnd}
use Rattle.recovery_start.specs.declared.end.StartEnd.TheVariants as start

abbrev pub end_of_start : StartEnd → RecoverEnd
end_of_start (start.Foreign name) = end.Foreign name
end_of_start (start.BadJournal offset) = end.BadJournal offset
end_of_start start.Memory = end.Memory
end_of_start (start.TreeFault first) = end.TreeFault first
