-- How a drill ends where a look of it does.
use Rattle.std.specs.Prelude.{◌≡◌, Option, Some, None}
use Rattle.commit_run.specs.declared.end.CommitEnd.{CommitEnd}
use Rattle.commit_run.specs.declared.end.CommitEnd.TheVariants as commit
use Rattle.drill_run.specs.Drills.{IsFailure}
use Rattle.tree_core.specs.declared.node.CallName.{CallName}
use Rattle.edit_words.specs.declared.fault.CheckFault.{CheckFault}
use Rattle.edit_words.specs.Found as found
use Rattle.find_listing.specs.declared.ends.FindEnd.{FindEnd}
use Rattle.find_listing.specs.Finds as finds
use Rattle.drill_run.specs.declared.ends.DrillEnd.{DrillEnd}
use Rattle.drill_run.specs.declared.ends.DrillEnd.TheVariants.{Memory, Look, Commit}

-- with the failed call, or else for want of memory
abbrev pub end_at : Option CallName → DrillEnd
end_at None = Memory
end_at (Some call) = Look call

abbrev pub end_of_check : CheckFault → DrillEnd
end_of_check fault = end_at (found.failed_call fault)

abbrev pub end_of_find : FindEnd → DrillEnd
end_of_find found = end_at (finds.failed_call found)

-- the failed look that an end names
abbrev pub failed_look : DrillEnd → Option CallName
failed_look Memory = None
failed_look (Look call) = Some call
failed_look (Commit ended) = None

-- where a commit ended so, which isn't done
abbrev pub IsEndOf : CommitEnd → DrillEnd → Type 0
IsEndOf ended Memory = ended ≡ commit.Memory
IsEndOf ended (Look call) = ⊥
IsEndOf ended (Commit other) = (other ≡ ended) × IsFailure ended

-- an end of a look, or for want of memory
abbrev pub IsOfLook : DrillEnd → Type 0
IsOfLook e = end_at (failed_look e) ≡ e
