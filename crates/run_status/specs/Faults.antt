-- The statuses of what other crates refuse.
use Rattle.wdired_buffer.specs.declared.faults.LineCause.{LineCause as BufferLineCause}
use Rattle.wdired_buffer.specs.declared.faults.LineCause.TheVariants as line
use Rattle.edit_words.specs.declared.fault.CheckFault.{CheckFault}
use Rattle.edit_words.specs.declared.fault.CheckFault.TheVariants as fault
use Rattle.run_status.specs.declared.status.Counted.TheVariants as counted
use Rattle.run_status.specs.declared.status.LineCause.{LineCause}
use Rattle.run_status.specs.declared.status.LineCause.TheVariants as cause
use Rattle.run_status.specs.declared.status.Status.{Status}
use Rattle.run_status.specs.declared.status.Status.TheVariants as status

-- why a line of AFTER isn't taken
abbrev pub cause_of_line : BufferLineCause → LineCause
cause_of_line line.LineCount = cause.LineCount
cause_of_line line.Fixed = cause.Fixed
cause_of_line line.BadName = cause.BadName
cause_of_line line.BadMode = cause.BadMode
cause_of_line line.BadTarget = cause.BadTarget
cause_of_line line.Twice = cause.Twice

-- why edits can't be made
abbrev pub status_of_fault : CheckFault → Status
status_of_fault fault.Pending = status.Pending
status_of_fault (fault.Stale line) = status.Stale line
status_of_fault (fault.Reserved line) = status.Faulty line cause.Reserved
status_of_fault (fault.TwoToOne line other) = status.Faulty line (cause.TwoToOne other)
status_of_fault (fault.ModeClash line other) = status.Faulty line (cause.ModeClash other)
status_of_fault (fault.ParentNotDirectory line path) = status.Faulty line (cause.ParentNotDirectory path)
status_of_fault (fault.MovedParent line other) = status.Faulty line (cause.MovedParent other)
status_of_fault (fault.ParentTaken line other) = status.Faulty line (cause.ParentTaken other)
status_of_fault (fault.PathTooLong line) = status.Faulty line cause.PathTooLong
status_of_fault (fault.TargetIsDirectory line path) = status.Faulty line (cause.TargetIsDirectory path)
status_of_fault (fault.NotEmpty line path) = status.Faulty line (cause.NotEmpty path)
status_of_fault (fault.Unconfirmed line path) = status.Unconfirmed line path
status_of_fault (fault.PathBytes bytes) = status.TooLarge counted.PathBytes bytes
status_of_fault (fault.TreeFault call) = status.TreeFault call
status_of_fault fault.Memory = status.Memory
