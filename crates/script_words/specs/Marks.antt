-- The marks that commands give.
use Rattle.std.specs.Prelude.{ℕ, Option, Some, None}
use Rattle.mark_table.specs.PathMarks.{IsMark}
use Rattle.script_words.specs.declared.command.Command.{Command}
use Rattle.script_words.specs.declared.command.Command.TheVariants.{Put, Change, MarkWhere}
use Rattle.script_words.specs.declared.command.Remark.{Remark}
use Rattle.script_words.specs.declared.command.Remark.TheVariants.{Toggle, Clear, ClearMark, Replace}

abbrev pub AreMarks : Remark → Type 0
AreMarks Toggle = Unit {0}
AreMarks Clear = Unit {0}
AreMarks (ClearMark mark) = IsMark mark
AreMarks (Replace old new) = IsMark old × IsMark new

-- each mark of a command may be one
abbrev pub HasMarks : Command → Type 0
HasMarks (Put None) = Unit {0}
HasMarks (Put (Some mark)) = IsMark mark
HasMarks (Change change) = AreMarks change
HasMarks (MarkWhere mark test) = IsMark mark
HasMarks other = Unit {0}
