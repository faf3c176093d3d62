-- The table of commands: how many arguments stand behind a word, and what they make.
use Rattle.std.specs.Prelude.{ℕ, ◌+◌, List, [], Option, Some, None, Result, Ok, encode_utf8_all}
use Rattle.emacs_regexp.specs.Spelling.{spelled}
use Rattle.emacs_regexp.specs.Trees.{Tree}
use Rattle.find_words.specs.declared.fault.FindFault.{FindFault}
use Rattle.find_words.specs.Expressions.{Expression}
use Rattle.listing_text.specs.Reading.{◌>>=◌}
use Rattle.mark_table.specs.PathMarks.{star}
use Rattle.rename_regexp.specs.declared.template.Piece.{Piece}
use Rattle.script_words.specs.Arguments.{Reads, groups_of, path, directory, mark, ending, mode, switches, regexp, template, predicate, any}
use Rattle.script_words.specs.Lines.{line_at}
use Rattle.script_words.specs.declared.command.Asked.{Asked}
use Rattle.script_words.specs.declared.command.Command.{Command}
use Rattle.script_words.specs.declared.command.Command.TheVariants.{At, Put, Change, MarkWhere, MarkBytes, Insert, TakeOut, Turn, Kill, Relist, Find, Count, Print, Omit, Undo, Confirm, Commits, Shell}
use Rattle.script_words.specs.declared.command.Commit.TheVariants.{RenameBy, RenameTo, SetMode, Remove, Edit}
use Rattle.script_words.specs.declared.command.Remark.TheVariants.{Toggle, Clear, ClearMark, Replace}
use Rattle.script_words.specs.declared.command.Test.TheVariants.{IsDirectory, IsLink, IsExecutable, InSection, EndsWith, IsBackup, IsAutoSave, IsExcess, NameMatches}
use Rattle.script_words.specs.declared.fault.CommandFault.{CommandFault}
use Rattle.script_words.specs.declared.word.ArgumentWord.{ArgumentWord}
use Rattle.script_words.specs.declared.word.ArgumentWord.TheVariants as argued
use Rattle.script_words.specs.declared.word.PlainWord.{PlainWord}
use Rattle.script_words.specs.declared.word.PlainWord.TheVariants as plain
use Rattle.script_words.specs.declared.word.Word.{Word}
use Rattle.script_words.specs.declared.word.Word.TheVariants as word
use Rattle.script_words.specs.declared.word.Word.TheVariants.{Plain, Argument}

pub record Row : Type 0 where
  pub arguments : ℕ
  -- from the lines of a script and the number of the command's
  pub read : List (List ℕ) → ℕ → Result Asked CommandFault

-- a command without a regexp
abbrev pub just : Command → Asked
just command = record { command = command; pattern = None }

-- a command with one
abbrev pub with_regexp : Command → Tree → Asked
with_regexp command tree = record { command = command; pattern = Some (encode_utf8_all (spelled tree)) }

-- the argument on a line
abbrev pub read_at : {A : Type 0} → Reads A → List (List ℕ) → ℕ → Result A CommandFault
read_at read lines line = read line (line_at lines line)

abbrev pub alone : Command → Row
alone command = record { arguments = 0; read = λ lines at. Ok (just command) }

abbrev pub one : {A : Type 0} → Reads A → (A → Command) → Row
one read make = record {
  arguments = 1;
  read = λ lines at.
      read_at read lines (at + 1) >>= λ a. Ok (just (make a));
}

abbrev pub two : {A B : Type 0} → Reads A → Reads B → (A → B → Command) → Row
two read next make = record {
  arguments = 2;
  read = λ lines at.
      read_at read lines (at + 1) >>= λ a. read_at next lines (at + 2) >>= λ b. Ok (just (make a b));
}

-- a command with the regexp on a line
abbrev pub asked_by : Command → Reads Asked
asked_by command line text = regexp line text >>= λ tree. Ok (with_regexp command tree)

abbrev pub by_regexp : Command → Row
by_regexp command = record { arguments = 1; read = λ lines at. read_at (asked_by command) lines (at + 1) }

-- a regexp, and what its first match is replaced by
abbrev pub by_template : (List Piece → Command) → Row
by_template make = record {
  arguments = 2;
  read = λ lines at.
      read_at regexp lines (at + 1) >>= λ tree.
      read_at (template (groups_of tree)) lines (at + 2) >>= λ pieces. Ok (with_regexp (make pieces) tree);
}

-- the flag of deletion, `D`
abbrev pub flag : ℕ
flag = 68

abbrev pub command_of : PlainWord → Command
command_of plain.Mark = Put (Some star)
command_of plain.Flag = Put (Some flag)
command_of plain.Unmark = Put None
command_of plain.Toggle = Change Toggle
command_of plain.UnmarkAll = Change Clear
command_of plain.CountMarked = Count
command_of plain.MarkDirectories = MarkWhere star IsDirectory
command_of plain.MarkLinks = MarkWhere star IsLink
command_of plain.MarkExecutables = MarkWhere star IsExecutable
command_of plain.MarkSection = MarkWhere star InSection
command_of plain.FlagBackups = MarkWhere flag IsBackup
command_of plain.FlagAutoSaves = MarkWhere flag IsAutoSave
command_of plain.FlagExcess = MarkWhere flag IsExcess
command_of plain.Remove = Commits Remove
command_of plain.Kill = Kill
command_of plain.Relist = Relist None
command_of plain.Print = Print
command_of plain.Omit = Omit
command_of plain.Undo = Undo
command_of plain.ConfirmAll = Confirm None

abbrev pub argued_row : ArgumentWord → Row
argued_row argued.At = one path At
argued_row argued.UnmarkEach = one mark (λ m. Change (ClearMark m))
argued_row argued.ReplaceMark = two mark mark (λ old new. Change (Replace old new))
argued_row argued.MarkEnding = one ending (λ text. MarkWhere star (EndsWith text))
argued_row argued.MarkNames = by_regexp (MarkWhere star NameMatches)
argued_row argued.FlagNames = by_regexp (MarkWhere flag NameMatches)
argued_row argued.MarkBytes = by_regexp MarkBytes
argued_row argued.RenameBy = by_template (λ pieces. Commits (RenameBy pieces))
argued_row argued.RenameTo = one directory (λ to. Commits (RenameTo to))
argued_row argued.SetMode = one mode (λ mode. Commits (SetMode mode))
argued_row argued.Insert = one directory Insert
argued_row argued.TakeOut = one directory TakeOut
argued_row argued.Turn = one directory Turn
argued_row argued.RelistWith = one switches (λ to. Relist (Some to))
argued_row argued.Shell = one any Shell
argued_row argued.Confirm = one path (λ p. Confirm (Some p))
argued_row argued.Edit = one any (λ name. Commits (Edit name))

-- `find`, where its argument says this as a predicate
abbrev pub find_row : Result Expression FindFault → Row
find_row said = one (predicate said) Find

-- the row of a word; where that is `find`, its argument says this
abbrev pub row_of : Result Expression FindFault → Word → Row
row_of said (Plain word) = alone (command_of word)
row_of said (Argument word) = argued_row word
row_of said word.Find = find_row said

-- how many lines behind a word are its arguments
abbrev pub arguments_of : Word → ℕ
arguments_of (Plain word) = 0
arguments_of (Argument word) = (argued_row word).arguments
arguments_of word.Find = 1
