-- Commands that are read give marks.
use Rattle.std.proofs.Common.{◌≡◌, inl, inr, ℕ, ◌+◌, ◌≤◌, List, [], ◌∷◌, length, refl, sym, ◌∙◌, ap, subst, arith, Option, Some, None, Result, Ok, Err, IfOk, nat_lt, nat_le, true, false}
use Rattle.std.proofs.lemmas.Bool.{cases_Bool, and_parts, leb-true}
use Rattle.find_words.specs.Expressions.{Expression}
use Rattle.find_words.specs.declared.fault.FindFault.{FindFault}
use Rattle.listing_text.specs.Reading.{◌>>=◌}
use Rattle.mark_table.specs.PathMarks.{IsMark, is_mark}
use Rattle.script_words.specs.Arguments.{Reads, groups_of, mark, path, directory, ending, mode, regexp, switches, predicate, template, any}
use Rattle.script_words.specs.Commands.{IsWordRead, by_row}
use Rattle.script_words.specs.Lines.{line_at}
use Rattle.script_words.specs.Rows.{Row, alone, argued_row, asked_by, by_regexp, by_template, command_of, find_row, just, one, row_of, two, with_regexp}
use Rattle.script_words.specs.declared.command.Asked.{Asked}
use Rattle.script_words.specs.declared.command.Command.{Command}
use Rattle.script_words.specs.declared.command.Command.TheVariants as command
use Rattle.script_words.specs.declared.command.Commit.TheVariants as commit
use Rattle.script_words.specs.declared.command.Remark.TheVariants as remark
use Rattle.script_words.specs.declared.command.Test.TheVariants as test
use Rattle.script_words.specs.declared.fault.CommandFault.{CommandFault}
use Rattle.script_words.specs.declared.fault.CommandFault.TheVariants.{Bad}
use Rattle.script_words.specs.declared.fault.ScriptCause.TheVariants.{BadArgument, MissingArgument}
use Rattle.script_words.specs.declared.word.ArgumentWord.{ArgumentWord}
use Rattle.script_words.specs.declared.word.ArgumentWord.TheVariants as argued
use Rattle.script_words.specs.declared.word.PlainWord.{PlainWord}
use Rattle.script_words.specs.declared.word.PlainWord.TheVariants as plain
use Rattle.script_words.specs.declared.word.Word.{Word}
use Rattle.script_words.specs.declared.word.Word.TheVariants.{Plain, Argument, Find}
use Rattle.rename_regexp.specs.declared.template.Piece.{Piece}
use Rattle.script_words.specs.Marks.{AreMarks, HasMarks}

-- where something came of two readings, something came of the first
bound : {A B E : Type 0} (r : Result A E) (f : A → Result B E) (b : B) → (r >>= f) ≡ Ok b → (a : A) × (r ≡ Ok a) × (f a ≡ Ok b)
bound (Ok a) f b e = (a, refl, e)
bound (Err x) f b e = cc

-- one byte that may be a mark
mark_read : (line : ℕ) (text : List ℕ) (m : ℕ) → mark line text ≡ Ok m → IsMark m
mark_read line [] m e = cc
mark_read line (b ∷ []) m e = elim (cases_Bool (is_mark b)) [
  | inl is ↦
      let read : Ok b ≡ Ok m = rw is at e in
      let same : b ≡ m = cc in
      let parts = and_parts (nat_le 33 b) (nat_le b 126) is in
      subst IsMark same (leb-true 33 b parts.0, leb-true b 126 parts.1)
  | inr other ↦ let wrong : Err (Bad line BadArgument) ≡ Ok m = rw other at e in cc
]
mark_read line (b ∷ c ∷ text) m e = cc

abbrev read_as : Asked → Result Asked CommandFault
read_as asked = Ok asked

just_asked : (c : Command) (asked : Asked) → read_as (just c) ≡ read_as asked → HasMarks c → HasMarks asked.command
just_asked c asked e has = subst (λ (a : Asked). HasMarks a.command) (let same : just c ≡ asked = cc in same) has

one_has : {A : Type 0} (read : Reads A) (make : A → Command) (lines : List (List ℕ)) (at : ℕ) (asked : Asked)
    → ((line : ℕ) (text : List ℕ) (a : A) → read line text ≡ Ok a → HasMarks (make a))
    → (one read make).read lines at ≡ Ok asked → HasMarks asked.command
one_has read make lines at asked has e =
    let b = bound (read (at + 1) (line_at lines (at + 1))) (λ a. Ok (just (make a))) asked e in
    just_asked (make b.0) asked b.2 (has (at + 1) (line_at lines (at + 1)) b.0 b.1)

two_has : {A B : Type 0} (read : Reads A) (next : Reads B) (make : A → B → Command) (lines : List (List ℕ)) (at : ℕ) (asked : Asked)
    → ((l : ℕ) (t : List ℕ) (a : A) (m : ℕ) (u : List ℕ) (b : B) → read l t ≡ Ok a → next m u ≡ Ok b → HasMarks (make a b))
    → (two read next make).read lines at ≡ Ok asked → HasMarks asked.command
two_has read next make lines at asked has e =
    let first = bound (read (at + 1) (line_at lines (at + 1))) (λ a. next (at + 2) (line_at lines (at + 2)) >>= λ b. Ok (just (make a b))) asked e in
    let second = bound (next (at + 2) (line_at lines (at + 2))) (λ b. Ok (just (make first.0 b))) asked first.2 in
    just_asked (make first.0 second.0) asked second.2 (has (at + 1) (line_at lines (at + 1)) first.0 (at + 2) (line_at lines (at + 2)) second.0 first.1 second.1)

regexp_has : (c : Command) (lines : List (List ℕ)) (at : ℕ) (asked : Asked) → HasMarks c → (by_regexp c).read lines at ≡ Ok asked → HasMarks asked.command
regexp_has c lines at asked has e =
    let b = bound (regexp (at + 1) (line_at lines (at + 1))) (λ tree. Ok (with_regexp c tree)) asked e in
    subst (λ (a : Asked). HasMarks a.command) (let same : with_regexp c b.0 ≡ asked = cc in same) has

template_has : (make : List Piece → Command) (lines : List (List ℕ)) (at : ℕ) (asked : Asked) → ((pieces : List Piece) → HasMarks (make pieces))
    → (by_template make).read lines at ≡ Ok asked → HasMarks asked.command
template_has make lines at asked has e =
    let first = bound (regexp (at + 1) (line_at lines (at + 1))) (λ tree. template (groups_of tree) (at + 2) (line_at lines (at + 2)) >>= λ pieces. Ok (with_regexp (make pieces) tree)) asked e in
    let second = bound (template (groups_of first.0) (at + 2) (line_at lines (at + 2))) (λ pieces. Ok (with_regexp (make pieces) first.0)) asked first.2 in
    subst (λ (a : Asked). HasMarks a.command) (let same : with_regexp (make second.0) first.0 ≡ asked = cc in same) (has second.0)

plain_has : (w : PlainWord) → HasMarks (command_of w)
plain_has plain.Mark = (omega arith, omega arith)
plain_has plain.Flag = (omega arith, omega arith)
plain_has plain.Unmark = tt
plain_has plain.Toggle = tt
plain_has plain.UnmarkAll = tt
plain_has plain.CountMarked = tt
plain_has plain.MarkDirectories = (omega arith, omega arith)
plain_has plain.MarkLinks = (omega arith, omega arith)
plain_has plain.MarkExecutables = (omega arith, omega arith)
plain_has plain.MarkSection = (omega arith, omega arith)
plain_has plain.FlagBackups = (omega arith, omega arith)
plain_has plain.FlagAutoSaves = (omega arith, omega arith)
plain_has plain.FlagExcess = (omega arith, omega arith)
plain_has plain.Remove = tt
plain_has plain.Kill = tt
plain_has plain.Relist = tt
plain_has plain.Print = tt
plain_has plain.Omit = tt
plain_has plain.Undo = tt
plain_has plain.ConfirmAll = tt

argued_has : (w : ArgumentWord) (lines : List (List ℕ)) (at : ℕ) (asked : Asked) → (argued_row w).read lines at ≡ Ok asked → HasMarks asked.command
argued_has argued.At lines at asked e = one_has path command.At lines at asked (λ l t a r. tt) e
argued_has argued.UnmarkEach lines at asked e = one_has mark (λ m. command.Change (remark.ClearMark m)) lines at asked (λ l t m r. mark_read l t m r) e
argued_has argued.ReplaceMark lines at asked e =
    two_has mark mark (λ old new. command.Change (remark.Replace old new)) lines at asked (λ l t a m u b r s. (mark_read l t a r, mark_read m u b s)) e
argued_has argued.MarkEnding lines at asked e = one_has ending (λ text. command.MarkWhere 42 (test.EndsWith text)) lines at asked (λ l t a r. (omega arith, omega arith)) e
argued_has argued.MarkNames lines at asked e = regexp_has (command.MarkWhere 42 test.NameMatches) lines at asked (omega arith, omega arith) e
argued_has argued.FlagNames lines at asked e = regexp_has (command.MarkWhere 68 test.NameMatches) lines at asked (omega arith, omega arith) e
argued_has argued.MarkBytes lines at asked e = regexp_has command.MarkBytes lines at asked tt e
argued_has argued.RenameBy lines at asked e = template_has (λ pieces. command.Commits (commit.RenameBy pieces)) lines at asked (λ pieces. tt) e
argued_has argued.RenameTo lines at asked e = one_has directory (λ to. command.Commits (commit.RenameTo to)) lines at asked (λ l t a r. tt) e
argued_has argued.SetMode lines at asked e = one_has mode (λ m. command.Commits (commit.SetMode m)) lines at asked (λ l t a r. tt) e
argued_has argued.Insert lines at asked e = one_has directory command.Insert lines at asked (λ l t a r. tt) e
argued_has argued.TakeOut lines at asked e = one_has directory command.TakeOut lines at asked (λ l t a r. tt) e
argued_has argued.Turn lines at asked e = one_has directory command.Turn lines at asked (λ l t a r. tt) e
argued_has argued.RelistWith lines at asked e = one_has switches (λ to. command.Relist (Some to)) lines at asked (λ l t a r. tt) e
argued_has argued.Shell lines at asked e = one_has any command.Shell lines at asked (λ l t a r. tt) e
argued_has argued.Confirm lines at asked e = one_has path (λ p. command.Confirm (Some p)) lines at asked (λ l t a r. tt) e
argued_has argued.Edit lines at asked e = one_has any (λ name. command.Commits (commit.Edit name)) lines at asked (λ l t a r. tt) e

row_has : (said : Result Expression FindFault) (w : Word) (lines : List (List ℕ)) (at : ℕ) (asked : Asked) → (row_of said w).read lines at ≡ Ok asked → HasMarks asked.command
row_has said (Plain w) lines at asked e = just_asked (command_of w) asked e (plain_has w)
row_has said (Argument w) lines at asked e = argued_has w lines at asked e
row_has said Find lines at asked e = one_has (predicate said) command.Find lines at asked (λ l t a r. tt) e

by_row_has : (lines : List (List ℕ)) (at : ℕ) (row : Row) (read : Asked × ℕ) → by_row lines at row ≡ Ok read → ((asked : Asked) → row.read lines at ≡ Ok asked → HasMarks asked.command) → HasMarks read.0.command
by_row_has lines at row read e has = elim (cases_Bool (nat_lt (length lines) (at + row.arguments))) [
  | inl few ↦ let wrong : Err (Bad (length lines + 1) MissingArgument) ≡ Ok read = rw few at e in cc
  | inr enough ↦
      let reads : (row.read lines at >>= λ asked. Ok (asked, at + row.arguments + 1)) ≡ Ok read = rw enough at e in
      let b = bound (row.read lines at) (λ asked. Ok (asked, at + row.arguments + 1)) read reads in
      let same : (b.0, at + row.arguments + 1) ≡ read = cc in
      subst (λ (r : Asked × ℕ). HasMarks r.0.command) same (has b.0 b.1)
]

-- the marks of a command that was read of a word
pub word_has : (lines : List (List ℕ)) (at : ℕ) (w : Word) (result : Result (Asked × ℕ) CommandFault) → IsWordRead lines at w result → IfOk result (λ read. HasMarks read.0.command)
word_has lines at w (Ok read) (inl e) = cc
word_has lines at w (Ok read) (inr (said, says, e)) = by_row_has lines at (row_of said w) read (sym e) (row_has said w lines at)
word_has lines at w (Err fault) is = tt
