-- The command of a word, by what was read of it.
use Rattle.std.proofs.Common.{◌≡◌, ◌∙◌, ◌⊎◌, inl, inr, ℕ, ◌+◌, ◌<◌, ◌≤◌, List, length, refl, sym, ap, subst, arith, Option, Some, None, Result, Ok, Err}
use Rattle.std.proofs.lemmas.Bool.{lt-ltb, le-ltb}
use Rattle.find_words.specs.Expressions.{Everything}
use Rattle.listing_text.specs.Reading.{◌>>=◌}
use Rattle.script_words.specs.Commands.{IsCommandAt, IsRowRead, IsWordRead, SaysAt, by_row, by_word}
use Rattle.script_words.specs.Lines.{line_at}
use Rattle.script_words.specs.Rows.{Row, arguments_of, row_of}
use Rattle.script_words.specs.Words.{word_of}
use Rattle.script_words.specs.declared.command.Asked.{Asked}
use Rattle.script_words.specs.declared.fault.CommandFault.{CommandFault}
use Rattle.script_words.specs.declared.fault.CommandFault.TheVariants.{Bad}
use Rattle.script_words.specs.declared.fault.ScriptCause.TheVariants.{UnknownCommand, MissingArgument}
use Rattle.script_words.specs.declared.word.Word.{Word}
use Rattle.script_words.specs.declared.word.Word.TheVariants.{Plain, Argument, Find}

-- the line is no word
pub no_word : (lines : List (List ℕ)) (at : ℕ) → word_of (line_at lines at) ≡ None → IsCommandAt lines at (Err (Bad at UnknownCommand))
no_word lines at e =
    inr (
      Ok Everything,
      subst (λ (w : Option Word). SaysAt lines at w (Ok Everything)) (sym e) tt,
      subst (λ (w : Option Word). Err (Bad at UnknownCommand) ≡ by_word (Ok Everything) lines at w) (sym e) refl,
    )

-- too few lines follow a word
by_row_few : (lines : List (List ℕ)) (at : ℕ) (row : Row) → length lines < at + row.arguments → by_row lines at row ≡ Err (Bad (length lines + 1) MissingArgument)
by_row_few lines at row few = rw (lt-ltb (length lines) (at + row.arguments) few) refl

pub too_few : (lines : List (List ℕ)) (at : ℕ) (word : Word) → length lines < at + arguments_of word → IsWordRead lines at word (Err (Bad (length lines + 1) MissingArgument))
too_few lines at (Plain w) few = inr (Ok Everything, tt, sym (by_row_few lines at (row_of (Ok Everything) (Plain w)) few))
too_few lines at (Argument w) few = inr (Ok Everything, tt, sym (by_row_few lines at (row_of (Ok Everything) (Argument w)) few))
too_few lines at Find few =
    inr (Ok Everything, (λ within. absurd (omega arith)), sym (by_row_few lines at (row_of (Ok Everything) Find) few))

-- enough lines follow it
row_gives : (lines : List (List ℕ)) (at : ℕ) (row : Row) (result : Result Asked CommandFault) → at + row.arguments ≤ length lines → result ≡ row.read lines at → (result >>= λ asked. Ok (asked, at + row.arguments + 1)) ≡ by_row lines at row
row_gives lines at row result within e = rw (le-ltb (length lines) (at + row.arguments) within) (ap (λ (r : Result Asked CommandFault). r >>= λ asked. Ok (asked, at + row.arguments + 1)) e)

pub word_read : (lines : List (List ℕ)) (at : ℕ) (word : Word) (result : Result Asked CommandFault) → at + arguments_of word ≤ length lines → IsRowRead lines at word result → IsWordRead lines at word (result >>= λ asked. Ok (asked, at + arguments_of word + 1))
word_read lines at (Plain w) result within e = inr (Ok Everything, tt, row_gives lines at (row_of (Ok Everything) (Plain w)) result within e)
word_read lines at (Argument w) result within (inl e) = inl (ap (λ (r : Result Asked CommandFault). r >>= λ asked. Ok (asked, at + arguments_of (Argument w) + 1)) e)
word_read lines at (Argument w) result within (inr e) = inr (Ok Everything, tt, row_gives lines at (row_of (Ok Everything) (Argument w)) result within e)
word_read lines at Find result within (inl e) = inl (ap (λ (r : Result Asked CommandFault). r >>= λ asked. Ok (asked, at + 1 + 1)) e)
word_read lines at Find result within (inr (said, says, e)) = inr (said, (λ _. says), row_gives lines at (row_of said Find) result within e)
