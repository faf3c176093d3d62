-- The table of words, as code holds it.
use Rattle.std.specs.Prelude.{ℕ, List, [], ◌∷◌}
use Rattle.std.specs.Borrow.{Bor}
use Rattle.script_words.specs.declared.word.Word.{Word}

-- each text behind its reference
abbrev pub entries_of : List (Bor (List ℕ) × Word) → List (List ℕ × Word)
entries_of [] = []
entries_of (entry ∷ entries) = (entry.0.now, entry.1) ∷ entries_of entries
