-- The words that the shell reads in a text (POSIX, Shell Command Language, "Token Recognition" and "Quoting"), as far
-- as blanks, newlines, single quotes and backslashes go.
use Rattle.std.specs.Prelude.{ℕ, ◌==◌, Bool, true, ◌||◌, List, [], ◌∷◌, ◌++◌, Option, Some, None, if◌then◌else◌, option_map}
use Rattle.shell_subst.specs.Quoting.{quote_mark}

-- where a reader stands: between words, or in a word, of which it has these bytes, there outside quotes, between single
-- quotes, or behind a backslash
pub data Place : Type 0 where
  Between : Place
  Bare : List ℕ → Place
  Quoted : List ℕ → Place
  Escaped : List ℕ → Place

-- space, tab and newline end a word
abbrev pub ends_word : ℕ → Bool
ends_word b = b == 32 || b == 9 || b == 10

-- past a byte of a word, outside quotes
abbrev pub past : List ℕ → ℕ → Place
past word b = if b == quote_mark then Quoted word else if b == 92 then Escaped word else Bare (word ++ b ∷ [])

-- the words of the rest of a text; None where a quote is not closed, or nothing stands behind a last backslash
abbrev pub words_from : Place → List ℕ → Option (List (List ℕ))
words_from Between [] = Some []
words_from Between (b ∷ bs) = if ends_word b then words_from Between bs else words_from (past [] b) bs
words_from (Bare word) [] = Some (word ∷ [])
words_from (Bare word) (b ∷ bs) =
    if ends_word b then option_map (λ words. word ∷ words) (words_from Between bs) else words_from (past word b) bs
words_from (Quoted word) [] = None
words_from (Quoted word) (b ∷ bs) =
    if b == quote_mark then words_from (Bare word) bs else words_from (Quoted (word ++ b ∷ [])) bs
words_from (Escaped word) [] = None
words_from (Escaped word) (b ∷ bs) = words_from (Bare (word ++ b ∷ [])) bs

abbrev pub words : List ℕ → Option (List (List ℕ))
words text = words_from Between text

-- whether a word ends here: the text ends or goes on with a byte that ends a word
abbrev pub is_word_end : List ℕ → Bool
is_word_end [] = true
is_word_end (b ∷ bs) = ends_word b
