-- The words of a text. A text is the list of its characters here.
use Rattle.std.specs.Prelude.{ℕ, ◌==◌, Bool, true, false, ◌||◌, List, [], ◌∷◌, ◌++◌, if◌then◌else◌}
use Rattle.find_words.specs.declared.words.Place.{Place}
use Rattle.find_words.specs.declared.words.Place.TheVariants.{Between, Bare, Quoted}

pub record Words : Type 0 where
  -- those that are whole
  pub whole : List (List ℕ)
  -- whether each quote is closed; where one isn't, one more word stands at the end
  pub is_closed : Bool

-- one word more, in front
abbrev pub with_word : List ℕ → Words → Words
with_word word words = record { whole = word ∷ words.whole; is_closed = words.is_closed }

-- space and tab
abbrev pub is_blank : ℕ → Bool
is_blank c = c == 32 || c == 9

abbrev pub quote_mark : ℕ
quote_mark = 39

-- past a character of a word, outside quotes
abbrev pub past : List ℕ → ℕ → Place
past word c = if c == quote_mark then Quoted word else Bare (word ++ c ∷ [])

-- and between them
abbrev pub past_quoted : List ℕ → ℕ → Place
past_quoted word c = if c == quote_mark then Bare word else Quoted (word ++ c ∷ [])

-- the words of the rest of a text, where a reader stands between words, or in a word outside quotes or between them
abbrev pub words_from : Place → List ℕ → Words
words_from Between [] = record { whole = []; is_closed = true }
words_from Between (c ∷ cs) = if is_blank c then words_from Between cs else words_from (past [] c) cs
words_from (Bare word) [] = record { whole = word ∷ []; is_closed = true }
words_from (Bare word) (c ∷ cs) = if is_blank c then with_word word (words_from Between cs) else words_from (past word c) cs
words_from (Quoted word) [] = record { whole = []; is_closed = false }
words_from (Quoted word) (c ∷ cs) = words_from (past_quoted word c) cs

abbrev pub words_of : List ℕ → Words
words_of text = words_from Between text
