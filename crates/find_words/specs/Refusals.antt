-- Where a text is no predicate.
use Rattle.std.specs.Prelude.{◌≡◌, ℕ, ◌+◌, List, [], ◌∷◌, ◌++◌, Bool, length, Some, None}
use Rattle.find_words.specs.declared.fault.FindFault.{FindFault}
use Rattle.find_words.specs.declared.fault.FindFault.TheVariants.{Bad, Memory}
use Rattle.find_words.specs.Words.{Words}
use Rattle.find_words.specs.Grammar.{IsFirstFault}
use Rattle.find_words.specs.Reading.{State, run_on, start}

-- want of memory is free
abbrev pub Refuses : FindFault → Words → Type 0
Refuses (Bad word) words = IsFirstFault words word
Refuses Memory words = Unit {0}

-- the reader takes the words before this one, and not this one
pub record Stops (words : List (List ℕ)) (k : ℕ) : Type 0 where
  pub front : List (List ℕ)
  pub word : List ℕ
  pub later : List (List ℕ)
  pub state : State
  pub words_are : words ≡ front ++ word ∷ later
  pub place : k ≡ length front + 1
  pub takes : run_on (Some start) front ≡ Some state
  pub stops : run_on (Some start) (front ++ word ∷ []) ≡ None

abbrev pub StopsAt : FindFault → List (List ℕ) → Type 0
StopsAt (Bad word) words = Stops words word
StopsAt Memory words = Unit {0}

-- these words, and whether each quote is closed
abbrev pub these : List (List ℕ) → Bool → Words
these words is_closed = record { whole = words; is_closed = is_closed }
