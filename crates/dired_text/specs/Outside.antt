-- What the named inputs and the output answer.
use Rattle.std.specs.Prelude.{◌≡◌, ◌⊎◌, [], ◌∷◌, ◌≤◌, ◌<◌, ℕ, List, length, ◌++◌, take, Option, Some, None, Result, Ok, Err, MatchResult, IsSomeAnd}
use Rattle.dired_text.specs.declared.shelf.ShelfEnd.{ShelfEnd}
use Rattle.dired_text.specs.declared.shelf.ShelfEnd.TheVariants.{Absent, TooLarge, Failed, Memory}
use Rattle.dired_text.specs.declared.text.Failed.{Failed as failed}
use Rattle.dired_text.specs.Counts.{raised}

-- what a read of a name answers that has these bytes, or isn't there. What the outside and memory refuse is free here.
abbrev pub ReadsAs : Option (List ℕ) → ℕ → Result (List ℕ) ShelfEnd → Type 0
ReadsAs file limit (Ok bytes) = (file ≡ Some bytes) × (length bytes ≤ limit)
ReadsAs file limit (Err Absent) = file ≡ None
ReadsAs file limit (Err TooLarge) = IsSomeAnd file (λ bytes. limit < length bytes)
ReadsAs file limit (Err Failed) = Unit {0}
ReadsAs file limit (Err Memory) = Unit {0}

-- the count of faults behind a read
abbrev pub count_after : Result (List ℕ) ShelfEnd → ℕ → ℕ
count_after (Ok bytes) count = count
count_after (Err Absent) count = count
count_after (Err TooLarge) count = count
count_after (Err Failed) count = raised count
count_after (Err Memory) count = count

-- the name of the last failed read behind a read of this name
abbrev pub last_after : Result (List ℕ) ShelfEnd → List ℕ → Option (List ℕ) → Option (List ℕ)
last_after (Ok bytes) name last = last
last_after (Err Absent) name last = last
last_after (Err TooLarge) name last = last
last_after (Err Failed) name last = Some name
last_after (Err Memory) name last = last

-- these bytes are the ones from before and some first bytes of the piece
abbrev pub TakesPartOf : List ℕ → List ℕ → List ℕ → Type 0
TakesPartOf piece old new = (n : ℕ) × (n ≤ length piece) × (new ≡ old ++ take n piece)

-- what a sink has taken behind a piece
abbrev pub TakesAs : Result (Unit {0}) failed → List ℕ → List ℕ → List ℕ → Type 0
TakesAs result piece old new = MatchResult result (λ _. new ≡ old ++ piece) (λ _. TakesPartOf piece old new)

-- a call of the outside that fails raises the count, and no other answer changes it
abbrev pub Counts : {T : Type 0} → Result T failed → ℕ → ℕ → Type 0
Counts result old new = MatchResult result (λ _. new ≡ old) (λ _. new ≡ raised old)

-- the texts run so far behind one more, each with the number that it gave: one that failed was run without a number, or not at all
abbrev pub RunsAs : List ℕ → List (List ℕ × Option ℕ) → List (List ℕ × Option ℕ) → Result ℕ failed → Type 0
RunsAs text old new result = MatchResult result (λ number. new ≡ old ++ (text, Some number) ∷ []) (λ _. (new ≡ old) ⊎ (new ≡ old ++ (text, None) ∷ []))
