-- Counts of faults. A count never falls, and one that stands at its last value stays there.
use Rattle.std.specs.Prelude.{ℕ, ◌+◌, ◌-◌, ◌^◌, ◌<◌, ◌≤◌, min}

-- one fault more
abbrev pub raised : ℕ → ℕ
raised count = min (count + 1) (2 ^ 64 - 1)

-- a fault came: the count rose, or stands at its last value
abbrev pub Rose : ℕ → ℕ → Type 0
Rose before now = raised before ≤ now

-- no fault came
abbrev pub Stayed : ℕ → ℕ → Type 0
Stayed before now = now < raised before
