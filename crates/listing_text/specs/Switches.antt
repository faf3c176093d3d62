-- The switches of a listing, as words of `ls` give them.
use Rattle.std.specs.Prelude.{ℕ, ◌==◌, Bool, ◌&&◌, ◌||◌, nat_le, List, [], ◌∷◌, length, Option, Some, None, if◌then◌else◌}
use Rattle.std.specs.List.{list_all, list_any}
use Rattle.listing_text.specs.declared.switches.Switches.{Switches}

-- the letters `A`, `l`, `t`, `S` and `r`
abbrev pub is_switch : ℕ → Bool
is_switch b = b == 65 || b == 108 || b == 116 || b == 83 || b == 114

abbrev pub has_letter : ℕ → List ℕ → Bool
has_letter letter letters = list_any (λ b. b == letter) letters

-- what the letters switch on; `l` switches on nothing
abbrev pub switched : List ℕ → Switches
switched letters = record { all = has_letter 65 letters; by_time = has_letter 116 letters; by_size = has_letter 83 letters; reverse = has_letter 114 letters }

-- the switches of a text: `-` and one or more of the letters
abbrev pub switches_of : List ℕ → Option Switches
switches_of [] = None
switches_of (b ∷ letters) = if b == 45 && nat_le 1 (length letters) && list_all is_switch letters then Some (switched letters) else None
