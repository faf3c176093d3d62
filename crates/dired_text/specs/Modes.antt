-- Modes as text, as `ls -l` prints them (POSIX, ls, "file mode").
use Rattle.std.specs.Prelude.{ℕ, ◌+◌, ◌*◌, ◌==◌, Bool, not, List, [], ◌∷◌, Option, Some, None, if◌then◌else◌, bit_and}

-- whether a mode has a bit
abbrev pub has : ℕ → ℕ → Bool
has mode bit = not (bit_and mode bit == 0)

-- a letter, or `-` where its bit is off
abbrev pub letter : ℕ → ℕ → ℕ → ℕ
letter mode bit shown = if has mode bit then shown else 45

-- the third letter of a class: `x`, or by the special bit its letter, small where `x` is set and capital where it isn't
abbrev pub third_letter : ℕ → ℕ → ℕ → ℕ → ℕ → ℕ
third_letter mode bit special small capital = if has mode special then (if has mode bit then small else capital) else letter mode bit 120

-- the nine letters of a mode of at most 0o7777
abbrev pub mode_letters : ℕ → List ℕ
mode_letters mode =
    letter mode 0o400 114 ∷ letter mode 0o200 119 ∷ third_letter mode 0o100 0o4000 115 83
    ∷ letter mode 0o40 114 ∷ letter mode 0o20 119 ∷ third_letter mode 0o10 0o2000 115 83
    ∷ letter mode 0o4 114 ∷ letter mode 0o2 119 ∷ third_letter mode 0o1 0o1000 116 84 ∷ []

-- the bit that a letter sets, if it is one of this place
abbrev pub letter_bit : ℕ → ℕ → ℕ → Option ℕ
letter_bit bit shown b = if b == shown then Some bit else if b == 45 then Some 0 else None

-- the bits that the third letter of a class sets
abbrev pub third_bits : ℕ → ℕ → ℕ → ℕ → ℕ → Option ℕ
third_bits bit special small capital b =
    if b == small then Some (bit + special) else if b == capital then Some special else letter_bit bit 120 b

-- the sum of two numbers, if both are there
abbrev pub both : Option ℕ → Option ℕ → Option ℕ
both (Some m) (Some n) = Some (m + n)
both (Some m) None = None
both None n = None

-- the bits of a class of users, from its three letters
abbrev pub class_bits : ℕ → ℕ → ℕ → ℕ → ℕ → ℕ → ℕ → Option ℕ
class_bits unit special small capital r w x =
    both (both (letter_bit (4 * unit) 114 r) (letter_bit (2 * unit) 119 w)) (third_bits unit special small capital x)

-- the mode that nine letters show, or None where they show none
abbrev pub read_letters : List ℕ → Option ℕ
read_letters (ur ∷ uw ∷ ux ∷ gr ∷ gw ∷ gx ∷ or ∷ ow ∷ ox ∷ []) =
    both (both (class_bits 0o100 0o4000 115 83 ur uw ux) (class_bits 0o10 0o2000 115 83 gr gw gx)) (class_bits 0o1 0o1000 116 84 or ow ox)
read_letters text = None
