-- Fields of a line, in which each byte that isn't printed is written as `\x` and two digits.
use Rattle.std.specs.Prelude.{ℕ, ◌+◌, ◌-◌, ◌/◌, ◌%◌, ◌==◌, ◌&&◌, not, nat_le, nat_lt, List, [], ◌∷◌, ◌++◌, codes, flat_map, length, if◌then◌else◌, Bool}

-- a digit of base 16
abbrev pub digit_of : ℕ → ℕ
digit_of value = if nat_lt value 10 then 48 + value else 97 + (value - 10)

-- a byte as `\x` and two digits
abbrev pub spelled : ℕ → List ℕ
spelled byte = codes "\\x" ++ digit_of (byte / 16) ∷ digit_of (byte % 16) ∷ []

-- a byte of ASCII that shows, and that is no backslash
abbrev pub is_plain : ℕ → Bool
is_plain byte = nat_le 33 byte && (nat_le byte 126 && not (byte == 92))

-- a byte of a field
abbrev pub field_byte : ℕ → List ℕ
field_byte byte = if is_plain byte then byte ∷ [] else spelled byte

-- a field, which is `\e` where it has no bytes
abbrev pub field_text : List ℕ → List ℕ
field_text bytes = if length bytes == 0 then codes "\\e" else flat_map field_byte bytes

-- what is printed where a case of this name begins
abbrev pub head_text : List ℕ → List ℕ
head_text name = codes "case " ++ field_text name ++ codes "\n"
