-- Texts on one line of ASCII controls: how each byte is spelled, and what a spelling stands for.
use Rattle.std.specs.Prelude.{◌≡◌, ◌⊎◌, ◌≤◌, ℕ, zero, suc, ◌+◌, ◌-◌, ◌*◌, ◌/◌, ◌%◌, ◌==◌, Bool, ◌&&◌, ◌||◌, nat_lt, nat_le, length, drop, List, [], ◌∷◌, ◌++◌, Option, Some, None, Result, Ok, Err, if◌then◌else◌, flat_map, position}
use Rattle.std.specs.Option.{option_map}
use Rattle.dired_text.specs.declared.escaping.EscapeError.{EscapeError}
use Rattle.dired_text.specs.declared.escaping.EscapeError.TheVariants.{BadEscape, Memory}

-- `\`, and `>`, which ends the name of a link in a listing
abbrev pub backslash : ℕ
backslash = 92

abbrev pub greater : ℕ
greater = 62

-- the control bytes of ASCII
abbrev pub is_control : ℕ → Bool
is_control b = nat_lt b 32 || b == 127

-- a byte below 512 as three octal digits
abbrev pub octal : ℕ → List ℕ
octal b = (48 + b / 64) ∷ (48 + b / 8 % 8) ∷ (48 + b % 8) ∷ []

-- how a byte is spelled
abbrev pub spelled : Bool → ℕ → List ℕ
spelled in_link b =
    if b == backslash then backslash ∷ backslash ∷ []
    else if b == 10 then backslash ∷ 110 ∷ []
    else if b == 9 then backslash ∷ 116 ∷ []
    else if is_control b || (in_link && b == greater) then backslash ∷ octal b
    else b ∷ []

abbrev pub escaped : Bool → List ℕ → List ℕ
escaped in_link text = flat_map (spelled in_link) text

abbrev pub is_octal_digit : ℕ → Bool
is_octal_digit c = nat_le 48 c && nat_le c 55

-- the number that three octal digits write, from 1 to 127
abbrev pub octal_byte : ℕ → ℕ → ℕ → Option ℕ
octal_byte c d e =
    let b = (c - 48) * 64 + (d - 48) * 8 + (e - 48) in
    if is_octal_digit c && is_octal_digit d && is_octal_digit e && nat_le 1 b && nat_le b 127 then Some b else None

-- a byte that three octal digits spell, and that they are three
abbrev pub octal_behind : List ℕ → Option (ℕ × ℕ)
octal_behind (c ∷ d ∷ e ∷ _) = option_map (λ b. (b, 3)) (octal_byte c d e)
octal_behind _ = None

-- the byte that is spelled by a backslash and what follows it, and how many bytes that takes behind the backslash
abbrev pub behind_backslash : List ℕ → Option (ℕ × ℕ)
behind_backslash [] = None
behind_backslash (c ∷ bs) =
    if c == backslash then Some (backslash, 1)
    else if c == 110 then Some (10, 1)
    else if c == 116 then Some (9, 1)
    else octal_behind (c ∷ bs)

-- the byte that is spelled by this one and what follows it, and how many bytes that takes behind this one
abbrev pub behind : ℕ → List ℕ → Option (ℕ × ℕ)
behind b bs = if b == backslash then behind_backslash bs else if is_control b then None else Some (b, 0)

-- these bytes in front of a text
abbrev pub in_front : List ℕ → Result (List ℕ) EscapeError → Result (List ℕ) EscapeError
in_front bs (Ok text) = Ok (bs ++ text)
in_front bs (Err e) = Err e

-- the byte that was read at a place and the text behind its spelling, or a refusal of the place
abbrev pub then_read : ℕ → Option (ℕ × ℕ) → (ℕ → Result (List ℕ) EscapeError) → Result (List ℕ) EscapeError
then_read place None later = Err (BadEscape place)
then_read place (Some (b, more)) later = in_front (b ∷ []) (later more)

-- what the rest of a text stands for, from a place on, where so many bytes still belong to the spelling before
abbrev pub unescaped_from : ℕ → ℕ → List ℕ → Result (List ℕ) EscapeError
unescaped_from place more [] = Ok []
unescaped_from place (suc more) (b ∷ bs) = unescaped_from (place + 1) more bs
unescaped_from place zero (b ∷ bs) = then_read place (behind b bs) (λ more. unescaped_from (place + 1) more bs)

abbrev pub unescaped : List ℕ → Result (List ℕ) EscapeError
unescaped text = unescaped_from 0 0 text

-- a byte is spelled behind a backslash at the head of a text, and this is what follows the spelling
abbrev pub Spells : List ℕ → ℕ → List ℕ → Type 0
Spells text b later = (n : ℕ) × (behind_backslash text ≡ Some (b, n)) × (n ≤ length text) × (later ≡ drop n text)

-- a text that begins at this place and has no backslash was pushed, or refused at its first control byte
abbrev pub PushesRaw : ℕ → List ℕ → Result (Unit {0}) EscapeError → List ℕ → List ℕ → Type 0
PushesRaw place raw (Ok _) old new = (position is_control raw ≡ None) × (new ≡ old ++ raw)
PushesRaw place raw (Err e) old new = (e ≡ Memory) ⊎ ((k : ℕ) × (position is_control raw ≡ Some k) × (e ≡ BadEscape (place + k)))
