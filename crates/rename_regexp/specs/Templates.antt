-- Which template a text writes, and which fault it has (GNU Emacs Manual, "Replacement Commands").
use Rattle.std.specs.Prelude.{◌≡◌, ◌<◌, ℕ, ◌+◌, ◌-◌, ◌==◌, ◌&&◌, nat_le, List, [], ◌∷◌, length, Result, Ok, Err, if◌then◌else◌}
use Rattle.std.specs.Char.{len_utf8}
use Rattle.std.specs.Str.{chars}
use Rattle.rename_regexp.specs.declared.fault.ToFault.{ToFault}
use Rattle.rename_regexp.specs.declared.fault.ToFault.TheVariants.{BadBackslash, NoGroup}
use Rattle.rename_regexp.specs.declared.template.Piece.{Piece}
use Rattle.rename_regexp.specs.declared.template.Piece.TheVariants.{Char, Whole, Group}

-- what a backslash at a place and the character behind it write, where there are so many groups
abbrev pub escape_of : ℕ → ℕ → ℕ → Result Piece ToFault
escape_of groups at c =
    if c == 38 then Ok Whole
    else if c == 92 then Ok (Char 92)
    else if nat_le 49 c && nat_le c 57 then (if nat_le (c - 48) groups then Ok (Group (c - 48)) else Err (NoGroup at))
    else Err (BadBackslash at)

abbrev pub with_piece : Result Piece ToFault → Result (List Piece) ToFault → Result (List Piece) ToFault
with_piece (Err fault) later = Err fault
with_piece (Ok piece) (Ok pieces) = Ok (piece ∷ pieces)
with_piece (Ok piece) (Err fault) = Err fault

-- the pieces of the rest of a text, a list of characters, from a place on, which is counted in bytes
abbrev pub pieces_from : ℕ → ℕ → List ℕ → Result (List Piece) ToFault
pieces_from groups at [] = Ok []
pieces_from groups at (c ∷ []) = if c == 92 then Err (BadBackslash at) else Ok (Char c ∷ [])
pieces_from groups at (c ∷ d ∷ cs) =
    if c == 92 then with_piece (escape_of groups at d) (pieces_from groups (at + 1 + len_utf8 d) cs)
    else with_piece (Ok (Char c)) (pieces_from groups (at + len_utf8 c) (d ∷ cs))

-- the template that a text writes for a regexp with so many groups, or its first fault
abbrev pub template_of : ℕ → List ℕ → Result (List Piece) ToFault
template_of groups text = pieces_from groups 0 (chars text)

-- a piece stands first in a text that stands at a place, and `later` behind it
abbrev pub Cuts : ℕ → ℕ → List ℕ → Piece → List ℕ → Type 0
Cuts groups at text piece later =
    (pieces_from groups at (chars text) ≡ with_piece (Ok piece) (pieces_from groups (at + (length text - length later)) (chars later)))
    × (length later < length text)
