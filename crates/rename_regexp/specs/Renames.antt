-- Names with the first match replaced.
use Rattle.std.specs.Prelude.{ℕ, List, ◌++◌, take, drop, flat_map, encode_utf8, Option, option_map}
use Rattle.regex.specs.Patterns.{Re, Match, find_str}
use Rattle.regex.specs.Replace.{bytes_of, group_bytes}
use Rattle.regex.specs.Strings.{captures_haystack, captures_span}
use Rattle.regex.specs.declared.string.captures.Captures.{Captures}
use Rattle.rename_regexp.specs.declared.template.Piece.{Piece}
use Rattle.rename_regexp.specs.declared.template.Piece.TheVariants.{Char, Whole, Group}

-- what a piece stands for at a match in a name: group 0 is the match, and a group that took no part is empty
abbrev pub piece_text : List ℕ → Match → Piece → List ℕ
piece_text name found (Char c) = encode_utf8 c
piece_text name found Whole = group_bytes name found 0
piece_text name found (Group n) = group_bytes name found n

-- a name with a match replaced by what the pieces stand for there
abbrev pub with_replaced : List ℕ → List Piece → Match → List ℕ
with_replaced name pieces found = take found.start name ++ (flat_map (piece_text name found) pieces ++ drop found.trace.end name)

-- a name with the first match of a pattern replaced, or None where there is none
abbrev pub renamed_of : Re → List Piece → List ℕ → Option (List ℕ)
renamed_of pattern pieces name = option_map (with_replaced name pieces) (find_str pattern name 0)

-- the same by the captures of the match
abbrev pub group_at : Captures → ℕ → List ℕ
group_at captures n = bytes_of (captures_haystack captures) (captures_span captures n)

abbrev pub piece_at : Captures → Piece → List ℕ
piece_at captures (Char c) = encode_utf8 c
piece_at captures Whole = group_at captures 0
piece_at captures (Group n) = group_at captures n

abbrev pub replaced_at : List ℕ → ℕ × ℕ → Captures → List Piece → List ℕ
replaced_at name whole captures pieces = take whole.0 name ++ (flat_map (piece_at captures) pieces ++ drop whole.1 name)
