-- The patterns of `-name` (POSIX, "Pattern Matching Notation"). Texts and names are lists of characters here.
use Rattle.std.specs.Prelude.{ℕ, zero, suc, ◌+◌, ◌==◌, Bool, true, false, not, ◌&&◌, ◌||◌, nat_le, nat_lt, List, [], ◌∷◌, length, take, drop, if◌then◌else◌}
use Rattle.std.specs.List.{list_any, position_or_len}
use Rattle.name_patterns.specs.declared.patterns.Glyph.{Glyph}
use Rattle.name_patterns.specs.declared.patterns.Piece.{Piece}
use Rattle.name_patterns.specs.declared.patterns.Piece.TheVariants.{AnyRun, AnyOne, One, Set}

-- ---- what a pattern is made of

-- a character by itself, and one that stands behind a backslash
abbrev pub plain : ℕ → Glyph
plain c = record { character = c; is_escaped = false }

abbrev pub escaped : ℕ → Glyph
escaped c = record { character = c; is_escaped = true }

-- the characters of a text; a backslash at its end is itself
abbrev pub glyphs_of : List ℕ → List Glyph
glyphs_of [] = []
glyphs_of (c ∷ []) = plain c ∷ []
glyphs_of (c ∷ d ∷ cs) = if c == 92 then escaped d ∷ glyphs_of cs else plain c ∷ glyphs_of (d ∷ cs)

-- a character with its special meaning
abbrev pub is_mark : ℕ → Glyph → Bool
is_mark c glyph = glyph.character == c && not glyph.is_escaped

-- whether a set's members have a character; three of them are a range where a `-` stands in their middle
abbrev pub has : ℕ → List Glyph → Bool
has c [] = false
has c (one ∷ []) = one.character == c
has c (one ∷ other ∷ []) = one.character == c || other.character == c
has c (from ∷ dash ∷ to ∷ later) =
    if is_mark 45 dash then (nat_le from.character c && nat_le c to.character) || has c later
    else from.character == c || has c (dash ∷ to ∷ later)

-- how many members a set has: it is closed by the first `]` behind its first member
abbrev pub member_count : List Glyph → ℕ
member_count glyphs = suc (position_or_len (is_mark 93) (drop 1 glyphs))

abbrev pub is_closed : List Glyph → Bool
is_closed glyphs = nat_lt (member_count glyphs) (length glyphs)

abbrev pub is_next : ℕ → List Glyph → Bool
is_next c [] = false
is_next c (glyph ∷ glyphs) = is_mark c glyph

-- a set of characters, or behind a `!` of all others
abbrev pub is_negated : List Glyph → Bool
is_negated glyphs = is_next 33 glyphs

abbrev pub members_in : List Glyph → List Glyph
members_in glyphs = if is_negated glyphs then drop 1 glyphs else glyphs

abbrev pub set_of : List Glyph → Piece
set_of glyphs = Set (is_negated glyphs) (take (member_count (members_in glyphs)) (members_in glyphs))

-- how many glyphs the set takes, its `!` and its `]` counted
abbrev pub set_length : List Glyph → ℕ
set_length glyphs = (if is_negated glyphs then 1 else 0) + member_count (members_in glyphs) + 1

-- The pieces of the rest of a pattern. So many glyphs still belong to a set. A `[` that isn't closed is itself.
abbrev pub pieces_behind : ℕ → List Glyph → List Piece
pieces_behind more [] = []
pieces_behind (suc more) (glyph ∷ glyphs) = pieces_behind more glyphs
pieces_behind zero (glyph ∷ glyphs) =
    if is_mark 42 glyph then AnyRun ∷ pieces_behind 0 glyphs
    else if is_mark 63 glyph then AnyOne ∷ pieces_behind 0 glyphs
    else if is_mark 91 glyph && is_closed (members_in glyphs) then set_of glyphs ∷ pieces_behind (set_length glyphs) glyphs
    else One glyph.character ∷ pieces_behind 0 glyphs

abbrev pub pieces_of : List Glyph → List Piece
pieces_of glyphs = pieces_behind 0 glyphs

-- ---- what a pattern matches

-- whether a piece that is no run stands for a character
abbrev pub stands_for : Piece → ℕ → Bool
stands_for AnyRun c = false
stands_for AnyOne c = true
stands_for (One own) c = own == c
stands_for (Set false members) c = has c members
stands_for (Set true members) c = not (has c members)

-- a list and what is left of it behind each of its elements
abbrev pub ends_of : List ℕ → List (List ℕ)
ends_of [] = [] ∷ []
ends_of (c ∷ cs) = (c ∷ cs) ∷ ends_of cs

-- Whether a pattern matches a name as a whole. A `*` takes any run: what stands behind it matches some end of the name.
abbrev pub matches : List Piece → List ℕ → Bool
matches [] [] = true
matches [] (c ∷ cs) = false
matches (AnyRun ∷ pieces) name = list_any (matches pieces) (ends_of name)
matches (AnyOne ∷ pieces) [] = false
matches (AnyOne ∷ pieces) (c ∷ cs) = matches pieces cs
matches (One own ∷ pieces) [] = false
matches (One own ∷ pieces) (c ∷ cs) = own == c && matches pieces cs
matches (Set negated members ∷ pieces) [] = false
matches (Set negated members ∷ pieces) (c ∷ cs) = stands_for (Set negated members) c && matches pieces cs
