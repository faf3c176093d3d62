-- One piece of a pattern after another.
use Rattle.std.specs.Prelude.{◌≡◌, ℕ, zero, suc, Bool, List, [], ◌∷◌, if◌then◌else◌, ◌&&◌, ◌==◌, true, false}
use Rattle.name_patterns.specs.declared.patterns.Glyph.{Glyph}
use Rattle.name_patterns.specs.declared.patterns.Piece.{Piece}
use Rattle.name_patterns.specs.declared.patterns.Piece.TheVariants.{AnyRun, AnyOne, One}
use Rattle.name_patterns.specs.Patterns.{is_mark, is_closed, members_in, set_of, set_length}

-- The pieces of the rest of a pattern, where it is known whether a `[` may still begin a set: behind one that isn't closed none
-- is closed, so that none is looked at again.
abbrev pub pieces_from : Bool → ℕ → List Glyph → List Piece
pieces_from sets_begin more [] = []
pieces_from sets_begin (suc more) (glyph ∷ glyphs) = pieces_from sets_begin more glyphs
pieces_from sets_begin zero (glyph ∷ glyphs) =
    if is_mark 42 glyph then AnyRun ∷ pieces_from sets_begin 0 glyphs
    else if is_mark 63 glyph then AnyOne ∷ pieces_from sets_begin 0 glyphs
    else if is_mark 91 glyph && sets_begin then
    (if is_closed (members_in glyphs) then set_of glyphs ∷ pieces_from true (set_length glyphs) glyphs else One 91 ∷ pieces_from false 0 glyphs)
    else One glyph.character ∷ pieces_from sets_begin 0 glyphs

-- whether a `[` may begin a set behind a piece that took so many glyphs behind its first
abbrev pub sets_behind : Bool → Glyph → ℕ → Bool
sets_behind sets_begin glyph taken = if is_mark 91 glyph && taken == 0 then false else sets_begin

-- a piece and how many glyphs it takes behind its first
abbrev pub StartsWith : Bool → Glyph → List Glyph → Piece → ℕ → Type 0
StartsWith sets_begin glyph later piece taken =
    pieces_from sets_begin 0 (glyph ∷ later) ≡ piece ∷ pieces_from (sets_behind sets_begin glyph taken) taken later

-- what a `[` begins before these glyphs: a set, or itself
abbrev pub IsSetRead : List Glyph → Piece → ℕ → Type 0
IsSetRead glyphs piece taken =
    (piece ≡ (if is_closed (members_in glyphs) then set_of glyphs else One 91))
    × (taken ≡ (if is_closed (members_in glyphs) then set_length glyphs else 0))
