-- Pieces of a pattern one after another.
use Rattle.std.proofs.Common.{inl, inr, not, nat_lt}
use Rattle.std.specs.List.{position, position_or_len}
use Rattle.std.specs.Option.{unwrap_or}
use Rattle.std.proofs.lemmas.Bool.{cases_Bool, ltb-false}
use Rattle.std.proofs.lemmas.List.Sums.{prefix_len-le-length}
use Rattle.std.proofs.Common.{◌≡◌, ◌∙◌, refl, sym, ap, arith, ℕ, zero, suc, ◌≤◌, Option, Bool, List, [], ◌∷◌, ◌++◌, length, drop}
use Rattle.name_patterns.specs.declared.patterns.Glyph.{Glyph}
use Rattle.name_patterns.specs.declared.patterns.Piece.{Piece}
use Rattle.std.proofs.Common.{append_assoc}
use Rattle.name_patterns.specs.PatternReading.{pieces_from}
use Rattle.name_patterns.specs.PatternReading.{StartsWith, sets_behind}

-- what a set takes is passed over
pub passed : (sets_begin : Bool) (taken : ℕ) (glyphs : List Glyph) → pieces_from sets_begin taken glyphs ≡ pieces_from sets_begin 0 (drop taken glyphs)
passed sets_begin zero [] = refl
passed sets_begin zero (glyph ∷ glyphs) = refl
passed sets_begin (suc taken) [] = refl
passed sets_begin (suc taken) (glyph ∷ glyphs) = passed sets_begin taken glyphs

-- one piece more
pub one_more : (whole pieces : List Piece) (sets_begin : Bool) (glyph : Glyph) (later rest : List Glyph) (piece : Piece) (taken : ℕ) → whole ≡ pieces ++ pieces_from sets_begin 0 rest → rest ≡ glyph ∷ later → StartsWith sets_begin glyph later piece taken → whole ≡ (pieces ++ piece ∷ []) ++ pieces_from (sets_behind sets_begin glyph taken) 0 (drop taken later)
one_more whole pieces sets_begin glyph later rest piece taken so_far is starts =
    so_far
    ∙ ap (λ (l : List Glyph). pieces ++ pieces_from sets_begin 0 l) is
    ∙ ap (λ (ps : List Piece). pieces ++ ps) (starts ∙ ap (λ (ps : List Piece). piece ∷ ps) (passed (sets_behind sets_begin glyph taken) taken later))
    ∙ sym (append_assoc pieces (piece ∷ []) (pieces_from (sets_behind sets_begin glyph taken) 0 (drop taken later)))

-- the place that was found, or the end
pub found_or_end : (p : Glyph → Bool) (xs : List Glyph) (found : Option ℕ) → found ≡ position p xs → unwrap_or found (length xs) ≡ position_or_len p xs
found_or_end p xs found e = rw e (elim (cases_Bool (nat_lt (position_or_len p xs) (length xs))) [
  | inl within ↦ rw within refl
  | inr past ↦ rw past (let bound : position_or_len p xs ≤ length xs = prefix_len-le-length (λ x. not (p x)) xs in
      let end : length xs ≤ position_or_len p xs = ltb-false (position_or_len p xs) (length xs) past in omega arith)
])
