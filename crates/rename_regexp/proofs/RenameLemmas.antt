-- What captures say of the match.
use Rattle.std.proofs.Common.{◌≡◌, ◌==◌, false, ℕ, zero, suc, List, [], ◌∷◌, ◌++◌, take, drop, flat_map, Some, refl, ap, ◌∙◌, arith}
use Rattle.std.proofs.lemmas.Bool.{ne_eqb}
use Rattle.regex.specs.Patterns.{Match, span}
use Rattle.regex.specs.Replace.{bytes_of, group_bytes}
use Rattle.regex.specs.Search.{group_span}
use Rattle.regex.specs.Strings.{captures_span, match_span, IsCapturesOf}
use Rattle.regex.specs.declared.string.captures.Captures.{Captures}
use Rattle.rename_regexp.specs.declared.template.Piece.{Piece}
use Rattle.rename_regexp.specs.declared.template.Piece.TheVariants.{Char, Whole, Group}
use Rattle.rename_regexp.specs.Renames.{piece_text, piece_at, group_at, with_replaced, replaced_at}

whole-span : (captures : Captures) → captures_span captures 0 ≡ Some (match_span captures.whole)
unfolding group_span
whole-span captures = refl

group_at-bytes : (name : List ℕ) (found : Match) (captures : Captures) (n : ℕ) → IsCapturesOf name found captures →
    group_at captures n ≡ group_bytes name found n
group_at-bytes name found captures zero are =
    ap (λ hay. bytes_of hay (captures_span captures 0)) are.0 ∙ ap (bytes_of name) (whole-span captures ∙ ap Some are.1.whole_is)
group_at-bytes name found captures (suc n) are =
    let some : (suc n == 0) ≡ false = ne_eqb (suc n) 0 (λ e. omega arith) in
    rw some (ap (λ hay. bytes_of hay (captures_span captures (suc n))) are.0 ∙ ap (bytes_of name) (are.2 (suc n) (omega arith)))

piece_at-text : (name : List ℕ) (found : Match) (captures : Captures) → IsCapturesOf name found captures → (piece : Piece) →
    piece_at captures piece ≡ piece_text name found piece
piece_at-text name found captures are (Char c) = refl
piece_at-text name found captures are Whole = group_at-bytes name found captures 0 are
piece_at-text name found captures are (Group n) = group_at-bytes name found captures n are

pieces_at-text : (name : List ℕ) (found : Match) (captures : Captures) → IsCapturesOf name found captures → (pieces : List Piece) →
    flat_map (piece_at captures) pieces ≡ flat_map (piece_text name found) pieces
pieces_at-text name found captures are [] = refl
pieces_at-text name found captures are (piece ∷ pieces) =
    ap (λ l. l ++ flat_map (piece_at captures) pieces) (piece_at-text name found captures are piece)
    ∙ ap (λ l. piece_text name found piece ++ l) (pieces_at-text name found captures are pieces)

pub renamed-at : (name : List ℕ) (found : Match) (captures : Captures) (pieces : List Piece) (whole : ℕ × ℕ) → IsCapturesOf name found captures →
    Some whole ≡ captures_span captures 0 → replaced_at name whole captures pieces ≡ with_replaced name pieces found
renamed-at name found captures pieces whole are is =
    let same : Some whole ≡ Some (span found) = is ∙ whole-span captures ∙ ap Some are.1.whole_is in
    let at : whole ≡ span found = cc in
    ap (λ w. replaced_at name w captures pieces) at
    ∙ ap (λ l. take found.start name ++ (l ++ drop found.trace.end name)) (pieces_at-text name found captures are pieces)
