use Rattle.std.proofs.Common.{◌≡◌, ◌∙◌, ap, sym, rules, arith, ℕ, ◌+◌, ◌-◌, Bool, false, ◌&&◌, List, [], ◌∷◌, ◌++◌, length, get_or, append-nil, append_assoc, length-append}
use Rattle.name_patterns.specs.Patterns.{matches}
use Rattle.name_patterns.specs.Rows.{row_of, is_any_run}
use Rattle.name_patterns.proofs.RowLemmas.{row-at, row-whole, row-first, next-is}
use Rattle.name_patterns.proofs.matching.row_before.Goals as goal

pub loop-c-init : goal.loop-c-init
loop-c-init c =
    let name = c.args.name.now in
    let piece = c.args.piece.now in (
      [],
      sym (append-nil name),
      λ pieces row_is.
          let behind : c.at-behind.result ≡ matches pieces [] =
          c.at-behind.ensures ∙ ap (λ (xs : List Bool). get_or xs 0 false) row_is ∙ ap (λ (l : List ℕ). get_or (row_of pieces l) 0 false) (sym (append-nil name)) ∙ row-at pieces name [] in
          c.in_ok-push.ensures.items
          ∙ ap (λ (l : List Bool). l ++ c.matches_none.result ∷ []) c.new-next.ensures.items
          ∙ ap (λ (b : Bool). b ∷ []) (c.matches_none.ensures ∙ ap (λ (b : Bool). is_any_run piece && b) behind ∙ row-first piece pieces),
      ap length c.in_ok-push.ensures.items ∙ ap (λ (l : List Bool). length (l ++ c.matches_none.result ∷ [])) c.new-next.ensures.items,
    )

pub loop-c-preserved : goal.loop-c-preserved
loop-c-preserved c =
    let inv = c.loop-c.invariant in
    let name = c.args.name.now in
    let piece = c.args.piece.now in
    let rest = c.loop-c.rest.now in
    let before = c.in-Some.before.now in
    let ch = c.in-Some.c.now in
    let done = inv.0 in
    let is : rest ≡ before ++ ch ∷ [] = search rules in
    let parts : name ≡ before ++ (ch ∷ done) = inv.1 ∙ ap (λ (l : List ℕ). l ++ done) is ∙ append_assoc before (ch ∷ []) done in
    let count : length name - length rest ≡ length done = omega (arith, ap length inv.1, length-append rest done) in
    let count_same : (length name - length rest) + 1 ≡ length (ch ∷ done) = omega (arith, count) in (
      ch ∷ done,
      parts,
      λ pieces row_is.
          let shorter : c.at-shorter.result ≡ matches pieces done =
          c.at-shorter.ensures ∙ ap (λ (i : ℕ). get_or c.args.row.now i false) count ∙ ap (λ (xs : List Bool). get_or xs (length done) false) (row_is ∙ ap (row_of pieces) inv.1) ∙ row-at pieces rest done in
          let same : c.at-same.result ≡ matches pieces (ch ∷ done) =
          c.at-same.ensures ∙ ap (λ (i : ℕ). get_or c.args.row.now i false) count_same ∙ ap (λ (xs : List Bool). get_or xs (length (ch ∷ done)) false) (row_is ∙ ap (row_of pieces) parts) ∙ row-at pieces before (ch ∷ done) in
          let item : c.at-last.result ≡ get_or c.loop-c.next.items (length name - length rest) false = search rules in
          let last : c.at-last.result ≡ matches (piece ∷ pieces) done =
          item ∙ ap (λ (i : ℕ). get_or c.loop-c.next.items i false) count ∙ ap (λ (xs : List Bool). get_or xs (length done) false) (inv.2 pieces row_is) ∙ row-whole (piece ∷ pieces) done in
          c.in_ok-push-2.ensures.items
          ∙ ap (λ (l : List Bool). l ++ c.matches_from.result ∷ []) (inv.2 pieces row_is)
          ∙ ap (λ (b : Bool). row_of (piece ∷ pieces) done ++ b ∷ []) (next-is piece pieces ch done c.matches_from.result c.at-shorter.result c.at-same.result c.at-last.result c.matches_from.ensures shorter same last),
      omega (arith, ap length c.in_ok-push-2.ensures.items, length-append c.loop-c.next.items (c.matches_from.result ∷ []), inv.3),
    )
