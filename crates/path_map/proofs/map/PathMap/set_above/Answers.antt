use Rattle.std.proofs.Common.{rules, ◌≡◌, ◌<◌, ◌+◌, ◌++◌, ℕ, List, [], ◌∷◌, Some, arith, cond, get_or, length, take, ◌∙◌, sym, ap}
use Rattle.std.proofs.lemmas.List.{take_more}
use Rattle.std.specs.Ordering.{eq_by_cmp}
use Rattle.dired_text.specs.Paths.{Names, path_cmp}
use Rattle.path_map.specs.Walks.{is_above, value_at, walk}
use Rattle.path_map.proofs.AboveLemmas.{above_pushed}
use Rattle.path_map.proofs.WalkLemmas.{value_put, walk_next}
use Rattle.path_map.proofs.map.PathMap.set_above.Goals as goal

pub loop-name-preserved : goal.loop-name-preserved
loop-name-preserved g c =
    let path = c.args.path.now in
    let self = c.loop-name.self in
    let new = c.enter.new.self.below.items in
    let k = c.loop-name.name-index in
    let at = c.loop-name.at in
    let name = c.name-item.result in
    let mark = c.args.mark in
    let under : k < length path = search rules in
    let name_is : name ≡ get_or path k name = search rules in
    let more : take (k + 1) path ≡ take k path ++ name ∷ [] = take_more path k name under ∙ ap (λ (n : List ℕ). take k path ++ n ∷ []) (sym name_is) in
    let before : walk new 0 (take k path) ≡ Some at = c.in_ok-at.ensures.grown (take k path) at c.loop-name.invariant.walked in
    let counted : length self.values.items ≡ length self.below.items = c.loop-name.invariant.is.counted in
    let below : at < length self.below.items = c.loop-name.invariant.made in
    record {
      is = c.in_ok-at.ensures.map;
      made = c.in_ok-at.ensures.made;
      walked = sym (walk_next new path k name (Some at) under name_is (sym before)) ∙ c.in_ok-at.ensures.child;
      kept = λ p.
          c.in_ok-at.ensures.kept p
          ∙ value_put self.below.items self.values.items at (take k path) p mark c.loop-name.invariant.is.below c.loop-name.invariant.walked (omega (arith, counted, below))
          ∙ ap (λ o. cond (eq_by_cmp path_cmp (take k path) p) (Some mark) o) (c.loop-name.invariant.kept p)
          ∙ above_pushed p (take k path) name (Some mark) (value_at c.args.self.now p)
          ∙ ap (λ (q : Names). cond (is_above p q) (Some mark) (value_at c.args.self.now p)) (sym more);
    }
