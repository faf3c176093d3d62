use Rattle.std.proofs.Common.{rules, ◌≡◌, ◌<◌, ◌≤◌, Some, arith, cond, get_or, length, take, take_all, ◌∙◌, sym, ap}
use Rattle.std.specs.Ordering.{eq_by_cmp}
use Rattle.dired_text.specs.Paths.{path_cmp}
use Rattle.path_map.specs.Walks.{walk}
use Rattle.path_map.proofs.WalkLemmas.{value_put, walk_next}
use Rattle.path_map.proofs.map.PathMap.set.Goals as goal

pub loop-name-preserved : goal.loop-name-preserved
loop-name-preserved g c =
    let path = c.args.path.now in
    let new = c.enter.new.self.below.items in
    let k = c.loop-name.name-index in
    let name = c.name-item.result in
    let made : k < length path = search rules in
    let name_is : name ≡ get_or path k name = search rules in
    let before : walk new 0 (take k path) ≡ Some c.loop-name.at = c.in_ok-at.ensures.grown (take k path) c.loop-name.at c.loop-name.invariant.walked in
    record {
      is = c.in_ok-at.ensures.map;
      made = c.in_ok-at.ensures.made;
      walked = sym (walk_next new path k name (Some c.loop-name.at) made name_is (sym before)) ∙ c.in_ok-at.ensures.child;
      kept = λ p. c.in_ok-at.ensures.kept p ∙ c.loop-name.invariant.kept p;
    }

pub returns-clause-set : goal.returns-clause-set
returns-clause-set g c p =
    let path = c.args.path.now in
    let self = c.loop-name.self in
    let past : length path ≤ c.loop-name.name-index = search rules in
    let all : take c.loop-name.name-index path ≡ path = take_all c.loop-name.name-index path past in
    let walked : walk self.below.items 0 path ≡ Some c.loop-name.at = sym (ap (walk self.below.items 0) all) ∙ c.loop-name.invariant.walked in
    let counted : length self.values.items ≡ length self.below.items = c.loop-name.invariant.is.counted in
    let below : c.loop-name.at < length self.below.items = c.loop-name.invariant.made in
    value_put self.below.items self.values.items c.loop-name.at path p c.args.value c.loop-name.invariant.is.below walked (omega (arith, counted, below))
    ∙ ap (λ o. cond (eq_by_cmp path_cmp path p) (Some c.args.value) o) (c.loop-name.invariant.kept p)
