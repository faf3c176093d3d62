use Rattle.std.proofs.Common.{rules, ◌≡◌, ◌<◌, ℕ, List, cond, Some, length, slice_get, ◌∙◌, sym, ap, subst, is_eq, nat_cmp}
use Rattle.std.proofs.lemmas.Option.{slice_get-get_or}
use Rattle.std.specs.BTreeMap.{get}
use Rattle.std.specs.Cmp.Lexicographic.{slice_cmp}
use Rattle.path_map.proofs.EnterLemmas.{entry_linked}
use Rattle.path_map.proofs.map.PathMap.link.Goals as goal

pub returns-clause-linked : goal.returns-clause-linked
returns-clause-linked g c =
    let below = c.args.self.now.below.items in
    let old = c.index_mut.result.now in
    let made : c.args.at < length below = search rules in
    let key : c.in_ok-copy.field-0 ≡ c.args.name.now = search rules in
    let is : slice_get below c.args.at ≡ Some old = slice_get-get_or below c.args.at old made ∙ ap Some (sym c.index_mut.ensures.value) in
    entry_linked below c.args.at c.args.next c.args.name.now old c.insert.new.self made is
    (λ n. subst (λ (k : List ℕ). get (slice_cmp nat_cmp) c.insert.new.self n ≡ cond (is_eq (slice_cmp nat_cmp k n)) (Some c.args.next) (get (slice_cmp nat_cmp) old n)) key (c.in_ok-insert.ensures.updates.0 n))
