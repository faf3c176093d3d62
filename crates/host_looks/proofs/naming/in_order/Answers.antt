use Rattle.std.proofs.Common.{◌≡◌, sym, ◌∙◌, subst, rules, map}
use Rattle.std.proofs.lemmas.List.{map-id}
use Rattle.std.proofs.lemmas.Map.Iter.{iter_end}
use Rattle.tree_core.specs.Fields.{RiseStrictly}
use Rattle.host_looks.proofs.naming.in_order.Goals as goal

pub returns : goal.returns
returns c =
    let all : map (λ x. x) c.loop-name.yielded ≡ c.args.found.keys = search (rules, iter_end) in
    subst RiseStrictly (sym (c.loop-name.invariant ∙ sym (map-id _) ∙ all)) c.len.ensures.ordered
