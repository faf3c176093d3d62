use Rattle.std.proofs.Common.{◌≡◌, length, sym, ap, ◌∙◌, arith}
use Rattle.std.proofs.lemmas.List.FromFn.{length-map-range_with_len}
use Rattle.drill_tree.specs.declared.group.Group.{Group}
use Rattle.drill_tree.specs.declared.group.Group.TheVariants.{Cycle}
use Rattle.drill_tree.specs.Groups.{cycle_name, file, group_of, held, one}
use Rattle.drill_run.proofs.counting.entries_in.Goals as goal

pub returns-in-Cycle-clause-held : goal.returns-in-Cycle-clause-held
returns-in-Cycle-clause-held c =
    let is : Cycle c.in-Cycle.len ≡ group_of c.args.number = sym c.in-Cycle.is ∙ c.of.ensures in
    let size : length (held (Cycle c.in-Cycle.len)) ≡ c.in-Cycle.len = length-map-range_with_len (λ i. file (one (cycle_name i))) 0 c.in-Cycle.len in
    let same : length (held (Cycle c.in-Cycle.len)) ≡ length (held (group_of c.args.number)) = ap (λ (g : Group). length (held g)) is in
    omega (arith, size, same)
