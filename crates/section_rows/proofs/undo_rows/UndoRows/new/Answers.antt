use Rattle.std.proofs.Common.{◌-◌, [], ap, sym, subst, reverse, length, vec_capacity}
use Rattle.section_rows.specs.Kept.{IsHeld}
use Rattle.section_rows.proofs.StepLemmas.{held-none, seen-same}
use Rattle.section_rows.proofs.undo_rows.UndoRows.new.Goals as goal

pub invariant_of-result : goal.invariant_of-result
invariant_of-result c =
    let r = c.in_ok-new.field-0 in
    let k = held-none r.net (vec_capacity c.new-2.result) c.in_ok-new.ensures.made c.in_ok-new.ensures.lists in
    (subst (λ v. IsHeld r.net 0 0 0 (vec_capacity c.new-2.result) (reverse v)) (sym c.new-2.ensures.items) k, ap length c.in_ok-new.ensures.values)

pub returns : goal.returns
returns c =
    seen-same c.in_ok-new.field-0.net 0 0 [] c.in_ok-new.field-0.values [] (reverse c.new-2.result.items) c.in_ok-new.ensures.values (ap reverse c.new-2.ensures.items)
