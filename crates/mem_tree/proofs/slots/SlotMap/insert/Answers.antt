use Rattle.std.proofs.Common.{◌∙◌, ap}
use Rattle.std.specs.FinMap as fin
use Rattle.dired_text.specs.Paths.{Names}
use Rattle.mem_tree.proofs.KeptMaps.{slot_inserted, slot_sorted}
use Rattle.mem_tree.specs.Slots.{Slots}
use Rattle.mem_tree.proofs.slots.SlotMap.insert.Goals as goal

pub invariant_of-self-2 : goal.invariant_of-self-2
invariant_of-self-2 c = slot_sorted _ c.insert.ensures.ordered

pub returns-clause-ok : goal.returns-clause-ok
returns-clause-ok c =
    slot_inserted c.self.inside.slots c.insert.new.self c.in_ok-copy_names.field-0.items c.args.slot c.in_ok-insert.ensures.updates
    ∙ ap (λ (m : Slots). fin.insert m c.in_ok-copy_names.field-0.items c.args.slot) c.self.view_is
    ∙ ap (λ (q : Names). fin.insert c.args.self.now q c.args.slot) c.in_ok-copy_names.ensures
