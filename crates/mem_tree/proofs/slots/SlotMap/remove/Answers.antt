use Rattle.std.proofs.Common.{◌∙◌, ap}
use Rattle.std.specs.FinMap as fin
use Rattle.mem_tree.proofs.KeptMaps.{slot_removed, slot_sorted, get_slot}
use Rattle.mem_tree.specs.Slots.{Slots}
use Rattle.mem_tree.proofs.slots.SlotMap.remove.Goals as goal

pub invariant_of-self : goal.invariant_of-self
invariant_of-self c = slot_sorted _ c.remove.ensures.ordered

pub returns-clause-found : goal.returns-clause-found
returns-clause-found c = c.remove.ensures.value ∙ get_slot c.self.inside.slots c.args.names.now ∙ ap (λ (m : Slots). fin.get m c.args.names.now) c.self.view_is

pub returns-clause-after : goal.returns-clause-after
returns-clause-after c = slot_removed c.self.inside.slots c.remove.new.self c.args.names.now c.remove.ensures.updates ∙ ap (λ (m : Slots). fin.remove m c.args.names.now) c.self.view_is
