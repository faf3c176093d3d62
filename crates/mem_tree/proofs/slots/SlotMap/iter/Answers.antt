use Rattle.std.proofs.Common.{◌∙◌, ap, sym}
use Rattle.std.specs.FinMap as fin
use Rattle.mem_tree.proofs.KeptMaps.{slot_entries}
use Rattle.mem_tree.specs.Slots.{Slots, placed}
use Rattle.mem_tree.proofs.slots.SlotMap.iter.Goals as goal

pub returns : goal.returns
returns c = ap placed c.iter.ensures.rest ∙ sym (slot_entries c.self.inside.slots.entries c.self.invariant) ∙ ap (λ (m : Slots). fin.entries m) c.self.view_is
