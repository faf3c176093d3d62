use Rattle.std.proofs.Common.{◌∙◌, ap}
use Rattle.std.specs.FinMap as fin
use Rattle.mem_tree.proofs.KeptMaps.{get_slot}
use Rattle.mem_tree.specs.Slots.{Slots}
use Rattle.mem_tree.proofs.slots.SlotMap.get.Goals as goal

pub returns : goal.returns
returns c = c.get.ensures.value ∙ get_slot c.self.inside.slots c.args.names.now ∙ ap (λ (m : Slots). fin.get m c.args.names.now) c.self.view_is
