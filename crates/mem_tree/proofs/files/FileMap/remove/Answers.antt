use Rattle.std.proofs.Common.{◌∙◌, ap}
use Rattle.std.specs.FinMap as fin
use Rattle.mem_tree.proofs.KeptMaps.{file_removed, file_sorted}
use Rattle.mem_tree.specs.Slots.{Files}
use Rattle.mem_tree.proofs.files.FileMap.remove.Goals as goal

pub invariant_of-self : goal.invariant_of-self
invariant_of-self c = file_sorted _ c.remove.ensures.ordered

pub returns : goal.returns
returns c = file_removed c.self.inside.files c.remove.new.self c.args.number c.remove.ensures.updates ∙ ap (λ (m : Files). fin.remove m c.args.number) c.self.view_is
