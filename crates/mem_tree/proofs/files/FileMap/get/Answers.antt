use Rattle.std.proofs.Common.{◌∙◌, ap}
use Rattle.std.specs.FinMap as fin
use Rattle.mem_tree.proofs.KeptMaps.{get_file}
use Rattle.mem_tree.specs.Slots.{Files}
use Rattle.mem_tree.proofs.files.FileMap.get.Goals as goal

pub returns : goal.returns
returns c = c.get.ensures.value ∙ get_file c.self.inside.files c.args.number ∙ ap (λ (m : Files). fin.get m c.args.number) c.self.view_is
