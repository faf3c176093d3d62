use Rattle.std.proofs.Common.{◌∙◌, ap}
use Rattle.std.specs.FinMap as fin
use Rattle.mem_tree.proofs.KeptMaps.{file_inserted, file_sorted}
use Rattle.mem_tree.specs.Slots.{Files}
use Rattle.mem_tree.proofs.files.FileMap.insert.Goals as goal

pub invariant_of-self-2 : goal.invariant_of-self-2
invariant_of-self-2 c = file_sorted _ c.insert.ensures.ordered

pub returns-clause-ok : goal.returns-clause-ok
returns-clause-ok c = file_inserted c.self.inside.files c.insert.new.self c.args.number c.args.body c.in_ok-insert.ensures.updates ∙ ap (λ (m : Files). fin.insert m c.args.number c.args.body) c.self.view_is
