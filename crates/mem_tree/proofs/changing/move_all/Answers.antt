use Rattle.mem_tree.proofs.Answering.{on_ok}
use Rattle.mem_tree.proofs.TreeOf.{slot_stands}
use Rattle.mem_tree.proofs.MoveLemmas.{slots_clear, keep_renamed}
use Rattle.mem_tree.proofs.changing.move_all.Goals as goal

pub rename-requires-clause-stands : goal.rename-requires-clause-stands
rename-requires-clause-stands c = slot_stands c.args.slots.now c.args.files.now c.args.from.now c.requires.can.stands

pub rename-requires-clause-clear : goal.rename-requires-clause-clear
rename-requires-clause-clear c = slots_clear c.args.slots.now c.args.files.now c.args.from.now c.args.to.now c.requires.tree c.requires.can

pub returns-clause-ok : goal.returns-clause-ok
returns-clause-ok c = on_ok c.rename.result (λ shows. keep_renamed c.args.slots.now c.args.files.now c.args.from.now c.args.to.now c.requires.tree c.requires.can c.requires.counted c.rename.new.slots shows) c.rename.ensures.ok
