use Rattle.std.proofs.Common.{sym, subst, w64}
use Rattle.std.proofs.lemmas.Int.{to_z-of_z}
use Rattle.std.specs.FinMap.{insert}
use Rattle.mem_tree.specs.Slots.{Slots, Keep, tree_in, times_in, node_of, timed}
use Rattle.mem_tree.proofs.Answering.{on_ok, slot_put}
use Rattle.mem_tree.proofs.Keeping.{keep_make}
use Rattle.mem_tree.proofs.changing.make.Goals as goal

pub returns-clause-ok : goal.returns-clause-ok
returns-clause-ok c =
    on_ok c.insert.result (λ read. let is = slot_put c.args.slots.now c.insert.new.self c.args.names.now c.args.content _ c.args.mtime (to_z-of_z w64 c.args.mtime c.ranges.mtime) read in
    subst (λ (s : Slots). Keep s c.args.files.now (insert (tree_in c.args.slots.now c.args.files.now) c.args.names.now (node_of c.args.files.now c.args.content)) (timed c.args.names.now c.args.mtime (times_in c.args.slots.now))) (sym is)
    (keep_make c.args.slots.now c.args.files.now c.args.names.now (record { content = c.args.content; mtime = c.args.mtime }) c.requires.counted c.requires.absent c.requires.content)) c.insert.ensures.ok
