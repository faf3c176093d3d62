use Rattle.std.proofs.Common.{sym, ◌∙◌, ap, subst, w64}
use Rattle.std.proofs.lemmas.Int.{to_z-of_z}
use Rattle.std.specs.FinMap.{insert, remove}
use Rattle.mem_tree.specs.declared.slots.Slot.{Slot}
use Rattle.mem_tree.specs.declared.slots.Content.TheVariants as content
use Rattle.tree_core.specs.declared.node.Node.TheVariants.{File}
use Rattle.mem_tree.specs.Slots.{Slots, Files, Keep, tree_in, times_in, timed}
use Rattle.mem_tree.proofs.Answering.{on_ok, on_err, slot_put}
use Rattle.mem_tree.proofs.Keeping.{keep_write, insert_undone}
use Rattle.mem_tree.proofs.changing.write_file.Goals as goal

pub returns-then-is_err-clause-err : goal.returns-then-is_err-clause-err
returns-then-is_err-clause-err c =
    on_err c.insert-made.result (λ same. (same, c.remove.ensures ∙ ap (λ (f : Files). remove f c.args.number) c.in_ok-insert.ensures.ok ∙ insert_undone c.args.files.now c.args.number c.args.body c.requires.new)) c.insert-made.ensures.err

pub returns-else-is_err-clause-ok : goal.returns-else-is_err-clause-ok
returns-else-is_err-clause-ok c =
    let T = λ (s : Slots). λ (f : Files). Keep s f (insert (tree_in c.args.slots.now c.args.files.now) c.args.names.now (File c.args.number c.args.body.bytes c.args.body.mode)) (timed c.args.names.now c.args.mtime (times_in c.args.slots.now)) in
    on_ok c.insert-made.result (λ read.
    let slot : Slot = record { content = content.File c.args.number; mtime = c.args.mtime } in
    let is = slot_put c.args.slots.now c.insert-made.new.self c.args.names.now (content.File c.args.number) _ c.args.mtime (to_z-of_z w64 c.args.mtime c.ranges.mtime) read in
    subst (λ (s : Slots). T s c.insert.new.self) (sym is)
    (subst (λ (f : Files). T (insert c.args.slots.now c.args.names.now slot) f) (sym c.in_ok-insert.ensures.ok)
    (keep_write c.args.slots.now c.args.files.now c.args.names.now c.args.number c.args.mtime c.requires.counted c.requires.absent c.args.body c.requires.one c.requires.new))) c.insert-made.ensures.ok
