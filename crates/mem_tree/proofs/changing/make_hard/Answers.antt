use Rattle.std.proofs.Common.{ℕ, sym, ◌∙◌, ap, subst, w64}
use Rattle.std.proofs.lemmas.Int.{to_z-of_z}
use Rattle.std.specs.FinMap.{insert, get}
use Rattle.mem_tree.specs.declared.slots.Slot.{Slot}
use Rattle.mem_tree.specs.declared.slots.Content.TheVariants as content
use Rattle.mem_tree.specs.Slots.{Slots, Files, Keep, tree_in, times_in, file_node, timed, with_paths}
use Rattle.mem_tree.proofs.Answering.{some_is, slot_put}
use Rattle.mem_tree.proofs.Keeping.{keep_hard}
use Rattle.mem_tree.proofs.changing.make_hard.Goals as goal

pub returns-clause-ok : goal.returns-clause-ok
returns-clause-ok c =
    let T = λ (s : Slots). λ (f : Files). Keep s f (insert (tree_in c.args.slots.now c.args.files.now) c.args.names.now (file_node c.args.number (get c.args.files.now c.args.number))) (timed c.args.names.now c.args.mtime (times_in c.args.slots.now)) in
    let slot : Slot = record { content = content.File c.args.number; mtime = c.args.mtime } in
    subst (λ (s : Slots). T s c.set_paths.new.self) (sym (slot_put c.args.slots.now c.insert.new.self c.args.names.now _ _ c.args.mtime (to_z-of_z w64 c.args.mtime c.ranges.mtime) c.in_ok-insert.ensures.ok))
    (subst (λ (f : Files). T (insert c.args.slots.now c.args.names.now slot) f)
    (sym (c.set_paths.ensures ∙ ap (λ (n : ℕ). with_paths c.args.number n c.args.files.now) (some_is c.checked_add.result _ _ c.in_ok-paths.paths c.checked_add.ensures c.in_ok-paths.ensures.ok_part)))
    (keep_hard c.args.slots.now c.args.files.now c.args.names.now c.args.number c.args.mtime c.requires.counted c.requires.absent c.in-Some.body.now (sym c.in-Some.ensures)))
