use Rattle.std.proofs.Common.{sym, ◌∙◌, ap, subst, pos}
use Rattle.std.specs.FinMap.{remove}
use Rattle.mem_tree.specs.Slots.{Slots, Files, Keep, tree_in, times_in, timed, file_number, content_number}
use Rattle.mem_tree.proofs.Answering.{not_a_file}
use Rattle.mem_tree.proofs.Keeping.{keep_removed, keep_file_removed}
use Rattle.mem_tree.proofs.changing.remove.Goals as goal

pub returns-in-File : goal.returns-in-File
returns-in-File c =
    let T = λ (s : Slots). λ (f : Files). Keep s f (remove (tree_in c.args.slots.now c.args.files.now) c.args.names.now) (timed c.args.names.now (pos 0) (times_in c.args.slots.now)) in
    subst (λ (s : Slots). T s c.drop_path.new.self) (sym c.in-Some.ensures.after)
    (subst (λ (f : Files). T (remove c.args.slots.now c.args.names.now) f) (sym c.drop_path.ensures)
    (keep_file_removed c.args.slots.now c.args.files.now c.args.names.now c.in-File.number c.requires.counted (ap file_number (sym c.in-Some.ensures.found) ∙ ap content_number c.in-File.is)))

pub returns-in-Some : goal.returns-in-Some
returns-in-Some c =
    subst (λ (s : Slots). Keep s c.args.files.now (remove (tree_in c.args.slots.now c.args.files.now) c.args.names.now) (timed c.args.names.now (pos 0) (times_in c.args.slots.now))) (sym c.in-Some.ensures.after)
    (keep_removed c.args.slots.now c.args.files.now c.args.names.now c.requires.counted (not_a_file _ c.in-Some.slot c.in-Some.ensures.found c.in_default-content.not-File))

pub returns : goal.returns
returns c =
    subst (λ (s : Slots). Keep s c.args.files.now (remove (tree_in c.args.slots.now c.args.files.now) c.args.names.now) (timed c.args.names.now (pos 0) (times_in c.args.slots.now))) (sym c.in_default.ensures.after)
    (keep_removed c.args.slots.now c.args.files.now c.args.names.now c.requires.counted (ap file_number (sym c.in_default.ensures.found)))
