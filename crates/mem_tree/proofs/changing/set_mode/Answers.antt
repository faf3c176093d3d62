use Rattle.std.proofs.Common.{sym, subst}
use Rattle.std.specs.FinMap.{get}
use Rattle.tree_core.specs.FileTree.{set_mode_of}
use Rattle.mem_tree.specs.Slots.{Slots, Files, Keep, tree_in, times_in}
use Rattle.mem_tree.proofs.Keeping.{keep_file_mode, keep_dir_mode}
use Rattle.mem_tree.proofs.changing.set_mode.Goals as goal

pub returns-in-Some : goal.returns-in-Some
returns-in-Some c =
    subst (λ (f : Files). Keep c.args.slots.now f (set_mode_of (get (tree_in c.args.slots.now c.args.files.now) c.args.names.now) (tree_in c.args.slots.now c.args.files.now) c.args.names.now c.args.mode) (times_in c.args.slots.now))
    (sym c.set_mode.ensures) (keep_file_mode c.args.slots.now c.args.files.now c.args.names.now c.in-Some.number c.args.mode c.requires.counted (sym c.in-Some.ensures))

pub returns-in-None : goal.returns-in-None
returns-in-None c =
    subst (λ (s : Slots). Keep s c.args.files.now (set_mode_of (get (tree_in c.args.slots.now c.args.files.now) c.args.names.now) (tree_in c.args.slots.now c.args.files.now) c.args.names.now c.args.mode) (times_in c.args.slots.now))
    (sym c.set_content.ensures) (keep_dir_mode c.args.slots.now c.args.files.now c.args.names.now c.args.mode c.requires.counted c.requires.has (sym c.in-None.ensures))
