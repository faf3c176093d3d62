use Rattle.std.proofs.Common.{◌∙◌, ap, sym, Some, None}
use Rattle.std.specs.Option.{option_map}
use Rattle.std.specs.FinMap.{get}
use Rattle.tree_core.specs.FileTree.{mode_of}
use Rattle.mem_tree.specs.Stores.{times_of, tree_of}
use Rattle.mem_tree.proofs.StoreLooks.{at_slot}
use Rattle.mem_tree.proofs.store.Store.mode.Goals as goal

pub returns-in_err-slot : goal.returns-in_err-slot
unfolding tree_of times_of
returns-in_err-slot c = c.from_residual.ensures ∙ sym (ap (option_map mode_of) (at_slot c.args.self.now.slots c.args.self.now.files c.args.path.now None (c.in_err-slot.ensures ∙ ap (get c.args.self.now.slots) c.names.ensures.names)))

pub returns : goal.returns
unfolding tree_of times_of
returns c =
    ap (λ k. Some k) c.mode.ensures
    ∙ sym (ap (option_map mode_of) (at_slot c.args.self.now.slots c.args.self.now.files c.args.path.now (Some c.in_ok-slot.slot.now) (c.in_ok-slot.ensures ∙ ap (get c.args.self.now.slots) c.names.ensures.names)))
