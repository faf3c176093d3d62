use Rattle.std.proofs.Common.{◌∙◌, ap, sym, Some, None}
use Rattle.std.specs.Option.{option_map}
use Rattle.std.specs.FinMap.{get}
use Rattle.tree_core.specs.FileTree.{kind_of}
use Rattle.mem_tree.specs.Stores.{times_of, tree_of}
use Rattle.mem_tree.proofs.StoreLooks.{kind_shown, at_slot}
use Rattle.mem_tree.proofs.store.Store.kind.Goals as goal

pub returns-in_err-get : goal.returns-in_err-get
unfolding tree_of times_of
returns-in_err-get c = c.from_residual.ensures ∙ sym (ap (option_map kind_of) (at_slot c.args.self.now.slots c.args.self.now.files c.args.path.now None (c.in_err-get.ensures ∙ ap (get c.args.self.now.slots) c.names.ensures.names)))

pub returns : goal.returns
unfolding tree_of times_of
returns c =
    ap (λ k. Some k) (c.kind.ensures ∙ kind_shown c.args.self.now.files c.in_ok-get.field-0.now.content)
    ∙ sym (ap (option_map kind_of) (at_slot c.args.self.now.slots c.args.self.now.files c.args.path.now (Some c.in_ok-get.field-0.now) (c.in_ok-get.ensures ∙ ap (get c.args.self.now.slots) c.names.ensures.names)))
