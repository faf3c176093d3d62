use Rattle.std.proofs.Common.{◌∙◌, ap, sym, None}
use denote.Enum.Bare.{sameb}
use Rattle.tree_core.specs.contracts.node.Kind.{the_type}
use Rattle.tree_core.specs.declared.node.Kind.{Kind}
use Rattle.tree_core.specs.declared.node.Kind.TheVariants as kind
use Rattle.tree_core.specs.FileTree.{is_dir_node}
use Rattle.mem_tree.specs.Stores.{times_of, tree_of}
use Rattle.mem_tree.proofs.StoreLooks.{dir_shown, at_slot}
use Rattle.mem_tree.proofs.store.Store.is_dir.Goals as goal

pub returns-in-Some : goal.returns-in-Some
unfolding tree_of times_of
returns-in-Some c = c.eq.ensures ∙ ap (λ (k : Kind). sameb the_type k kind.Dir) c.kind.ensures ∙ dir_shown c.args.self.now.slots c.args.self.now.files c.args.names.now c.in-Some.slot.now c.in-Some.ensures

pub returns-in-None : goal.returns-in-None
unfolding tree_of times_of
returns-in-None c = sym (ap is_dir_node (at_slot c.args.self.now.slots c.args.self.now.files c.args.names.now None c.in-None.ensures))
