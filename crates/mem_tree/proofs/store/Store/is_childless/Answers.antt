use Rattle.std.proofs.Common.{◌∙◌, ap, sym}
use Rattle.std.specs.Option.{option_copied}
use Rattle.std.specs.List.{list_any}
use Rattle.std.specs.FinMap.{get, keys}
use Rattle.dired_text.specs.Paths.{Names}
use Rattle.mem_tree.specs.Stores.{times_of, tree_of}
use Rattle.mem_tree.proofs.RunLemmas.{is_child}
use Rattle.mem_tree.proofs.StoreLooks.{childless, empty_none, none_by}
use Rattle.mem_tree.proofs.store.Store.is_childless.Goals as goal

pub returns-then-is_none : goal.returns-then-is_none
unfolding tree_of times_of
returns-then-is_none c = (
  λ t. empty_none c.args.self.now.slots c.args.self.now.files c.args.path.now c.args.self.now.parents
      (ap (get c.args.self.now.slots) (sym c.names-names.ensures.names) ∙ sym c.get.ensures ∙ ap option_copied (none_by c.get.result c.if-is_none.ensures)),
  λ e. c.if-is_none.true,
)

pub returns-else-is_none : goal.returns-else-is_none
unfolding tree_of times_of
returns-else-is_none c = childless c.args.self.now.slots c.args.self.now.files c.args.path.now c.has_child.result (c.has_child.ensures ∙ ap (λ (p : Names). list_any (is_child p) (keys c.args.self.now.slots)) c.names-names.ensures.names)
