use Rattle.std.proofs.Common.{◌∙◌, ap, sym, is_some}
use Rattle.std.specs.Option.{option_copied}
use Rattle.std.specs.FinMap.{get}
use Rattle.dired_text.specs.Paths.{Names, parent}
use Rattle.mem_tree.specs.Stores.{times_of, tree_of}
use Rattle.mem_tree.proofs.StoreLooks.{can_make_yes, can_make_no, none_by, is_some_copied}
use Rattle.mem_tree.proofs.store.Store.can_make.Goals as goal

pub returns-then-is_none-clause-can : goal.returns-then-is_none-clause-can
unfolding tree_of times_of
returns-then-is_none-clause-can c = can_make_yes c.args.self.now.slots c.args.self.now.files c.args.path.now c.is_dir.result c.parent.result.now
    (ap (get c.args.self.now.slots) (sym c.names-names.ensures.names) ∙ sym c.get.ensures ∙ ap option_copied (none_by c.get.result c.if-is_none.ensures)) c.is_dir.ensures (c.parent.ensures ∙ ap parent c.names-names.ensures.names)

pub returns-else-is_none-clause-can : goal.returns-else-is_none-clause-can
unfolding tree_of times_of
returns-else-is_none-clause-can c = c.if-is_none.false ∙ can_make_no c.args.self.now.slots c.args.self.now.files c.args.path.now
    (ap (λ (p : Names). is_some (get c.args.self.now.slots p)) (sym c.names-names.ensures.names) ∙ ap is_some (sym c.get.ensures) ∙ is_some_copied c.get.result ∙ c.if-is_none.ensures)
