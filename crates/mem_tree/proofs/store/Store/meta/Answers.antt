use Rattle.std.proofs.Common.{◌∙◌, ap}
use Rattle.std.specs.FinMap.{get}
use Rattle.mem_tree.specs.Stores.{times_of, tree_of}
use Rattle.mem_tree.proofs.StoreLooks.{fields_at, fields_none, if_ok}
use Rattle.mem_tree.proofs.store.Store.meta.Goals as goal

pub returns-in-Some : goal.returns-in-Some
unfolding tree_of times_of
returns-in-Some c = if_ok c.meta_of_slot.result _ _ (fields_at c.args.self.now.slots c.args.self.now.files c.args.path.now c.in-Some.slot.now (c.in-Some.ensures ∙ ap (get c.args.self.now.slots) c.names.ensures.names)) c.meta_of_slot.ensures

pub returns-in-None : goal.returns-in-None
unfolding tree_of times_of
returns-in-None c = if_ok c.meta_of_slot-in-None.result _ _ (fields_none c.args.self.now.slots c.args.self.now.files c.args.path.now (c.in-None.ensures ∙ ap (get c.args.self.now.slots) c.names.ensures.names)) c.meta_of_slot-in-None.ensures
