use Rattle.std.proofs.Common.{◌≡◌, Result, Ok, Err, inl, inr, ap}
use Rattle.dired_text.specs.declared.text.Failed.{Failed}
use Rattle.tree_core.specs.declared.node.Change.TheVariants.{Sync}
use Rattle.tree_core.specs.History.{History, Performs, current_tree}
use Rattle.tree_core.proofs.Moments.{durable_when}
use Rattle.case_tables.proofs.behind.settle.Goals as goal

sync_keeps : {T : Type 0} (old new : History) (result : Result T Failed) → Performs Sync old new result → current_tree new ≡ current_tree old
sync_keeps old new (Ok v) is = ap current_tree is
sync_keeps old new (Err e) (inl is) = ap current_tree is
sync_keeps old new (Err e) (inr is) = ap current_tree is

pub returns-clause-durable : goal.returns-clause-durable
returns-clause-durable g c tells ok = durable_when _ _ _ _ c.is_ok.ensures.value ok (c.sync.ensures.history tells)

pub returns-clause-kept : goal.returns-clause-kept
returns-clause-kept g c tells = sync_keeps _ _ _ (c.sync.ensures.history tells)
