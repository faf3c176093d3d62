use Rattle.std.proofs.Common.{◌∙◌, [], ◌∷◌, ap, Err}
use Rattle.std.proofs.lemmas.Result.{err_from_is_err_and}
use Rattle.tree_core.specs.declared.node.Change.TheVariants as call
use Rattle.commit_states.specs.Calls.{clearing_calls, end_calls}
use Rattle.commit_calls.proofs.PathLemmas.{ended_is}
use Rattle.commit_calls.proofs.RunLemmas.{first_can, first_failed, second_can, second_ran}
use Rattle.commit_calls.proofs.clearing.end_back.Goals as goal

pub rename_and_sync-requires : goal.rename_and_sync-requires
rename_and_sync-requires g c = record { can = λ tells. first_can (end_calls c.args.fresh.now) (call.Rename c.args.paths.now.plan c.args.paths.now.undone ∷ call.Sync ∷ []) (clearing_calls c.args.fresh.now) (ended_is c.args.fresh.now c.args.paths.now.plan c.args.paths.now.undone c.requires.paths.plan_is c.requires.paths.undone_is) (g.T.Tree.history c.args.tree.now) (c.requires.can tells) }

pub returns-in_err-rename_and_sync-clause-ran : goal.returns-in_err-rename_and_sync-clause-ran
returns-in_err-rename_and_sync-clause-ran g c tells =
    first_failed (end_calls c.args.fresh.now) (call.Rename c.args.paths.now.plan c.args.paths.now.undone ∷ call.Sync ∷ []) (clearing_calls c.args.fresh.now) (ended_is c.args.fresh.now c.args.paths.now.plan c.args.paths.now.undone c.requires.paths.plan_is c.requires.paths.undone_is) (g.T.Tree.history c.args.tree.now) (g.T.Tree.history c.rename_and_sync.new.tree) (g.T.Tree.before_failed c.args.tree.now) (g.T.Tree.before_failed c.rename_and_sync.new.tree) c.from_residual.result c.in_err-rename_and_sync.field-0.0
    (let p = err_from_is_err_and c.from_residual.result c.from_residual.ensures.1 in p.1 ∙ ap Err p.2) (c.in_err-rename_and_sync.ensures.ran tells)

pub clear-requires-clause-can : goal.clear-requires-clause-can
clear-requires-clause-can g c tells = second_can (end_calls c.args.fresh.now) (call.Rename c.args.paths.now.plan c.args.paths.now.undone ∷ call.Sync ∷ []) (clearing_calls c.args.fresh.now) (ended_is c.args.fresh.now c.args.paths.now.plan c.args.paths.now.undone c.requires.paths.plan_is c.requires.paths.undone_is) (g.T.Tree.history c.args.tree.now) (g.T.Tree.history c.rename_and_sync.new.tree) (c.in_ok-rename_and_sync.ensures.ran tells).0 (c.requires.can tells)

pub returns-clause-ran : goal.returns-clause-ran
returns-clause-ran g c tells =
    second_ran (end_calls c.args.fresh.now) (call.Rename c.args.paths.now.plan c.args.paths.now.undone ∷ call.Sync ∷ []) (clearing_calls c.args.fresh.now) (ended_is c.args.fresh.now c.args.paths.now.plan c.args.paths.now.undone c.requires.paths.plan_is c.requires.paths.undone_is) (g.T.Tree.history c.args.tree.now) (g.T.Tree.history c.rename_and_sync.new.tree) (g.T.Tree.history c.clear.new.tree) (g.T.Tree.before_failed c.args.tree.now) (g.T.Tree.before_failed c.rename_and_sync.new.tree) (g.T.Tree.before_failed c.clear.new.tree) c.clear.result
    (c.in_ok-rename_and_sync.ensures.ran tells).0 (c.in_ok-rename_and_sync.ensures.ran tells).1 (c.clear.ensures.ran tells)
