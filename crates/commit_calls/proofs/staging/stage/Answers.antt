use Rattle.std.proofs.Common.{◌∙◌, ◌∷◌, ap, Err}
use Rattle.std.proofs.lemmas.Result.{err_from_is_err_and}
use Rattle.tree_core.specs.declared.node.Change.TheVariants as call
use Rattle.commit_states.specs.Calls.{stage_calls, plan_calls, staging_calls}
use Rattle.commit_calls.proofs.PathLemmas.{staged_is}
use Rattle.commit_calls.proofs.RunLemmas.{first_can, first_failed, second_can, second_ran}
use Rattle.commit_calls.proofs.staging.stage.Goals as goal

pub fill-requires-clause-can : goal.fill-requires-clause-can
fill-requires-clause-can g c tells = first_can (staging_calls c.args.fresh.now c.args.journal.now) (stage_calls c.args.fresh.now c.args.journal.now) (call.Sync ∷ plan_calls) (staged_is c.args.fresh.now c.args.journal.now) (g.T.Tree.history c.args.tree.now) (c.requires.can tells)

pub returns-in_err-fill-clause-ran : goal.returns-in_err-fill-clause-ran
returns-in_err-fill-clause-ran g c tells =
    first_failed (staging_calls c.args.fresh.now c.args.journal.now) (stage_calls c.args.fresh.now c.args.journal.now) (call.Sync ∷ plan_calls) (staged_is c.args.fresh.now c.args.journal.now) (g.T.Tree.history c.args.tree.now) (g.T.Tree.history c.fill.new.tree) (g.T.Tree.before_failed c.args.tree.now) (g.T.Tree.before_failed c.fill.new.tree) c.from_residual.result c.in_err-fill.field-0.0
    (let p = err_from_is_err_and c.from_residual.result c.from_residual.ensures.1 in p.1 ∙ ap Err p.2) (c.in_err-fill.ensures.ran tells)

pub publish-requires-clause-can : goal.publish-requires-clause-can
publish-requires-clause-can g c tells = second_can (staging_calls c.args.fresh.now c.args.journal.now) (stage_calls c.args.fresh.now c.args.journal.now) (call.Sync ∷ plan_calls) (staged_is c.args.fresh.now c.args.journal.now) (g.T.Tree.history c.args.tree.now) (g.T.Tree.history c.fill.new.tree) (c.in_ok-fill.ensures.ran tells).0 (c.requires.can tells)

pub returns-clause-ran : goal.returns-clause-ran
returns-clause-ran g c tells =
    second_ran (staging_calls c.args.fresh.now c.args.journal.now) (stage_calls c.args.fresh.now c.args.journal.now) (call.Sync ∷ plan_calls) (staged_is c.args.fresh.now c.args.journal.now) (g.T.Tree.history c.args.tree.now) (g.T.Tree.history c.fill.new.tree) (g.T.Tree.history c.publish.new.tree) (g.T.Tree.before_failed c.args.tree.now) (g.T.Tree.before_failed c.fill.new.tree) (g.T.Tree.before_failed c.publish.new.tree) c.publish.result
    (c.in_ok-fill.ensures.ran tells).0 (c.in_ok-fill.ensures.ran tells).1 (c.publish.ensures.ran tells)
