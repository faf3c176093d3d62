use Rattle.std.proofs.Common.{◌+◌, ◌∙◌, [], ◌∷◌, drop, ap, Err}
use Rattle.std.proofs.lemmas.Result.{err_from_is_err_and}
use Rattle.tree_core.proofs.Runs.{left_can, left_next, left_failed}
use Rattle.step_trees.specs.Steps.{call_of}
use Rattle.commit_states.specs.Calls.{do_calls}
use Rattle.commit_calls.proofs.RunLemmas.{ran_failed, do_left}
use Rattle.commit_calls.proofs.group.do_all.Goals as goal

pub do_step-requires : goal.do_step-requires
do_step-requires g c = record {
  can = λ tells. (left_can (do_calls c.args.steps.now) (g.T.Tree.history c.args.tree.now) (g.T.Tree.history c.loop-step.tree) (call_of c.step-item.result ∷ []) (do_calls (drop (c.loop-step.step-index + 1) c.args.steps.now)) (do_left (do_calls c.args.steps.now) (g.T.Tree.history c.args.tree.now) (g.T.Tree.history c.loop-step.tree) c.loop-step.step-index c.args.steps.now c.step-item.result c.loop-step-test.true c.step-item.is (c.loop-step.invariant.left tells))).0;
}

pub loop-step-preserved : goal.loop-step-preserved
loop-step-preserved g c = record {
  left = λ tells. left_next (do_calls c.args.steps.now) (g.T.Tree.history c.args.tree.now) (g.T.Tree.history c.loop-step.tree) (g.T.Tree.history c.do_step.new.tree) (call_of c.step-item.result ∷ []) (do_calls (drop (c.loop-step.step-index + 1) c.args.steps.now)) (do_left (do_calls c.args.steps.now) (g.T.Tree.history c.args.tree.now) (g.T.Tree.history c.loop-step.tree) c.loop-step.step-index c.args.steps.now c.step-item.result c.loop-step-test.true c.step-item.is (c.loop-step.invariant.left tells)) (c.in_ok-do_step.ensures.ran tells).0;
  kept = λ tells. (c.in_ok-do_step.ensures.ran tells).1 ∙ c.loop-step.invariant.kept tells;
  no_fault = c.in_ok-do_step.ensures.cause ∙ c.loop-step.invariant.no_fault;
}

pub returns-in_err-do_step-clause-ran : goal.returns-in_err-do_step-clause-ran
returns-in_err-do_step-clause-ran g c tells = ran_failed (do_calls c.args.steps.now) (g.T.Tree.history c.args.tree.now) (g.T.Tree.history c.do_step.new.tree) (g.T.Tree.before_failed c.args.tree.now) (g.T.Tree.before_failed c.do_step.new.tree) c.from_residual.result c.in_err-do_step.field-0.0
    (let p = err_from_is_err_and c.from_residual.result c.from_residual.ensures.1 in p.1 ∙ ap Err p.2)
    (left_failed (do_calls c.args.steps.now) (g.T.Tree.history c.args.tree.now) (g.T.Tree.history c.loop-step.tree) (g.T.Tree.history c.do_step.new.tree) (g.T.Tree.before_failed c.do_step.new.tree) c.in_err-do_step.field-0.0 (call_of c.step-item.result ∷ []) (do_calls (drop (c.loop-step.step-index + 1) c.args.steps.now)) (do_left (do_calls c.args.steps.now) (g.T.Tree.history c.args.tree.now) (g.T.Tree.history c.loop-step.tree) c.loop-step.step-index c.args.steps.now c.step-item.result c.loop-step-test.true c.step-item.is (c.loop-step.invariant.left tells)) (c.in_err-do_step.ensures.ran tells))
