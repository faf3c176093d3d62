use Rattle.std.proofs.Common.{◌-◌, ◌∙◌, [], ◌∷◌, take, arith, ap, Err}
use Rattle.std.proofs.lemmas.Result.{err_from_is_err_and}
use Rattle.tree_core.proofs.Runs.{left_can, left_next, left_failed}
use Rattle.step_trees.specs.Steps.{undo_of}
use Rattle.commit_states.specs.Calls.{undo_calls}
use Rattle.commit_calls.proofs.RunLemmas.{ran_failed, undo_left}
use Rattle.commit_calls.proofs.group.undo_all.Goals as goal

pub undo_step-requires : goal.undo_step-requires
undo_step-requires g c = record {
  can = λ tells. (left_can (undo_calls c.args.steps.now) (g.T.Tree.history c.args.tree.now) (g.T.Tree.history c.loop-k.tree) (undo_of c.index-steps-k.result ∷ []) (undo_calls (take (c.loop-k.k - 1) c.args.steps.now)) (undo_left (undo_calls c.args.steps.now) (g.T.Tree.history c.args.tree.now) (g.T.Tree.history c.loop-k.tree) c.args.steps.now c.loop-k.k (c.loop-k.k - 1) c.index-steps-k.result (omega arith) (omega arith) c.index-steps-k.is (c.loop-k.invariant.left tells))).0;
}

pub loop-k-preserved : goal.loop-k-preserved
loop-k-preserved g c = record {
  left = λ tells. left_next (undo_calls c.args.steps.now) (g.T.Tree.history c.args.tree.now) (g.T.Tree.history c.loop-k.tree) (g.T.Tree.history c.undo_step.new.tree) (undo_of c.index-steps-k.result ∷ []) (undo_calls (take (c.loop-k.k - 1) c.args.steps.now)) (undo_left (undo_calls c.args.steps.now) (g.T.Tree.history c.args.tree.now) (g.T.Tree.history c.loop-k.tree) c.args.steps.now c.loop-k.k (c.loop-k.k - 1) c.index-steps-k.result (omega arith) (omega arith) c.index-steps-k.is (c.loop-k.invariant.left tells)) (c.in_ok-undo_step.ensures.ran tells).0;
  kept = λ tells. (c.in_ok-undo_step.ensures.ran tells).1 ∙ c.loop-k.invariant.kept tells;
  no_fault = c.in_ok-undo_step.ensures.cause ∙ c.loop-k.invariant.no_fault;
}

pub returns-in_err-undo_step-clause-ran : goal.returns-in_err-undo_step-clause-ran
returns-in_err-undo_step-clause-ran g c tells = ran_failed (undo_calls c.args.steps.now) (g.T.Tree.history c.args.tree.now) (g.T.Tree.history c.undo_step.new.tree) (g.T.Tree.before_failed c.args.tree.now) (g.T.Tree.before_failed c.undo_step.new.tree) c.from_residual.result c.in_err-undo_step.field-0.0
    (let p = err_from_is_err_and c.from_residual.result c.from_residual.ensures.1 in p.1 ∙ ap Err p.2)
    (left_failed (undo_calls c.args.steps.now) (g.T.Tree.history c.args.tree.now) (g.T.Tree.history c.loop-k.tree) (g.T.Tree.history c.undo_step.new.tree) (g.T.Tree.before_failed c.undo_step.new.tree) c.in_err-undo_step.field-0.0 (undo_of c.index-steps-k.result ∷ []) (undo_calls (take (c.loop-k.k - 1) c.args.steps.now)) (undo_left (undo_calls c.args.steps.now) (g.T.Tree.history c.args.tree.now) (g.T.Tree.history c.loop-k.tree) c.args.steps.now c.loop-k.k (c.loop-k.k - 1) c.index-steps-k.result (omega arith) (omega arith) c.index-steps-k.is (c.loop-k.invariant.left tells)) (c.in_err-undo_step.ensures.ran tells))
