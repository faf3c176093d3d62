use Rattle.std.proofs.Common.{◌+◌, ◌∙◌, [], ◌∷◌, drop, ap, Err}
use Rattle.std.proofs.lemmas.Result.{err_from_is_err_and}
use Rattle.tree_core.specs.declared.node.Change.TheVariants as call
use Rattle.tree_core.proofs.Runs.{left_can, left_next, left_failed}
use Rattle.commit_calls.specs.Parts.{remove_calls}
use Rattle.commit_calls.proofs.RunLemmas.{ran_failed, remove_left}
use Rattle.commit_calls.proofs.clearing.remove_all.Goals as goal

pub remove-requires : goal.remove-requires
remove-requires g c = record {
  can = λ tells. (left_can (remove_calls c.args.paths.now) (g.T.Tree.history c.args.tree.now) (g.T.Tree.history c.loop-path.tree) (call.Remove c.path-item.result ∷ []) (remove_calls (drop (c.loop-path.path-index + 1) c.args.paths.now)) (remove_left (remove_calls c.args.paths.now) (g.T.Tree.history c.args.tree.now) (g.T.Tree.history c.loop-path.tree) c.loop-path.path-index c.args.paths.now c.path-item.result c.loop-path-test.true c.path-item.is (c.loop-path.invariant.left tells))).0;
}

pub loop-path-preserved : goal.loop-path-preserved
loop-path-preserved g c = record {
  left = λ tells. left_next (remove_calls c.args.paths.now) (g.T.Tree.history c.args.tree.now) (g.T.Tree.history c.loop-path.tree) (g.T.Tree.history c.remove.new.tree) (call.Remove c.path-item.result ∷ []) (remove_calls (drop (c.loop-path.path-index + 1) c.args.paths.now)) (remove_left (remove_calls c.args.paths.now) (g.T.Tree.history c.args.tree.now) (g.T.Tree.history c.loop-path.tree) c.loop-path.path-index c.args.paths.now c.path-item.result c.loop-path-test.true c.path-item.is (c.loop-path.invariant.left tells)) (c.in_ok-remove.ensures.ran tells).0;
  kept = λ tells. (c.in_ok-remove.ensures.ran tells).1 ∙ c.loop-path.invariant.kept tells;
  no_fault = c.in_ok-remove.ensures.cause ∙ c.loop-path.invariant.no_fault;
}

pub returns-in_err-remove-clause-ran : goal.returns-in_err-remove-clause-ran
returns-in_err-remove-clause-ran g c tells =
    ran_failed (remove_calls c.args.paths.now) (g.T.Tree.history c.args.tree.now) (g.T.Tree.history c.remove.new.tree) (g.T.Tree.before_failed c.args.tree.now) (g.T.Tree.before_failed c.remove.new.tree) c.from_residual.result c.in_err-remove.field-0.0
    (let p = err_from_is_err_and c.from_residual.result c.from_residual.ensures.1 in p.1 ∙ ap Err p.2)
    (left_failed (remove_calls c.args.paths.now) (g.T.Tree.history c.args.tree.now) (g.T.Tree.history c.loop-path.tree) (g.T.Tree.history c.remove.new.tree) (g.T.Tree.before_failed c.remove.new.tree) c.in_err-remove.field-0.0 (call.Remove c.path-item.result ∷ []) (remove_calls (drop (c.loop-path.path-index + 1) c.args.paths.now)) (remove_left (remove_calls c.args.paths.now) (g.T.Tree.history c.args.tree.now) (g.T.Tree.history c.loop-path.tree) c.loop-path.path-index c.args.paths.now c.path-item.result c.loop-path-test.true c.path-item.is (c.loop-path.invariant.left tells)) (c.in_err-remove.ensures.ran tells))
