use Rattle.std.proofs.Common.{◌≡◌, ◌+◌, ◌∙◌, [], ◌∷◌, length, drop, ap, arith, Err}
use Rattle.std.proofs.lemmas.Result.{err_from_is_err_and}
use Rattle.tree_core.proofs.Runs.{left_can, left_next, left_failed}
use Rattle.commit_states.specs.Calls.{fresh_call, fresh_calls}
use Rattle.commit_calls.proofs.RunLemmas.{ran_failed, fresh_left}
use Rattle.commit_calls.proofs.PathLemmas.{fresh_path_at, fresh_count}
use Rattle.commit_calls.proofs.staging.make_entries.Goals as goal

pub bounds-paths-k : goal.bounds-paths-k
bounds-paths-k g c = let n : length c.args.paths.now ≡ length c.args.fresh.now = fresh_count c.args.paths.now (length c.args.fresh.now) c.requires.paths in let t = c.loop-k-test.true in omega arith

pub make_fresh-requires : goal.make_fresh-requires
make_fresh-requires g c = record {
  can = λ tells. (left_can (fresh_calls 0 c.args.fresh.now) (g.T.Tree.history c.args.tree.now) (g.T.Tree.history c.loop-k.tree) (fresh_call c.index-paths-k.result c.index-fresh-k.result ∷ []) (fresh_calls (c.loop-k.k + 1) (drop (c.loop-k.k + 1) c.args.fresh.now)) (fresh_left (fresh_calls 0 c.args.fresh.now) (g.T.Tree.history c.args.tree.now) (g.T.Tree.history c.loop-k.tree) c.loop-k.k c.args.fresh.now c.index-fresh-k.result c.index-paths-k.result c.loop-k-test.true c.index-fresh-k.is (fresh_path_at c.args.paths.now (length c.args.fresh.now) c.loop-k.k c.index-paths-k.result c.requires.paths c.loop-k-test.true c.index-paths-k.is) (c.loop-k.invariant.left tells))).0;
}

pub loop-k-preserved : goal.loop-k-preserved
loop-k-preserved g c = record {
  left = λ tells. left_next (fresh_calls 0 c.args.fresh.now) (g.T.Tree.history c.args.tree.now) (g.T.Tree.history c.loop-k.tree) (g.T.Tree.history c.make_fresh.new.tree) (fresh_call c.index-paths-k.result c.index-fresh-k.result ∷ []) (fresh_calls (c.loop-k.k + 1) (drop (c.loop-k.k + 1) c.args.fresh.now)) (fresh_left (fresh_calls 0 c.args.fresh.now) (g.T.Tree.history c.args.tree.now) (g.T.Tree.history c.loop-k.tree) c.loop-k.k c.args.fresh.now c.index-fresh-k.result c.index-paths-k.result c.loop-k-test.true c.index-fresh-k.is (fresh_path_at c.args.paths.now (length c.args.fresh.now) c.loop-k.k c.index-paths-k.result c.requires.paths c.loop-k-test.true c.index-paths-k.is) (c.loop-k.invariant.left tells)) (c.in_ok-make_fresh.ensures.ran tells).0;
  kept = λ tells. (c.in_ok-make_fresh.ensures.ran tells).1 ∙ c.loop-k.invariant.kept tells;
  no_fault = c.in_ok-make_fresh.ensures.cause ∙ c.loop-k.invariant.no_fault;
}

pub returns-in_err-make_fresh-clause-ran : goal.returns-in_err-make_fresh-clause-ran
returns-in_err-make_fresh-clause-ran g c tells =
    ran_failed (fresh_calls 0 c.args.fresh.now) (g.T.Tree.history c.args.tree.now) (g.T.Tree.history c.make_fresh.new.tree) (g.T.Tree.before_failed c.args.tree.now) (g.T.Tree.before_failed c.make_fresh.new.tree) c.from_residual.result c.in_err-make_fresh.field-0.0
    (let p = err_from_is_err_and c.from_residual.result c.from_residual.ensures.1 in p.1 ∙ ap Err p.2)
    (left_failed (fresh_calls 0 c.args.fresh.now) (g.T.Tree.history c.args.tree.now) (g.T.Tree.history c.loop-k.tree) (g.T.Tree.history c.make_fresh.new.tree) (g.T.Tree.before_failed c.make_fresh.new.tree) c.in_err-make_fresh.field-0.0 (fresh_call c.index-paths-k.result c.index-fresh-k.result ∷ []) (fresh_calls (c.loop-k.k + 1) (drop (c.loop-k.k + 1) c.args.fresh.now)) (fresh_left (fresh_calls 0 c.args.fresh.now) (g.T.Tree.history c.args.tree.now) (g.T.Tree.history c.loop-k.tree) c.loop-k.k c.args.fresh.now c.index-fresh-k.result c.index-paths-k.result c.loop-k-test.true c.index-fresh-k.is (fresh_path_at c.args.paths.now (length c.args.fresh.now) c.loop-k.k c.index-paths-k.result c.requires.paths c.loop-k-test.true c.index-paths-k.is) (c.loop-k.invariant.left tells)) (c.in_err-make_fresh.ensures.ran tells))
