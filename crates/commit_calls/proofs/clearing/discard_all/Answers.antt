use Rattle.std.proofs.Common.{◌+◌, ◌∙◌, [], ◌∷◌, drop, get_or, false, ap, Err}
use Rattle.std.proofs.lemmas.Result.{err_from_is_err_and}
use Rattle.tree_core.proofs.Runs.{left_can, left_next, left_failed}
use Rattle.commit_states.specs.Calls.{removal_by, removals_by, held_items}
use Rattle.commit_calls.proofs.RunLemmas.{ran_failed, item_is, held_left}
use Rattle.commit_calls.proofs.PathLemmas.{held_path_at}
use Rattle.commit_calls.proofs.clearing.discard_all.Goals as goal

pub discard-requires : goal.discard-requires
discard-requires g c = record {
  can = λ tells. (left_can (removals_by (held_items c.args.held.now)) (g.T.Tree.history c.args.tree.now) (g.T.Tree.history c.loop-k.tree) (removal_by (get_or c.args.held.now c.loop-k.k record { number = 0; is_dir = false }).is_dir c.index-paths-k.result ∷ []) (removals_by (held_items (drop (c.loop-k.k + 1) c.args.held.now))) (held_left (removals_by (held_items c.args.held.now)) (g.T.Tree.history c.args.tree.now) (g.T.Tree.history c.loop-k.tree) c.loop-k.k c.args.held.now (get_or c.args.held.now c.loop-k.k record { number = 0; is_dir = false }) c.index-paths-k.result c.loop-k-test.true (item_is c.args.held.now c.loop-k.k _ c.loop-k-test.true) (held_path_at c.args.paths.now c.args.held.now c.loop-k.k (get_or c.args.held.now c.loop-k.k record { number = 0; is_dir = false }) c.index-paths-k.result c.requires.paths c.loop-k-test.true (item_is c.args.held.now c.loop-k.k _ c.loop-k-test.true) c.index-paths-k.is) (c.loop-k.invariant.left tells))).0;
}

pub loop-k-preserved : goal.loop-k-preserved
loop-k-preserved g c = record {
  left = λ tells. left_next (removals_by (held_items c.args.held.now)) (g.T.Tree.history c.args.tree.now) (g.T.Tree.history c.loop-k.tree) (g.T.Tree.history c.discard.new.tree) (removal_by (get_or c.args.held.now c.loop-k.k record { number = 0; is_dir = false }).is_dir c.index-paths-k.result ∷ []) (removals_by (held_items (drop (c.loop-k.k + 1) c.args.held.now))) (held_left (removals_by (held_items c.args.held.now)) (g.T.Tree.history c.args.tree.now) (g.T.Tree.history c.loop-k.tree) c.loop-k.k c.args.held.now (get_or c.args.held.now c.loop-k.k record { number = 0; is_dir = false }) c.index-paths-k.result c.loop-k-test.true (item_is c.args.held.now c.loop-k.k _ c.loop-k-test.true) (held_path_at c.args.paths.now c.args.held.now c.loop-k.k (get_or c.args.held.now c.loop-k.k record { number = 0; is_dir = false }) c.index-paths-k.result c.requires.paths c.loop-k-test.true (item_is c.args.held.now c.loop-k.k _ c.loop-k-test.true) c.index-paths-k.is) (c.loop-k.invariant.left tells)) (c.in_ok-discard.ensures.ran tells).0;
  kept = λ tells. (c.in_ok-discard.ensures.ran tells).1 ∙ c.loop-k.invariant.kept tells;
  no_fault = c.in_ok-discard.ensures.cause ∙ c.loop-k.invariant.no_fault;
}

pub returns-in_err-discard-clause-ran : goal.returns-in_err-discard-clause-ran
returns-in_err-discard-clause-ran g c tells =
    ran_failed (removals_by (held_items c.args.held.now)) (g.T.Tree.history c.args.tree.now) (g.T.Tree.history c.discard.new.tree) (g.T.Tree.before_failed c.args.tree.now) (g.T.Tree.before_failed c.discard.new.tree) c.from_residual.result c.in_err-discard.field-0.0
    (let p = err_from_is_err_and c.from_residual.result c.from_residual.ensures.1 in p.1 ∙ ap Err p.2)
    (left_failed (removals_by (held_items c.args.held.now)) (g.T.Tree.history c.args.tree.now) (g.T.Tree.history c.loop-k.tree) (g.T.Tree.history c.discard.new.tree) (g.T.Tree.before_failed c.discard.new.tree) c.in_err-discard.field-0.0 (removal_by (get_or c.args.held.now c.loop-k.k record { number = 0; is_dir = false }).is_dir c.index-paths-k.result ∷ []) (removals_by (held_items (drop (c.loop-k.k + 1) c.args.held.now))) (held_left (removals_by (held_items c.args.held.now)) (g.T.Tree.history c.args.tree.now) (g.T.Tree.history c.loop-k.tree) c.loop-k.k c.args.held.now (get_or c.args.held.now c.loop-k.k record { number = 0; is_dir = false }) c.index-paths-k.result c.loop-k-test.true (item_is c.args.held.now c.loop-k.k _ c.loop-k-test.true) (held_path_at c.args.paths.now c.args.held.now c.loop-k.k (get_or c.args.held.now c.loop-k.k record { number = 0; is_dir = false }) c.index-paths-k.result c.requires.paths c.loop-k-test.true (item_is c.args.held.now c.loop-k.k _ c.loop-k-test.true) c.index-paths-k.is) (c.loop-k.invariant.left tells)) (c.in_err-discard.ensures.ran tells))
