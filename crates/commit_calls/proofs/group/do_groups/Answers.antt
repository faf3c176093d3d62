use Rattle.std.proofs.Common.{◌≡◌, ◌+◌, ◌-◌, ◌∙◌, suc, ◌∷◌, length, take, drop, arith, refl, ap, slice_index_or}
use Rattle.std.proofs.lemmas.List.{length-map}
use Rattle.tree_core.specs.Runs.{then_all}
use Rattle.commit_steps.specs.Staging.{staged, at_marker}
use Rattle.commit_states.specs.Calls.{marked_calls, calls_from}
use Rattle.step_trees.specs.Groups.{groups}
use Rattle.commit_calls.proofs.RunLemmas.{item_is}
use Rattle.commit_calls.proofs.EndLemmas.{here_first, group_here, marker_at, calls_here, group_can, group_done, group_failed, all_taken}
use Rattle.commit_calls.proofs.group.do_groups.Goals as goal

pub loop-k-init : goal.loop-k-init
loop-k-init g c = record {
  here = here_first c.args.steps.now c.args.ends.now c.requires.cuts;
  done = λ tells. refl;
  kept = λ tells. refl;
  no_fault = refl;
}

pub slice_bounds-group-count : goal.slice_bounds-group-count
slice_bounds-group-count g c = let x = (group_here c.args.steps.now c.args.ends.now c.loop-k.k c.loop-k.from (slice_index_or c.args.ends.now c.loop-k.k 0) c.loop-k-test.true (item_is c.args.ends.now c.loop-k.k 0 c.loop-k-test.true) c.loop-k.invariant.here).end_is in omega arith

pub slice_bounds-group-start : goal.slice_bounds-group-start
slice_bounds-group-start g c = let x = (group_here c.args.steps.now c.args.ends.now c.loop-k.k c.loop-k.from (slice_index_or c.args.ends.now c.loop-k.k 0) c.loop-k-test.true (item_is c.args.ends.now c.loop-k.k 0 c.loop-k-test.true) c.loop-k.invariant.here).end_is in let y = (group_here c.args.steps.now c.args.ends.now c.loop-k.k c.loop-k.from (slice_index_or c.args.ends.now c.loop-k.k 0) c.loop-k-test.true (item_is c.args.ends.now c.loop-k.k 0 c.loop-k-test.true) c.loop-k.invariant.here).within in omega arith

pub slice_bounds-group-end : goal.slice_bounds-group-end
slice_bounds-group-end g c = let x = (group_here c.args.steps.now c.args.ends.now c.loop-k.k c.loop-k.from (slice_index_or c.args.ends.now c.loop-k.k 0) c.loop-k-test.true (item_is c.args.ends.now c.loop-k.k 0 c.loop-k-test.true) c.loop-k.invariant.here).end_is in let y = (group_here c.args.steps.now c.args.ends.now c.loop-k.k c.loop-k.from (slice_index_or c.args.ends.now c.loop-k.k 0) c.loop-k-test.true (item_is c.args.ends.now c.loop-k.k 0 c.loop-k-test.true) c.loop-k.invariant.here).within in omega arith

pub do_group-requires : goal.do_group-requires
do_group-requires g c = record {
  can = λ tells. group_can (groups c.args.steps.now) c.loop-k.k (group_here c.args.steps.now c.args.ends.now c.loop-k.k c.loop-k.from (slice_index_or c.args.ends.now c.loop-k.k 0) c.loop-k-test.true (item_is c.args.ends.now c.loop-k.k 0 c.loop-k-test.true) c.loop-k.invariant.here).number (g.T.Tree.history c.args.tree.now) (g.T.Tree.history c.loop-k.tree) (c.loop-k.invariant.done tells) (marked_calls (take ((slice_index_or c.args.ends.now c.loop-k.k 0) - c.loop-k.from) (drop c.loop-k.from c.args.steps.now)) c.index-markers-k.result c.index-markers-k-in-loop-k.result) (calls_here c.args.steps.now c.args.ends.now c.loop-k.k c.loop-k.from (slice_index_or c.args.ends.now c.loop-k.k 0) c.index-markers-k.result c.index-markers-k-in-loop-k.result c.loop-k.invariant.here (group_here c.args.steps.now c.args.ends.now c.loop-k.k c.loop-k.from (slice_index_or c.args.ends.now c.loop-k.k 0) c.loop-k-test.true (item_is c.args.ends.now c.loop-k.k 0 c.loop-k-test.true) c.loop-k.invariant.here) (marker_at (0 ∷ c.args.ends.now) c.args.markers.now c.loop-k.k c.loop-k.from c.index-markers-k.result c.requires.markers (let t = c.loop-k-test.true in omega arith) (let n : length c.args.markers.now ≡ suc (length c.args.ends.now) = ap length c.requires.markers ∙ length-map (0 ∷ c.args.ends.now) (λ k. staged (at_marker k)) in let t = c.loop-k-test.true in omega arith) c.index-markers-k.is c.loop-k.invariant.here.cut) (marker_at (0 ∷ c.args.ends.now) c.args.markers.now (c.loop-k.k + 1) (slice_index_or c.args.ends.now c.loop-k.k 0) c.index-markers-k-in-loop-k.result c.requires.markers (let t = c.loop-k-test.true in omega arith) (let n : length c.args.markers.now ≡ suc (length c.args.ends.now) = ap length c.requires.markers ∙ length-map (0 ∷ c.args.ends.now) (λ k. staged (at_marker k)) in let t = c.loop-k-test.true in omega arith) c.index-markers-k-in-loop-k.is (group_here c.args.steps.now c.args.ends.now c.loop-k.k c.loop-k.from (slice_index_or c.args.ends.now c.loop-k.k 0) c.loop-k-test.true (item_is c.args.ends.now c.loop-k.k 0 c.loop-k-test.true) c.loop-k.invariant.here).next.cut)) (c.requires.can tells);
}

pub loop-k-preserved : goal.loop-k-preserved
loop-k-preserved g c = record {
  here = (group_here c.args.steps.now c.args.ends.now c.loop-k.k c.loop-k.from (slice_index_or c.args.ends.now c.loop-k.k 0) c.loop-k-test.true (item_is c.args.ends.now c.loop-k.k 0 c.loop-k-test.true) c.loop-k.invariant.here).next;
  done = λ tells. group_done (groups c.args.steps.now) c.loop-k.k (group_here c.args.steps.now c.args.ends.now c.loop-k.k c.loop-k.from (slice_index_or c.args.ends.now c.loop-k.k 0) c.loop-k-test.true (item_is c.args.ends.now c.loop-k.k 0 c.loop-k-test.true) c.loop-k.invariant.here).number (g.T.Tree.history c.args.tree.now) (g.T.Tree.history c.loop-k.tree) (c.loop-k.invariant.done tells) (marked_calls (take ((slice_index_or c.args.ends.now c.loop-k.k 0) - c.loop-k.from) (drop c.loop-k.from c.args.steps.now)) c.index-markers-k.result c.index-markers-k-in-loop-k.result) (calls_here c.args.steps.now c.args.ends.now c.loop-k.k c.loop-k.from (slice_index_or c.args.ends.now c.loop-k.k 0) c.index-markers-k.result c.index-markers-k-in-loop-k.result c.loop-k.invariant.here (group_here c.args.steps.now c.args.ends.now c.loop-k.k c.loop-k.from (slice_index_or c.args.ends.now c.loop-k.k 0) c.loop-k-test.true (item_is c.args.ends.now c.loop-k.k 0 c.loop-k-test.true) c.loop-k.invariant.here) (marker_at (0 ∷ c.args.ends.now) c.args.markers.now c.loop-k.k c.loop-k.from c.index-markers-k.result c.requires.markers (let t = c.loop-k-test.true in omega arith) (let n : length c.args.markers.now ≡ suc (length c.args.ends.now) = ap length c.requires.markers ∙ length-map (0 ∷ c.args.ends.now) (λ k. staged (at_marker k)) in let t = c.loop-k-test.true in omega arith) c.index-markers-k.is c.loop-k.invariant.here.cut) (marker_at (0 ∷ c.args.ends.now) c.args.markers.now (c.loop-k.k + 1) (slice_index_or c.args.ends.now c.loop-k.k 0) c.index-markers-k-in-loop-k.result c.requires.markers (let t = c.loop-k-test.true in omega arith) (let n : length c.args.markers.now ≡ suc (length c.args.ends.now) = ap length c.requires.markers ∙ length-map (0 ∷ c.args.ends.now) (λ k. staged (at_marker k)) in let t = c.loop-k-test.true in omega arith) c.index-markers-k-in-loop-k.is (group_here c.args.steps.now c.args.ends.now c.loop-k.k c.loop-k.from (slice_index_or c.args.ends.now c.loop-k.k 0) c.loop-k-test.true (item_is c.args.ends.now c.loop-k.k 0 c.loop-k-test.true) c.loop-k.invariant.here).next.cut)) (g.T.Tree.history c.do_group.new.tree) (c.in-Ok.ensures.ran tells).0;
  kept = λ tells. (c.in-Ok.ensures.ran tells).1 ∙ c.loop-k.invariant.kept tells;
  no_fault = c.in-Ok.ensures.cause ∙ c.loop-k.invariant.no_fault;
}

pub returns-in-Err-clause-stopped : goal.returns-in-Err-clause-stopped
returns-in-Err-clause-stopped g c tells = group_failed (groups c.args.steps.now) c.loop-k.k (group_here c.args.steps.now c.args.ends.now c.loop-k.k c.loop-k.from (slice_index_or c.args.ends.now c.loop-k.k 0) c.loop-k-test.true (item_is c.args.ends.now c.loop-k.k 0 c.loop-k-test.true) c.loop-k.invariant.here).number (g.T.Tree.history c.args.tree.now) (g.T.Tree.history c.loop-k.tree) (c.loop-k.invariant.done tells) (marked_calls (take ((slice_index_or c.args.ends.now c.loop-k.k 0) - c.loop-k.from) (drop c.loop-k.from c.args.steps.now)) c.index-markers-k.result c.index-markers-k-in-loop-k.result) (calls_here c.args.steps.now c.args.ends.now c.loop-k.k c.loop-k.from (slice_index_or c.args.ends.now c.loop-k.k 0) c.index-markers-k.result c.index-markers-k-in-loop-k.result c.loop-k.invariant.here (group_here c.args.steps.now c.args.ends.now c.loop-k.k c.loop-k.from (slice_index_or c.args.ends.now c.loop-k.k 0) c.loop-k-test.true (item_is c.args.ends.now c.loop-k.k 0 c.loop-k-test.true) c.loop-k.invariant.here) (marker_at (0 ∷ c.args.ends.now) c.args.markers.now c.loop-k.k c.loop-k.from c.index-markers-k.result c.requires.markers (let t = c.loop-k-test.true in omega arith) (let n : length c.args.markers.now ≡ suc (length c.args.ends.now) = ap length c.requires.markers ∙ length-map (0 ∷ c.args.ends.now) (λ k. staged (at_marker k)) in let t = c.loop-k-test.true in omega arith) c.index-markers-k.is c.loop-k.invariant.here.cut) (marker_at (0 ∷ c.args.ends.now) c.args.markers.now (c.loop-k.k + 1) (slice_index_or c.args.ends.now c.loop-k.k 0) c.index-markers-k-in-loop-k.result c.requires.markers (let t = c.loop-k-test.true in omega arith) (let n : length c.args.markers.now ≡ suc (length c.args.ends.now) = ap length c.requires.markers ∙ length-map (0 ∷ c.args.ends.now) (λ k. staged (at_marker k)) in let t = c.loop-k-test.true in omega arith) c.index-markers-k-in-loop-k.is (group_here c.args.steps.now c.args.ends.now c.loop-k.k c.loop-k.from (slice_index_or c.args.ends.now c.loop-k.k 0) c.loop-k-test.true (item_is c.args.ends.now c.loop-k.k 0 c.loop-k-test.true) c.loop-k.invariant.here).next.cut)) (g.T.Tree.history c.do_group.new.tree) (g.T.Tree.before_failed c.do_group.new.tree) c.in-Err.first (c.in-Err.ensures.ran tells)

pub returns-clause-done : goal.returns-clause-done
returns-clause-done g c tells = (
  c.loop-k.invariant.done tells ∙ ap (λ l. then_all (g.T.Tree.history c.args.tree.now) (calls_from 0 l)) (all_taken c.args.steps.now c.args.ends.now c.loop-k.k c.loop-k.from c.loop-k-test.false c.loop-k.invariant.here),
  c.loop-k.invariant.kept tells,
)
