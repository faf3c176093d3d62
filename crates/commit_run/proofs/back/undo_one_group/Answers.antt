use Rattle.std.proofs.Common.{◌≡◌, ◌+◌, ◌++◌, refl, sym, subst, rules, Err}
use Rattle.std.specs.List.{AllByRecursion}
use Rattle.commit_calls.specs.Parts.{synced_rename_calls}
use Rattle.commit_run.specs.WayBack.{back_at_cut, undone_group}
use Rattle.commit_run.proofs.GroupLemmas.{group_steps}
use Rattle.commit_run.proofs.MarkedLemmas.{undone_is}
use Rattle.commit_run.proofs.RestLemmas.{ended_first, ran_ended, ran_left, ran_looked, rest_all, rest_as, rest_can, rest_next}
use Rattle.commit_states.specs.Calls.{undo_calls}
use Rattle.step_looks.specs.Undoing.{to_undo}
use Rattle.step_trees.specs.Steps.{IsStep}
use Rattle.tree_core.specs.History.{current_tree}
use Rattle.commit_run.proofs.back.undo_one_group.Goals as goal

pub undo_done-requires-clause-steps : goal.undo_done-requires-clause-steps
undo_done-requires-clause-steps g c = subst (AllByRecursion IsStep) (sym c.group.ensures) (group_steps c.args.prepared.now c.requires.prepared c.args.k)

pub returns-in_err-undo_done-clause-ran : goal.returns-in_err-undo_done-clause-ran
returns-in_err-undo_done-clause-ran g c tells =
    let T = g.T.Tree in
    let steps = c.args.prepared.now.steps in
    let k = c.args.k in
    let began = T.history c.args.tree.now in
    let new = T.history c.undo_done.new.tree in
    let t = current_tree began in
    let all = undone_group steps k t in
    let cs = undo_calls (to_undo c.group.result.now t) in
    let ds = synced_rename_calls (back_at_cut steps (k + 1)) (back_at_cut steps k) in
    let calls : all ≡ cs ++ ds = undone_is steps k t c.group.result.now (back_at_cut steps (k + 1)) (back_at_cut steps k) c.group.ensures refl refl in
    let first = c.in_err-undo_done.field-0.0 in
    let is : c.from_residual.result ≡ Err first = search rules in
    ran_ended all began new (T.before_failed c.args.tree.now) (T.before_failed c.undo_done.new.tree) c.from_residual.result first is
    (ended_first all began began cs ds (rest_as all began began all (cs ++ ds) (rest_all all began began refl) calls) new (T.before_failed c.undo_done.new.tree) first (c.in_err-undo_done.ensures.ran tells))

pub sync_and_rename-requires : goal.sync_and_rename-requires
sync_and_rename-requires g c = record {
  can = λ tells.
      let T = g.T.Tree in
      let steps = c.args.prepared.now.steps in
      let k = c.args.k in
      let began = T.history c.args.tree.now in
      let mid = T.history c.undo_done.new.tree in
      let t = current_tree began in
      let all = undone_group steps k t in
      let cs = undo_calls (to_undo c.group.result.now t) in
      let ds = synced_rename_calls c.back_marker.result.now c.back_marker-2.result.now in
      let from : c.back_marker.result.now ≡ back_at_cut steps (k + 1) = search rules in
      let to : c.back_marker-2.result.now ≡ back_at_cut steps k = search rules in
      let calls : all ≡ cs ++ ds = undone_is steps k t c.group.result.now c.back_marker.result.now c.back_marker-2.result.now c.group.ensures from to in
      rest_can all began mid ds (c.requires.can tells)
      (rest_next all began began mid cs ds (rest_as all began began all (cs ++ ds) (rest_all all began began refl) calls) (c.in_ok-undo_done.ensures.ran tells).0);
}

pub returns-clause-ran : goal.returns-clause-ran
returns-clause-ran g c tells =
    let T = g.T.Tree in
    let steps = c.args.prepared.now.steps in
    let k = c.args.k in
    let began = T.history c.args.tree.now in
    let mid = T.history c.undo_done.new.tree in
    let new = T.history c.sync_and_rename.new.tree in
    let t = current_tree began in
    let all = undone_group steps k t in
    let cs = undo_calls (to_undo c.group.result.now t) in
    let ds = synced_rename_calls c.back_marker.result.now c.back_marker-2.result.now in
    let from : c.back_marker.result.now ≡ back_at_cut steps (k + 1) = search rules in
    let to : c.back_marker-2.result.now ≡ back_at_cut steps k = search rules in
    let calls : all ≡ cs ++ ds = undone_is steps k t c.group.result.now c.back_marker.result.now c.back_marker-2.result.now c.group.ensures from to in
    ran_left all began mid ds (rest_next all began began mid cs ds (rest_as all began began all (cs ++ ds) (rest_all all began began refl) calls) (c.in_ok-undo_done.ensures.ran tells).0)
    new (T.before_failed c.args.tree.now) (T.before_failed c.undo_done.new.tree) (T.before_failed c.sync_and_rename.new.tree) c.sync_and_rename.result (c.in_ok-undo_done.ensures.ran tells).1
    (ran_looked ds mid new (T.before_failed c.undo_done.new.tree) (T.before_failed c.sync_and_rename.new.tree) c.sync_and_rename.result (c.sync_and_rename.ensures.ran tells))
