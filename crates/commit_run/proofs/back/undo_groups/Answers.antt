use Rattle.std.proofs.Common.{◌≡◌, ◌-◌, ◌++◌, [], refl, sym, ap, rules, Err}
use Rattle.commit_run.specs.WayBack.{undone_group, undone_groups}
use Rattle.commit_run.proofs.MarkedLemmas.{groups_before}
use Rattle.commit_run.proofs.RestLemmas.{ended_first, ran_ended, rest_all, rest_as, rest_can_first, rest_next, rest_none}
use Rattle.tree_core.specs.History.{History, current_tree}
use Rattle.tree_core.specs.Runs.{then_all}
use Rattle.commit_run.proofs.back.undo_groups.Goals as goal

pub loop-k-init : goal.loop-k-init
loop-k-init g c = record {
  rest = λ tells. let h = g.T.Tree.history c.args.tree.now in rest_all (undone_groups c.args.prepared.now.steps c.args.from h) h h refl;
  before = λ tells. refl;
  faults = refl;
}

pub undo_one_group-requires-clause-can : goal.undo_one_group-requires-clause-can
undo_one_group-requires-clause-can g c tells =
    let T = g.T.Tree in
    let steps = c.args.prepared.now.steps in
    let k = c.loop-k.k - 1 in
    let began = T.history c.args.tree.now in
    let now = T.history c.loop-k.tree in
    let all = undone_groups steps c.args.from began in
    let cs = undone_group steps k (current_tree now) in
    let ds = undone_groups steps k (then_all now cs) in
    rest_can_first all began now cs ds (c.requires.can tells)
    (rest_as all began now (undone_groups steps c.loop-k.k now) (cs ++ ds) (c.loop-k.invariant.rest tells) (groups_before steps c.loop-k.k now c.loop-k-test.true))

pub returns-in_err-undo_one_group-clause-ran : goal.returns-in_err-undo_one_group-clause-ran
returns-in_err-undo_one_group-clause-ran g c tells =
    let T = g.T.Tree in
    let steps = c.args.prepared.now.steps in
    let k = c.loop-k.k - 1 in
    let began = T.history c.args.tree.now in
    let now = T.history c.loop-k.tree in
    let new = T.history c.undo_one_group.new.tree in
    let all = undone_groups steps c.args.from began in
    let cs = undone_group steps k (current_tree now) in
    let ds = undone_groups steps k (then_all now cs) in
    let first = c.in_err-undo_one_group.field-0.0 in
    let is : c.from_residual.result ≡ Err first = search rules in
    ran_ended all began new (T.before_failed c.args.tree.now) (T.before_failed c.undo_one_group.new.tree) c.from_residual.result first is
    (ended_first all began now cs ds (rest_as all began now (undone_groups steps c.loop-k.k now) (cs ++ ds) (c.loop-k.invariant.rest tells) (groups_before steps c.loop-k.k now c.loop-k-test.true))
    new (T.before_failed c.undo_one_group.new.tree) first (c.in_err-undo_one_group.ensures.ran tells))

pub loop-k-preserved : goal.loop-k-preserved
loop-k-preserved g c =
    let T = g.T.Tree in
    let steps = c.args.prepared.now.steps in
    let k = c.loop-k.k - 1 in
    let began = T.history c.args.tree.now in
    let now = T.history c.loop-k.tree in
    let new = T.history c.undo_one_group.new.tree in
    let all = undone_groups steps c.args.from began in
    let cs = undone_group steps k (current_tree now) in
    let ds = undone_groups steps k (then_all now cs) in
    record {
      rest = λ tells.
          let done = c.in_ok-undo_one_group.ensures.ran tells in
          rest_as all began new ds (undone_groups steps k new)
          (rest_next all began now new cs ds (rest_as all began now (undone_groups steps c.loop-k.k now) (cs ++ ds) (c.loop-k.invariant.rest tells) (groups_before steps c.loop-k.k now c.loop-k-test.true)) done.0)
          (ap (λ (h : History). undone_groups steps k h) (sym done.0));
      before = search rules;
      faults = search rules;
    }

pub returns-clause-ran : goal.returns-clause-ran
returns-clause-ran g c tells =
    let T = g.T.Tree in
    let steps = c.args.prepared.now.steps in
    let began = T.history c.args.tree.now in
    let now = T.history c.loop-k.tree in
    let all = undone_groups steps c.args.from began in
    let zero_is : c.loop-k.k ≡ 0 = search rules in
    let r = rest_as all began now (undone_groups steps c.loop-k.k now) [] (c.loop-k.invariant.rest tells) (ap (λ n. undone_groups steps n now) zero_is) in
    (rest_none all began now r, c.loop-k.invariant.before tells)
