use Rattle.std.proofs.Common.{◌≡◌, ◌+◌, ◌≤◌, ◌++◌, [], List, length, drop, refl, sym, ap, rules, Err}
use Rattle.std.proofs.lemmas.List.{drop_all}
use Rattle.commit_run.specs.BeforePlan.{removed_at, standing_removed}
use Rattle.commit_run.proofs.BackRunLemmas.{next_removed}
use Rattle.commit_run.proofs.RestLemmas.{ended_first, ran_ended, rest_all, rest_as, rest_can_first, rest_next, rest_none}
use Rattle.dired_text.specs.Paths.{Names}
use Rattle.tree_core.specs.History.{History, current_tree}
use Rattle.tree_core.specs.Runs.{then_all}
use Rattle.commit_run.proofs.back.remove_standing.Goals as goal

pub loop-path-init : goal.loop-path-init
loop-path-init g c = record {
  rest = λ tells. let h = g.T.Tree.history c.args.tree.now in rest_all (standing_removed c.args.paths.now (current_tree h)) h h refl;
  before = λ tells. refl;
  faults = refl;
}

pub remove_if_standing-requires : goal.remove_if_standing-requires
remove_if_standing-requires g c = record {
  can = λ tells.
      let T = g.T.Tree in
      let paths = c.args.paths.now in
      let k = c.loop-path.path-index in
      let p = c.path-item.result in
      let began = T.history c.args.tree.now in
      let now = T.history c.loop-path.tree in
      let all = standing_removed paths (current_tree began) in
      let cs = removed_at p (current_tree now) in
      let ds = standing_removed (drop (k + 1) paths) (current_tree (then_all now cs)) in
      rest_can_first all began now cs ds (c.requires.can tells)
      (rest_as all began now (standing_removed (drop k paths) (current_tree now)) (cs ++ ds) (c.loop-path.invariant.rest tells) (next_removed paths now k p c.loop-path-test.true c.path-item.is));
}

pub returns-in_err-remove_if_standing-clause-ran : goal.returns-in_err-remove_if_standing-clause-ran
returns-in_err-remove_if_standing-clause-ran g c tells =
    let T = g.T.Tree in
    let paths = c.args.paths.now in
    let k = c.loop-path.path-index in
    let p = c.path-item.result in
    let began = T.history c.args.tree.now in
    let now = T.history c.loop-path.tree in
    let new = T.history c.remove_if_standing.new.tree in
    let all = standing_removed paths (current_tree began) in
    let cs = removed_at p (current_tree now) in
    let ds = standing_removed (drop (k + 1) paths) (current_tree (then_all now cs)) in
    let first = c.in_err-remove_if_standing.field-0.0 in
    let is : c.from_residual.result ≡ Err first = search rules in
    ran_ended all began new (T.before_failed c.args.tree.now) (T.before_failed c.remove_if_standing.new.tree) c.from_residual.result first is
    (ended_first all began now cs ds
    (rest_as all began now (standing_removed (drop k paths) (current_tree now)) (cs ++ ds) (c.loop-path.invariant.rest tells) (next_removed paths now k p c.loop-path-test.true c.path-item.is))
    new (T.before_failed c.remove_if_standing.new.tree) first (c.in_err-remove_if_standing.ensures.ran tells))

pub loop-path-preserved : goal.loop-path-preserved
loop-path-preserved g c =
    let T = g.T.Tree in
    let paths = c.args.paths.now in
    let k = c.loop-path.path-index in
    let p = c.path-item.result in
    let began = T.history c.args.tree.now in
    let now = T.history c.loop-path.tree in
    let new = T.history c.remove_if_standing.new.tree in
    let all = standing_removed paths (current_tree began) in
    let cs = removed_at p (current_tree now) in
    let ds = standing_removed (drop (k + 1) paths) (current_tree (then_all now cs)) in
    record {
      rest = λ tells.
          let done = (c.in_ok-remove_if_standing.ensures.ran tells).0 in
          rest_as all began new ds (standing_removed (drop (k + 1) paths) (current_tree new))
          (rest_next all began now new cs ds
          (rest_as all began now (standing_removed (drop k paths) (current_tree now)) (cs ++ ds) (c.loop-path.invariant.rest tells) (next_removed paths now k p c.loop-path-test.true c.path-item.is)) done)
          (ap (λ (h : History). standing_removed (drop (k + 1) paths) (current_tree h)) (sym done));
      before = search rules;
      faults = search rules;
    }

pub returns-clause-ran : goal.returns-clause-ran
returns-clause-ran g c tells =
    let T = g.T.Tree in
    let paths = c.args.paths.now in
    let began = T.history c.args.tree.now in
    let now = T.history c.loop-path.tree in
    let all = standing_removed paths (current_tree began) in
    let past : length paths ≤ c.loop-path.path-index = search rules in
    let r = rest_as all began now (standing_removed (drop c.loop-path.path-index paths) (current_tree now)) [] (c.loop-path.invariant.rest tells)
    (ap (λ (ps : List Names). standing_removed ps (current_tree now)) (drop_all c.loop-path.path-index paths past)) in
    (rest_none all began now r, c.loop-path.invariant.before tells)
