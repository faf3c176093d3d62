use Rattle.std.proofs.Common.{rules, ◌≡◌, ◌<◌, ◌-◌, ◌+◌, length, reverse, Some, Err}
use Rattle.tree_core.specs.History.{current_tree}
use Rattle.tree_core.specs.Runs.{FailedCall}
use Rattle.step_trees.specs.Steps.{IsStep, undo_of}
use Rattle.commit_states.specs.Calls.{undo_calls}
use Rattle.step_looks.specs.Looks.{look_back_of}
use Rattle.step_looks.specs.declared.looking.Seen.TheVariants as seen
use Rattle.step_looks.specs.Strictly.{to_undo_strictly}
use Rattle.step_looks.proofs.TestLemmas.{told_back, can_undo_back}
use Rattle.step_looks.proofs.UndoLemmas.{step_of, ran_looked, ran_failed}
use Rattle.step_looks.proofs.StrictLemmas.{Turning, turning_seen, looked_back, turning_next, turn_failed}
use Rattle.step_looks.proofs.undoing.undo_strictly.Goals as goal

pub returns-in_err-look_back-clause-ran : goal.returns-in_err-look_back-clause-ran
returns-in_err-look_back-clause-ran g c tells =
    let T = g.T.Tree in
    let steps = c.args.steps.now in
    let began = T.history c.args.tree.now in
    let now = T.history c.loop-k.tree in
    let new = T.history c.look_back.new.tree in
    let same : new ≡ now = search rules in
    let tree : T.before_failed c.look_back.new.tree ≡ current_tree now = search rules in
    let is : c.from_residual.result ≡ Err c.in_err-look_back.field-0.0 = search rules in
    ran_looked (undo_calls (to_undo_strictly (reverse steps) (current_tree began))) began new (T.before_failed c.args.tree.now) (T.before_failed c.look_back.new.tree) c.from_residual.result c.in_err-look_back.field-0.0 is
    (looked_back steps c.args.from c.loop-k.k began now (c.loop-k.invariant.turning tells) new (T.before_failed c.look_back.new.tree) same tree)

pub undo-requires : goal.undo-requires
undo-requires g c = record {
  can = λ tells.
      let T = g.T.Tree in
      let steps = c.args.steps.now in
      let step = c.index-steps-k.result in
      let t = current_tree (T.history c.look_back.new.tree) in
      let within : c.loop-k.k - 1 < length steps = search rules in
      let lawful : IsStep step = step_of steps (c.loop-k.k - 1) step within c.index-steps-k.is c.requires.steps in
      let told : look_back_of step t ≡ Some seen.After = search rules in
      can_undo_back step t lawful (told_back step t lawful told);
}

pub loop-k-preserved : goal.loop-k-preserved
loop-k-preserved g c =
    let T = g.T.Tree in
    let steps = c.args.steps.now in
    let step = c.index-steps-k.result in
    let began = T.history c.args.tree.now in
    let within : c.loop-k.k - 1 < length steps = search rules in
    record {
      turning = λ tells.
          let now = T.history c.look_back.new.tree in
          let same : now ≡ T.history c.loop-k.tree = search rules in
          let told : look_back_of step (current_tree now) ≡ Some seen.After = search rules in
          let u : Turning steps c.args.from (c.loop-k.k - 1 + 1) began now = turning_seen steps c.args.from c.loop-k.k began (T.history c.loop-k.tree) now c.loop-k-test.true same (c.loop-k.invariant.turning tells) in
          let next = turning_next steps c.args.from (c.loop-k.k - 1) step within c.index-steps-k.is began now u told in
          search (rules, next);
      before = search rules;
      faults = search rules;
    }

pub returns-in_err-undo-in-Some-After-clause-ran : goal.returns-in_err-undo-in-Some-After-clause-ran
returns-in_err-undo-in-Some-After-clause-ran g c tells =
    let T = g.T.Tree in
    let steps = c.args.steps.now in
    let step = c.index-steps-k.result in
    let began = T.history c.args.tree.now in
    let now = T.history c.look_back.new.tree in
    let new = T.history c.undo.new.tree in
    let first = c.in_err-undo-in-Some-After.field-0.0 in
    let within : c.loop-k.k - 1 < length steps = search rules in
    let same : now ≡ T.history c.loop-k.tree = search rules in
    let told : look_back_of step (current_tree now) ≡ Some seen.After = search rules in
    let u : Turning steps c.args.from (c.loop-k.k - 1 + 1) began now = turning_seen steps c.args.from c.loop-k.k began (T.history c.loop-k.tree) now c.loop-k-test.true same (c.loop-k.invariant.turning tells) in
    let failed : FailedCall (undo_of step) now new (T.before_failed c.undo.new.tree) first = search rules in
    let is : c.from_residual-in_err-undo-in-Some-After.result ≡ Err first = search rules in
    ran_failed (undo_calls (to_undo_strictly (reverse steps) (current_tree began))) began new (T.before_failed c.args.tree.now) (T.before_failed c.undo.new.tree) c.from_residual-in_err-undo-in-Some-After.result first is
    (turn_failed steps c.args.from (c.loop-k.k - 1) step within c.index-steps-k.is began now u told new (T.before_failed c.undo.new.tree) first failed)
