use Rattle.std.proofs.Common.{rules, ◌≡◌, ◌<◌, length, Some, Err}
use Rattle.tree_core.specs.History.{current_tree}
use Rattle.tree_core.specs.Runs.{FailedCall}
use Rattle.step_trees.specs.Steps.{IsStep, call_of}
use Rattle.commit_states.specs.Calls.{do_calls}
use Rattle.step_looks.specs.Looks.{look_of}
use Rattle.step_looks.specs.declared.looking.Seen.TheVariants as seen
use Rattle.step_looks.specs.Redoing.{to_redo}
use Rattle.step_looks.proofs.UndoLemmas.{step_of, ran_looked, ran_failed}
use Rattle.step_looks.proofs.RedoLemmas.{Redoing, can_do_before, looked_on, redoing_seen, redoing_next, redo_failed}
use Rattle.step_looks.proofs.redoing.redo.Goals as goal

pub returns-in_err-look-clause-ran : goal.returns-in_err-look-clause-ran
returns-in_err-look-clause-ran g c tells =
    let T = g.T.Tree in
    let steps = c.args.steps.now in
    let began = T.history c.args.tree.now in
    let now = T.history c.loop-k.tree in
    let new = T.history c.look.new.tree in
    let same : new ≡ now = search rules in
    let tree : T.before_failed c.look.new.tree ≡ current_tree now = search rules in
    let is : c.from_residual.result ≡ Err c.in_err-look.field-0.0 = search rules in
    ran_looked (do_calls (to_redo steps (current_tree began))) began new (T.before_failed c.args.tree.now) (T.before_failed c.look.new.tree) c.from_residual.result c.in_err-look.field-0.0 is
    (looked_on steps c.args.from c.loop-k.k began now (c.loop-k.invariant.redoing tells) new (T.before_failed c.look.new.tree) same tree)

pub do_step-requires : goal.do_step-requires
do_step-requires g c = record {
  can = λ tells.
      let T = g.T.Tree in
      let step = c.index-steps-k.result in
      let t = current_tree (T.history c.look.new.tree) in
      let within : c.loop-k.k < length c.args.steps.now = search rules in
      let lawful : IsStep step = step_of c.args.steps.now c.loop-k.k step within c.index-steps-k.is c.requires.steps in
      let told : look_of step t ≡ Some seen.Before = search rules in
      can_do_before step t lawful told;
}

pub returns-in_err-do_step-in-Some-Before-clause-ran : goal.returns-in_err-do_step-in-Some-Before-clause-ran
returns-in_err-do_step-in-Some-Before-clause-ran g c tells =
    let T = g.T.Tree in
    let steps = c.args.steps.now in
    let step = c.index-steps-k.result in
    let began = T.history c.args.tree.now in
    let now = T.history c.look.new.tree in
    let new = T.history c.do_step.new.tree in
    let first = c.in_err-do_step-in-Some-Before.field-0.0 in
    let within : c.loop-k.k < length steps = search rules in
    let same : now ≡ T.history c.loop-k.tree = search rules in
    let told : look_of step (current_tree now) ≡ Some seen.Before = search rules in
    let u : Redoing steps c.args.from c.loop-k.k began now = redoing_seen steps c.args.from c.loop-k.k began (T.history c.loop-k.tree) now same (c.loop-k.invariant.redoing tells) in
    let failed : FailedCall (call_of step) now new (T.before_failed c.do_step.new.tree) first = search rules in
    let is : c.from_residual-in_err-do_step-in-Some-Before.result ≡ Err first = search rules in
    ran_failed (do_calls (to_redo steps (current_tree began))) began new (T.before_failed c.args.tree.now) (T.before_failed c.do_step.new.tree) c.from_residual-in_err-do_step-in-Some-Before.result first is
    (redo_failed steps c.args.from c.loop-k.k step within c.index-steps-k.is began now u told new (T.before_failed c.do_step.new.tree) first failed)

pub loop-k-preserved : goal.loop-k-preserved
loop-k-preserved g c =
    let T = g.T.Tree in
    let steps = c.args.steps.now in
    let step = c.index-steps-k.result in
    let began = T.history c.args.tree.now in
    let within : c.loop-k.k < length steps = search rules in
    record {
      redoing = λ tells.
          let now = T.history c.look.new.tree in
          let same : now ≡ T.history c.loop-k.tree = search rules in
          let told : look_of step (current_tree now) ≡ Some seen.Before = search rules in
          let u : Redoing steps c.args.from c.loop-k.k began now = redoing_seen steps c.args.from c.loop-k.k began (T.history c.loop-k.tree) now same (c.loop-k.invariant.redoing tells) in
          let next = redoing_next steps c.args.from c.loop-k.k step within c.index-steps-k.is began now u told in
          search (rules, next);
      before = search rules;
      faults = search rules;
    }
