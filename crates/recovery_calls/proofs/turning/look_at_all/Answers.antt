use Rattle.std.proofs.Common.{◌≡◌, ◌+◌, ◌≤◌, ◌<◌, ◌∙◌, length, drop, None, true, false, refl, sym, ap, rules, arith}
use Rattle.recovery_calls.specs.Looked.{looked_of}
use Rattle.recovery_calls.proofs.GoneLemmas.{all_at}
use Rattle.recovery_calls.proofs.LookedLemmas.{all_seen, all_strange, with_some, with_strange}
use Rattle.step_looks.specs.Looks.{look_back_of}
use Rattle.step_trees.specs.Steps.{IsStep}
use Rattle.tree_core.specs.History.{current_tree}
use Rattle.recovery_calls.proofs.turning.look_at_all.Goals as goal

pub loop-k-init : goal.loop-k-init
loop-k-init g c = let T = g.T.Tree in
    let place : c.args.from ≡ c.args.from + 0 = omega arith in record {
      told = λ tells. ap (λ n. looked_of n c.args.steps.now (current_tree (T.history c.args.tree.now))) place;
      history = λ tells. refl;
      fields = λ tells. refl;
      before = λ tells. refl;
      faults = refl;
    }

pub returns-in-None-clause-told : goal.returns-in-None-clause-told
returns-in-None-clause-told g c tells = let T = g.T.Tree in
    let steps = c.args.steps.now in
    let k = c.loop-k.k in
    let step = c.index-steps-k.result in
    let from = c.args.from in
    let t = current_tree (T.history c.args.tree.now) in
    let within : c.loop-k.k < length c.args.steps.now = search rules in
    let lawful = all_at IsStep steps k step within c.index-steps-k.is c.requires.steps in
    let same : T.history c.loop-k.tree ≡ T.history c.args.tree.now = search rules in
    let seen : look_back_of c.index-steps-k.result (current_tree (T.history c.args.tree.now)) ≡ None = search rules in
    sym (c.loop-k.invariant.told tells ∙ ap (with_some c.loop-k.some_done) (all_strange steps from k step t within c.index-steps-k.is lawful seen) ∙ with_strange c.loop-k.some_done (from + k))

pub returns-then-some_done-clause-told : goal.returns-then-some_done-clause-told
returns-then-some_done-clause-told g c tells = let T = g.T.Tree in
    let steps = c.args.steps.now in
    let t = current_tree (T.history c.args.tree.now) in
    let long : length c.args.steps.now ≤ c.loop-k.k = search rules in
    let told = c.loop-k.invariant.told tells in
    let none = all_seen steps c.loop-k.k (c.args.from + c.loop-k.k) t long in
    let some : c.loop-k.some_done ≡ true = search rules in
    sym (told ∙ ap (λ b. with_some b (looked_of (c.args.from + c.loop-k.k) (drop c.loop-k.k steps) t)) some ∙ ap (with_some true) none)

pub returns-clause-told : goal.returns-clause-told
returns-clause-told g c tells = let T = g.T.Tree in
    let steps = c.args.steps.now in
    let t = current_tree (T.history c.args.tree.now) in
    let long : length c.args.steps.now ≤ c.loop-k.k = search rules in
    let told = c.loop-k.invariant.told tells in
    let none = all_seen steps c.loop-k.k (c.args.from + c.loop-k.k) t long in
    let some : c.loop-k.some_done ≡ false = search rules in
    sym (told ∙ ap (λ b. with_some b (looked_of (c.args.from + c.loop-k.k) (drop c.loop-k.k steps) t)) some ∙ none)
