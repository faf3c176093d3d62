use Rattle.std.proofs.Common.{◌≡◌, [], ◌∷◌, true, false, is_some, refl, sym, ◌∙◌, ap, rules, Err}
use Rattle.std.specs.FinMap.{get}
use Rattle.commit_run.specs.BeforePlan.{removed_at}
use Rattle.commit_run.proofs.BackRunLemmas.{removed_none, removed_there}
use Rattle.commit_run.proofs.RestLemmas.{ended_look, ran_ended, ran_left, ran_looked, rest_all, rest_as, rest_can}
use Rattle.tree_core.specs.declared.node.Change.TheVariants as call
use Rattle.tree_core.specs.History.{current_tree}
use Rattle.tree_core.specs.Runs.{then_all}
use Rattle.commit_run.proofs.back.remove_if_standing.Goals as goal

pub returns-in_err-stands-clause-ran : goal.returns-in_err-stands-clause-ran
returns-in_err-stands-clause-ran g c tells =
    let T = g.T.Tree in
    let began = T.history c.args.tree.now in
    let new = T.history c.stands.new.tree in
    let all = removed_at c.args.path.now (current_tree began) in
    let first = c.in_err-stands.field-0.0 in
    let is : c.from_residual.result ≡ Err first = search rules in
    let same : new ≡ began = search rules in
    let tree : T.before_failed c.stands.new.tree ≡ current_tree began = search rules in
    ran_ended all began new (T.before_failed c.args.tree.now) (T.before_failed c.stands.new.tree) c.from_residual.result first is
    (ended_look all began began all (rest_all all began began refl) new (T.before_failed c.stands.new.tree) first same tree)

pub remove-requires : goal.remove-requires
remove-requires g c = record {
  can = λ tells.
      let T = g.T.Tree in
      let p = c.args.path.now in
      let began = T.history c.args.tree.now in
      let now = T.history c.stands.new.tree in
      let all = removed_at p (current_tree began) in
      let same : now ≡ began = search rules in
      let there : is_some (get (current_tree began) p) ≡ true = search rules in
      (rest_can all began now (call.Remove p ∷ []) (c.requires.can tells)
      (rest_as all began now all (call.Remove p ∷ []) (rest_all all began now same) (removed_there p (current_tree began) there))).0;
}

pub returns-then-branch-clause-ran : goal.returns-then-branch-clause-ran
returns-then-branch-clause-ran g c tells =
    let T = g.T.Tree in
    let p = c.args.path.now in
    let began = T.history c.args.tree.now in
    let now = T.history c.stands.new.tree in
    let new = T.history c.remove.new.tree in
    let all = removed_at p (current_tree began) in
    let same : now ≡ began = search rules in
    let kept : T.before_failed c.stands.new.tree ≡ T.before_failed c.args.tree.now = search rules in
    let there : is_some (get (current_tree began) p) ≡ true = search rules in
    ran_left all began now (call.Remove p ∷ []) (rest_as all began now all (call.Remove p ∷ []) (rest_all all began now same) (removed_there p (current_tree began) there))
    new (T.before_failed c.args.tree.now) (T.before_failed c.stands.new.tree) (T.before_failed c.remove.new.tree) c.remove.result kept
    (ran_looked (call.Remove p ∷ []) now new (T.before_failed c.stands.new.tree) (T.before_failed c.remove.new.tree) c.remove.result (c.remove.ensures.ran tells))

pub returns-else-branch-clause-ran : goal.returns-else-branch-clause-ran
returns-else-branch-clause-ran g c tells =
    let T = g.T.Tree in
    let p = c.args.path.now in
    let began = T.history c.args.tree.now in
    let now = T.history c.stands.new.tree in
    let same : now ≡ began = search rules in
    let kept : T.before_failed c.stands.new.tree ≡ T.before_failed c.args.tree.now = search rules in
    let none : is_some (get (current_tree began) p) ≡ false = search rules in
    (same ∙ ap (then_all began) (sym (removed_none p (current_tree began) none)), kept)
