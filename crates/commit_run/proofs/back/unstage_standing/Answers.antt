use Rattle.std.proofs.Common.{◌≡◌, [], ◌∷◌, true, false, length, is_some, refl, rules, Err}
use Rattle.std.specs.FinMap.{get}
use Rattle.commit_run.specs.BeforePlan.{unstaged_all, unstaging}
use Rattle.commit_run.proofs.BackRunLemmas.{left_there, left_none}
use Rattle.commit_run.proofs.RestLemmas.{ended_look, ran_ended, ran_left, ran_looked, rest_all, rest_can}
use Rattle.commit_steps.specs.Staging.{staging}
use Rattle.tree_core.specs.declared.node.Change.TheVariants as call
use Rattle.tree_core.specs.History.{current_tree}
use Rattle.commit_run.proofs.back.unstage_standing.Goals as goal

pub returns-in_err-stands-clause-ran : goal.returns-in_err-stands-clause-ran
returns-in_err-stands-clause-ran g c tells =
    let T = g.T.Tree in
    let steps = c.args.prepared.now.steps in
    let fs = c.args.prepared.now.fresh.items in
    let began = T.history c.args.tree.now in
    let new = T.history c.stands.new.tree in
    let all = unstaging (length fs) (current_tree began) in
    let first = c.in_err-stands.field-0.0 in
    let is : c.from_residual.result ≡ Err first = search rules in
    let same : new ≡ began = search rules in
    let tree : T.before_failed c.stands.new.tree ≡ current_tree began = search rules in
    ran_ended all began new (T.before_failed c.args.tree.now) (T.before_failed c.stands.new.tree) c.from_residual.result first is
    (ended_look all began began all (rest_all all began began refl) new (T.before_failed c.stands.new.tree) first same tree)

pub unstage_all-requires-clause-can : goal.unstage_all-requires-clause-can
unstage_all-requires-clause-can g c tells =
    let T = g.T.Tree in
    let steps = c.args.prepared.now.steps in
    let fs = c.args.prepared.now.fresh.items in
    let began = T.history c.args.tree.now in
    let now = T.history c.stands.new.tree in
    let same : now ≡ began = search rules in
    let looked : is_some (get (current_tree now) staging) ≡ true = search rules in
    rest_can (unstaging (length fs) (current_tree began)) began now (unstaged_all (length fs) (current_tree now)) (c.requires.can tells) (left_there (length fs) began now same looked)

pub returns-then-branch-clause-ran : goal.returns-then-branch-clause-ran
returns-then-branch-clause-ran g c tells =
    let T = g.T.Tree in
    let steps = c.args.prepared.now.steps in
    let fs = c.args.prepared.now.fresh.items in
    let began = T.history c.args.tree.now in
    let now = T.history c.stands.new.tree in
    let new = T.history c.unstage_all.new.tree in
    let same : now ≡ began = search rules in
    let kept : T.before_failed c.stands.new.tree ≡ T.before_failed c.args.tree.now = search rules in
    let looked : is_some (get (current_tree now) staging) ≡ true = search rules in
    ran_left (unstaging (length fs) (current_tree began)) began now (unstaged_all (length fs) (current_tree now)) (left_there (length fs) began now same looked) new (T.before_failed c.args.tree.now) (T.before_failed c.stands.new.tree) (T.before_failed c.unstage_all.new.tree) c.unstage_all.result kept
    (c.unstage_all.ensures.ran tells)

pub returns-else-branch-clause-ran : goal.returns-else-branch-clause-ran
returns-else-branch-clause-ran g c tells =
    let T = g.T.Tree in
    let steps = c.args.prepared.now.steps in
    let fs = c.args.prepared.now.fresh.items in
    let began = T.history c.args.tree.now in
    let now = T.history c.stands.new.tree in
    let new = T.history c.sync.new.tree in
    let same : now ≡ began = search rules in
    let kept : T.before_failed c.stands.new.tree ≡ T.before_failed c.args.tree.now = search rules in
    let looked : is_some (get (current_tree now) staging) ≡ false = search rules in
    ran_left (unstaging (length fs) (current_tree began)) began now (call.Sync ∷ []) (left_none (length fs) began now same looked) new (T.before_failed c.args.tree.now) (T.before_failed c.stands.new.tree) (T.before_failed c.sync.new.tree) c.sync.result kept
    (ran_looked (call.Sync ∷ []) now new (T.before_failed c.stands.new.tree) (T.before_failed c.sync.new.tree) c.sync.result (c.sync.ensures.ran tells))
