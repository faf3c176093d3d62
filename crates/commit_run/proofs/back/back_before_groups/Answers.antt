use Rattle.std.proofs.Common.{◌≡◌, true, false, length, is_some, refl, rules, Err}
use Rattle.std.specs.FinMap.{get}
use Rattle.commit_run.specs.BeforePlan.{unstaging, way_before}
use Rattle.commit_run.specs.WayBack.{way_back}
use Rattle.commit_run.proofs.BackRunLemmas.{left_planned, left_unplanned}
use Rattle.commit_run.proofs.RestLemmas.{ended_look, ran_ended, ran_left, rest_all, rest_can}
use Rattle.commit_steps.specs.Staging.{staged, plan}
use Rattle.tree_core.specs.History.{current_tree}
use Rattle.commit_run.proofs.back.back_before_groups.Goals as goal

pub returns-in_err-stands-clause-ran : goal.returns-in_err-stands-clause-ran
returns-in_err-stands-clause-ran g c tells =
    let T = g.T.Tree in
    let steps = c.args.prepared.now.steps in
    let fs = c.args.prepared.now.fresh.items in
    let began = T.history c.args.tree.now in
    let new = T.history c.stands.new.tree in
    let all = way_before steps fs began in
    let first = c.in_err-stands.field-0.0 in
    let is : c.from_residual.result ≡ Err first = search rules in
    let same : new ≡ began = search rules in
    let tree : T.before_failed c.stands.new.tree ≡ current_tree began = search rules in
    ran_ended all began new (T.before_failed c.args.tree.now) (T.before_failed c.stands.new.tree) c.from_residual.result first is
    (ended_look all began began all (rest_all all began began refl) new (T.before_failed c.stands.new.tree) first same tree)

pub back_from-requires-clause-can : goal.back_from-requires-clause-can
back_from-requires-clause-can g c tells =
    let T = g.T.Tree in
    let steps = c.args.prepared.now.steps in
    let fs = c.args.prepared.now.fresh.items in
    let began = T.history c.args.tree.now in
    let now = T.history c.stands.new.tree in
    let same : now ≡ began = search rules in
    let looked : is_some (get (current_tree now) (staged plan)) ≡ true = search rules in
    rest_can (way_before steps fs began) began now (way_back steps fs 0 now) (c.requires.can tells) (left_planned steps fs began now same looked)

pub unstage_standing-requires-clause-can : goal.unstage_standing-requires-clause-can
unstage_standing-requires-clause-can g c tells =
    let T = g.T.Tree in
    let steps = c.args.prepared.now.steps in
    let fs = c.args.prepared.now.fresh.items in
    let began = T.history c.args.tree.now in
    let now = T.history c.stands.new.tree in
    let same : now ≡ began = search rules in
    let looked : is_some (get (current_tree now) (staged plan)) ≡ false = search rules in
    rest_can (way_before steps fs began) began now (unstaging (length fs) (current_tree now)) (c.requires.can tells) (left_unplanned steps fs began now same looked)

pub returns-then-branch-clause-ran : goal.returns-then-branch-clause-ran
returns-then-branch-clause-ran g c tells =
    let T = g.T.Tree in
    let steps = c.args.prepared.now.steps in
    let fs = c.args.prepared.now.fresh.items in
    let began = T.history c.args.tree.now in
    let now = T.history c.stands.new.tree in
    let new = T.history c.back_from.new.tree in
    let same : now ≡ began = search rules in
    let kept : T.before_failed c.stands.new.tree ≡ T.before_failed c.args.tree.now = search rules in
    let looked : is_some (get (current_tree now) (staged plan)) ≡ true = search rules in
    ran_left (way_before steps fs began) began now (way_back steps fs 0 now) (left_planned steps fs began now same looked) new (T.before_failed c.args.tree.now) (T.before_failed c.stands.new.tree) (T.before_failed c.back_from.new.tree) c.back_from.result kept
    (c.back_from.ensures.ran tells)

pub returns-else-branch-clause-ran : goal.returns-else-branch-clause-ran
returns-else-branch-clause-ran g c tells =
    let T = g.T.Tree in
    let steps = c.args.prepared.now.steps in
    let fs = c.args.prepared.now.fresh.items in
    let began = T.history c.args.tree.now in
    let now = T.history c.stands.new.tree in
    let new = T.history c.unstage_standing.new.tree in
    let same : now ≡ began = search rules in
    let kept : T.before_failed c.stands.new.tree ≡ T.before_failed c.args.tree.now = search rules in
    let looked : is_some (get (current_tree now) (staged plan)) ≡ false = search rules in
    ran_left (way_before steps fs began) began now (unstaging (length fs) (current_tree now)) (left_unplanned steps fs began now same looked) new (T.before_failed c.args.tree.now) (T.before_failed c.stands.new.tree) (T.before_failed c.unstage_standing.new.tree) c.unstage_standing.result kept
    (c.unstage_standing.ensures.ran tells)
