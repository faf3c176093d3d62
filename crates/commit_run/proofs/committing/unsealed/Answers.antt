use Rattle.std.proofs.Common.{◌≡◌, true, false, is_some, length, sym, subst, rules}
use Rattle.std.specs.FinMap.{get}
use Rattle.commit_run.specs.Begun.{EndsFromSeal}
use Rattle.commit_run.specs.WayBack.{way_back}
use Rattle.commit_run.proofs.StandLemmas.{blind_ends, sealed_ends, unsealed_can, unsealed_ends}
use Rattle.commit_steps.specs.Staging.{staged, sealed}
use Rattle.step_looks.specs.Undoing.{RanOrLooked}
use Rattle.step_trees.specs.Groups.{groups}
use Rattle.tree_core.specs.History.{current_tree}
use Rattle.tree_core.specs.Runs.{CanAll}
use Rattle.commit_run.proofs.committing.unsealed.Goals as goal

pub returns-in-Ok-true-clause-ends : goal.returns-in-Ok-true-clause-ends
returns-in-Ok-true-clause-ends g c tells =
    let T = g.T.Tree in
    let p = c.args.prepared.now in
    let last = T.history c.args.tree.now in
    let mid = T.history c.stands.new.tree in
    let before = T.before_failed c.args.tree.now in
    let between = T.before_failed c.stands.new.tree in
    let same : mid ≡ last = search rules in
    let kept : between ≡ before = search rules in
    let there : is_some (get (current_tree mid) (staged sealed)) ≡ true = search rules in
    sealed_ends p c.requires.prepared last mid before between c.args.first same kept there

pub back_from-requires-clause-can : goal.back_from-requires-clause-can
back_from-requires-clause-can g c tells =
    let T = g.T.Tree in
    let p = c.args.prepared.now in
    let last = T.history c.args.tree.now in
    let mid = T.history c.stands.new.tree in
    let before = T.before_failed c.args.tree.now in
    let between = T.before_failed c.stands.new.tree in
    let same : mid ≡ last = search rules in
    let kept : between ≡ before = search rules in
    let none : is_some (get (current_tree mid) (staged sealed)) ≡ false = search rules in
    let cut : c.last_cut.result ≡ length (groups p.steps) = search rules in
    subst (λ n. CanAll (way_back p.steps p.fresh.items n mid) mid) (sym cut)
    (unsealed_can p c.requires.prepared last mid before between c.args.first same kept none (c.requires.begun tells))

pub returns-in-Ok-false-clause-ends : goal.returns-in-Ok-false-clause-ends
returns-in-Ok-false-clause-ends g c tells =
    let T = g.T.Tree in
    let p = c.args.prepared.now in
    let last = T.history c.args.tree.now in
    let mid = T.history c.stands.new.tree in
    let now = T.history c.back_from.new.tree in
    let before = T.before_failed c.args.tree.now in
    let between = T.before_failed c.stands.new.tree in
    let after = T.before_failed c.back_from.new.tree in
    let same : mid ≡ last = search rules in
    let kept : between ≡ before = search rules in
    let none : is_some (get (current_tree mid) (staged sealed)) ≡ false = search rules in
    let cut : c.last_cut.result ≡ length (groups p.steps) = search rules in
    let ran = subst (λ n. RanOrLooked (way_back p.steps p.fresh.items n mid) mid now between after c.back_from.result) cut (c.back_from.ensures.ran tells) in
    subst (EndsFromSeal p c.args.first last before now after) (sym c.ended.ensures.end)
    (unsealed_ends p c.requires.prepared last mid before between c.args.first same kept none now after c.back_from.result (g.met.T.Tree.is_sound c.back_from.new.tree tells) ran)

pub returns-in-Err-clause-ends : goal.returns-in-Err-clause-ends
returns-in-Err-clause-ends g c tells =
    let T = g.T.Tree in
    let p = c.args.prepared.now in
    let last = T.history c.args.tree.now in
    let mid = T.history c.stands.new.tree in
    let before = T.before_failed c.args.tree.now in
    let same : mid ≡ last = search rules in
    blind_ends p c.requires.prepared last mid before (T.before_failed c.stands.new.tree) c.args.first c.in-Err.second same (g.met.T.Tree.is_sound c.stands.new.tree tells)
