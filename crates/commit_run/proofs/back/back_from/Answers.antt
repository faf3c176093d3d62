use Rattle.std.proofs.Common.{◌≡◌, [], ◌∷◌, refl, ◌∙◌, rules, Err, inl}
use Rattle.commit_run.specs.WayBack.{marked_cut, way_back, way_from}
use Rattle.commit_run.proofs.BackRunLemmas.{behind_look, behind_sync}
use Rattle.commit_run.proofs.RestLemmas.{ended_first, ended_look, ran_ended, ran_left, rest_all, rest_can}
use Rattle.tree_core.specs.declared.node.Change.TheVariants as call
use Rattle.tree_core.specs.History.{Then, current_tree}
use Rattle.commit_run.proofs.back.back_from.Goals as goal

pub returns-in_err-sync-clause-ran : goal.returns-in_err-sync-clause-ran
returns-in_err-sync-clause-ran g c tells =
    let T = g.T.Tree in
    let steps = c.args.prepared.now.steps in
    let fs = c.args.prepared.now.fresh.items in
    let began = T.history c.args.tree.now in
    let all = way_back steps fs c.args.group began in
    let first = c.in_err-sync.field-0.0 in
    let is : c.from_residual.result ≡ Err first = search rules in
    ran_ended all began (T.history c.sync.new.tree) (T.before_failed c.args.tree.now) (T.before_failed c.sync.new.tree) c.from_residual.result first is
    (ended_first all began began (call.Sync ∷ []) (way_from steps fs (marked_cut steps c.args.group (current_tree began)) (Then began call.Sync)) (rest_all all began began refl)
    (T.history c.sync.new.tree) (T.before_failed c.sync.new.tree) first (inl (c.in_err-sync.ensures.ran tells)))

pub returns-in_err-cut-clause-ran : goal.returns-in_err-cut-clause-ran
returns-in_err-cut-clause-ran g c tells =
    let T = g.T.Tree in
    let steps = c.args.prepared.now.steps in
    let fs = c.args.prepared.now.fresh.items in
    let began = T.history c.args.tree.now in
    let mid = T.history c.sync.new.tree in
    let new = T.history c.marker_of.new.tree in
    let all = way_back steps fs c.args.group began in
    let first = c.in_err-cut.field-0.0 in
    let is : c.from_residual-in_err-cut.result ≡ Err first = search rules in
    let same : new ≡ mid = search rules in
    let tree : T.before_failed c.marker_of.new.tree ≡ current_tree mid = search rules in
    ran_ended all began new (T.before_failed c.args.tree.now) (T.before_failed c.marker_of.new.tree) c.from_residual-in_err-cut.result first is
    (ended_look all began mid (way_from steps fs (marked_cut steps c.args.group (current_tree began)) (Then began call.Sync))
    (behind_sync steps fs c.args.group began mid (c.in_ok-sync.ensures.ran tells).0) new (T.before_failed c.marker_of.new.tree) first same tree)

pub back_from_cut-requires-clause-can : goal.back_from_cut-requires-clause-can
back_from_cut-requires-clause-can g c tells =
    let T = g.T.Tree in
    let steps = c.args.prepared.now.steps in
    let fs = c.args.prepared.now.fresh.items in
    let began = T.history c.args.tree.now in
    let mid = T.history c.sync.new.tree in
    let now = T.history c.marker_of.new.tree in
    let same : now ≡ mid = search rules in
    let cut : c.in_ok-cut.cut ≡ marked_cut steps c.args.group (current_tree mid) = search rules in
    rest_can (way_back steps fs c.args.group began) began now (way_from steps fs c.in_ok-cut.cut now) (c.requires.can tells)
    (behind_look steps fs c.args.group began mid (c.in_ok-sync.ensures.ran tells).0 now c.in_ok-cut.cut same cut)

pub returns-clause-ran : goal.returns-clause-ran
returns-clause-ran g c tells =
    let T = g.T.Tree in
    let steps = c.args.prepared.now.steps in
    let fs = c.args.prepared.now.fresh.items in
    let began = T.history c.args.tree.now in
    let mid = T.history c.sync.new.tree in
    let now = T.history c.marker_of.new.tree in
    let same : now ≡ mid = search rules in
    let cut : c.in_ok-cut.cut ≡ marked_cut steps c.args.group (current_tree mid) = search rules in
    let looked : T.before_failed c.marker_of.new.tree ≡ T.before_failed c.sync.new.tree = search rules in
    ran_left (way_back steps fs c.args.group began) began now (way_from steps fs c.in_ok-cut.cut now)
    (behind_look steps fs c.args.group began mid (c.in_ok-sync.ensures.ran tells).0 now c.in_ok-cut.cut same cut)
    (T.history c.back_from_cut.new.tree) (T.before_failed c.args.tree.now) (T.before_failed c.marker_of.new.tree) (T.before_failed c.back_from_cut.new.tree) c.back_from_cut.result
    (looked ∙ (c.in_ok-sync.ensures.ran tells).1) (c.back_from_cut.ensures.ran tells)
