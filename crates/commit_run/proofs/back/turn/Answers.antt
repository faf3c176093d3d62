use Rattle.std.proofs.Common.{◌≡◌, [], ◌∷◌, refl, sym, ◌∙◌, ap, rules, Err, inl}
use Rattle.commit_run.specs.WayBack.{at_cut, back_at_cut, turn_cut, turned_marker}
use Rattle.commit_run.proofs.MarkedLemmas.{turned_is}
use Rattle.commit_run.proofs.RestLemmas.{ended_left, ended_look, ran_ended, rest_all, rest_as, rest_can}
use Rattle.tree_core.specs.declared.node.Change.TheVariants as call
use Rattle.tree_core.specs.History.{History, current_tree}
use Rattle.tree_core.specs.Runs.{then_all}
use Rattle.commit_run.proofs.back.turn.Goals as goal

pub returns-in_err-from-clause-ran : goal.returns-in_err-from-clause-ran
returns-in_err-from-clause-ran g c tells =
    let T = g.T.Tree in
    let began = T.history c.args.tree.now in
    let new = T.history c.turning_cut.new.tree in
    let all = turned_marker c.args.prepared.now.steps c.args.cut (current_tree began) in
    let same : new ≡ began = search rules in
    let tree : T.before_failed c.turning_cut.new.tree ≡ current_tree began = search rules in
    let is : c.from_residual.result ≡ Err c.in_err-from.field-0.0 = search rules in
    ran_ended all began new (T.before_failed c.args.tree.now) (T.before_failed c.turning_cut.new.tree) c.from_residual.result c.in_err-from.field-0.0 is
    (ended_look all began began all (rest_all all began began refl) new (T.before_failed c.turning_cut.new.tree) c.in_err-from.field-0.0 same tree)

pub rename_and_sync-requires : goal.rename_and_sync-requires
rename_and_sync-requires g c = record {
  can = λ tells.
      let T = g.T.Tree in
      let steps = c.args.prepared.now.steps in
      let began = T.history c.args.tree.now in
      let mid = T.history c.turning_cut.new.tree in
      let all = turned_marker steps c.args.cut (current_tree began) in
      let same : mid ≡ began = search rules in
      let from : c.at_marker.result.now ≡ at_cut steps c.args.cut = search rules in
      let to : c.back_marker.result.now ≡ back_at_cut steps c.in_ok-from.from = search rules in
      let j : c.in_ok-from.from ≡ turn_cut steps c.args.cut (current_tree began) = search rules in
      let calls = turned_is steps c.args.cut (current_tree began) c.in_ok-from.from c.at_marker.result.now c.back_marker.result.now from to j in
      rest_can all began mid (call.Rename c.at_marker.result.now c.back_marker.result.now ∷ call.Sync ∷ []) (c.requires.can tells)
      (rest_as all began mid all (call.Rename c.at_marker.result.now c.back_marker.result.now ∷ call.Sync ∷ []) (rest_all all began mid same) calls);
}

pub returns-in_err-rename_and_sync-clause-ran : goal.returns-in_err-rename_and_sync-clause-ran
returns-in_err-rename_and_sync-clause-ran g c tells =
    let T = g.T.Tree in
    let steps = c.args.prepared.now.steps in
    let began = T.history c.args.tree.now in
    let mid = T.history c.turning_cut.new.tree in
    let new = T.history c.rename_and_sync.new.tree in
    let all = turned_marker steps c.args.cut (current_tree began) in
    let made = call.Rename c.at_marker.result.now c.back_marker.result.now ∷ call.Sync ∷ [] in
    let same : mid ≡ began = search rules in
    let from : c.at_marker.result.now ≡ at_cut steps c.args.cut = search rules in
    let to : c.back_marker.result.now ≡ back_at_cut steps c.in_ok-from.from = search rules in
    let j : c.in_ok-from.from ≡ turn_cut steps c.args.cut (current_tree began) = search rules in
    let calls : all ≡ made = turned_is steps c.args.cut (current_tree began) c.in_ok-from.from c.at_marker.result.now c.back_marker.result.now from to j in
    let first = c.in_err-rename_and_sync.field-0.0 in
    let is : c.from_residual-in_err-rename_and_sync.result ≡ Err first = search rules in
    ran_ended all began new (T.before_failed c.args.tree.now) (T.before_failed c.rename_and_sync.new.tree) c.from_residual-in_err-rename_and_sync.result first is
    (ended_left all began mid made (rest_as all began mid all made (rest_all all began mid same) calls) new (T.before_failed c.rename_and_sync.new.tree) first (inl (c.in_err-rename_and_sync.ensures.ran tells)))

pub returns-clause-ran : goal.returns-clause-ran
returns-clause-ran g c tells =
    let T = g.T.Tree in
    let steps = c.args.prepared.now.steps in
    let began = T.history c.args.tree.now in
    let mid = T.history c.turning_cut.new.tree in
    let all = turned_marker steps c.args.cut (current_tree began) in
    let made = call.Rename c.at_marker.result.now c.back_marker.result.now ∷ call.Sync ∷ [] in
    let same : mid ≡ began = search rules in
    let kept : T.before_failed c.turning_cut.new.tree ≡ T.before_failed c.args.tree.now = search rules in
    let from : c.at_marker.result.now ≡ at_cut steps c.args.cut = search rules in
    let to : c.back_marker.result.now ≡ back_at_cut steps c.in_ok-from.from = search rules in
    let j : c.in_ok-from.from ≡ turn_cut steps c.args.cut (current_tree began) = search rules in
    let calls : all ≡ made = turned_is steps c.args.cut (current_tree began) c.in_ok-from.from c.at_marker.result.now c.back_marker.result.now from to j in
    let done = c.in_ok-rename_and_sync.ensures.ran tells in
    (done.0 ∙ ap (then_all mid) (sym calls) ∙ ap (λ (h : History). then_all h all) same, done.1 ∙ kept)
