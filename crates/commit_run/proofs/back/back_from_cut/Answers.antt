use Rattle.std.proofs.Common.{◌≡◌, ◌++◌, List, refl, sym, ◌∙◌, subst, rules, Err}
use Rattle.commit_run.specs.WayBack.{turn_cut, turned_marker, undone_groups, way_from}
use Rattle.commit_run.proofs.RestLemmas.{ended_first, ran_ended, ran_left, ran_looked, rest_all, rest_can, rest_can_first}
use Rattle.commit_run.proofs.BackRunLemmas.{behind_groups, behind_turn}
use Rattle.commit_states.specs.Calls.{end_calls}
use Rattle.tree_core.specs.declared.changes.Fresh.{Fresh}
use Rattle.tree_core.specs.History.{current_tree}
use Rattle.tree_core.specs.Runs.{CanAll, Ran, then_all}
use Rattle.commit_run.proofs.back.back_from_cut.Goals as goal

pub turn-requires-clause-can : goal.turn-requires-clause-can
turn-requires-clause-can g c tells =
    let T = g.T.Tree in
    let steps = c.args.prepared.now.steps in
    let fs = c.args.prepared.now.fresh.items in
    let began = T.history c.args.tree.now in
    let all = way_from steps fs c.args.cut began in
    let turn = turned_marker steps c.args.cut (current_tree began) in
    let more = undone_groups steps (turn_cut steps c.args.cut (current_tree began)) (then_all began turn) ++ end_calls fs in
    rest_can_first all began began turn more (c.requires.can tells) (rest_all all began began refl)

pub returns-in_err-from-clause-ran : goal.returns-in_err-from-clause-ran
returns-in_err-from-clause-ran g c tells =
    let T = g.T.Tree in
    let steps = c.args.prepared.now.steps in
    let fs = c.args.prepared.now.fresh.items in
    let began = T.history c.args.tree.now in
    let all = way_from steps fs c.args.cut began in
    let turn = turned_marker steps c.args.cut (current_tree began) in
    let more = undone_groups steps (turn_cut steps c.args.cut (current_tree began)) (then_all began turn) ++ end_calls fs in
    let first = c.in_err-from.field-0.0 in
    let is : c.from_residual.result ≡ Err first = search rules in
    ran_ended all began (T.history c.turn.new.tree) (T.before_failed c.args.tree.now) (T.before_failed c.turn.new.tree) c.from_residual.result first is
    (ended_first all began began turn more (rest_all all began began refl) (T.history c.turn.new.tree) (T.before_failed c.turn.new.tree) first (c.in_err-from.ensures.ran tells))

pub undo_groups-requires-clause-can : goal.undo_groups-requires-clause-can
undo_groups-requires-clause-can g c tells =
    let T = g.T.Tree in
    let steps = c.args.prepared.now.steps in
    let fs = c.args.prepared.now.fresh.items in
    let began = T.history c.args.tree.now in
    let mid = T.history c.turn.new.tree in
    let all = way_from steps fs c.args.cut began in
    let from : c.in_ok-from.from ≡ turn_cut steps c.args.cut (current_tree began) = search rules in
    rest_can_first all began mid (undone_groups steps c.in_ok-from.from mid) (end_calls fs) (c.requires.can tells)
    (behind_turn steps fs c.args.cut c.in_ok-from.from began mid from (c.in_ok-from.ensures.ran tells).0)

pub returns-in_err-undo_groups-clause-ran : goal.returns-in_err-undo_groups-clause-ran
returns-in_err-undo_groups-clause-ran g c tells =
    let T = g.T.Tree in
    let steps = c.args.prepared.now.steps in
    let fs = c.args.prepared.now.fresh.items in
    let began = T.history c.args.tree.now in
    let mid = T.history c.turn.new.tree in
    let all = way_from steps fs c.args.cut began in
    let from : c.in_ok-from.from ≡ turn_cut steps c.args.cut (current_tree began) = search rules in
    let first = c.in_err-undo_groups.field-0.0 in
    let is : c.from_residual-in_err-undo_groups.result ≡ Err first = search rules in
    ran_ended all began (T.history c.undo_groups.new.tree) (T.before_failed c.args.tree.now) (T.before_failed c.undo_groups.new.tree) c.from_residual-in_err-undo_groups.result first is
    (ended_first all began mid (undone_groups steps c.in_ok-from.from mid) (end_calls fs)
    (behind_turn steps fs c.args.cut c.in_ok-from.from began mid from (c.in_ok-from.ensures.ran tells).0)
    (T.history c.undo_groups.new.tree) (T.before_failed c.undo_groups.new.tree) first (c.in_err-undo_groups.ensures.ran tells))

pub end_back-requires-clause-can : goal.end_back-requires-clause-can
end_back-requires-clause-can g c tells =
    let T = g.T.Tree in
    let steps = c.args.prepared.now.steps in
    let fs = c.args.prepared.now.fresh.items in
    let began = T.history c.args.tree.now in
    let mid = T.history c.turn.new.tree in
    let now = T.history c.undo_groups.new.tree in
    let all = way_from steps fs c.args.cut began in
    let from : c.in_ok-from.from ≡ turn_cut steps c.args.cut (current_tree began) = search rules in
    let same : c.deref.result.now ≡ fs = search rules in
    subst (λ (l : List Fresh). CanAll (end_calls l) now) (sym same)
    (rest_can all began now (end_calls fs) (c.requires.can tells)
    (behind_groups steps fs c.args.cut c.in_ok-from.from began mid from (c.in_ok-from.ensures.ran tells).0 now (c.in_ok-undo_groups.ensures.ran tells).0))

pub returns-clause-ran : goal.returns-clause-ran
returns-clause-ran g c tells =
    let T = g.T.Tree in
    let steps = c.args.prepared.now.steps in
    let fs = c.args.prepared.now.fresh.items in
    let began = T.history c.args.tree.now in
    let mid = T.history c.turn.new.tree in
    let now = T.history c.undo_groups.new.tree in
    let all = way_from steps fs c.args.cut began in
    let from : c.in_ok-from.from ≡ turn_cut steps c.args.cut (current_tree began) = search rules in
    let kept : T.before_failed c.undo_groups.new.tree ≡ T.before_failed c.args.tree.now = (c.in_ok-undo_groups.ensures.ran tells).1 ∙ (c.in_ok-from.ensures.ran tells).1 in
    let same : c.deref.result.now ≡ fs = search rules in
    let ended = ran_looked (end_calls fs) now (T.history c.end_back.new.tree) (T.before_failed c.undo_groups.new.tree) (T.before_failed c.end_back.new.tree) c.end_back.result
    (subst (λ (l : List Fresh). Ran (end_calls l) now (T.history c.end_back.new.tree) (T.before_failed c.undo_groups.new.tree) (T.before_failed c.end_back.new.tree) c.end_back.result) same (c.end_back.ensures.ran tells)) in
    ran_left all began now (end_calls fs)
    (behind_groups steps fs c.args.cut c.in_ok-from.from began mid from (c.in_ok-from.ensures.ran tells).0 now (c.in_ok-undo_groups.ensures.ran tells).0)
    (T.history c.end_back.new.tree) (T.before_failed c.args.tree.now) (T.before_failed c.undo_groups.new.tree) (T.before_failed c.end_back.new.tree) c.end_back.result kept ended
