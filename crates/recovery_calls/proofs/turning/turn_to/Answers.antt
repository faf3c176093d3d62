use Rattle.std.proofs.Common.{◌≡◌, ◌-◌, ◌∙◌, List, [], ◌∷◌, length, sym, ap, subst, rules, arith, Err}
use Rattle.commit_states.specs.Calls.{turn_calls}
use Rattle.commit_steps.specs.Staging.{back_marker, staged}
use Rattle.dired_text.specs.Paths.{Names}
use Rattle.recovery_calls.specs.Works.{IsMarked, entries_of, parts_left}
use Rattle.recovery_calls.proofs.CourseLemmas.{follows_last}
use Rattle.recovery_calls.proofs.SpanLemmas.{left_last, left_many, left_markers}
use Rattle.recovery_calls.proofs.TurnLemmas.{can_turn, turn_failed, turn_goes_on, turned_there}
use Rattle.recovery_courses.specs.Parts.{turned_at, undone_parts}
use Rattle.tree_core.specs.declared.node.Change.{Change}
use Rattle.tree_core.specs.declared.node.Change.TheVariants as call
use Rattle.tree_core.specs.History.{History}
use Rattle.tree_core.specs.Runs.{CanAll, FailedIn, then_all}
use Rattle.recovery_calls.proofs.turning.turn_to.Goals as goal

pub parts-requires : goal.parts-requires
parts-requires g c = let many = left_many c.args.work.now c.args.way.now c.requires.work c.requires.way in
    omega arith

pub marker-requires : goal.marker-requires
marker-requires g c = let many = left_many c.args.work.now c.args.way.now c.requires.work c.requires.way in
    let markers = left_markers c.args.work.now c.args.way.now c.requires.work c.requires.way in
    let parts : c.parts.result ≡ length c.args.way.now.places.items - 1 = c.parts.ensures in
    omega arith

pub rename_and_sync-requires : goal.rename_and_sync-requires
rename_and_sync-requires g c = record {
  can = λ tells.
      let T = g.T.Tree in
      let work = c.args.work.now in
      let way = c.args.way.now in
      let m = c.args.from in
      let j = way.from in
      let began = T.history c.args.tree.now in
      let first = T.before_failed c.args.tree.now in
      let small = c.requires.small in
      let to : c.marker.result.now ≡ staged (back_marker c.args.way.now.from) = c.marker.ensures ∙ left_last work way c.requires.work c.requires.way c.parts.result c.parts.ensures in
      let calls : turn_calls c.args.from c.args.way.now.from ≡ call.Rename c.args.marker.now c.marker.result.now ∷ call.Sync ∷ [] =
      ap (λ (p : Names). call.Rename p (staged (back_marker j)) ∷ call.Sync ∷ []) (sym c.requires.marker) ∙ ap (λ (p : Names). call.Rename c.args.marker.now p ∷ call.Sync ∷ []) (sym to) in
      subst (λ (l : List Change). CanAll l began) calls (can_turn (entries_of work) m j small began (c.requires.marked tells));
}

pub returns-in_err-rename_and_sync-clause-follows : goal.returns-in_err-rename_and_sync-clause-follows
returns-in_err-rename_and_sync-clause-follows g c tells = let T = g.T.Tree in
    let work = c.args.work.now in
    let way = c.args.way.now in
    let m = c.args.from in
    let j = way.from in
    let began = T.history c.args.tree.now in
    let first = T.before_failed c.args.tree.now in
    let small = c.requires.small in
    let to : c.marker.result.now ≡ staged (back_marker c.args.way.now.from) = c.marker.ensures ∙ left_last work way c.requires.work c.requires.way c.parts.result c.parts.ensures in
    let calls : turn_calls c.args.from c.args.way.now.from ≡ call.Rename c.args.marker.now c.marker.result.now ∷ call.Sync ∷ [] =
    ap (λ (p : Names). call.Rename p (staged (back_marker j)) ∷ call.Sync ∷ []) (sym c.requires.marker) ∙ ap (λ (p : Names). call.Rename c.args.marker.now p ∷ call.Sync ∷ []) (sym to) in
    let new = T.history c.rename_and_sync.new.tree in
    let behind = T.before_failed c.rename_and_sync.new.tree in
    let e = c.in_err-rename_and_sync.field-0.0 in
    let is : c.from_residual.result ≡ Err e = search rules in
    let failed = subst (λ (l : List Change). FailedIn l began new behind e) (sym calls) (c.in_err-rename_and_sync.ensures.ran tells) in
    turn_failed work.steps m j began new first behind c.from_residual.result e is failed

pub returns-in_err-rename_and_sync-clause-marked : goal.returns-in_err-rename_and_sync-clause-marked
returns-in_err-rename_and_sync-clause-marked g c = search rules

pub returns-in_err-rename_and_sync-clause-cause : goal.returns-in_err-rename_and_sync-clause-cause
returns-in_err-rename_and_sync-clause-cause g c = search rules

pub undo_parts-requires-clause-work : goal.undo_parts-requires-clause-work
undo_parts-requires-clause-work g c = c.requires.work

pub undo_parts-requires-clause-way : goal.undo_parts-requires-clause-way
undo_parts-requires-clause-way g c = c.requires.way

pub undo_parts-requires-clause-marked : goal.undo_parts-requires-clause-marked
undo_parts-requires-clause-marked g c tells = let T = g.T.Tree in
    let work = c.args.work.now in
    let way = c.args.way.now in
    let m = c.args.from in
    let j = way.from in
    let began = T.history c.args.tree.now in
    let first = T.before_failed c.args.tree.now in
    let small = c.requires.small in
    let to : c.marker.result.now ≡ staged (back_marker c.args.way.now.from) = c.marker.ensures ∙ left_last work way c.requires.work c.requires.way c.parts.result c.parts.ensures in
    let calls : turn_calls c.args.from c.args.way.now.from ≡ call.Rename c.args.marker.now c.marker.result.now ∷ call.Sync ∷ [] =
    ap (λ (p : Names). call.Rename p (staged (back_marker j)) ∷ call.Sync ∷ []) (sym c.requires.marker) ∙ ap (λ (p : Names). call.Rename c.args.marker.now p ∷ call.Sync ∷ []) (sym to) in
    let mid = T.history c.rename_and_sync.new.tree in
    let middle = T.before_failed c.rename_and_sync.new.tree in
    let ran = c.in_ok-rename_and_sync.ensures.ran tells in
    let is : mid ≡ then_all began (turn_calls m j) = ran.0 ∙ ap (then_all began) (sym calls) in
    subst (λ (h : History). IsMarked (back_marker j) work h) (sym is) (turned_there (entries_of work) m j small began (c.requires.marked tells) (g.met.T.Tree.is_sound c.args.tree.now tells))

pub returns-clause-follows : goal.returns-clause-follows
returns-clause-follows g c tells = let T = g.T.Tree in
    let work = c.args.work.now in
    let way = c.args.way.now in
    let m = c.args.from in
    let j = way.from in
    let began = T.history c.args.tree.now in
    let first = T.before_failed c.args.tree.now in
    let small = c.requires.small in
    let to : c.marker.result.now ≡ staged (back_marker c.args.way.now.from) = c.marker.ensures ∙ left_last work way c.requires.work c.requires.way c.parts.result c.parts.ensures in
    let calls : turn_calls c.args.from c.args.way.now.from ≡ call.Rename c.args.marker.now c.marker.result.now ∷ call.Sync ∷ [] =
    ap (λ (p : Names). call.Rename p (staged (back_marker j)) ∷ call.Sync ∷ []) (sym c.requires.marker) ∙ ap (λ (p : Names). call.Rename c.args.marker.now p ∷ call.Sync ∷ []) (sym to) in
    let mid = T.history c.rename_and_sync.new.tree in
    let middle = T.before_failed c.rename_and_sync.new.tree in
    let ran = c.in_ok-rename_and_sync.ensures.ran tells in
    let is : mid ≡ then_all began (turn_calls m j) = ran.0 ∙ ap (then_all began) (sym calls) in
    let new = T.history c.undo_parts.new.tree in
    let behind = T.before_failed c.undo_parts.new.tree in
    follows_last (turned_at work.steps m j began) began mid new first middle behind (undone_parts 0 (parts_left work way) mid)
    (turn_goes_on work.steps m j began c.requires.way.within mid is) ran.1 c.undo_parts.result (c.undo_parts.ensures.follows tells)

pub returns-clause-marked : goal.returns-clause-marked
returns-clause-marked g c tells = c.undo_parts.ensures.marked tells

pub returns-clause-cause : goal.returns-clause-cause
returns-clause-cause g c = search rules
