use Rattle.std.proofs.Common.{◌≡◌, List, Some, arith, refl, sym, subst}
use Rattle.std.proofs.lemmas.Option.{slice_get_within}
use Rattle.std.specs.List.{slice_get}
use Rattle.edit_words.specs.declared.row.Row.{Row}
use Rattle.commit_plan.specs.declared.changes.Change.{Change}
use Rattle.commit_plan.specs.declared.changes.Stand.TheVariants.{Left}
use Rattle.commit_plan.specs.Stands.{change}
use Rattle.commit_plan.specs.Boards.{BlocksAt, HasKeepers}
use Rattle.commit_plan.proofs.RunLemmas.{sound_carried, sound_noted}
use Rattle.commit_plan.proofs.TurnLemmas.{turns_carried_out, turns_done, turns_noted}
use Rattle.commit_plan.proofs.board.Board.settle.Goals as goal

pub look_at-requires-clause-keepers : goal.look_at-requires-clause-keepers
look_at-requires-clause-keepers c = subst (λ (l : List Change). HasKeepers l c.args.self.now.keepers) (sym c.deref.ensures.value) c.requires.sound.keepers

pub note-requires : goal.note-requires
note-requires c =
    let cs = c.args.self.now.changes.items in
    let j = c.in-Awaits.j in
    let blocks = subst (λ (l : List Change). BlocksAt l j c.args.i) c.deref.ensures.value c.in-Awaits.ensures in
    let w = slice_get_within cs j blocks.0 blocks.2 in
    omega (arith, w, c.requires.sound.sized)

pub returns-in-Done-clause-turns : goal.returns-in-Done-clause-turns
returns-in-Done-clause-turns c = λ rest turns.
    let done = subst (λ (l : List Change). (r : Row) × (slice_get l c.args.i ≡ Some (change r Left))) c.deref.ensures.value c.in-Done.ensures in
    turns_done c.args.self.now c.args.i done.0 rest done.1 turns

pub returns-in_ok-note-in-Awaits-clause-sound : goal.returns-in_ok-note-in-Awaits-clause-sound
returns-in_ok-note-in-Awaits-clause-sound c = sound_noted c.args.self.now _ c.args.i c.in-Awaits.j c.requires.sound refl refl refl c.in_ok-note-in-Awaits.ensures c.requires.within

pub returns-in_ok-note-in-Awaits-clause-turns : goal.returns-in_ok-note-in-Awaits-clause-turns
returns-in_ok-note-in-Awaits-clause-turns c = λ rest turns.
    let blocks = subst (λ (l : List Change). BlocksAt l c.in-Awaits.j c.args.i) c.deref.ensures.value c.in-Awaits.ensures in
    turns_noted c.args.self.now _ c.args.i c.in-Awaits.j rest refl refl c.in_ok-note-in-Awaits.ensures blocks turns

pub returns-in_ok-release-in-Free-clause-sound : goal.returns-in_ok-release-in-Free-clause-sound
returns-in_ok-release-in-Free-clause-sound c =
    sound_carried c.args.self.now _ c.args.i c.carry-step.result c.index.result.now c.requires.sound c.carry-step.ensures c.index.ensures c.drop_departing.ensures c.in_ok-release-in-Free.ensures

pub returns-in_ok-release-in-Free-clause-turns : goal.returns-in_ok-release-in-Free-clause-turns
returns-in_ok-release-in-Free-clause-turns c = λ rest turns.
    turns_carried_out c.args.self.now _ c.args.i c.carry-step.result rest c.carry-step.ensures c.in_ok-release-in-Free.ensures turns
