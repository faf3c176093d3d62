use Rattle.std.proofs.Common.{◌≡◌, Some, refl, ap, ◌∙◌}
use Rattle.std.specs.List.{slice_get}
use Rattle.std.proofs.lemmas.Option.{slice_get_read}
use Rattle.commit_plan.specs.declared.changes.Stand.{Stand}
use Rattle.commit_plan.specs.declared.changes.Stand.TheVariants.{Waits}
use Rattle.commit_plan.specs.declared.changes.Change.{Change}
use Rattle.commit_plan.specs.Stands.{change}
use Rattle.commit_plan.proofs.BlockLemmas.{blocks, unblocked}
use Rattle.commit_plan.proofs.ReadyLemmas.{spelled_at}
use Rattle.commit_plan.proofs.board.look_at.Goals as goal

pub returns-in-Some : goal.returns-in-Some
returns-in-Some c =
    let cs = c.args.changes.now in
    let x = c.index-changes-i.result in
    let here : slice_get cs c.args.i ≡ Some x = slice_get_read cs _ c.args.i x refl c.requires.within c.index-changes-i.is in
    let w = change x.row (Waits c.in-Waits.away c.in-Waits.at c.in-Waits.to) in
    let stand : x.stand ≡ Waits c.in-Waits.away c.in-Waits.at c.in-Waits.to = ap (λ (y : Change). y.stand) c.index-changes-i.is ∙ c.in-Waits.is in
    let is : slice_get cs c.args.i ≡ Some w = here ∙ ap (λ (s : Stand). Some (change x.row s)) stand in
    let sp = spelled_at cs c.args.i w c.requires.spelled is in
    let b = c.in-Some.ensures.some in
    (b.0, w, b.1, is, blocks b.0 x.row c.in-Waits.away c.in-Waits.at c.in-Waits.to sp b.2)

pub returns-in-None : goal.returns-in-None
returns-in-None c =
    let cs = c.args.changes.now in
    let x = c.index-changes-i.result in
    let here : slice_get cs c.args.i ≡ Some x = slice_get_read cs _ c.args.i x refl c.requires.within c.index-changes-i.is in
    let w = change x.row (Waits c.in-Waits.away c.in-Waits.at c.in-Waits.to) in
    let stand : x.stand ≡ Waits c.in-Waits.away c.in-Waits.at c.in-Waits.to = ap (λ (y : Change). y.stand) c.index-changes-i.is ∙ c.in-Waits.is in
    let is : slice_get cs c.args.i ≡ Some w = here ∙ ap (λ (s : Stand). Some (change x.row s)) stand in
    let sp = spelled_at cs c.args.i w c.requires.spelled is in
    unblocked cs c.args.i x.row c.in-Waits.away c.in-Waits.at c.in-Waits.to sp is c.in-None.ensures.none
