use Rattle.std.proofs.Common.{◌≡◌, ◌<◌, ◌≤◌, Some, length, arith, refl}
use Rattle.std.specs.List.{slice_get}
use Rattle.std.proofs.lemmas.Option.{slice_get_read}
use Rattle.commit_plan.proofs.KeeperLemmas.{keepers_all, keepers_noted}
use Rattle.commit_plan.proofs.keepers.keepers_of.Goals as goal

pub loop-i-preserved : goal.loop-i-preserved
loop-i-preserved c =
    let cs = c.args.changes.now in
    let i = c.loop-i.i in
    let within : i < length cs = omega (arith, c.loop-i-test.true) in
    let here : slice_get cs i ≡ Some c.index-changes-i.result = slice_get_read cs _ i c.index-changes-i.result refl within c.index-changes-i.is in
    keepers_noted cs i c.index-changes-i.result c.loop-i.keepers c.note_keeper.new.keepers here c.requires c.loop-i.invariant c.in_ok-note_keeper.ensures

pub returns : goal.returns
returns c =
    let past : length c.args.changes.now ≤ c.loop-i.i = omega (arith, c.loop-i-test.false) in
    keepers_all c.args.changes.now c.loop-i.i c.loop-i.keepers past c.loop-i.invariant
