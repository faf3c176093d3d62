use Rattle.std.proofs.Common.{sym, ◌∙◌, ap, subst, take, ◌+◌}
use Rattle.mem_tree.specs.declared.store.Store.{Store}
use Rattle.mem_tree.specs.Choices.{takes}
use Rattle.mem_tree.specs.Images.{Replays, picked, stand_in}
use Rattle.mem_tree.proofs.ReplayLemmas.{replays-taken, replays-left_out, replay-tree, replay-new}
use Rattle.mem_tree.proofs.replay.replay.Goals.{then-takes+in_ok-replay_call, else-takes}
use Rattle.mem_tree.proofs.replay.replay.Goals as goal

pub replay_call-requires-clause-tree : goal.replay_call-requires-clause-tree
replay_call-requires-clause-tree c =
    replay-tree (takes c.args.choice) c.args.calls.now c.loop-place.place c.index-calls-place.result c.loop-place-test.true c.index-calls-place.is (stand_in c.args.base.now) (stand_in c.loop-place.store)
    record { next = c.requires.next; sound = c.requires.sound; numbered = c.requires.numbered } c.loop-place.invariant

pub replay_call-requires-clause-new : goal.replay_call-requires-clause-new
replay_call-requires-clause-new c =
    replay-new (takes c.args.choice) c.args.calls.now c.loop-place.place c.index-calls-place.result c.loop-place-test.true c.index-calls-place.is (stand_in c.args.base.now) (stand_in c.loop-place.store)
    record { next = c.requires.next; sound = c.requires.sound; numbered = c.requires.numbered } c.loop-place.invariant

pub loop-place-preserved : goal.loop-place-preserved
loop-place-preserved c =
    let so_far = λ (s : Store). Replays (picked (takes c.args.choice) (take (c.loop-place.place + 1) c.args.calls.now)) (stand_in c.args.base.now) (stand_in s) in
    elim c.if-takes.branch [
      | then-takes+in_ok-replay_call w ↦ subst so_far (sym w.store-is) (replays-taken (takes c.args.choice) c.args.calls.now c.loop-place.place c.index-calls-place.result c.loop-place-test.true c.index-calls-place.is c.takes.result (stand_in c.args.base.now) (stand_in c.loop-place.store) _ c.takes.ensures w.if-takes.true c.loop-place.invariant w.in_ok-replay_call.ensures)
      | else-takes w ↦ subst so_far (sym w.store-is) (replays-left_out (takes c.args.choice) c.args.calls.now c.loop-place.place c.index-calls-place.result c.loop-place-test.true c.index-calls-place.is c.takes.result (stand_in c.args.base.now) (stand_in c.loop-place.store) c.takes.ensures w.if-takes.false c.loop-place.invariant)
    ]
