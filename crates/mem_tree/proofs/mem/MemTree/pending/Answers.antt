use Rattle.mem_tree.proofs.RecordLemmas.{place-in, pending-next}
use Rattle.mem_tree.proofs.mem.MemTree.pending.Goals as goal

pub loop-attempt-preserved : goal.loop-attempt-preserved
loop-attempt-preserved c =
    let m = c.args.self.now in
    let placed = place-in c.deref-attempt-items.result.now m.attempts.items c.loop-attempt.attempt-index c.attempt-item.result c.deref-attempt-items.ensures.value c.loop-attempt-test.true c.attempt-item.is in
    pending-next m.began m.first_number m.attempts.items c.loop-attempt.attempt-index c.attempt-item.result placed.0 placed.1 m.begins m.were c.loop-attempt.calls.items _ c.loop-attempt.invariant c.in_ok-note_pending.ensures
