use Rattle.std.proofs.Common.{◌≡◌, ◌≤◌, ◌+◌, ℕ, Bool, true, false, if◌then◌else◌, arith}
use Rattle.mem_tree.specs.Records.{is_done_sync}
use Rattle.mem_tree.proofs.RecordLemmas.{place-in, synced-next}
use Rattle.mem_tree.proofs.mem.MemTree.count_before_sync.Goals as goal

not_after : (b : Bool) (place count later : ℕ) → count ≤ place → later ≡ (if b then place else count) → later ≤ place + 1
not_after true place count later less is = omega arith
not_after false place count later less is = omega arith

pub loop-place-preserved : goal.loop-place-preserved
loop-place-preserved c =
    let m = c.args.self.now in
    let placed = place-in c.deref-attempt-items.result.now m.attempts.items c.loop-place.place c.attempt-item.result c.deref-attempt-items.ensures.value c.loop-place-test.true c.attempt-item.is in
    record {
      within = not_after (is_done_sync c.attempt-item.result) c.loop-place.place c.loop-place.count _ c.loop-place.invariant.within c.count_before_sync-count.ensures;
      history = synced-next m.began m.first_number m.attempts.items c.loop-place.place c.attempt-item.result placed.0 placed.1 m.begins m.were c.loop-place.count _ c.loop-place.invariant.history c.count_before_sync-count.ensures;
    }
