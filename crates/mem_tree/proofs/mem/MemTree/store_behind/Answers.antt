use Rattle.mem_tree.proofs.RecordLemmas.{place-in_first, redo-tree, redo-can, redo-new, redo-next}
use Rattle.mem_tree.proofs.mem.MemTree.store_behind.Goals as goal

pub redo-requires-clause-tree : goal.redo-requires-clause-tree
redo-requires-clause-tree c =
    let m = c.args.self.now in
    let placed = place-in_first c.deref.result.now m.attempts.items c.args.count c.loop-attempt.attempt-index c.attempt-item.result c.deref.ensures.value c.requires c.loop-attempt-test.true c.attempt-item.is in
    redo-tree m.began m.first_number m.attempts.items c.loop-attempt.attempt-index c.attempt-item.result placed.0 placed.1 m.begins m.were c.loop-attempt.store c.loop-attempt.invariant

pub redo-requires-clause-can : goal.redo-requires-clause-can
redo-requires-clause-can c =
    let m = c.args.self.now in
    let placed = place-in_first c.deref.result.now m.attempts.items c.args.count c.loop-attempt.attempt-index c.attempt-item.result c.deref.ensures.value c.requires c.loop-attempt-test.true c.attempt-item.is in
    redo-can m.began m.first_number m.attempts.items c.loop-attempt.attempt-index c.attempt-item.result placed.0 placed.1 m.begins m.were c.loop-attempt.store c.loop-attempt.invariant

pub redo-requires-clause-new : goal.redo-requires-clause-new
redo-requires-clause-new c =
    let m = c.args.self.now in
    let placed = place-in_first c.deref.result.now m.attempts.items c.args.count c.loop-attempt.attempt-index c.attempt-item.result c.deref.ensures.value c.requires c.loop-attempt-test.true c.attempt-item.is in
    redo-new m.began m.first_number m.attempts.items c.loop-attempt.attempt-index c.attempt-item.result placed.0 placed.1 m.begins m.were c.loop-attempt.store c.loop-attempt.invariant

pub loop-attempt-preserved : goal.loop-attempt-preserved
loop-attempt-preserved c =
    let m = c.args.self.now in
    let placed = place-in_first c.deref.result.now m.attempts.items c.args.count c.loop-attempt.attempt-index c.attempt-item.result c.deref.ensures.value c.requires c.loop-attempt-test.true c.attempt-item.is in
    redo-next m.began m.first_number m.attempts.items c.loop-attempt.attempt-index c.attempt-item.result placed.0 placed.1 m.begins m.were c.loop-attempt.store c.loop-attempt.invariant c.redo.new.store c.in_ok-redo.ensures.tree c.in_ok-redo.ensures.times
