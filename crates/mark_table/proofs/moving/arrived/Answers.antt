use Rattle.mark_table.proofs.MoveLemmas.{arrived-step}
use Rattle.std.proofs.Common.{ap, ◌∙◌}
use Rattle.mark_table.specs.PathMarks.{marked}
use Rattle.mark_table.proofs.moving.arrived.Goals as goal

pub loop-source-preserved : goal.loop-source-preserved
loop-source-preserved c =
    arrived-step c.args.marks.now c.args.moves.now c.loop-source.source-index c.loop-source-item.result c.args.next c.loop-source.next c.put.new.self
    c.loop-source-test.true c.loop-source-item.is c.loop-source.invariant (c.in_ok-put.ensures.ok ∙ ap (marked c.loop-source.next c.loop-source-item.result.1) c.get.ensures.value)
