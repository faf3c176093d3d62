use Rattle.std.proofs.Common.{refl}
use Rattle.mark_table.specs.PathMarks.{with_each}
use Rattle.session_marks.specs.Keeping.{paths_of}
use Rattle.session_marks.proofs.BackLemmas.{next_pair, still_leads}
use Rattle.session_marks.proofs.changes.put_each.Goals as goal

pub loop-path-preserved : goal.loop-path-preserved
loop-path-preserved c = (
  next_pair (λ es m. with_each (λ _. c.args.mark) (paths_of es) m) (λ _. c.args.mark) (λ e es m. refl)
      c.args.pairs.now c.loop-path.path-index c.loop-path-item.result c.loop-path.marks c.put.new.marks _
      c.loop-path-test.true c.loop-path-item.is c.in_ok-put.ensures.ok c.loop-path.invariant.0,
  still_leads c.args.pairs.now c.loop-path.path-index c.loop-path-item.result c.args.mark c.loop-path.marks c.put.new.marks _
      c.loop-path-test.true c.loop-path-item.is c.in_ok-put.ensures.ok c.loop-path.invariant.1,
)
