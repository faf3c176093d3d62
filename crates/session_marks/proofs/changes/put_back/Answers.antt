use Rattle.std.proofs.Common.{refl}
use Rattle.session_marks.specs.Keeping.{marks_back}
use Rattle.session_marks.proofs.BackLemmas.{next_pair, still_leads}
use Rattle.session_marks.proofs.changes.put_back.Goals as goal

pub loop-path-preserved : goal.loop-path-preserved
loop-path-preserved c = (
  next_pair marks_back (λ e. e.1) (λ e es m. refl)
      c.args.pairs.now c.loop-path.path-index c.loop-path-item.result c.loop-path.marks c.put.new.marks _
      c.loop-path-test.true c.loop-path-item.is c.in_ok-put.ensures.ok c.loop-path.invariant.0,
  still_leads c.args.pairs.now c.loop-path.path-index c.loop-path-item.result c.loop-path-item.result.1 c.loop-path.marks c.put.new.marks _
      c.loop-path-test.true c.loop-path-item.is c.in_ok-put.ensures.ok c.loop-path.invariant.1,
)
