use Rattle.mark_table.proofs.ToggleLemmas.{given_next, still_emptied}
use Rattle.mark_table.proofs.mark_map.MarkMap.insert_each.Goals as goal

pub loop-path-preserved : goal.loop-path-preserved
loop-path-preserved c = (
  given_next (λ p. p.now) c.args.paths.now c.loop-path.path-index c.path-item.result c.in_ok-copy.field-0 c.args.mark c.loop-path.self c.insert.new.self _
      c.loop-path-test.true c.path-item.is c.in_ok-copy.ensures c.in_ok-insert.ensures.ok c.loop-path.invariant.0,
  still_emptied (λ p. p.now) c.args.paths.now c.loop-path.path-index c.path-item.result c.in_ok-copy.field-0 c.args.mark c.loop-path.self c.insert.new.self _
      c.loop-path-test.true c.path-item.is c.in_ok-copy.ensures c.in_ok-insert.ensures.ok c.loop-path.invariant.1,
)
