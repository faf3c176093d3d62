use Rattle.mark_table.proofs.MarkLemmas.{CopiesTo}
use Rattle.mark_table.proofs.mark_map.MarkMap.copy.Given as goal

abbrev pub invariant-loop-path : goal.invariant-loop-path
invariant-loop-path l = CopiesTo l.path-iterator l.copy l.self
