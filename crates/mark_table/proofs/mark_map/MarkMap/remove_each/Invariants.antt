use Rattle.std.proofs.Common.{◌≡◌, drop, map, None}
use Rattle.mark_table.specs.PathMarks.{with_each}
use Rattle.mark_table.proofs.mark_map.MarkMap.remove_each.Given as goal

abbrev pub invariant-loop-path : goal.invariant-loop-path
invariant-loop-path l = with_each (λ _. None) (map (λ p. p.now) (drop l.path-index l.paths)) l.self ≡ with_each (λ _. None) (map (λ p. p.now) l.paths) l.initial.self
