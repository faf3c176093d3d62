use Rattle.std.proofs.Common.{◌≡◌, ◌++◌, drop, map, filter}
use Rattle.mark_table.specs.PathMarks.{has_mark}
use Rattle.mark_table.proofs.mark_map.MarkMap.those.Given as goal

abbrev pub invariant-loop-path : goal.invariant-loop-path
invariant-loop-path l = map (λ p. p.now) l.found.items ++ filter (has_mark l.self l.mark) (drop l.path-index l.paths) ≡ filter (has_mark l.self l.mark) l.paths
