use Rattle.std.proofs.Common.{◌≡◌, ◌++◌}
use Rattle.std.specs.FinMap as fin
use Rattle.mark_table.proofs.mark_map.MarkMap.paths.Given as goal

abbrev pub invariant-loop-path : goal.invariant-loop-path
invariant-loop-path l = l.paths.items ++ l.path-iterator ≡ fin.keys l.self
