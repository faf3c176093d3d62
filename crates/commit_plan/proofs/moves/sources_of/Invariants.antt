use Rattle.std.proofs.Common.{◌≡◌, ◌++◌, drop}
use Rattle.std.specs.List.{filter_map}
use Rattle.commit_plan.specs.Boards.{source_of}
use Rattle.commit_plan.proofs.moves.sources_of.Given as goal

abbrev pub invariant-loop-row : goal.invariant-loop-row
invariant-loop-row l = l.sources.items ++ filter_map source_of (drop l.row-index l.rows) ≡ filter_map source_of l.rows
