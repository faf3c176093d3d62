use Rattle.std.proofs.Common.{◌≤◌, ◌*◌, length, take}
use Rattle.std.specs.List.{flat_map}
use Rattle.edit_rules.specs.PathSets.{HasPaths}
use Rattle.edit_words.specs.Found.{sight_in}
use Rattle.edit_words.specs.Refusals.{missing_above}
use Rattle.edit_rules.proofs.counting.made.Given as goal

abbrev pub invariant-loop-row : goal.invariant-loop-row
invariant-loop-row l = record {
  paths : HasPaths l.paths (flat_map (missing_above (sight_in l.findings)) (take l.row-index l.rows));
  few : length (flat_map (missing_above (sight_in l.findings)) (take l.row-index l.rows)) ≤ l.row-index * 4096;
}
