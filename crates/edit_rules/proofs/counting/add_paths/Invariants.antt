use Rattle.std.proofs.Common.{◌++◌, List, take}
use Rattle.dired_text.specs.Paths.{Names}
use Rattle.edit_rules.specs.PathSets.{HasPaths}
use Rattle.edit_rules.proofs.counting.add_paths.Given as goal

abbrev pub invariant-loop-path : goal.invariant-loop-path
invariant-loop-path l = (ps : List Names) → HasPaths l.initial.paths ps → HasPaths l.paths (ps ++ take l.path-index l.more)
