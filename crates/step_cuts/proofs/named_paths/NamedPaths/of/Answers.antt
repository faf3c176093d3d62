use Rattle.std.proofs.Common.{[]}
use Rattle.step_cuts.proofs.named_paths.NamedPaths.of.Goals as goal

pub returns-clause-paths : goal.returns-clause-paths
returns-clause-paths c = c.in_ok-add.ensures.paths [] c.in_ok-paths.ensures.none
