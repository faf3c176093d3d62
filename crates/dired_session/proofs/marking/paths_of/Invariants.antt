use Rattle.std.proofs.Common.{◌≡◌}
use Rattle.shown_lines.specs.Tests.{paths}
use Rattle.dired_session.proofs.marking.paths_of.Given as goal

abbrev pub invariant-loop-entry : goal.invariant-loop-entry
invariant-loop-entry l = l.found.items ≡ paths l.yielded
