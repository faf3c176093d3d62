use Rattle.std.proofs.Common.{◌≡◌, ◌++◌, drop}
use Rattle.shown_lines.specs.Tests.{paths}
use Rattle.shown_lines.proofs.testing.copies.Given as goal

abbrev pub invariant-loop-entry : goal.invariant-loop-entry
invariant-loop-entry l = l.copies.items ++ paths (drop l.entry-index l.entries) ≡ paths l.entries
