use Rattle.std.proofs.Common.{◌≡◌}
use Rattle.shown_lines.specs.Chosen.{starred}
use Rattle.shown_lines.specs.Tests.{paths}
use Rattle.dired_session.proofs.session.Session.starred.Given as goal

abbrev pub invariant-loop-entry : goal.invariant-loop-entry
invariant-loop-entry l = l.found.items ≡ paths (starred l.self.views.view.marks l.yielded)
