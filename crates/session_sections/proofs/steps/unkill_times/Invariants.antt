use Rattle.std.proofs.Common.{◌≡◌}
use Rattle.session_sections.specs.Held.{unkilled_times}
use Rattle.session_sections.proofs.steps.unkill_times.Given as goal

abbrev pub invariant-loop : goal.invariant-loop
invariant-loop l = l.buffer ≡ unkilled_times l.counter l.fn.buffer
