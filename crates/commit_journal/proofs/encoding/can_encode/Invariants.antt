use Rattle.commit_journal.proofs.WriteLemmas.{Tried}
use Rattle.commit_journal.proofs.encoding.can_encode.Given as goal

abbrev pub invariant-loop-step : goal.invariant-loop-step
invariant-loop-step l = Tried l.steps l.step-index l.left
