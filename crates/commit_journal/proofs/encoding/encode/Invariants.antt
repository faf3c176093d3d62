use Rattle.commit_journal.proofs.WriteLemmas.{Written}
use Rattle.commit_journal.proofs.encoding.encode.Given as goal

abbrev pub invariant-loop-step : goal.invariant-loop-step
invariant-loop-step l = Written l.steps l.step-index l.out.items l.base.items
