use Rattle.dired_run.proofs.ReportLemmas.{part_of_first, then_second}
use Rattle.dired_run.proofs.reports.put_calls.Goals as goal

pub returns-in-Ok-clause-taken : goal.returns-in-Ok-clause-taken
returns-in-Ok-clause-taken g c tells = then_second _ _ _ _ _ _ (c.in-Ok.ensures.taken tells) (c.put_call-in-Ok.ensures.taken tells)

pub returns-in-Err-clause-taken : goal.returns-in-Err-clause-taken
returns-in-Err-clause-taken g c tells = part_of_first _ _ _ _ (c.in-Err.ensures.taken tells)
