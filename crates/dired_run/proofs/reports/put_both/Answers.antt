use Rattle.dired_run.proofs.ReportLemmas.{then_second, part_of_first}
use Rattle.dired_run.proofs.reports.put_both.Goals as goal

pub returns-in-Ok-clause-taken : goal.returns-in-Ok-clause-taken
returns-in-Ok-clause-taken g c tells = then_second _ _ _ _ _ _ (c.in-Ok.ensures.taken tells) (c.put-in-Ok.ensures.taken tells)

pub returns-in-Err-clause-taken : goal.returns-in-Err-clause-taken
returns-in-Err-clause-taken g c tells = part_of_first _ _ _ _ (c.in-Err.ensures.taken tells)
