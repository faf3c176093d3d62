use Rattle.dired_run.proofs.ReportLemmas.{number_first, number_second}
use Rattle.dired_run.proofs.reports.put_number.Goals as goal

pub returns-in-Ok-clause-taken : goal.returns-in-Ok-clause-taken
returns-in-Ok-clause-taken g c tells =
    number_second c.args.number _ _ _ _ _ _ _ _ _ _ c.as_bytes.ensures.value c.as_bytes-in-Ok.ensures.value c.format.ensures.text c.as_bytes-in-Ok-2.ensures.value (c.in-Ok.ensures.taken tells) (c.put_both.ensures.taken tells)

pub returns-in-Err-clause-taken : goal.returns-in-Err-clause-taken
returns-in-Err-clause-taken g c tells = number_first c.args.number _ _ _ _ _ c.as_bytes.ensures.value (c.in-Err.ensures.taken tells)
