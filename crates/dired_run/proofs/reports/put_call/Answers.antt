use Rattle.dired_run.proofs.ReportLemmas.{call_first, call_second}
use Rattle.dired_run.proofs.reports.put_call.Goals as goal

pub returns-in-Ok-clause-taken : goal.returns-in-Ok-clause-taken
returns-in-Ok-clause-taken g c tells =
    call_second c.args.call _ _ _ _ _ _ _ _ _ _ c.as_bytes.ensures.value c.as_bytes-in-Ok.ensures.value c.call_text.ensures c.as_bytes-in-Ok-2.ensures.value (c.in-Ok.ensures.taken tells) (c.put_both.ensures.taken tells)

pub returns-in-Err-clause-taken : goal.returns-in-Err-clause-taken
returns-in-Err-clause-taken g c tells = call_first c.args.call _ _ _ _ _ c.as_bytes.ensures.value (c.in-Err.ensures.taken tells)
