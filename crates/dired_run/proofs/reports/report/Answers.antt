use Rattle.std.proofs.Common.{sym, ◌∙◌}
use Rattle.dired_run.proofs.ReportLemmas.{short_of_memory}
use Rattle.dired_run.proofs.reports.report.Goals as goal

pub returns-in-Err-text : goal.returns-in-Err-text
returns-in-Err-text g c = short_of_memory _ _ _ _ _ _ _ _ _ c.in-Err.is (sym c.has_fixed_text.ensures ∙ c.if-has_fixed_text.false) c.as_bytes-in-Err-text.ensures.value c.say-in-Err-text.ensures
