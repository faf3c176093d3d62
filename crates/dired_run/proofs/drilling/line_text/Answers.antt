use Rattle.std.proofs.Common.{◌∙◌, append_assoc}
use Rattle.dired_run.proofs.drilling.line_text.Goals as goal

-- the pieces in another grouping
pub returns : goal.returns
returns c = c.in_ok-text.ensures.ok ∙ simp append_assoc
