use Rattle.std.proofs.Common.{◌∙◌, append_assoc}
use Rattle.run_status.proofs.scripts.script_line_text.Goals as goal

-- the pieces in another grouping
pub returns : goal.returns
returns c = c.in_ok-format.ensures.ok ∙ simp append_assoc
