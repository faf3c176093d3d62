use Rattle.edit_laws.proofs.LineLemmas.{carried_out, others_keep}
use Rattle.edit_laws.proofs.laws.lines_are_carried_out.Goals as goal

pub returns-clause-carried_out : goal.returns-clause-carried_out
returns-clause-carried_out c = carried_out

pub returns-clause-other_modes : goal.returns-clause-other_modes
returns-clause-other_modes c = others_keep
