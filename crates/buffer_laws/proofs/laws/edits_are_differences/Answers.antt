use Rattle.buffer_laws.proofs.DifferenceLemmas.{edits-differ, differences-taken}
use Rattle.buffer_laws.proofs.laws.edits_are_differences.Goals as goal

pub returns-clause-differences : goal.returns-clause-differences
returns-clause-differences c = edits-differ

pub returns-clause-taken : goal.returns-clause-taken
returns-clause-taken c = differences-taken
