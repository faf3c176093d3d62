use Rattle.staging_names.proofs.NameLemmas.{names_read, reads_spelled}
use Rattle.staging_names.proofs.laws.names_are_read.Goals as goal

pub returns-clause-read : goal.returns-clause-read
returns-clause-read c = names_read

pub returns-clause-spelled : goal.returns-clause-spelled
returns-clause-spelled c = reads_spelled
