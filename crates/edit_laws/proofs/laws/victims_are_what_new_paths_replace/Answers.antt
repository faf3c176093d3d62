use Rattle.edit_laws.proofs.VictimLemmas.{victims_are}
use Rattle.edit_laws.proofs.laws.victims_are_what_new_paths_replace.Goals as goal

pub returns : goal.returns
returns c = victims_are
