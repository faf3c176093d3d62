use Rattle.edit_laws.proofs.ShortestLemmas.{first_is_shortest, none_passes}
use Rattle.edit_laws.proofs.laws.the_shortest_path_is_told.Goals as goal

pub returns-clause-first : goal.returns-clause-first
returns-clause-first c = first_is_shortest

pub returns-clause-none : goal.returns-clause-none
returns-clause-none c = none_passes
