use Rattle.least_renames.proofs.LawLemmas.{knots_are_cycles, cycles_are_found}
use Rattle.least_renames.proofs.laws.knots_are_cycles.Goals as goal

pub returns-clause-counted : goal.returns-clause-counted
returns-clause-counted c = knots_are_cycles

pub returns-clause-found : goal.returns-clause-found
returns-clause-found c = cycles_are_found
