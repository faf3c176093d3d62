use Rattle.least_renames.proofs.LawLemmas.{flat_in_one_directory, fewest_moves, fewest_steps, fewest_steps_from, steps_are_moves}
use Rattle.least_renames.proofs.laws.no_list_of_renames_is_shorter.Goals as goal

pub returns-clause-flat : goal.returns-clause-flat
returns-clause-flat c = flat_in_one_directory

pub returns-clause-moves : goal.returns-clause-moves
returns-clause-moves c = fewest_moves

pub returns-clause-plans : goal.returns-clause-plans
returns-clause-plans c = fewest_steps

pub returns-clause-wider : goal.returns-clause-wider
returns-clause-wider c = fewest_steps_from

pub returns-clause-steps : goal.returns-clause-steps
returns-clause-steps c = steps_are_moves
