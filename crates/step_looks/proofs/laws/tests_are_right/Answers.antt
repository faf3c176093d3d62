use Rattle.step_looks.proofs.TellLemmas.{tests_are_right}
use Rattle.step_looks.proofs.laws.tests_are_right.Goals as goal

pub returns : goal.returns
returns c = tests_are_right
