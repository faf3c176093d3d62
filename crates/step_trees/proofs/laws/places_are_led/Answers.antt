use Rattle.step_trees.proofs.LawLemmas.{by_places}
use Rattle.step_trees.proofs.laws.places_are_led.Goals as goal

pub returns : goal.returns
returns c = by_places
