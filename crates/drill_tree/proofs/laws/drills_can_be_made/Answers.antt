use Rattle.drill_tree.proofs.MadeLemmas.{asked}
use Rattle.drill_tree.proofs.WellLemmas.{can_be_made}
use Rattle.drill_tree.proofs.laws.drills_can_be_made.Goals as goal

pub returns : goal.returns
returns c = record { asked = asked; made = can_be_made }
