use Rattle.step_trees.proofs.LawLemmas.{looks_at}
use Rattle.step_trees.proofs.LeadLemmas.{led}
use Rattle.step_trees.proofs.laws.looks_tell_which_were_done.Goals as goal

pub returns : goal.returns
returns c = λ steps old new fresh leads paths m le t some. looks_at steps old new fresh (led steps old new fresh leads paths) m le t some
