use Rattle.step_cuts.proofs.CutLemmas.{cuts_rise, cuts_within, last_cut}
use Rattle.step_cuts.proofs.laws.cuts_are_places.Goals as goal

pub returns-clause-within : goal.returns-clause-within
returns-clause-within c = cuts_within

pub returns-clause-rise : goal.returns-clause-rise
returns-clause-rise c = cuts_rise

pub returns-clause-last : goal.returns-clause-last
returns-clause-last c = last_cut
