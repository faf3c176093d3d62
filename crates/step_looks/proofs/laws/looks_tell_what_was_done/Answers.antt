use Rattle.step_looks.proofs.TellLemmas.{looks_tell, looks_tell_back}
use Rattle.step_looks.proofs.laws.looks_tell_what_was_done.Goals as goal

pub returns-clause-on_the_way : goal.returns-clause-on_the_way
returns-clause-on_the_way c = looks_tell

pub returns-clause-on_the_way_back : goal.returns-clause-on_the_way_back
returns-clause-on_the_way_back c = looks_tell_back
