use Rattle.step_looks.proofs.LeftLemmas.{looks_tell_all, looks_tell_all_back}
use Rattle.step_looks.proofs.laws.looks_tell_what_is_left.Goals as goal

pub returns-clause-on_the_way : goal.returns-clause-on_the_way
returns-clause-on_the_way c = looks_tell_all

pub returns-clause-on_the_way_back : goal.returns-clause-on_the_way_back
returns-clause-on_the_way_back c = looks_tell_all_back
