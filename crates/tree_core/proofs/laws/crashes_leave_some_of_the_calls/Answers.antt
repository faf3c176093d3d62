use Rattle.tree_core.proofs.Moments.{crash_state-current, crash_state-single}
use Rattle.tree_core.proofs.SubListLemmas.{comes_of_state, state_of_comes}
use Rattle.tree_core.proofs.laws.crashes_leave_some_of_the_calls.Goals as goal

pub returns-clause-some : goal.returns-clause-some
returns-clause-some c h t = (comes_of_state h t, state_of_comes h t)

pub returns-clause-current : goal.returns-clause-current
returns-clause-current c = crash_state-current

pub returns-clause-one : goal.returns-clause-one
returns-clause-one c = crash_state-single
