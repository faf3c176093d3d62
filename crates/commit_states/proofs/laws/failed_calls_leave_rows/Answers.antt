use Rattle.commit_states.proofs.LawLemmas.{stagings_stop, steps_halt, seals_go_forward}
use Rattle.commit_states.proofs.laws.failed_calls_leave_rows.Goals as goal

pub returns-clause-staging : goal.returns-clause-staging
returns-clause-staging c = stagings_stop

pub returns-clause-steps : goal.returns-clause-steps
returns-clause-steps c = steps_halt

pub returns-clause-seal : goal.returns-clause-seal
returns-clause-seal c = seals_go_forward
