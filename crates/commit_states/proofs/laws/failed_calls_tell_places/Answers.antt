use Rattle.commit_states.proofs.LawLemmas.{places_staging, places_among, places_behind}
use Rattle.commit_states.proofs.laws.failed_calls_tell_places.Goals as goal

pub returns-clause-groups : goal.returns-clause-groups
returns-clause-groups c = places_among

pub returns-clause-seal : goal.returns-clause-seal
returns-clause-seal c = places_behind

pub returns-clause-staging : goal.returns-clause-staging
returns-clause-staging c = places_staging
