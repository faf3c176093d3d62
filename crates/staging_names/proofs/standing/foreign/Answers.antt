use Rattle.staging_names.specs.Tests.{foreign_place}
use Rattle.staging_names.proofs.standing.foreign.Goals as goal

pub returns : goal.returns
unfolding foreign_place
returns c = cc
