use Rattle.std.proofs.Common.{sym}
use Rattle.staging_names.proofs.PlaceLemmas.{foreign_within}
use Rattle.staging_names.proofs.standing.sort_out.Goals as goal

pub returns-in-Some-clause-within : goal.returns-in-Some-clause-within
returns-in-Some-clause-within c = foreign_within c.args.found.now c.in-Some.place (sym c.in-Some.ensures)
