use Rattle.edit_laws.proofs.LineLemmas.{by_cases}
use Rattle.edit_laws.proofs.laws.new_places_by_cases.Goals as goal

pub returns : goal.returns
returns c = by_cases
