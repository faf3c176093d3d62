use Rattle.edit_requests.proofs.RequestLemmas.{can_be_asked}
use Rattle.edit_requests.proofs.laws.edits_can_be_asked.Goals as goal

pub returns : goal.returns
returns c = can_be_asked
