use Rattle.edit_requests.proofs.RequestLemmas.{emptied_are}
use Rattle.edit_requests.proofs.laws.emptied_names_are_of_lines.Goals as goal

pub returns : goal.returns
returns c = emptied_are
