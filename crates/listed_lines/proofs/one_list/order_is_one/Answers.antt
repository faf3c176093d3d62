use Rattle.listed_lines.proofs.ListedLemmas.{order_is_one}
use Rattle.listed_lines.proofs.one_list.order_is_one.Goals as goal

pub returns : goal.returns
returns c = order_is_one
