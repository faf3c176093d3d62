use Rattle.omit_rules.proofs.OrderLemmas.{keys-ascend}
use Rattle.omit_rules.proofs.laws.keys_stand_in_order.Goals as goal

pub returns : goal.returns
returns c = keys-ascend c.args.table.now.entries c.keys-keys.ensures.ordered
