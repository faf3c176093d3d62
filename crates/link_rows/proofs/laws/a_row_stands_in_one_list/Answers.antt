use Rattle.link_rows.proofs.KeptLemmas.{in-one-list, stands-once}
use Rattle.link_rows.proofs.laws.a_row_stands_in_one_list.Goals as goal

pub returns-clause-one : goal.returns-clause-one
returns-clause-one g c = in-one-list c.args.rows.now.net

pub returns-clause-once : goal.returns-clause-once
returns-clause-once g c = stands-once c.args.rows.now.net
