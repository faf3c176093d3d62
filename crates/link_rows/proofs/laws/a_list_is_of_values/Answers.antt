use Rattle.std.proofs.Common.{◌≡◌, ◌+◌, length, rules}
use Rattle.link_rows.specs.Net.{IsNet, nodes}
use Rattle.link_rows.proofs.ValueLemmas.{one-sequence, pushes-value, values-joined}
use Rattle.link_rows.proofs.laws.a_list_is_of_values.Goals as goal

pub returns-clause-one : goal.returns-clause-one
returns-clause-one g c = one-sequence c.args.rows.now

pub returns-clause-parts : goal.returns-clause-parts
returns-clause-parts g c = values-joined c.args.rows.now

pub returns-clause-pushed : goal.returns-clause-pushed
returns-clause-pushed g c =
    let i : IsNet c.args.rows.now.net = search rules in
    let n : nodes c.args.rows.now.net ≡ c.args.rows.now.net.heads + length c.args.rows.now.values = search rules in
    λ v. pushes-value c.args.rows.now v i n
