use Rattle.std.proofs.Common.{◌≡◌, [], rules, subst, sym, arith}
use Rattle.link_rows.specs.Net.{IsList, alone}
use Rattle.link_rows.proofs.NetLemmas.{alone-list, numbers-length}
use Rattle.link_rows.proofs.rows.Rows.new.Goals as goal

pub invariant_of-result : goal.invariant_of-result
invariant_of-result g c =
    let e : c.in_ok-new.field-0.0 ≡ alone c.args.lists = search rules in
    rw (e, c.new-2.ensures.items) (omega (arith, numbers-length c.args.lists), omega arith)

pub returns-clause-lists : goal.returns-clause-lists
returns-clause-lists g c =
    let e : c.in_ok-new.field-0.0 ≡ alone c.args.lists = search rules in
    λ l h. subst (λ s. IsList s l []) (sym e) (alone-list c.args.lists l h)
