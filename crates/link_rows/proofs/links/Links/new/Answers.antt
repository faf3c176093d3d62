use Rattle.std.proofs.Common.{◌≡◌, arith}
use Rattle.link_rows.proofs.NetLemmas.{net-alone}
use Rattle.link_rows.proofs.links.Links.new.Goals as goal

pub invariant_of-result : goal.invariant_of-result
invariant_of-result c =
    let e : c.loop-head.head ≡ c.args.heads = omega arith in
    rw (c.loop-head.invariant.0, c.loop-head.invariant.1, e) (net-alone c.args.heads (omega arith))
