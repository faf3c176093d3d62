use Rattle.std.proofs.Common.{◌≡◌, sym, subst, rules}
use Rattle.std.specs.Fmt.{decimal}
use Rattle.tree_core.specs.Fields.{IsOwner}
use Rattle.host_looks.proofs.NumberLemmas.{decimal_is_owner}
use Rattle.host_looks.proofs.owners.number_text.Goals as goal

pub returns : goal.returns
returns c =
    let is : c.from_string.result ≡ decimal c.args.number = search rules in
    subst IsOwner (sym is) (decimal_is_owner c.args.number c.ranges.number.fits)
