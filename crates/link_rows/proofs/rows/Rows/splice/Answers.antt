use Rattle.std.proofs.Common.{subst}
use Rattle.link_rows.specs.Net.{Splices}
use Rattle.link_rows.proofs.rows.Rows.splice.Goals as goal

pub returns-clause-lists : goal.returns-clause-lists
returns-clause-lists g c =
    subst (λ a. Splices c.args.self.now.net a c.args.other.0 c.splice.new.self.0) c.place-place.ensures.value
    (subst (λ t. Splices t.net c.place-place.result c.args.other.0 c.splice.new.self.0) c.self.view_is c.splice.ensures.lists)
