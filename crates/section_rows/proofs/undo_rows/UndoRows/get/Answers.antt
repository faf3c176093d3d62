use Rattle.std.proofs.Common.{◌≡◌, ◌-◌, ◌<◌, sym, subst, length, slice_index_or}
use Rattle.section_rows.proofs.undo_rows.UndoRows.get.Goals as goal

pub get-requires : goal.get-requires
get-requires c = subst (λ v. c.args.row.0 < length v.values) (sym c.self.view_is) c.requires

pub returns : goal.returns
returns c = subst (λ v. c.get.result.now ≡ slice_index_or v.values c.args.row.0 c.get.result.now) c.self.view_is c.get.ensures
