use Rattle.std.proofs.Common.{◌≡◌, take, drop}
use Rattle.edit_words.specs.Place.{place, placed}
use Rattle.edit_words.specs.Rows.{route_of}
use Rattle.edit_rules.proofs.places.place.Given as goal

abbrev pub invariant-loop-at : goal.invariant-loop-at
invariant-loop-at l = placed (route_of l.table.rows.items) (take l.at l.path) l.to.items (drop l.at l.path) ≡ place (route_of l.table.rows.items) l.path
