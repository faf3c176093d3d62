use Rattle.std.proofs.Common.{[]}
use Rattle.find_listing.proofs.KeyLemmas.{below_is, stood}
use Rattle.find_listing.proofs.WalkLemmas.{paths_begin}
use Rattle.find_listing.proofs.laws.paths_are_in_preorder.Goals as goal

pub returns : goal.returns
returns c t tree = record { whole = paths_begin t tree (stood t [] tree.root); each = λ p stands. below_is t p tree stands }
