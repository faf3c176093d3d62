use Rattle.std.proofs.Common.{◌≡◌, ◌+◌, drop, option_map}
use Rattle.listing_text.specs.Fields.{arrow_place as arrow_place_in}
use Rattle.listing_text.proofs.fields.arrow_place.Given as goal

abbrev pub invariant-loop-place : goal.invariant-loop-place
invariant-loop-place l = arrow_place_in l.text ≡ option_map (λ n. n + l.place) (arrow_place_in (drop l.place l.text))
