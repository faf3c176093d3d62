use Rattle.std.proofs.Common.{◌≡◌, ◌+◌, true, false, Some, drop, take, option_map, sym, ◌∙◌, ap, arith, length-drop}
use Rattle.std.specs.Str.{bytes_eq}
use Rattle.listing_text.specs.Fields.{arrow_place as arrow_place_in}
use Rattle.listing_text.specs.Listed.{arrow}
use Rattle.listing_text.proofs.FieldLemmas.{arrow-here, arrow-later, arrow-none, arrow-start, rest-whole}
use Rattle.listing_text.proofs.fields.arrow_place.Goals as goal

pub loop-place-init : goal.loop-place-init
loop-place-init c = sym (arrow-start (arrow_place_in c.args.text.now))

pub loop-place-preserved : goal.loop-place-preserved
loop-place-preserved c =
    let other : bytes_eq (take 4 (drop c.loop-place.place c.args.text.now)) arrow ≡ false = sym (c.if-begins_with_arrow.ensures.value ∙ ap (λ t. bytes_eq (take 4 t) arrow) (rest-whole c.args.text.now c.loop-place.place)) in
    c.loop-place.invariant ∙ arrow-later c.args.text.now c.loop-place.place c.loop-place-test.true other

pub returns-then-begins_with_arrow-clause-place : goal.returns-then-begins_with_arrow-clause-place
returns-then-begins_with_arrow-clause-place c =
    let here : bytes_eq (take 4 (drop c.loop-place.place c.args.text.now)) arrow ≡ true = sym (c.if-begins_with_arrow.ensures.value ∙ ap (λ t. bytes_eq (take 4 t) arrow) (rest-whole c.args.text.now c.loop-place.place)) in
    sym (c.loop-place.invariant ∙ ap (option_map (λ n. n + c.loop-place.place)) (arrow-here (drop c.loop-place.place c.args.text.now) (omega (arith, length-drop c.loop-place.place c.args.text.now)) here) ∙ ap Some (omega arith))

pub returns-clause-place : goal.returns-clause-place
returns-clause-place c = sym (c.loop-place.invariant ∙ ap (option_map (λ n. n + c.loop-place.place)) (arrow-none c.args.text.now c.loop-place.place (omega arith)))
