use Rattle.std.proofs.Common.{◌≡◌, drop, ap, ◌∙◌, arith, rules}
use Rattle.std.specs.Str.{chars}
use Rattle.std.proofs.lemmas.List.{drop-drop}
use Rattle.emacs_regexp.specs.Places.{byte_place}
use Rattle.emacs_regexp.proofs.PlaceLemmas.{byte_place-next}
use Rattle.emacs_regexp.proofs.places.byte_place.Goals as goal

pub loop-preserved : goal.loop-preserved
loop-preserved c =
    let cs = chars c.args.text.now in
    let i = c.loop.counter in
    let place : byte_place (chars c.loop.rest.now) 1 ≡ byte_place (drop i cs) 1 = ap (λ l. byte_place l 1) c.loop.invariant.1 in (
      search rules,
      c.behind_first-rest.ensures.behind ∙ ap (drop 1) c.loop.invariant.1 ∙ drop-drop 1 i cs,
      omega (arith, c.loop.invariant.2, c.behind_first-rest.ensures.first, byte_place-next cs i, place),
    )
