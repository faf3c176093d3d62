use Rattle.std.proofs.Common.{◌≡◌, ◌∷◌, ◌∙◌, List, ℕ, nat_lt, ap, rules}
use Rattle.std.specs.List.{filter}
use Rattle.commit_calls.specs.Paths.{at_marker_paths}
use Rattle.recovery_calls.proofs.CutLemmas.{places_ahead}
use Rattle.recovery_calls.proofs.way.forward_way.Goals as goal

pub returns-clause-leads : goal.returns-clause-leads
returns-clause-leads c = record {
  within = c.requires.within;
  places = c.in_ok-places.ensures ∙ ap (λ (l : List ℕ). c.args.from ∷ filter (nat_lt c.args.from) l) c.requires.ends ∙ ap (λ (l : List ℕ). c.args.from ∷ l) (places_ahead c.args.steps.now c.args.from c.requires.within);
  markers = (let same : c.deref.result.now ≡ c.in_ok-places.places.items = search rules in c.in_ok-markers.ensures.paths ∙ ap at_marker_paths same);
}
