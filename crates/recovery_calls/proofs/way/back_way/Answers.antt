use Rattle.std.proofs.Common.{◌≡◌, ◌++◌, ◌∷◌, [], ◌∙◌, ◌==◌, List, ℕ, nat_lt, ap, rules, if◌then◌else◌}
use Rattle.std.specs.List.{filter}
use Rattle.commit_calls.specs.Paths.{back_marker_paths}
use Rattle.recovery_calls.proofs.CutLemmas.{places_left}
use Rattle.recovery_calls.proofs.way.back_way.Goals as goal

pub returns-clause-leads : goal.returns-clause-leads
returns-clause-leads c = record {
  within = c.requires.within;
  places = c.in_ok-places.ensures ∙ ap (λ (l : List ℕ). 0 ∷ (if c.args.from == 0 then [] else filter (λ end. nat_lt end c.args.from) l ++ c.args.from ∷ [])) c.requires.ends ∙ ap (λ (l : List ℕ). 0 ∷ l) (places_left c.args.steps.now c.args.from c.requires.within);
  markers = (let same : c.deref.result.now ≡ c.in_ok-places.places.items = search rules in c.in_ok-markers.ensures.paths ∙ ap back_marker_paths same);
}
