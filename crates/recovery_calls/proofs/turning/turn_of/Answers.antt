use Rattle.std.proofs.Common.{◌≡◌, ◌+◌, ◌∙◌, List, [], ◌∷◌, ℕ, length, get_or, nat_lt, ap, sym, arith}
use Rattle.commit_steps.specs.Staging.{at_marker, staged}
use Rattle.recovery_calls.proofs.WayLemmas.{last_one}
use Rattle.std.specs.List.{filter}
use Rattle.recovery_calls.proofs.CutLemmas.{next_cut_is, next_cut_within}
use Rattle.step_trees.specs.Groups.{groups, to_next_cut}
use Rattle.recovery_calls.proofs.turning.turn_of.Goals as goal

pub back_way-requires-2-clause-within : goal.back_way-requires-2-clause-within
back_way-requires-2-clause-within c = let cut : c.next_cut.result ≡ c.args.from + length (to_next_cut c.args.from (groups c.args.steps.now)) =
    c.next_cut.ensures ∙ ap (λ (l : List ℕ). get_or (filter (nat_lt c.args.from) l) 0 c.args.from) c.requires.ends ∙ next_cut_is c.args.steps.now c.args.from c.requires.within in
    let within = next_cut_within c.args.steps.now c.args.from c.requires.within in
    omega arith

pub returns-clause-turn : goal.returns-clause-turn
returns-clause-turn c = let cut : c.next_cut.result ≡ c.args.from + length (to_next_cut c.args.from (groups c.args.steps.now)) =
    c.next_cut.ensures ∙ ap (λ (l : List ℕ). get_or (filter (nat_lt c.args.from) l) 0 c.args.from) c.requires.ends ∙ next_cut_is c.args.steps.now c.args.from c.requires.within in
    let here : c.in_ok-here.here.from ≡ c.args.from = c.in_ok-here.ensures.from in
    let are : c.in_ok-markers.markers.items ≡ staged (at_marker c.args.from) ∷ [] = c.in_ok-markers.ensures.paths in
    record {
      marker = last_one c.in_ok-markers.markers.items c.pop.new.self.items c.in-Some.marker (staged (at_marker c.args.from)) are c.in-Some.ensures.items ∙ ap (λ n. staged (at_marker n)) (sym here);
      here = c.in_ok-here.ensures.leads;
      next = c.in_ok-next.ensures.leads;
      cut = c.in_ok-next.ensures.from ∙ cut ∙ ap (λ n. n + length (to_next_cut n (groups c.args.steps.now))) (sym here);
    }
