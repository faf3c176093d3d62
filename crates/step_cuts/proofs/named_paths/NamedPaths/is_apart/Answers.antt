use Rattle.std.proofs.Common.{rules, ◌≡◌, Bool, ◌&&◌, is_none, not, map, option_map, sym, ◌∙◌}
use Rattle.std.specs.List.{list_all}
use Rattle.path_map.specs.Walks.{firsts, is_above, value_at}
use Rattle.step_cuts.proofs.ApartLemmas.{apart_all, both_of, first_of, none_along, none_at, none_here}
use Rattle.step_cuts.proofs.named_paths.NamedPaths.is_apart.Goals.{then-are_none, else-are_none}
use Rattle.step_cuts.proofs.named_paths.NamedPaths.is_apart.Goals as goal

pub returns : goal.returns
returns c ps holds =
    let path = c.args.path.now in
    let self = c.args.self.now in
    let values = c.in_ok-along.along.items in
    let off : Bool = list_all (none_at ps) (firsts path) in
    let free : Bool = list_all (λ q. not (is_above path q)) ps in
    let along : map (option_map (λ v. v.now)) values ≡ map (value_at self.named) (firsts path) = c.in_ok-along.ensures in
    let tested : c.are_none.result ≡ list_all is_none values = search rules in
    let is_off : c.are_none.result ≡ off = tested ∙ none_along (λ v. v.now) values (value_at self.named) ps path along holds.named in
    let both : c.if-are_none.result ≡ (off && free) = elim c.if-are_none.branch [
      | then-are_none w ↦ let none : w.is_none.result ≡ is_none w.get.result = search rules in
          both_of c.if-are_none.result off free (sym is_off ∙ w.if-are_none.true) (w.result-is ∙ none ∙ none_here (λ v. v.now) w.get.result (value_at self.above path) free w.get.ensures (holds.above path))
      | else-are_none w ↦ first_of c.if-are_none.result off free (sym is_off ∙ w.if-are_none.false) (w.result-is ∙ is_off)
    ] in
    both ∙ sym (apart_all path ps)
