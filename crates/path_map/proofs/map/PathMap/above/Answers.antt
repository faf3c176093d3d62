use Rattle.std.proofs.Common.{rules, ◌≡◌, length, map, option_map, take, ◌∙◌, sym, ap}
use Rattle.std.proofs.lemmas.List.{take-map}
use Rattle.path_map.specs.Walks.{firsts, value_at}
use Rattle.path_map.proofs.map.PathMap.above.Goals as goal

pub returns : goal.returns
returns g c =
    let n = length c.args.path.now in
    let cut : c.truncate.new.self.items ≡ take n c.in_ok-values.values.items = search rules in
    let all : map (option_map (λ v. v.now)) c.in_ok-values.values.items ≡ map (value_at c.args.self.now) (firsts c.args.path.now) = search rules in
    ap (map (option_map (λ v. v.now))) cut
    ∙ sym (take-map (option_map (λ v. v.now)) n c.in_ok-values.values.items)
    ∙ ap (take n) all
    ∙ take-map (value_at c.args.self.now) n (firsts c.args.path.now)
