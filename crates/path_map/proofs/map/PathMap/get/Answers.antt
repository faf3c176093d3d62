use Rattle.std.proofs.Common.{rules, ◌≡◌, ◌<◌, get_or, length, option_and_then}
use Rattle.path_map.specs.Walks.{child}
use Rattle.path_map.proofs.WalkLemmas.{walk_on}
use Rattle.path_map.proofs.map.PathMap.get.Goals as goal

pub loop-name-preserved : goal.loop-name-preserved
loop-name-preserved g c =
    let path = c.args.path.now in
    let below = c.args.self.now.below.items in
    let name = c.name-item.result in
    let made : c.loop-name.name-index < length path = search rules in
    let name_is : name ≡ get_or path c.loop-name.name-index name = search rules in
    let next : c.child-at.result ≡ option_and_then (λ i. child below i name) c.loop-name.at = search rules in
    walk_on below path c.loop-name.at c.child-at.result c.loop-name.name-index name made name_is next c.loop-name.invariant
