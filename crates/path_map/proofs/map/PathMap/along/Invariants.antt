use Rattle.std.proofs.Common.{◌≡◌, map, option_map, take}
use Rattle.path_map.specs.Walks.{firsts, value_at, walk}
use Rattle.path_map.proofs.map.PathMap.along.Given as goal

abbrev pub invariant-loop-name : goal.invariant-loop-name
invariant-loop-name g l = record {
  at : l.at ≡ walk l.self.below.items 0 (take l.name-index l.path);
  values : map (option_map (λ v. v.now)) l.values.items ≡ map (value_at l.self) (firsts (take l.name-index l.path));
}
