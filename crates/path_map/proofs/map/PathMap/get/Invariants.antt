use Rattle.std.proofs.Common.{◌≡◌, ℕ, drop, option_and_then}
use Rattle.path_map.specs.Walks.{walk}
use Rattle.path_map.proofs.map.PathMap.get.Given as goal

abbrev pub invariant-loop-name : goal.invariant-loop-name
invariant-loop-name g l = option_and_then (λ (i : ℕ). walk l.self.below.items i (drop l.name-index l.path)) l.at ≡ walk l.self.below.items 0 l.path
