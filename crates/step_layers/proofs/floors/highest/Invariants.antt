use Rattle.std.proofs.Common.{◌≡◌, max, map, option_map, drop}
use Rattle.step_layers.specs.Floors.{highest_of}
use Rattle.step_layers.proofs.floors.highest.Given as goal

abbrev pub invariant-loop-number : goal.invariant-loop-number
invariant-loop-number l = max l.top (highest_of l.floors (map (option_map (λ n. n.now)) (drop l.number-index l.numbers))) ≡ highest_of l.floors (map (option_map (λ n. n.now)) l.numbers)
