use Rattle.std.proofs.Common.{◌≡◌, map, option_map, drop}
use Rattle.step_layers.specs.Floors.{raised_all}
use Rattle.step_layers.proofs.floors.raise_all.Given as goal

abbrev pub invariant-loop-number : goal.invariant-loop-number
invariant-loop-number l = raised_all l.floor (map (option_map (λ n. n.now)) (drop l.number-index l.numbers)) l.floors ≡ raised_all l.floor (map (option_map (λ n. n.now)) l.numbers) l.fn.floors
