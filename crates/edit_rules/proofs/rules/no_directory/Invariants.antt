use Rattle.std.proofs.Common.{◌≡◌, [], drop, map, option_map, take}
use Rattle.edit_rules.specs.Standing.{other_in}
use Rattle.edit_rules.proofs.rules.no_directory.Given as goal

abbrev pub invariant-loop-at : goal.invariant-loop-at
invariant-loop-at l =
    other_in (take l.at l.path) (drop l.at l.path) (drop l.at (map (option_map (λ f. f.now)) l.above))
    ≡ other_in [] l.path (map (option_map (λ f. f.now)) l.above)
