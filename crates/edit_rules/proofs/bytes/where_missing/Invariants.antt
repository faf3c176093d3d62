use Rattle.std.proofs.Common.{◌≡◌, ◌++◌, [], drop, map, option_map, take}
use Rattle.edit_rules.specs.Standing.{paths_missing}
use Rattle.edit_rules.proofs.bytes.where_missing.Given as goal

abbrev pub invariant-loop-at : goal.invariant-loop-at
invariant-loop-at l =
    l.missing.items ++ paths_missing (take l.at l.path) (drop l.at l.path) (drop l.at (map (option_map (λ f. f.now)) l.above))
    ≡ paths_missing [] l.path (map (option_map (λ f. f.now)) l.above)
