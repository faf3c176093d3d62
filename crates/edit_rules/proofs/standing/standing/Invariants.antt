use Rattle.std.proofs.Common.{◌≡◌, option_map, is_eq}
use Rattle.std.specs.BTreeMap.{get}
use Rattle.std.specs.Map.{lookup}
use Rattle.std.specs.Option.{option_or}
use Rattle.dired_text.specs.Paths.{Names, path_cmp}
use Rattle.path_map.specs.Walks.{IsPathMap, value_at}
use Rattle.edit_rules.specs.Standing.{found_as}
use Rattle.edit_rules.proofs.standing.standing.Given as goal

abbrev pub invariant-loop-path : goal.invariant-loop-path
invariant-loop-path l = record {
  can : (goal.iterator-loop-path).can_next l.path-iterator;
  ends : (goal.iterator-loop-path).is_finite l.path-iterator;
  map : IsPathMap l.standing;
  noted : (p : Names) → option_or (value_at l.standing p) (option_map found_as (lookup (λ q. is_eq (path_cmp p q)) l.path-iterator)) ≡ option_map found_as (get path_cmp l.findings.found p);
}
