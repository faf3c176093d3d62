-- What the paths of a group's steps are kept as.
use Rattle.std.specs.Prelude.{◌≡◌, not, is_none, List}
use Rattle.std.specs.List.{list_all}
use Rattle.std.specs.Ordering.{eq_by_cmp}
use Rattle.dired_text.specs.Paths.{Names, path_cmp}
use Rattle.path_map.specs.Walks.{IsPathMap, is_above, value_at}
use Rattle.step_trees.specs.Groups.{all_apart}
use Rattle.step_cuts.specs.declared.named_paths.NamedPaths.{NamedPaths}

pub record HasMaps (n : NamedPaths) : Type 0 where
  pub named : IsPathMap n.named
  pub above : IsPathMap n.above

-- these paths were named
pub record Holds (ps : List Names) (n : NamedPaths) : Type 0 where
  pub named : (p : Names) → is_none (value_at n.named p) ≡ list_all (λ q. not (eq_by_cmp path_cmp q p)) ps
  pub above : (p : Names) → is_none (value_at n.above p) ≡ list_all (λ q. not (is_above p q)) ps
  pub apart : n.are_apart ≡ all_apart ps
