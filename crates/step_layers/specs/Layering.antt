-- What is kept of the steps that were put into layers.
use Rattle.std.specs.Prelude.{◌≡◌, ℕ, ◌<◌, max, not, List, map, length, get_or, Some, is_some, IsTrue, if◌then◌else◌}
use Rattle.std.specs.List.{AllByRecursion, list_all}
use Rattle.std.specs.Ordering.{eq_by_cmp}
use Rattle.std.specs.Global.{Vec}
use Rattle.dired_text.specs.Paths.{Names, path_cmp}
use Rattle.path_map.specs.Walks.{IsPathMap, is_above, value_at}
use Rattle.path_map.specs.declared.map.PathMap.{PathMap}
use Rattle.commit_steps.specs.declared.step.Step.{Step}
use Rattle.step_trees.specs.Groups.{paths_of}
use Rattle.step_layers.specs.Floors.{floor_at}
use Rattle.step_layers.specs.Layers.{free_from}
use Rattle.step_layers.specs.declared.layering.Layering.{Layering}

abbrev pub contents : List (Vec Step) → List (List Step)
contents layers = map (λ l. l.items) layers

abbrev pub HasNumber : PathMap ℕ → Names → Type 0
HasNumber m p = IsTrue (is_some (value_at m p))

abbrev pub HasNumbers : PathMap ℕ → Step → Type 0
HasNumbers m s = AllByRecursion (HasNumber m) (paths_of s)

-- each number is that of one path, and has two floors
pub record IsNumbered (l : Layering) : Type 0 where
  pub map : IsPathMap l.numbers
  pub as_many : length l.under.items ≡ length l.at.items
  pub within : (p : Names) (i : ℕ) → value_at l.numbers p ≡ Some i → i < length l.at.items
  pub one : (p q : Names) (i : ℕ) → value_at l.numbers p ≡ Some i → value_at l.numbers q ≡ Some i → p ≡ q

-- They are the layer from which on no step names the path, and the one from which on none names a path below it.
pub record HasFloors (ls : List (List Step)) (l : Layering) : Type 0 where
  pub at : (p : Names) → floor_at l.at.items (value_at l.numbers p) ≡ free_from 0 (λ q. not (eq_by_cmp path_cmp q p)) ls
  pub under : (p : Names) (i : ℕ) → value_at l.numbers p ≡ Some i → get_or l.under.items i 0 ≡ free_from 0 (λ q. not (is_above p q)) ls

pub record IsSound (l : Layering) : Type 0 where
  pub numbered : IsNumbered l
  pub floors : HasFloors (contents l.layers.items) l

-- the floors on which these paths bear were raised to n
pub record IsRaised (ps : List Names) (n : ℕ) (old new : Layering) : Type 0 where
  pub numbers : new.numbers ≡ old.numbers
  pub layers : new.layers ≡ old.layers
  pub numbered : IsNumbered new
  pub at : (p : Names) → floor_at new.at.items (value_at old.numbers p) ≡ max (if list_all (λ q. not (eq_by_cmp path_cmp q p)) ps then 0 else n) (floor_at old.at.items (value_at old.numbers p))
  pub under : (p : Names) (i : ℕ) → value_at old.numbers p ≡ Some i → get_or new.under.items i 0 ≡ max (if list_all (λ q. not (is_above p q)) ps then 0 else n) (get_or old.under.items i 0)
