-- The layers of steps. A step depends on an earlier one where a path that it names is equal to, below or above a path that that one
-- names. It is in layer 0 where it depends on none, and else in the one behind the highest on which it depends.
use Rattle.std.specs.Prelude.{ℕ, zero, suc, ◌+◌, max, Bool, nat_le, List, [], ◌∷◌, ◌++◌, length, if◌then◌else◌}
use Rattle.std.specs.List.{list_all}
use Rattle.dired_text.specs.Paths.{Names}
use Rattle.commit_steps.specs.Tests.{are_apart}
use Rattle.commit_steps.specs.declared.step.Step.{Step}
use Rattle.step_trees.specs.Groups.{paths_of, all_paths, joined}

-- The number of the first layer from which on all paths are free, where k is the number of the first of these layers.
abbrev pub free_from : ℕ → (Names → Bool) → List (List Step) → ℕ
free_from k is_free [] = 0
free_from k is_free (l ∷ ls) = max (if list_all is_free (all_paths l) then 0 else k + 1) (free_from (k + 1) is_free ls)

-- the path is related to none that the step names
abbrev pub is_unrelated : Step → Names → Bool
is_unrelated s q = list_all (λ p. are_apart p q) (paths_of s)

-- the layer of a step behind steps with these layers
abbrev pub layer_behind : List (List Step) → Step → ℕ
layer_behind ls s = free_from 0 (is_unrelated s) ls

-- with a step more, as the last one of layer n
abbrev pub put : ℕ → Step → List (List Step) → List (List Step)
put zero s [] = (s ∷ []) ∷ []
put zero s (l ∷ ls) = (l ++ s ∷ []) ∷ ls
put (suc n) s [] = [] ∷ put n s []
put (suc n) s (l ∷ ls) = l ∷ put n s ls

-- the layers of steps, behind steps with these layers
abbrev pub layers_behind : List (List Step) → List Step → List (List Step)
layers_behind ls [] = ls
layers_behind ls (s ∷ steps) = layers_behind (put (layer_behind ls s) s ls) steps

abbrev pub layers : List Step → List (List Step)
layers steps = layers_behind [] steps

-- Layer by layer, in each the steps in their order. A list of at most eight steps stays as it is.
unfoldable pub by_layer : List Step → List Step
by_layer steps = if nat_le (length steps) 8 then steps else joined (layers steps)
