-- Where the groups of a list of steps end.
use Rattle.std.specs.Prelude.{ℕ, ◌+◌, List, [], ◌∷◌, length}
use Rattle.commit_steps.specs.declared.step.Step.{Step}

-- the number of steps from the first on to the end of each group, with k steps before the groups
abbrev pub ends_of : ℕ → List (List Step) → List ℕ
ends_of k [] = []
ends_of k (g ∷ gs) = (k + length g) ∷ ends_of (k + length g) gs
