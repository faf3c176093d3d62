-- What holds of the places at which a list of steps is cut, as statements.
use Rattle.std.specs.Prelude.{◌≡◌, ℕ, ◌<◌, ◌≤◌, List, [], ◌∷◌, length}
use Rattle.std.specs.List.{AllByRecursion}
use Rattle.commit_steps.specs.declared.step.Step.{Step}
use Rattle.step_trees.specs.Groups.{groups}
use Rattle.step_cuts.specs.Cuts.{ends_of}

-- each is greater than the one before, and the first than k
abbrev pub Rise : ℕ → List ℕ → Type 0
Rise k [] = Unit {0}
Rise k (e ∷ ends) = (k < e) × Rise e ends

-- the last of them, and k where there is none
abbrev pub last_of : ℕ → List ℕ → ℕ
last_of k [] = k
last_of k (e ∷ ends) = last_of e ends

abbrev pub CutsRise : Type 0
CutsRise = (steps : List Step) → Rise 0 (ends_of 0 (groups steps))

abbrev pub CutsAreWithin : Type 0
CutsAreWithin = (steps : List Step) → AllByRecursion (λ end. end ≤ length steps) (ends_of 0 (groups steps))

abbrev pub LastCutIsTheEnd : Type 0
LastCutIsTheEnd = (steps : List Step) → last_of 0 (ends_of 0 (groups steps)) ≡ length steps
