-- The groups that a list of steps is cut into. The steps of a group can be done in any order, and one sync serves for all of them.
use Rattle.std.specs.Prelude.{◌≡◌, ◌⊎◌, ℕ, ◌-◌, ◌<◌, Bool, true, ◌&&◌, nat_le, nat_lt, List, [], ◌∷◌, ◌++◌, length, take, drop, if◌then◌else◌, IsTrue}
use Rattle.std.proofs.Common.{inl, inr}
use Rattle.std.specs.List.{list_all}
use Rattle.dired_text.specs.Paths.{Names}
use Rattle.tree_core.specs.FileTree.{FileTree}
use Rattle.commit_steps.specs.declared.step.Step.{Step}
use Rattle.commit_steps.specs.declared.step.Step.TheVariants.{MakeDir, Rename, Mode}
use Rattle.commit_steps.specs.Tests.{are_apart}
use Rattle.step_trees.specs.Steps.{step_done}

-- ---- independence

-- the paths that a step names
abbrev pub paths_of : Step → List Names
paths_of (MakeDir p) = p ∷ []
paths_of (Rename from to) = from ∷ to ∷ []
paths_of (Mode p old new) = p ∷ []

-- the paths that steps name, each as often as it is named
abbrev pub all_paths : List Step → List Names
all_paths [] = []
all_paths (s ∷ steps) = paths_of s ++ all_paths steps

-- none of them is equal to or below another
abbrev pub all_apart : List Names → Bool
all_apart [] = true
all_apart (p ∷ ps) = list_all (are_apart p) ps && all_apart ps

abbrev pub Independent : List Step → Type 0
Independent steps = IsTrue (all_apart (all_paths steps))

-- ---- the cut

-- A group goes on as long as its steps are independent. `group` is what it has so far, and `steps` comes behind.
abbrev pub grow : List Step → List Step → List (List Step)
grow group [] = group ∷ []
grow group (s ∷ steps) = if all_apart (all_paths (group ++ s ∷ [])) then grow (group ++ s ∷ []) steps else group ∷ grow (s ∷ []) steps

abbrev pub longest : List Step → List (List Step)
longest [] = []
longest (s ∷ steps) = grow (s ∷ []) steps

-- one step in each
abbrev pub singly : List Step → List (List Step)
singly [] = []
singly (s ∷ steps) = (s ∷ []) ∷ singly steps

-- a list of at most eight steps has one step in each group
unfoldable pub groups : List Step → List (List Step)
groups steps = if nat_le (length steps) 8 then singly steps else longest steps

-- the steps of all groups
abbrev pub joined : List (List Step) → List Step
joined [] = []
joined (g ∷ gs) = g ++ joined gs

-- a group has a step, and its steps are independent unless it has only one
abbrev pub IsGroup : List Step → Type 0
IsGroup g = (0 < length g) × (Independent g ⊎ ((s : Step) × (g ≡ s ∷ [])))

abbrev pub AreGroups : List (List Step) → Type 0
AreGroups [] = Unit {0}
AreGroups (g ∷ gs) = IsGroup g × AreGroups gs

-- the steps from place m to the next cut behind it
abbrev pub to_next_cut : ℕ → List (List Step) → List Step
to_next_cut m [] = []
to_next_cut m (g ∷ gs) = if nat_lt m (length g) then drop m g else to_next_cut (m - length g) gs

-- the groups behind that cut
abbrev pub whole_behind : ℕ → List (List Step) → List (List Step)
whole_behind m [] = []
whole_behind m (g ∷ gs) = if nat_lt m (length g) then gs else whole_behind (m - length g) gs

-- the steps from the last cut before place m to it
abbrev pub from_last_cut : ℕ → List (List Step) → List Step
from_last_cut m [] = []
from_last_cut m (g ∷ gs) = if nat_le m (length g) then take m g else from_last_cut (m - length g) gs

-- the groups that lie before the cut at place k
abbrev pub whole_before : ℕ → List (List Step) → List (List Step)
whole_before k [] = []
whole_before k (g ∷ gs) = if nat_le (length g) k then g ∷ whole_before (k - length g) gs else []

-- ---- some steps of a group done

-- c is t with any of these steps done, the others left
abbrev pub ComesBySome : List Step → FileTree → FileTree → Type 0
ComesBySome [] t c = c ≡ t
ComesBySome (s ∷ steps) t c = ComesBySome steps t c ⊎ ComesBySome steps (step_done s t) c

-- the steps that are still to be done, and those that were done
abbrev pub left_of : (steps : List Step) (t c : FileTree) → ComesBySome steps t c → List Step
left_of [] t c is = []
left_of (s ∷ steps) t c (inl left) = s ∷ left_of steps t c left
left_of (s ∷ steps) t c (inr taken) = left_of steps (step_done s t) c taken

abbrev pub taken_of : (steps : List Step) (t c : FileTree) → ComesBySome steps t c → List Step
taken_of [] t c is = []
taken_of (s ∷ steps) t c (inl left) = taken_of steps t c left
taken_of (s ∷ steps) t c (inr taken) = s ∷ taken_of steps (step_done s t) c taken
