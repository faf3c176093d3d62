-- Steps undone, or done, as looks tell.
use Rattle.std.specs.Prelude.{◌≡◌, ◌⊎◌, ℕ, List, [], ◌∷◌, take, Result, MatchResult, Bool, true, false}
use Rattle.std.specs.List.{list_any}
use Rattle.tree_core.specs.declared.node.Change.{Change}
use Rattle.tree_core.specs.declared.node.CallName.{CallName}
use Rattle.tree_core.specs.FileTree.{FileTree, done}
use Rattle.tree_core.specs.History.{History, Then, current_tree}
use Rattle.tree_core.specs.Runs.{then_all, FailedCall, FailedIn}
use Rattle.commit_steps.specs.declared.step.Step.{Step}
use Rattle.step_trees.specs.Steps.{undo_of}
use Rattle.step_looks.specs.Looks.{can_go_back}

-- the tree with these steps undone, the last one first
abbrev pub undone : List Step → FileTree → FileTree
undone [] t = t
undone (s ∷ steps) t = done (undo_of s) 0 (undone steps t)

-- a step, where a test holds, and these
abbrev pub and_where : Bool → Step → List Step → List Step
and_where true s steps = s ∷ steps
and_where false s steps = steps

-- From the last to the first, the steps that a look tells can be undone, in the tree with the later ones undone.
abbrev pub to_undo : List Step → FileTree → List Step
to_undo [] t = []
to_undo (s ∷ steps) t = and_where (can_go_back s (undone (to_undo steps t) t)) s (to_undo steps t)

-- whether a look tells of any of these that it can be undone
abbrev pub any_goes_back : List Step → FileTree → Bool
any_goes_back steps t = list_any (λ s. can_go_back s t) steps

-- At Ok this call was done. At an error it failed.
abbrev pub RanOne : {T : Type 0} → Change → History → History → FileTree → FileTree → Result T CallName → Type 0
RanOne change old new before after result = MatchResult result (λ _. (new ≡ Then old change) × (after ≡ before)) (λ first. FailedCall change old new after first)

-- A look failed, when the first so many of these calls were done; `before` is the tree that read then.
pub record LookedIn (calls : List Change) (old new : History) (before : FileTree) : Type 0 where
  pub count : ℕ
  pub history : new ≡ then_all old (take count calls)
  pub tree : before ≡ current_tree new

-- Calls with looks between them: at Ok all calls were done. At an error one of them failed, or a look did.
abbrev pub RanOrLooked : {T : Type 0} → List Change → History → History → FileTree → FileTree → Result T CallName → Type 0
RanOrLooked calls old new before after result =
    MatchResult result (λ _. (new ≡ then_all old calls) × (after ≡ before)) (λ first. FailedIn calls old new after first ⊎ LookedIn calls old new after)
