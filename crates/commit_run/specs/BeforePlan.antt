-- The calls of a way back before the groups, as looks tell them on the way.
use Rattle.std.specs.Prelude.{ℕ, List, [], ◌∷◌, ◌++◌, length, is_some, if◌then◌else◌}
use Rattle.std.specs.FinMap.{get, remove}
use Rattle.dired_text.specs.Paths.{Names}
use Rattle.commit_run.specs.Preparing.{early_paths}
use Rattle.commit_run.specs.WayBack.{way_back}
use Rattle.commit_steps.specs.declared.step.Step.{Step}
use Rattle.commit_steps.specs.Staging.{staging, staged, plan}
use Rattle.tree_core.specs.declared.changes.Fresh.{Fresh}
use Rattle.tree_core.specs.declared.node.Change.{Change}
use Rattle.tree_core.specs.declared.node.Change.TheVariants as call
use Rattle.tree_core.specs.FileTree.{FileTree}
use Rattle.tree_core.specs.History.{History, current_tree}

-- what stands at a path is removed
abbrev pub removed_at : Names → FileTree → List Change
removed_at p t = if is_some (get t p) then call.Remove p ∷ [] else []

-- those of these that stand are removed, in order
abbrev pub standing_removed : List Names → FileTree → List Change
standing_removed [] t = []
standing_removed (p ∷ ps) t = if is_some (get t p) then call.Remove p ∷ standing_removed ps (remove t p) else standing_removed ps t

-- all that may stand in the staging directory, where it does, and then that
abbrev pub unstaged_all : ℕ → FileTree → List Change
unstaged_all count t = standing_removed (early_paths count) t ++ call.RemoveDir staging ∷ call.Sync ∷ []

-- the same where the staging directory stands
abbrev pub unstaging : ℕ → FileTree → List Change
unstaging count t = if is_some (get t staging) then unstaged_all count t else call.Sync ∷ []

-- the way back where a call before the groups failed
abbrev pub way_before : List Step → List Fresh → History → List Change
way_before steps fs h = if is_some (get (current_tree h) (staged plan)) then way_back steps fs 0 h else unstaging (length fs) (current_tree h)
