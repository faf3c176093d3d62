-- Plans lead from the old tree to the edited one.
use Rattle.std.proofs.Common.{ℕ, ◌+◌, List, [], ◌∷◌, map, sym, subst}
use Rattle.dired_text.specs.Paths.{Names}
use Rattle.commit_steps.specs.declared.step.Step.{Step}
use Rattle.commit_steps.specs.declared.step.Step.TheVariants.{MakeDir}
use Rattle.tree_core.specs.FileTree.{FileTree}
use Rattle.edit_rules.specs.Plans.{ModeChange}
use Rattle.plan_moves.specs.Moves.{Moves, over, carry, knot, Spots}
use Rattle.plan_moves.specs.Plan.{holds, mode_step}
use Rattle.plan_moves.specs.Waiting.{Waiting}
use Rattle.step_trees.specs.Leads.{LeadsFrom, GroupsSetOthers}
use Rattle.step_trees.specs.Groups.{groups}
use Rattle.step_trees.specs.Steps.{step_done}
use Rattle.step_trees.proofs.CutLemmas.{joined_groups, groups_groups}
use Rattle.plan_ends.specs.Runs.{IsRun}
use Rattle.plan_ends.proofs.GroupModes.{AllModes, ChangesLast, ChangeNone, groups_others}

pub holds_change_none : (n : ℕ) (ps : List Names) → ChangeNone (holds n ps)
holds_change_none n [] = tt
holds_change_none n (p ∷ ps) = holds_change_none (n + 1) ps

pub dirs_change_none : (ps : List Names) → ChangeNone (map MakeDir ps)
dirs_change_none [] = tt
dirs_change_none (p ∷ ps) = dirs_change_none ps

pub moves_change_none : (n : ℕ) (spots : Spots) (ws : List Waiting) (steps : List Step) → Moves n spots ws steps → ChangeNone steps
moves_change_none n spots ws steps (over _ _ _ none_ready no_deepest) = tt
moves_change_none n spots ws steps (carry _ _ _ w more has is_ready_now moves) = moves_change_none n spots _ more moves
moves_change_none n spots ws steps (knot _ _ _ d more none_ready is_deepest moves) = moves_change_none (n + 1) _ _ more moves

pub modes_all : (ms : List ModeChange) → AllModes (map mode_step ms)
modes_all [] = tt
modes_all (m ∷ ms) = modes_all ms

leads_run : (steps : List Step) (t new : FileTree) → LeadsFrom t steps new → IsRun t steps
leads_run [] t new leads = leads.0
leads_run (s ∷ steps) t new leads = (leads.0, leads.1, leads.2, leads_run steps (step_done s t) new leads.3)

-- steps that lead on, of which the last change modes, each once, do so in their groups
pub groups_fine : (steps : List Step) (t new : FileTree) → LeadsFrom t steps new → ChangesLast t steps → GroupsSetOthers t (groups steps)
groups_fine steps t new leads last = groups_others (groups steps) t (subst (IsRun t) (sym (joined_groups steps)) (leads_run steps t new leads)) (groups_groups steps) (subst (ChangesLast t) (sym (joined_groups steps)) last)
