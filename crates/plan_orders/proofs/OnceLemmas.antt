-- No two steps of a plan set the mode of one file.
use Rattle.std.proofs.Common.{◌≡◌, ℕ, List, [], ◌∷◌, ◌++◌, map, refl, sym, ◌∙◌, subst, Some, None}
use Rattle.std.specs.FinMap.{get}
use Rattle.std.proofs.lemmas.Option.{none-some}
use Rattle.dired_text.specs.Paths.{Names}
use Rattle.commit_steps.specs.declared.step.Step.{Step}
use Rattle.commit_steps.specs.declared.step.Step.TheVariants.{MakeDir, Rename, Mode}
use Rattle.edit_laws.proofs.AskedLemmas.{made_are}
use Rattle.edit_rules.specs.Plans.{ModeChange}
use Rattle.edit_words.specs.Edited.{AreMadeFor}
use Rattle.edit_words.specs.Rows.{rows}
use Rattle.edit_words.specs.Sight.{sight_of}
use Rattle.plan_ends.specs.Laws.{AreAsMany, AreFirstSteps, IsMoved, first_steps}
use Rattle.plan_ends.specs.Runs.{IsRun}
use Rattle.plan_ends.proofs.EndMoves.{end_moved}
use Rattle.plan_ends.proofs.FirstSteps.{first_steps_lead}
use Rattle.plan_ends.proofs.GroupModes.{ChangeNone}
use Rattle.plan_ends.proofs.ModeSteps.{numbers_kept, one_number}
use Rattle.plan_ends.proofs.Parts.{last_steps, moves_on}
use Rattle.plan_ends.proofs.PlanLeads.{dirs_change_none, holds_change_none, moves_change_none}
use Rattle.plan_ends.proofs.RunLemmas.{after-append, run_ends}
use Rattle.plan_ends.proofs.Starts.{starts_well}
use Rattle.plan_laws.specs.Laws.{ArePlanned, HaveNames, NoneWaits}
use Rattle.plan_laws.proofs.Setting.{planned_rows}
use Rattle.plan_laws.proofs.WellLemmas.{well_at_first}
use Rattle.plan_moves.specs.Moves.{fresh_spots}
use Rattle.plan_moves.specs.Plan.{IsPlan, held_paths, holds, mode_step}
use Rattle.plan_moves.specs.Waiting.{waiting}
use Rattle.plan_orders.specs.Laws.{PlansSetOnce}
use Rattle.step_layers.specs.Order.{SetNever, SetOnce}
use Rattle.step_trees.specs.Leads.{HoldsEntries, SetApart, SetOthers, file_of, number_of, start}
use Rattle.step_trees.specs.Steps.{after, step_done}
use Rattle.tree_core.specs.declared.changes.Changes.{Changes}
use Rattle.tree_core.specs.declared.node.Node.{Node}
use Rattle.tree_core.specs.FileTree.{FileTree}

-- ---- steps that change no mode

never_none : (t : FileTree) (steps : List Step) → SetNever t None steps
never_none t [] = tt
never_none t (s ∷ steps) = (λ n e f. none-some n e, never_none (step_done s t) steps)

once_behind : (xs ys : List Step) (t : FileTree) → ChangeNone xs → SetOnce (after xs t) ys → SetOnce t (xs ++ ys)
once_behind [] ys t none once = once
once_behind (MakeDir p ∷ xs) ys t none once = (never_none (step_done (MakeDir p) t) (xs ++ ys), once_behind xs ys (step_done (MakeDir p) t) none once)
once_behind (Rename from to ∷ xs) ys t none once = (never_none (step_done (Rename from to) t) (xs ++ ys), once_behind xs ys (step_done (Rename from to) t) none once)
once_behind (Mode p old new ∷ xs) ys t none once = absurd none

-- ---- steps that change modes

-- the files of both trees have the same numbers
abbrev AreNumberedAlike : FileTree → FileTree → Type 0
AreNumberedAlike t u = (p : Names) → number_of (get u p) ≡ number_of (get t p)

still_alike : (t u : FileTree) (m : ModeChange) → AreNumberedAlike t u → AreNumberedAlike t (step_done (mode_step m) u)
still_alike t u m alike p = one_number _ ∙ numbers_kept u m p ∙ sym (one_number _) ∙ alike p

modes_never : (t u : FileTree) (s : Step) (ms : List ModeChange) → AreNumberedAlike t u → SetApart t s (map mode_step ms) → SetNever u (file_of t s) (map mode_step ms)
modes_never t u s [] alike apart = tt
modes_never t u s (m ∷ ms) alike apart = (λ n e f. apart.0 n e (sym (alike m.0) ∙ f), modes_never t (step_done (mode_step m) u) s ms (still_alike t u m alike) apart.1)

modes_once : (t u : FileTree) (ms : List ModeChange) → AreNumberedAlike t u → SetOthers t (map mode_step ms) → SetOnce u (map mode_step ms)
modes_once t u [] alike others = tt
modes_once t u (m ∷ ms) alike others = (
  subst (λ o. SetNever (step_done (mode_step m) u) o (map mode_step ms)) (sym (alike m.0))
      (modes_never t (step_done (mode_step m) u) (mode_step m) ms (still_alike t u m alike) others.0),
  modes_once t (step_done (mode_step m) u) ms (still_alike t u m alike) others.1,
)

-- ---- a plan

module _ (t : FileTree) (changes : Changes) (made : List Node) (steps : List Step) (planned : ArePlanned t changes) (names : HaveNames (rows changes)) (made_for : AreMadeFor t changes made)
    (plan : IsPlan (sight_of t) (rows changes) steps) where
  abbrev begun : FileTree
  begun = after (first_steps t (rows changes) plan.dirs) (start t made)

  abbrev moved : FileTree
  moved = after plan.moves begun

  as_many : AreAsMany (rows changes) made
  as_many = (made_are t changes planned.tree planned.asked made made_for).long

  firsts : AreFirstSteps t (rows changes) made (first_steps t (rows changes) plan.dirs)
  firsts = first_steps_lead t (rows changes) (planned_rows t changes planned) names made plan.dirs plan.missing (starts_well t changes planned made made_for)

  begun_holds : HoldsEntries begun
  begun_holds = run_ends (first_steps t (rows changes) plan.dirs) (start t made) firsts.run

  moves : IsRun begun plan.moves × NoneWaits t (rows changes) made moved
  moves = moves_on t changes planned names made as_many 0 (fresh_spots 0 (rows changes)) (waiting (rows changes)) plan.moves begun
      (record { tree = begun_holds.tree; shown = firsts.shown; well = well_at_first t (rows changes) (planned_rows t changes planned) }) begun_holds plan.moved

  in_place : IsMoved t (rows changes) made moved
  in_place = end_moved t (rows changes) (planned_rows t changes planned) made as_many moves.1.spots moved moves.1.invariant.shown

  last_once : SetOnce moved (map mode_step plan.modes)
  last_once = modes_once moved moved plan.modes (λ p. refl) (last_steps t changes made planned made_for moved plan.modes (run_ends plan.moves begun moves.0) in_place plan.changed).others

  pub plan_once : SetOnce (start t made) steps
  plan_once = subst (SetOnce (start t made)) (sym plan.steps_are)
      (once_behind (holds 0 (held_paths (sight_of t) (rows changes))) (map MakeDir plan.dirs ++ (plan.moves ++ map mode_step plan.modes)) (start t made) (holds_change_none 0 (held_paths (sight_of t) (rows changes)))
      (once_behind (map MakeDir plan.dirs) (plan.moves ++ map mode_step plan.modes) (after (holds 0 (held_paths (sight_of t) (rows changes))) (start t made)) (dirs_change_none plan.dirs)
      (subst (λ (u : FileTree). SetOnce u (plan.moves ++ map mode_step plan.modes)) (after-append (holds 0 (held_paths (sight_of t) (rows changes))) (map MakeDir plan.dirs) (start t made))
      (once_behind plan.moves (map mode_step plan.modes) begun (moves_change_none _ _ _ plan.moves plan.moved) last_once))))

pub plans_set_once : PlansSetOnce
plans_set_once t changes made steps planned names made_for plan = plan_once t changes made steps planned names made_for plan
