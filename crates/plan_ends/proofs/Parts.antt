-- The parts of a plan, joined.
use Rattle.std.proofs.Common.{◌≡◌, ℕ, List, ◌++◌, map, sym, ◌∙◌, ap, subst, append_assoc}
use Rattle.tree_core.specs.declared.node.Node.{Node}
use Rattle.tree_core.specs.declared.changes.Changes.{Changes}
use Rattle.tree_core.specs.FileTree.{FileTree}
use Rattle.commit_steps.specs.declared.step.Step.{Step}
use Rattle.commit_steps.specs.declared.step.Step.TheVariants.{MakeDir}
use Rattle.edit_words.specs.Rows.{rows}
use Rattle.edit_words.specs.Sight.{sight_of}
use Rattle.edit_words.specs.Edited.{AreMadeFor, edited}
use Rattle.edit_rules.specs.Plans.{ModeChange, AreModes}
use Rattle.edit_laws.proofs.AskedLemmas.{made_are}
use Rattle.plan_moves.specs.Moves.{Moves, Spots, fresh_spots}
use Rattle.plan_moves.specs.Plan.{IsPlan, held_paths, holds, mode_step}
use Rattle.plan_moves.specs.Waiting.{Waiting, waiting}
use Rattle.plan_laws.specs.Laws.{ArePlanned, HaveNames, NoneWaits}
use Rattle.plan_moves.specs.SoFar.{Invariant}
use Rattle.plan_laws.proofs.MovesLead.{moves_lead}
use Rattle.plan_laws.proofs.Setting.{planned_rows}
use Rattle.plan_laws.proofs.WellLemmas.{well_at_first}
use Rattle.step_trees.specs.Entries.{rest, IsHeld, HoldsOnly}
use Rattle.step_trees.specs.Leads.{start, HoldsEntries, Leads, LeadsFrom}
use Rattle.step_trees.specs.Steps.{after}
use Rattle.plan_ends.specs.Laws.{IsMoved, AreLastSteps, AreFirstSteps, AreAsMany, first_steps}
use Rattle.plan_ends.specs.Runs.{IsRun}
use Rattle.plan_ends.proofs.EndMoves.{end_moved}
use Rattle.plan_ends.proofs.EndModes.{mode_run_others, mode_ends}
use Rattle.plan_ends.proofs.FirstSteps.{first_steps_lead}
use Rattle.plan_ends.proofs.MoveRuns.{moves_run}
use Rattle.plan_ends.proofs.Starts.{starts_well}
use Rattle.plan_ends.proofs.GroupModes.{ChangesLast, none_before, modes_at_last}
use Rattle.plan_ends.proofs.PlanLeads.{holds_change_none, dirs_change_none, moves_change_none, modes_all, groups_fine}
use Rattle.plan_ends.proofs.RunLemmas.{after-append, run-append, run_ends, run_leads}

pub moves_on : (t : FileTree) (changes : Changes) → ArePlanned t changes → HaveNames (rows changes) → (made : List Node) → AreAsMany (rows changes) made → (n : ℕ) (spots : Spots) (ws : List Waiting) (steps : List Step) (now : FileTree)
    → Invariant t (rows changes) made n spots ws now → HoldsEntries now → Moves n spots ws steps → IsRun now steps × NoneWaits t (rows changes) made (after steps now)
moves_on t changes planned names made long n spots ws steps now inv holds moves =
    moves_run t (rows changes) (planned_rows t changes planned) (NoneWaits t (rows changes) made) n spots ws steps now moves inv.well.listed holds
    (moves_lead t (rows changes) (planned_rows t changes planned) names made long n spots ws now steps inv moves)

module _ (t : FileTree) (changes : Changes) (made : List Node) (planned : ArePlanned t changes) (made_for : AreMadeFor t changes made) where
  pub last_steps : (now : FileTree) (ms : List ModeChange) → HoldsEntries now → IsMoved t (rows changes) made now → AreModes (sight_of t) (rows changes) ms → AreLastSteps now (edited t (rows changes) made) (map mode_step ms)
  last_steps now ms holds moved are =
      let both = mode_run_others t changes made planned made_for now holds moved ms are in
      record { run = both.0; others = both.1; ends = mode_ends t changes made planned made_for now holds moved ms are }

  as_many : AreAsMany (rows changes) made
  as_many = (made_are t changes planned.tree planned.asked made made_for).long

  module _ (names : HaveNames (rows changes)) (steps : List Step) (plan : IsPlan (sight_of t) (rows changes) steps) where
    firsts : AreFirstSteps t (rows changes) made (first_steps t (rows changes) plan.dirs)
    firsts = first_steps_lead t (rows changes) (planned_rows t changes planned) names made plan.dirs plan.missing (starts_well t changes planned made made_for)

    begun_holds : HoldsEntries (after (first_steps t (rows changes) plan.dirs) (start t made))
    begun_holds = run_ends (first_steps t (rows changes) plan.dirs) (start t made) firsts.run

    moves : IsRun (after (first_steps t (rows changes) plan.dirs) (start t made)) plan.moves × NoneWaits t (rows changes) made (after plan.moves (after (first_steps t (rows changes) plan.dirs) (start t made)))
    moves = moves_on t changes planned names made as_many 0 (fresh_spots 0 (rows changes)) (waiting (rows changes)) plan.moves (after (first_steps t (rows changes) plan.dirs) (start t made))
        (record { tree = begun_holds.tree; shown = firsts.shown; well = well_at_first t (rows changes) (planned_rows t changes planned) }) begun_holds plan.moved

    moved_holds : HoldsEntries (after plan.moves (after (first_steps t (rows changes) plan.dirs) (start t made)))
    moved_holds = run_ends plan.moves (after (first_steps t (rows changes) plan.dirs) (start t made)) moves.0

    moved : IsMoved t (rows changes) made (after plan.moves (after (first_steps t (rows changes) plan.dirs) (start t made)))
    moved = end_moved t (rows changes) (planned_rows t changes planned) made as_many moves.1.spots
        (after plan.moves (after (first_steps t (rows changes) plan.dirs) (start t made))) moves.1.invariant.shown

    last : AreLastSteps (after plan.moves (after (first_steps t (rows changes) plan.dirs) (start t made))) (edited t (rows changes) made) (map mode_step plan.modes)
    last = last_steps (after plan.moves (after (first_steps t (rows changes) plan.dirs) (start t made))) plan.modes moved_holds moved plan.changed

    joined : first_steps t (rows changes) plan.dirs ++ (plan.moves ++ map mode_step plan.modes) ≡ steps
    joined = append_assoc (holds 0 (held_paths (sight_of t) (rows changes))) (map MakeDir plan.dirs) (plan.moves ++ map mode_step plan.modes) ∙ sym plan.steps_are

    pub plan_leads : LeadsFrom (start t made) steps (edited t (rows changes) made)
    plan_leads = subst (λ (l : List Step). LeadsFrom (start t made) l (edited t (rows changes) made)) joined
        (run_leads (first_steps t (rows changes) plan.dirs ++ (plan.moves ++ map mode_step plan.modes)) (start t made) (edited t (rows changes) made)
        (run-append (first_steps t (rows changes) plan.dirs) (plan.moves ++ map mode_step plan.modes) (start t made) firsts.run
        (run-append plan.moves (map mode_step plan.modes) (after (first_steps t (rows changes) plan.dirs) (start t made)) moves.0 last.run))
        (record { is = ap rest there ∙ last.ends.is; only = subst (λ (u : FileTree). HoldsOnly u (IsHeld u)) (sym there) last.ends.only }))
      where
        there : after (first_steps t (rows changes) plan.dirs ++ (plan.moves ++ map mode_step plan.modes)) (start t made)
            ≡ after (map mode_step plan.modes) (after plan.moves (after (first_steps t (rows changes) plan.dirs) (start t made)))
        there = after-append (first_steps t (rows changes) plan.dirs) (plan.moves ++ map mode_step plan.modes) (start t made)
            ∙ after-append plan.moves (map mode_step plan.modes) (after (first_steps t (rows changes) plan.dirs) (start t made))

    all_last : ChangesLast (start t made) steps
    all_last = subst (ChangesLast (start t made)) plan_is
        (none_before (holds 0 (held_paths (sight_of t) (rows changes))) (map MakeDir plan.dirs ++ (plan.moves ++ map mode_step plan.modes)) (start t made) (holds_change_none 0 (held_paths (sight_of t) (rows changes)))
        (none_before (map MakeDir plan.dirs) (plan.moves ++ map mode_step plan.modes) (after (holds 0 (held_paths (sight_of t) (rows changes))) (start t made)) (dirs_change_none plan.dirs)
        (subst (λ (u : FileTree). ChangesLast u (plan.moves ++ map mode_step plan.modes)) (after-append (holds 0 (held_paths (sight_of t) (rows changes))) (map MakeDir plan.dirs) (start t made))
        (none_before plan.moves (map mode_step plan.modes) (after (first_steps t (rows changes) plan.dirs) (start t made)) (moves_change_none _ _ _ plan.moves plan.moved)
        (modes_at_last _ (map mode_step plan.modes) (modes_all plan.modes) last.others)))))
      where
        plan_is : holds 0 (held_paths (sight_of t) (rows changes)) ++ (map MakeDir plan.dirs ++ (plan.moves ++ map mode_step plan.modes)) ≡ steps
        plan_is = sym plan.steps_are

    pub plan_is_led : Leads steps t (edited t (rows changes) made) made
    plan_is_led = record { from = plan_leads; others = groups_fine steps (start t made) (edited t (rows changes) made) plan_leads all_last }
