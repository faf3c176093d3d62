-- A plan of changes fits a commit.
use Rattle.std.proofs.Common.{◌≡◌, ℕ, Bool, true, false, cond, filter, ◌+◌, ◌<◌, ◌≤◌, ◌^◌, List, [], ◌∷◌, ◌++◌, map, length, sym, ◌∙◌, ap, subst, arith, append_assoc}
use Rattle.std.specs.List.{AllByRecursion}
use Rattle.std.proofs.lemmas.List.{length-map, take_all}
use Rattle.std.proofs.lemmas.Slice.Zip.{AllZip-long}
use Rattle.dired_text.specs.Paths.{Names}
use Rattle.commit_steps.specs.declared.step.Step.{Step}
use Rattle.commit_steps.specs.declared.step.Step.TheVariants.{MakeDir}
use Rattle.commit_steps.specs.Staging.{staged, held}
use Rattle.commit_states.specs.Calls.{AreLawfulFresh, Cleans, held_items}
use Rattle.commit_states.specs.Fits.{Fits}
use Rattle.commit_states.specs.Interrupted.{IsWritten}
use Rattle.commit_states.specs.Reads.{AreRead}
use Rattle.commit_states.proofs.ReadLemmas.{held_suffice}
use Rattle.tree_core.specs.declared.changes.Changes.{Changes}
use Rattle.tree_core.specs.declared.node.Node.{Node}
use Rattle.tree_core.specs.FileTree.{FileTree, IsAbsent, Stands}
use Rattle.edit_words.specs.declared.row.Row.{Row}
use Rattle.edit_words.specs.Edited.{asked_fresh, edited, is_fresh, AreMadeFor, IsMadeFor}
use Rattle.edit_words.specs.Rows.{rows}
use Rattle.edit_laws.proofs.AskedLemmas.{made_are}
use Rattle.edit_words.specs.Sight.{sight_of}
use Rattle.plan_ends.specs.Laws.{AreAsMany, AreFirstSteps, first_steps}
use Rattle.plan_ends.proofs.FirstSteps.{first_steps_lead}
use Rattle.plan_ends.proofs.Parts.{moves_on, plan_is_led}
use Rattle.plan_ends.proofs.RunLemmas.{after-append, run_ends}
use Rattle.plan_ends.proofs.Starts.{starts_well}
use Rattle.plan_fits.specs.HeldKinds.{held_kinds, held_of}
use Rattle.plan_fits.specs.Laws.{AreBelow, HasText, made_for}
use Rattle.plan_fits.proofs.KeptLemmas.{StandAs, all_read, kept_all, only_held, stand_behind, stood_before}
use Rattle.plan_fits.proofs.KindLemmas.{kinds_stand, paths_are}
use Rattle.plan_fits.proofs.MadeLemmas.{asked_can_be_made, made_as_asked}
use Rattle.plan_laws.specs.Laws.{ArePlanned, HaveNames, NoneWaits}
use Rattle.plan_laws.proofs.WellLemmas.{well_at_first}
use Rattle.plan_laws.proofs.Held.{few_held}
use Rattle.plan_laws.proofs.HeldOnce.{AreOnce, held_once}
use Rattle.plan_laws.proofs.Setting.{ArePlannedRows, planned_rows}
use Rattle.plan_laws.proofs.StagedNames.{one_staging}
use Rattle.plan_moves.specs.Moves.{fresh_spots}
use Rattle.plan_moves.specs.Plan.{IsPlan, held_paths, holds, mode_step}
use Rattle.plan_moves.specs.SoFar.{IsSoFar}
use Rattle.plan_moves.specs.Waiting.{waiting}
use Rattle.step_trees.specs.Leads.{Leads, LeadsFrom, at_place, start, Ends, HoldsEntries}
use Rattle.step_trees.specs.Steps.{after, step_done}
use Rattle.step_trees.specs.Entries.{HoldsOnly, IsHeld}

filter_short : (p : Row → Bool) (rs : List Row) → length (filter p rs) ≤ length rs
filter_short p [] = omega arith
filter_short p (r ∷ rs) = let less = filter_short p rs in go less (p r)
  where
    go : length (filter p rs) ≤ length rs → (b : Bool) → length (cond b (r ∷ filter p rs) (filter p rs)) ≤ length (r ∷ rs)
    go less true = omega arith
    go less false = omega arith

module _ (t : FileTree) (changes : Changes) (steps : List Step) (next : ℕ) (planned : ArePlanned t changes) (names : HaveNames (rows changes)) (texts : AllByRecursion HasText (asked_fresh changes))
    (below : AreBelow t next) (plan : IsPlan (sight_of t) (rows changes) steps) where
  abbrev made : List Node
  made = made_for t changes next

  set : ArePlannedRows t (rows changes)
  set = planned_rows t changes planned

  lawful : AreLawfulFresh t (asked_fresh changes)
  lawful = asked_can_be_made t changes planned.asked.lawful texts

  asked : AreMadeFor t changes made
  asked = made_as_asked t next below changes (next + 1) (omega arith) lawful

  leads : Leads steps t (edited t (rows changes) made) made
  leads = plan_is_led t changes made planned asked names steps plan

  abbrev begun : FileTree
  begun = after (first_steps t (rows changes) plan.dirs) (start t made)

  abbrev moved : FileTree
  moved = after plan.moves begun

  abbrev last : FileTree
  last = after (map mode_step plan.modes) moved

  as_many : AreAsMany (rows changes) made
  as_many = (made_are t changes planned.tree planned.asked made asked).long

  firsts : AreFirstSteps t (rows changes) made (first_steps t (rows changes) plan.dirs)
  firsts = first_steps_lead t (rows changes) set names made plan.dirs plan.missing (starts_well t changes planned made asked)

  holds_begun : HoldsEntries begun
  holds_begun = run_ends (first_steps t (rows changes) plan.dirs) (start t made) firsts.run

  none_waits : NoneWaits t (rows changes) made moved
  none_waits = (moves_on t changes planned names made as_many 0 (fresh_spots 0 (rows changes)) (waiting (rows changes)) plan.moves begun
      (record { tree = holds_begun.tree; shown = firsts.shown; well = well_at_first t (rows changes) set }) holds_begun plan.moved).1

  so_far : IsSoFar t (rows changes) made none_waits.spots [] moved
  so_far = none_waits.invariant.shown

  joined : first_steps t (rows changes) plan.dirs ++ (plan.moves ++ map mode_step plan.modes) ≡ steps
  joined = append_assoc (holds 0 (held_paths (sight_of t) (rows changes))) (map MakeDir plan.dirs) (plan.moves ++ map mode_step plan.modes) ∙ sym plan.steps_are

  at_last : at_place steps t made (length steps) ≡ last
  at_last = ap (λ (l : List Step). after l (start t made)) (take_all (length steps) steps (omega arith) ∙ sym joined)
      ∙ after-append (first_steps t (rows changes) plan.dirs) (plan.moves ++ map mode_step plan.modes) (start t made)
      ∙ after-append plan.moves (map mode_step plan.modes) begun

  only_at_last : HoldsOnly (at_place steps t made (length steps)) (IsHeld (at_place steps t made (length steps)))
  only_at_last = subst (λ (l : List Step). HoldsOnly (after l (start t made)) (IsHeld (after l (start t made)))) (sym (take_all (length steps) steps (omega arith))) (ends_from steps (start t made) leads.from).only
    where
      ends_from : (steps : List Step) (u : FileTree) → LeadsFrom u steps (edited t (rows changes) made) → Ends (edited t (rows changes) made) (after steps u)
      ends_from [] u from = from.1
      ends_from (s ∷ steps) u from = ends_from steps (step_done s u) from.3

  -- ---- what is put aside

  abbrev kinds : List (Names × Bool)
  kinds = held_kinds (sight_of t) (rows changes)

  many : length kinds ≡ length (held_paths (sight_of t) (rows changes))
  many = sym (length-map kinds (λ (x : Names × Bool). x.0)) ∙ ap length (paths_are (sight_of t) (rows changes))

  stand : StandAs moved 0 kinds
  stand = kept_all t (rows changes) set made none_waits.spots moved so_far [] kinds (sym (paths_are (sight_of t) (rows changes)))
      (subst AreOnce (sym (paths_are (sight_of t) (rows changes))) (held_once t (rows changes) set)) (kinds_stand t changes set)

  all_named : (name : List ℕ) → Stands last (staged name) → (k : ℕ) × (k < length kinds) × (name ≡ held k)
  all_named name stands =
      let before = stood_before plan.modes moved name stands in
      let k = only_held t (rows changes) set made none_waits.spots moved so_far name before.0 before.1 in
      let few : k.0 < length (held_paths (sight_of t) (rows changes)) = k.1 in
      let same : length kinds ≡ length (held_paths (sight_of t) (rows changes)) = many in
      (k.0, omega arith, k.2)

  cleans : Cleans (held_of (sight_of t) (rows changes)) (at_place steps t made (length steps))
  cleans = held_suffice (at_place steps t made (length steps)) only_at_last (held_of (sight_of t) (rows changes))
      (subst (λ (u : FileTree). AreRead u (λ name. ⊥) (held_items (held_of (sight_of t) (rows changes)))) (sym at_last)
      (all_read last kinds (let few = few_held t (rows changes) set in let same = many in omega arith) (stand_behind plan.modes moved 0 kinds stand) all_named))

  few_asked : length (asked_fresh changes) ≤ 2 ^ 32
  few_asked =
      let same = AllZip-long (IsMadeFor t) (asked_fresh changes) made asked.each in
      let long : length made ≡ length (filter is_fresh (rows changes)) = as_many in
      let less : length (filter is_fresh (rows changes)) ≤ length (rows changes) = filter_short is_fresh (rows changes) in
      let most : length (rows changes) ≤ 262144 = planned.asked.count in
      omega arith

  pub plan_fits : (journal : List ℕ) → length steps < 2 ^ 32 → IsWritten steps journal → Fits steps (asked_fresh changes) journal (held_of (sight_of t) (rows changes)) (edited t (rows changes) made) t next
  plan_fits journal few written = record {
    absent = subst (IsAbsent t) (sym one_staging) planned.well_formed.unstaged;
    lawful = lawful;
    few_fresh = few_asked;
    few_steps = few;
    journal_is = written;
    leads = leads;
    cleans = cleans;
  }
