-- What the steps of a part leave in the staging directory, done or undone as looks tell.
use Rattle.std.proofs.Common.{◌≡◌, ◌≢◌, ℕ, List, [], ◌∷◌, ◌++◌, reverse, refl, sym, subst, Option, Some, None}
use Rattle.std.proofs.lemmas.List.{reverse-append}
use Rattle.std.specs.List.{AllByRecursion}
use Rattle.commit_calls.specs.Parts.{synced_rename_calls}
use Rattle.commit_states.specs.Calls.{do_calls, undo_calls}
use Rattle.commit_steps.specs.declared.step.Step.{Step}
use Rattle.commit_steps.specs.Staging.{staged, plan}
use Rattle.dired_text.specs.Paths.{AreNames}
use Rattle.recovery_calls.specs.Underway.{IsUnderway, NamesAmong}
use Rattle.recovery_calls.proofs.KeepLemmas.{can_move, moved_marker, step_kept, step_paths, undo_kept}
use Rattle.staging_names.specs.declared.entry_name.EntryName.{EntryName}
use Rattle.step_looks.specs.declared.looking.Seen.{Seen}
use Rattle.step_looks.specs.declared.looking.Seen.TheVariants.{Before, After}
use Rattle.step_looks.specs.Looks.{look_of, look_back_of}
use Rattle.step_looks.specs.Redoing.{by_look, to_redo}
use Rattle.step_looks.specs.Strictly.{to_undo_strictly}
use Rattle.step_looks.proofs.RedoLemmas.{can_do_before}
use Rattle.step_looks.proofs.TestLemmas.{can_undo_back, told_back}
use Rattle.step_looks.proofs.UndoLemmas.{undo_alike, undo_calls-append}
use Rattle.step_trees.specs.Steps.{IsStep, call_of, step_done, undo_of}
use Rattle.step_trees.proofs.NameLemmas.{IsOwn}
use Rattle.step_trees.proofs.StepLemmas.{clear_step, step_number}
use Rattle.tree_core.specs.declared.node.Change.{Change}
use Rattle.tree_core.specs.FileTree.{FileTree, done}
use Rattle.tree_core.specs.History.{History, IsSound, Then, current_tree, next_number}
use Rattle.tree_core.specs.Runs.{CanAll, then_all}
use Rattle.tree_core.proofs.Sound.{sound_then}

-- lawful steps that name no other entries
pub record AreSteps (es : List EntryName) (steps : List Step) : Type 0 where
  pub lawful : AllByRecursion IsStep steps
  pub among : AllByRecursion (NamesAmong es) steps

all_push : {X : Type 0} (P : X → Type 0) (xs : List X) (x : X) → AllByRecursion P xs → P x → AllByRecursion P (xs ++ x ∷ [])
all_push P [] x all one = (one, tt)
all_push P (y ∷ xs) x all one = (all.0, all_push P xs x all.1 one)

module _ (j m : List ℕ) (es : List EntryName) (own_j : IsOwn j) (own_m : IsOwn m) where
  abbrev Holds : History → Type 0
  Holds h = IsUnderway j m es (current_tree h)

  -- ---- done

  abbrev RedoneKept : List Step → Type 0
  RedoneKept steps = (h : History) → IsSound h → Holds h → Holds (then_all h (do_calls (to_redo steps (current_tree h))))

  redone_first : (s : Step) (steps : List Step) → IsStep s → NamesAmong es s → RedoneKept steps → RedoneKept (s ∷ steps)
  redone_first s steps lawful among next h sound u = by_seen (look_of s (current_tree h)) refl
    where
      by_seen : (o : Option Seen) → look_of s (current_tree h) ≡ o → Holds (then_all h (do_calls (by_look o (s ∷ to_redo steps (step_done s (current_tree h))) (to_redo steps (current_tree h)) [])))
      by_seen None told = u
      by_seen (Some After) told = next h sound u
      by_seen (Some Before) told =
          let can = can_do_before s (current_tree h) lawful told in
          let alike : done (call_of s) (next_number h) (current_tree h) ≡ step_done s (current_tree h) = step_number s (next_number h) 0 (current_tree h) in
          let kept = step_kept j m es own_j own_m s (current_tree h) (step_paths s lawful.lawful) (clear_step s (current_tree h) sound.tree can) among u in
          let here = subst (λ (x : FileTree). IsUnderway j m es x) (sym alike) kept in
          subst (λ (x : FileTree). Holds (then_all (Then h (call_of s)) (do_calls (to_redo steps x)))) alike
          (next (Then h (call_of s)) (sound_then (call_of s) h sound can) here)

  pub redone_kept : (steps : List Step) → AreSteps es steps → RedoneKept steps
  redone_kept [] are h sound u = u
  redone_kept (s ∷ steps) are h sound u =
      redone_first s steps are.lawful.0 are.among.0 (redone_kept steps record { lawful = are.lawful.1; among = are.among.1 }) h sound u

  -- ---- undone

  -- these steps come the last one first
  abbrev UndoneKept : List Step → Type 0
  UndoneKept steps = (h : History) → IsSound h → Holds h → Holds (then_all h (undo_calls (to_undo_strictly steps (current_tree h))))

  undone_first : (s : Step) (earlier : List Step) → IsStep s → NamesAmong es s → UndoneKept earlier → UndoneKept (s ∷ earlier)
  undone_first s earlier lawful among next h sound u = by_seen (look_back_of s (current_tree h)) refl
    where
      by_seen : (o : Option Seen) → look_back_of s (current_tree h) ≡ o
          → Holds (then_all h (undo_calls (by_look o (to_undo_strictly earlier (current_tree h)) (to_undo_strictly earlier (done (undo_of s) 0 (current_tree h)) ++ s ∷ []) [])))
      by_seen None told = u
      by_seen (Some Before) told = next h sound u
      by_seen (Some After) told =
          let can = can_undo_back s (current_tree h) lawful (told_back s (current_tree h) lawful told) in
          let alike : done (undo_of s) (next_number h) (current_tree h) ≡ done (undo_of s) 0 (current_tree h) = undo_alike s (next_number h) (current_tree h) in
          let kept = undo_kept j m es own_j own_m s (current_tree h) sound.tree (step_paths s lawful.lawful) can among u in
          let here = subst (λ (x : FileTree). IsUnderway j m es x) (sym alike) kept in
          let rest = to_undo_strictly earlier (done (undo_of s) 0 (current_tree h)) in
          let calls : undo_calls (rest ++ s ∷ []) ≡ undo_of s ∷ undo_calls rest = undo_calls-append rest (s ∷ []) in
          subst (λ (cs : List Change). Holds (then_all h cs)) (sym calls)
          (subst (λ (x : FileTree). Holds (then_all (Then h (undo_of s)) (undo_calls (to_undo_strictly earlier x)))) alike
          (next (Then h (undo_of s)) (sound_then (undo_of s) h sound can) here))

  undone_all : (steps : List Step) → AreSteps es steps → UndoneKept steps
  undone_all [] are h sound u = u
  undone_all (s ∷ steps) are h sound u =
      undone_first s steps are.lawful.0 are.among.0 (undone_all steps record { lawful = are.lawful.1; among = are.among.1 }) h sound u

  all_turned : (P : Step → Type 0) (steps : List Step) → AllByRecursion P steps → AllByRecursion P (reverse steps)
  all_turned P [] all = tt
  all_turned P (s ∷ steps) all = subst (AllByRecursion P) (sym (reverse-append (s ∷ []) steps)) (all_push P (reverse steps) s (all_turned P steps all.1) all.0)

  pub undone_kept : (steps : List Step) → AreSteps es steps → UndoneKept (reverse steps)
  undone_kept steps are = undone_all (reverse steps) record { lawful = all_turned IsStep steps are.lawful; among = all_turned (NamesAmong es) steps are.among }

-- ---- and then the marker

module _ (m to : List ℕ) (es : List EntryName) (own : IsOwn to) (named : AreNames (staged to)) (other_plan : to ≢ plan) (other_m : to ≢ m) (h : History) (u : IsUnderway plan m es (current_tree h)) where
  pub can_rename_synced : CanAll (synced_rename_calls (staged m) (staged to)) h
  can_rename_synced = (tt, (can_move plan m to es (current_tree h) own other_plan other_m u named, (tt, tt)))

  pub renamed_synced : IsSound h → plan ≢ m → IsUnderway plan to es (current_tree (then_all h (synced_rename_calls (staged m) (staged to))))
  renamed_synced sound differ = moved_marker plan m to es (current_tree h) own other_plan other_m u sound.tree differ
