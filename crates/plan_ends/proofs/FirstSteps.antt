-- What is put aside, and the directories that are made: the first steps of a plan.
use Rattle.std.proofs.Common.{◌≡◌, ◌⊎◌, inl, inr, ℕ, ◌+◌, ◌≤◌, ◌<◌, ◌^◌, true, List, [], ◌∷◌, ◌++◌, map, length, refl, sym, ◌∙◌, ap, subst, arith, Option, Some, None, is_some, IsTrue}
use Rattle.std.specs.Prelude.{Contains}
use Rattle.std.specs.FinMap.{get, find}
use Rattle.std.proofs.lemmas.Option.{none-some}
use Rattle.std.proofs.lemmas.List.{append-nil}
use Rattle.dired_text.specs.Paths.{Names, path_cmp}
use Rattle.commit_steps.specs.declared.step.Step.TheVariants.{MakeDir}
use Rattle.commit_steps.specs.Staging.{staging, staged, held}
use Rattle.commit_steps.specs.Steps.{IsOutside}
use Rattle.tree_core.specs.declared.node.Node.{Node}
use Rattle.tree_core.specs.FileTree.{FileTree, IsEmptyAt, IsAbsent, renamed}
use Rattle.edit_words.specs.declared.row.Row.{Row}
use Rattle.edit_words.specs.Place.{place}
use Rattle.edit_words.specs.Sight.{sight_of}
use Rattle.edit_words.specs.Edited.{Entries, IsPlaced, missing}
use Rattle.edit_laws.proofs.ListLemmas.{contains_head, contains_tail, contains_none}
use Rattle.edit_laws.proofs.PlaceLemmas.{place-stays}
use Rattle.edit_laws.proofs.PlacedIsTree.{some_of}
use Rattle.edit_rules.specs.Plans.{AreMissing}
use Rattle.plan_moves.specs.Moves.{fresh_spots}
use Rattle.plan_moves.specs.Plan.{held_paths, holds}
use Rattle.plan_moves.specs.SoFar.{IsSoFar, same_node}
use Rattle.plan_moves.specs.Waiting.{waiting}
use Rattle.plan_laws.specs.Laws.{HaveNames, LeadOn, IsPutAside, aside_route, made_at_first}
use Rattle.plan_laws.proofs.AddedSoFar.{as_dir}
use Rattle.plan_laws.proofs.FirstLemmas.{first_invariant}
use Rattle.plan_laws.proofs.Held.{HeldAs, victim, given, held_as, held_if_listed, few_held, full_not_held}
use Rattle.plan_laws.proofs.HoldsLead.{holds_lead}
use Rattle.plan_laws.proofs.MovesLead.{outside_path}
use Rattle.plan_laws.proofs.Renamed.{alike_placed}
use Rattle.plan_laws.proofs.Setting.{ArePlannedRows}
use Rattle.plan_laws.proofs.SoFarApart.{to_not_root, source_not_root, not_reserved, source_not_reserved}
use Rattle.step_trees.specs.Leads.{start, HoldsEntries}
use Rattle.step_trees.specs.Steps.{after}
use Rattle.plan_ends.specs.Laws.{AreFirstSteps, StartsWell, first_steps}
use Rattle.plan_ends.specs.Runs.{IsRun}
use Rattle.plan_ends.proofs.Dirs.{found_as, dirs_run, same_dirs}
use Rattle.plan_ends.proofs.EntriesKept.{aside, entries_renamed, still, outside_front}
use Rattle.plan_ends.proofs.RunLemmas.{after-append, run-append, run_ends}

-- nothing stands below these paths, which are outside of the staging directory
record AreBare (now : FileTree) (ps : List Names) : Type 0 where
  pub empty : (p : Names) → Contains ps p → IsEmptyAt now p
  pub outside : (p : Names) → Contains ps p → IsOutside p

holds_run : (P : FileTree → Type 0) (n : ℕ) (ps : List Names) (now : FileTree) → n + length ps ≤ 2 ^ 32 → LeadOn P now (holds n ps) → HoldsEntries now → AreBare now ps → IsRun now (holds n ps) × P (after (holds n ps) now)
holds_run P n [] now few leads entries bare = (entries, leads)
holds_run P n (p ∷ ps) now few (can, lawful, leads) entries bare =
    let small : n < 2 ^ 32 = (let all : n + length (p ∷ ps) ≤ 2 ^ 32 = few in omega arith) in
    let more = holds_run P (n + 1) ps (renamed now p (staged (held n))) (let all : n + length (p ∷ ps) ≤ 2 ^ 32 = few in omega arith) leads
    (entries_renamed now p (staged (held n)) entries can lawful.0 (aside n small refl (bare.empty p (contains_head p ps))))
    (record { empty = λ q c k. still_empty q k (bare.outside q (contains_tail p q ps c)) (bare.empty q (contains_tail p q ps c) k) (get (renamed now p (staged (held n))) (q ++ k ∷ [])) refl; outside = λ q c. bare.outside q (contains_tail p q ps c) }) in
    ((entries, lawful, (can.stands, can.absent, can.parent_is_dir), more.0), more.1)
  where
    still_empty : (q : Names) (k : List ℕ) → IsOutside q → IsAbsent now (q ++ k ∷ []) → (o : Option Node) → get (renamed now p (staged (held n))) (q ++ k ∷ []) ≡ o → get (renamed now p (staged (held n))) (q ++ k ∷ []) ≡ None
    still_empty q k outside absent None e = e
    still_empty q k outside absent (Some node) e = absurd (none-some node (sym absent ∙ still now p (staged (held n)) entries can lawful.0 (q ++ k ∷ []) node (λ r at. outside_front q (k ∷ []) outside (held n ∷ r) (sym at)) e))

module _ (t : FileTree) (rs : List Row) (set : ArePlannedRows t rs) (names : HaveNames rs) (made : List Node) (dirs : List Names) (are : AreMissing (sight_of t) rs dirs) (begins : StartsWell t rs made) where
  bare : AreBare (start t made) (held_paths (sight_of t) rs)
  bare = record { empty = λ p c k. by_node p c k (get (start t made) (p ++ k ∷ [])) refl; outside = λ p c. by_as p (held_as t rs set p c) }
    where
      by_as : (p : Names) → HeldAs t rs set p → IsOutside p
      by_as p (victim r listed to stands other) = outside_path p (to_not_root t rs set r p listed to) (λ rest at. not_reserved t rs set r p rest listed to at)
      by_as p (given r listed up source) = outside_path p (source_not_root t rs set r p listed source) (λ rest at. source_not_reserved t rs set r p rest listed source at)

      no_child : (p : Names) (k : List ℕ) → Contains (held_paths (sight_of t) rs) p → IsTrue (is_some (get t (p ++ k ∷ []))) → ⊥
      no_child p k c stands = held_if_listed 0 (held_paths (sight_of t) rs) p c (full_not_held t rs set p k stands)

      rests : (u : Names) → place (aside_route []) u ≡ u
      rests u = place-stays (aside_route []) u (λ v n rest is. refl)

      by_node : (p : Names) → Contains (held_paths (sight_of t) rs) p → (k : List ℕ) → (o : Option Node) → get (start t made) (p ++ k ∷ []) ≡ o → get (start t made) (p ++ k ∷ []) ≡ None
      by_node p c k None e = e
      by_node p c k (Some node) e = absurd (elim (begins.put.shown.only (p ++ k ∷ []) node e) [
        | inl some ↦ let x = some_of _ some in staged_child p c k (found_as t rs set names made dirs are [] (p ++ k ∷ []) x.0 (ap (find path_cmp (p ++ k ∷ [])) (append-nil (made_at_first rs made)) ∙ x.1))
        | inr came ↦ no_child p k c (subst (λ (l : Names). IsTrue (is_some (get t l))) (sym (rests came.path) ∙ came.here) (ap is_some came.stood))
      ])
        where
          staged_child : (p : Names) → Contains (held_paths (sight_of t) rs) p → (k : List ℕ) → ((rest : Names) × (p ++ k ∷ [] ≡ staging ++ rest)) ⊎ Contains [] (p ++ k ∷ []) → ⊥
          staged_child p c k (inl (rest, at)) = outside_front p (k ∷ []) (by_as p (held_as t rs set p c)) rest at
          staged_child p c k (inr none) = contains_none (p ++ k ∷ []) none

  put : IsRun (start t made) (holds 0 (held_paths (sight_of t) rs)) × IsPutAside t rs made (held_paths (sight_of t) rs) (after (holds 0 (held_paths (sight_of t) rs)) (start t made))
  put = holds_run (IsPutAside t rs made (held_paths (sight_of t) rs)) 0 (held_paths (sight_of t) rs) (start t made) (few_held t rs set)
      (holds_lead t rs set made (held_paths (sight_of t) rs) [] 0 (start t made) refl refl begins.put) begins.holds bare

  put_holds : HoldsEntries (after (holds 0 (held_paths (sight_of t) rs)) (start t made))
  put_holds = run_ends (holds 0 (held_paths (sight_of t) rs)) (start t made) put.0

  made_dirs : IsRun (after (holds 0 (held_paths (sight_of t) rs)) (start t made)) (map MakeDir dirs)
      × IsPlaced (made_at_first rs made ++ map as_dir dirs) (λ p. true) (place (aside_route (held_paths (sight_of t) rs))) same_node t (after (map MakeDir dirs) (after (holds 0 (held_paths (sight_of t) rs)) (start t made)))
  made_dirs = dirs_run t rs set names made dirs are dirs [] (after (holds 0 (held_paths (sight_of t) rs)) (start t made)) refl
      (subst (λ (l : Entries). IsPlaced l (λ p. true) (place (aside_route (held_paths (sight_of t) rs))) same_node t (after (holds 0 (held_paths (sight_of t) rs)) (start t made))) (sym (append-nil (made_at_first rs made))) put.1.shown) put_holds

  pub first_steps_lead : AreFirstSteps t rs made (first_steps t rs dirs)
  first_steps_lead = record {
    run = run-append (holds 0 (held_paths (sight_of t) rs)) (map MakeDir dirs) (start t made) put.0 made_dirs.0;
    shown = subst (λ (u : FileTree). IsSoFar t rs made (fresh_spots 0 rs) (waiting rs) u) (sym (after-append (holds 0 (held_paths (sight_of t) rs)) (map MakeDir dirs) (start t made)))
        (first_invariant t rs set made (after (map MakeDir dirs) (after (holds 0 (held_paths (sight_of t) rs)) (start t made)))
        (run_ends (map MakeDir dirs) (after (holds 0 (held_paths (sight_of t) rs)) (start t made)) made_dirs.0).tree
        (alike_placed (made_at_first rs made ++ map as_dir dirs) (made_at_first rs made ++ map as_dir (missing t rs)) (place (aside_route (held_paths (sight_of t) rs))) (place (aside_route (held_paths (sight_of t) rs))) same_node t
        (after (map MakeDir dirs) (after (holds 0 (held_paths (sight_of t) rs)) (start t made))) (same_dirs t rs set names made dirs are) (λ p stands. refl) made_dirs.1)).shown;
  }
