-- At the end of the moves all is at its new place, and the staging directory holds only what is put aside.
use Rattle.std.proofs.Common.{◌≡◌, ◌≢◌, ◌⊎◌, inl, inr, ℕ, ◌<◌, ◌≤◌, ◌^◌, ◌+◌, Bool, true, false, not, ◌&&◌, List, [], ◌∷◌, ◌++◌, filter, length, refl, sym, ◌∙◌, ap, subst, arith, Option, Some, None, is_some, IsTrue}
use Rattle.std.specs.Prelude.{Contains}
use Rattle.std.specs.FinMap.{get, find}
use Rattle.std.proofs.lemmas.Bool.{cond-false, and_from, or_cases, or_left, or_right, not-true}
use Rattle.std.proofs.lemmas.Option.{none-some}
use Rattle.std.proofs.lemmas.List.{append-nil}
use Rattle.dired_text.specs.Paths.{Names, path_cmp, rest_below}
use Rattle.dired_text.proofs.PathLemmas.{rest_below-append}
use Rattle.commit_steps.specs.Staging.{staging, staged, held}
use Rattle.tree_core.specs.declared.node.Node.{Node}
use Rattle.tree_core.specs.declared.node.Node.TheVariants.{Dir}
use Rattle.tree_core.specs.FileTree.{FileTree, Stands}
use Rattle.tree_core.proofs.TreeLemmas.{tie, tie-other}
use Rattle.edit_words.specs.declared.row.Row.{Row}
use Rattle.edit_words.specs.Place.{place}
use Rattle.edit_words.specs.Rows.{route_of, is_victim, is_removed, is_kept, is_at}
use Rattle.edit_words.specs.Edited.{Entries, IsPlaced, Came, is_fresh, fresh_places, fresh_place_of, added_by}
use Rattle.edit_words.specs.Sight.{sight_of}
use Rattle.edit_laws.proofs.ListLemmas.{any_from, contains_filter, contains_map, zip_left}
use Rattle.edit_laws.proofs.RowLemmas.{is_at-same, is_written-from}
use Rattle.edit_laws.proofs.AddedLemmas.{made_found}
use Rattle.plan_moves.specs.Moves.{Spots}
use Rattle.plan_moves.specs.Plan.{held_paths}
use Rattle.plan_moves.specs.SoFar.{held_at, route_so_far, IsSoFar, same_node}
use Rattle.plan_laws.proofs.Held.{HeldAs, victim, given, HeldAt, held_is, held_number, few_held}
use Rattle.plan_laws.proofs.Setting.{ArePlannedRows}
use Rattle.plan_laws.proofs.StagedNames.{staged_name}
use Rattle.step_trees.specs.Entries.{rest, IsHeld, HoldsOnly}
use Rattle.step_trees.proofs.NameLemmas.{none_below}
use Rattle.step_trees.proofs.Without.{get-without_in, get-without_out, without-stood}
use Rattle.plan_ends.specs.Laws.{IsMoved, AreAsMany}
use Rattle.plan_ends.proofs.EndPlaces.{kept_unless, not_staged_place, not_staged_added, place_gone, place_held, added_is}

module _ (t : FileTree) (rs : List Row) (set : ArePlannedRows t rs) (made : List Node) (long : AreAsMany rs made) (spots : Spots) (now : FileTree) (so_far : IsSoFar t rs made spots [] now) where
  abbrev all : Entries
  all = (staging, Dir 0o700) ∷ added_by t rs made

  is : IsPlaced all (λ p. true) (place (route_so_far t rs spots [])) same_node t now
  is = subst (λ (l : Entries). IsPlaced l (λ p. true) (place (route_so_far t rs spots [])) same_node t now) (added_is t rs set spots made) so_far

  find_other : (q : Names) → q ≢ staging → find path_cmp q all ≡ find path_cmp q (added_by t rs made)
  find_other q other = cond-false (tie q staging) (Some (Dir 0o700)) (find path_cmp q (added_by t rs made)) (tie-other q staging other)

  outside_not : (q : Names) → rest_below staging q ≡ None → (more : Names) → q ≢ staging ++ more
  outside_not q none more at = none-some more (sym none ∙ ap (rest_below staging) at ∙ rest_below-append staging more)

  -- what is kept isn't put aside, but for a link that gets another target, at whose place its new entry is
  not_both : (p path : Names) → Stands t p → is_kept rs p ≡ true → find path_cmp (place (route_of rs) p) (added_by t rs made) ≡ None → held_at 0 (held_paths (sight_of t) rs) p ≡ Some path → ⊥
  not_both p path stands kept none held = by_as (held_is t rs set p path held)
    where
      by_as : HeldAs t rs set p → ⊥
      by_as (victim r listed to stands_p other) =
          let is_it : is_victim rs p ≡ true = and_from _ _ (is_written-from rs r p listed to) (ap (λ (b : Bool). not b) other) in
          let both : true ≡ false = sym (or_left _ (is_removed rs p) is_it) ∙ not-true _ kept in
          cc
      by_as (given r listed up source) = elim (or_cases r.retargets _ up) [
        | inl link ↦
            let here : Contains (fresh_places rs) (place (route_of rs) p) = subst (Contains (fresh_places rs)) (ap (λ (x : Option Names). fresh_place_of (place (route_of rs)) x r) source)
            (contains_map (λ (x : Row). fresh_place_of (place (route_of rs)) x.source x) (filter is_fresh rs) r (contains_filter is_fresh rs r listed (or_left _ (not (is_some r.source)) link))) in
            let there = zip_left _ (fresh_places rs) made (place (route_of rs) p) (made_found t rs made set.tree set.fine set.are set.rise long) here in
            none-some there.0 (sym none ∙ there.2)
        | inr removes ↦
            let is_it : is_removed rs p ≡ true = any_from (λ (x : Row). x.removes && is_at p x.source) rs r listed (and_from _ _ removes (is_at-same p r.source source)) in
            let both : true ≡ false = sym (or_right (is_victim rs p) _ is_it) ∙ not-true _ kept in
            cc
      ]

  abbrev IsFound : Names → Type 0
  IsFound q = IsTrue (is_some (find path_cmp q (added_by t rs made)))

  -- what is in the staging directory is put aside
  came_staged : (q rest : Names) (node : Node) → q ≡ staging ++ rest → Came (λ p. true) (place (route_so_far t rs spots [])) same_node t q node → (p : Names) × HeldAt 0 (held_paths (sight_of t) rs) p q
  came_staged q rest node at came = by_held (held_at 0 (held_paths (sight_of t) rs) came.path) refl
    where
      by_held : (o : Option Names) → held_at 0 (held_paths (sight_of t) rs) came.path ≡ o → (p : Names) × HeldAt 0 (held_paths (sight_of t) rs) p q
      by_held None e = absurd (not_staged_place t rs set came.path (ap is_some came.stood) rest (sym (place_gone t rs set spots came.path (ap is_some came.stood) e) ∙ came.here ∙ at))
      by_held (Some path) e = (came.path, subst (HeldAt 0 (held_paths (sight_of t) rs) came.path) (sym (place_held t rs set spots came.path path e) ∙ came.here) (held_number 0 (held_paths (sight_of t) rs) came.path path e))

  found_not_staged : (q rest : Names) → IsFound q → q ≡ staging ++ rest → ⊥
  found_not_staged q rest some at = go (find path_cmp q (added_by t rs made)) refl
    where
      go : (o : Option Node) → find path_cmp q (added_by t rs made) ≡ o → ⊥
      go None e = let no_way : IsTrue (is_some {T = Node} None) = subst (λ (o : Option Node). IsTrue (is_some o)) e some in cc
      go (Some node) e = not_staged_added t rs set made q node rest e at

  in_staging : (q : Names) (node : Node) (n : List ℕ) (rest : Names) → q ≡ staging ++ n ∷ rest → get now q ≡ Some node → (p : Names) × HeldAt 0 (held_paths (sight_of t) rs) p q
  in_staging q node n rest at stood = elim (is.only q node stood) [
    | inl some ↦ absurd (found_not_staged q (n ∷ rest) (subst (λ (o : Option Node). IsTrue (is_some o)) (find_other q (λ same. longer (sym at ∙ same))) some) at)
    | inr came ↦ came_staged q (n ∷ rest) node at came
  ]
    where
      longer : staging ++ n ∷ rest ≡ staging → ⊥
      longer e = cc

  holds_only : HoldsOnly now (IsHeld now)
  holds_only name node stood =
      let p = in_staging (staged name) node name [] refl stood in
      let few : 0 + length (held_paths (sight_of t) rs) ≤ 2 ^ 32 = few_held t rs set in
      let most : p.1.number < 0 + length (held_paths (sight_of t) rs) = p.1.most in
      record { number = p.1.number; small = omega arith; named = staged_name _ _ p.1.is; kind = inr (λ x. none_below_it x (get now (staged name ++ x ∷ [])) refl) }
    where
      none_below_it : (x : List ℕ) (o : Option Node) → get now (staged name ++ x ∷ []) ≡ o → get now (staged name ++ x ∷ []) ≡ None
      none_below_it x None e = e
      none_below_it x (Some below) e = let p = in_staging (staged name ++ x ∷ []) below name (x ∷ []) refl e in absurd (three x p.1.number p.1.is)
        where
          three : (x : List ℕ) (n : ℕ) → staged name ++ x ∷ [] ≡ staged (held n) → ⊥
          three x n same = let long = ap length same in omega arith

  placed : IsPlaced (added_by t rs made) (is_kept rs) (place (route_of rs)) same_node t (rest now)
  placed = record {
    added_stand = λ q node e. get-without_out staging now q (none_below staging q (λ more at. not_staged_added t rs set made q node more e at))
        ∙ is.added_stand q node (find_other q (λ at. not_staged_added t rs set made q node [] e (at ∙ sym (append-nil staging))) ∙ e);
    stay = λ p node kept stood none. stays p node kept stood none (held_at 0 (held_paths (sight_of t) rs) p) refl;
    only = λ q node e. comes q node (without-stood staging now q node e) (rest_below staging q) refl e;
  }
    where
      stays : (p : Names) (node : Node) → is_kept rs p ≡ true → get t p ≡ Some node → find path_cmp (place (route_of rs) p) (added_by t rs made) ≡ None
          → (o : Option Names) → held_at 0 (held_paths (sight_of t) rs) p ≡ o → get (rest now) (place (route_of rs) p) ≡ Some node
      stays p node kept stood none (Some path) e = absurd (not_both p path (ap is_some stood) kept none e)
      stays p node kept stood none None e =
          let at = place_gone t rs set spots p (ap is_some stood) e in
          let out : (more : Names) → place (route_of rs) p ≢ staging ++ more = not_staged_place t rs set p (ap is_some stood) in
          get-without_out staging now (place (route_of rs) p) (none_below staging _ out)
          ∙ ap (get now) (sym at)
          ∙ is.stay p node refl stood (ap (λ (l : Names). find path_cmp l all) at ∙ find_other (place (route_of rs) p) (λ same. out [] (same ∙ sym (append-nil staging))) ∙ none)

      comes : (q : Names) (node : Node) → get now q ≡ Some node → (o : Option Names) → rest_below staging q ≡ o → get (rest now) q ≡ Some node
          → IsFound q ⊎ Came (is_kept rs) (place (route_of rs)) same_node t q node
      comes q node stood (Some more) below e = absurd (none-some node (sym (get-without_in staging now q more below) ∙ e))
      comes q node stood None below e = elim (is.only q node stood) [
        | inl some ↦ inl (subst (λ (o : Option Node). IsTrue (is_some o)) (find_other q (λ same. outside_not q below [] (same ∙ sym (append-nil staging)))) some)
        | inr came ↦ inr (by_held came (held_at 0 (held_paths (sight_of t) rs) came.path) refl)
      ]
        where
          by_held : (came : Came (λ p. true) (place (route_so_far t rs spots [])) same_node t q node) → (o : Option Names) → held_at 0 (held_paths (sight_of t) rs) came.path ≡ o
              → Came (is_kept rs) (place (route_of rs)) same_node t q node
          by_held came None e = record {
            path = came.path;
            was = came.was;
            kept = kept_unless t rs set came.path (ap is_some came.stood) e;
            stood = came.stood;
            here = sym (place_gone t rs set spots came.path (ap is_some came.stood) e) ∙ came.here;
            same = came.same;
          }
          by_held came (Some path) e =
              let h = held_number 0 (held_paths (sight_of t) rs) came.path path e in
              absurd (outside_not q below (held h.number ∷ []) (sym came.here ∙ place_held t rs set spots came.path path e ∙ h.is))

  pub end_moved : IsMoved t rs made now
  end_moved = record { placed = placed; only = holds_only }
