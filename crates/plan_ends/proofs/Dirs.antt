-- The missing directories can be made, one behind the other.
use Rattle.std.proofs.Common.{◌≡◌, ◌≢◌, ◌⊎◌, inl, inr, ⊎_elim, ℕ, ◌≤◌, true, false, cond, not, ◌&&◌, List, [], ◌∷◌, ◌++◌, map, filter, refl, sym, ◌∙◌, ap, subst, arith, append_assoc, Option, Some, None, is_some, IsTrue, if◌then◌else◌}
use Rattle.std.specs.Prelude.{Contains}
use Rattle.std.specs.List.{zip, list_all, flat_map}
use Rattle.std.specs.List.Sorted.{IsStrictlySortedBy}
use Rattle.std.specs.FinMap.{get, find, insert}
use Rattle.std.specs.Cmp.{tied_itself as total_tied_itself}
use Rattle.std.specs.Cmp.Lexicographic.{nat_list_cmp_total}
use Rattle.std.specs.Ordering.{is_eq, ordering_then}
use Rattle.std.specs.Str.{is_utf8}
use Rattle.std.specs.declared.cmp.Ordering.TheVariants.{Less}
use Rattle.std.proofs.lemmas.Bool.{cond-true, cond-false, cases_Bool, and_parts, and_from, or_cases}
use Rattle.std.proofs.lemmas.Option.{none-some}
use Rattle.std.proofs.lemmas.List.{append-nil}
use Rattle.std.proofs.lemmas.List.Elements.{All-contains, Contains-append_left, Contains-append_right, Contains-append_cases}
use Rattle.std.proofs.lemmas.Map.Keys.{sorted_tail}
use Rattle.std.proofs.lemmas.Map.Views.{All-after_first}
use Rattle.dired_text.specs.Paths.{Names, AreNames, is_name, path_cmp, parent}
use Rattle.dired_text.proofs.PathLemmas.{tied_itself, path_decides, parent-push}
use Rattle.commit_steps.specs.declared.step.Step.TheVariants.{MakeDir}
use Rattle.commit_steps.specs.Staging.{staging, staging_name, held, fresh_name}
use Rattle.commit_steps.specs.Steps.{IsOutside}
use Rattle.tree_core.specs.declared.node.Node.{Node}
use Rattle.tree_core.specs.declared.node.Node.TheVariants.{Dir}
use Rattle.tree_core.specs.declared.node.Change.TheVariants as call
use Rattle.tree_core.specs.FileTree.{FileTree, IsTree, IsAbsent, IsDir, Stands, is_dir_node}
use Rattle.tree_core.proofs.TreeLemmas.{tie, dir_stands, absent_not}
use Rattle.tree_core.proofs.Sound.{tree_kept, get-inserted, get-inserted_other}
use Rattle.edit_words.specs.declared.row.Row.{Row}
use Rattle.edit_words.specs.Place.{routed, place, ancestors, IsAbove}
use Rattle.edit_words.specs.Refusals.{missing_above}
use Rattle.edit_words.specs.Rows.{written, is_elsewhere, is_same_path, last_name}
use Rattle.edit_words.specs.Sight.{sight_of}
use Rattle.edit_words.specs.Edited.{Entries, Came, IsPlaced, is_fresh, missing}
use Rattle.edit_words.proofs.SameLemmas.{same_path, same_itself}
use Rattle.edit_words.proofs.RefusalLemmas.{is_some-seen}
use Rattle.edit_laws.proofs.ListLemmas.{any_parts, any_from, contains_head, contains_none, contains_cases, contains_filter, filter_parts, contains_flat, flat_parts, map_parts}
use Rattle.edit_laws.proofs.PlaceLemmas.{by_last, place-push}
use Rattle.edit_laws.proofs.PlacedIsTree.{some_of}
use Rattle.edit_laws.proofs.PlacedLemmas.{find-append_some, find-append_none}
use Rattle.edit_laws.proofs.RowLemmas.{far_to, front_last, written-to}
use Rattle.edit_laws.proofs.AddedLemmas.{missing_parts, missing_there, zip_pair}
use Rattle.edit_rules.specs.Plans.{AreMissing}
use Rattle.plan_moves.specs.Moves.{fresh_spots}
use Rattle.plan_moves.specs.Plan.{held_paths}
use Rattle.plan_moves.specs.SoFar.{held_at, same_node}
use Rattle.plan_laws.specs.Laws.{HaveNames, aside_route, aside_route_by, made_at_first}
use Rattle.plan_laws.proofs.AddedSoFar.{as_dir, dirs_only, find-dirs}
use Rattle.plan_laws.proofs.Held.{HeldAs, victim, given, held_is, held_number, full_not_held}
use Rattle.plan_laws.proofs.MovesLead.{outside_path}
use Rattle.plan_laws.proofs.Places.{all_aside}
use Rattle.plan_laws.proofs.Setting.{ArePlannedRows}
use Rattle.plan_laws.proofs.SoFarApart.{not_staged, not_reserved}
use Rattle.plan_laws.proofs.WellLemmas.{fresh_spot}
use Rattle.step_trees.specs.Entries.{IsTemporary, IsHeld, IsFresh}
use Rattle.step_trees.specs.Leads.{HoldsEntries}
use Rattle.step_trees.specs.Steps.{after, IsBefore}
use Rattle.plan_ends.specs.Runs.{IsRun}
use Rattle.plan_ends.proofs.EntriesKept.{outside_front}

-- ---- the order of paths

-- a path isn't before what is above it
longer_not_less : (q : Names) (n : List ℕ) → path_cmp (q ++ n ∷ []) q ≡ Less → ⊥
longer_not_less [] n e = cc
longer_not_less (x ∷ q) n e = longer_not_less q n (sym (ap (λ (o : _). ordering_then o (path_cmp (q ++ n ∷ []) q)) (total_tied_itself nat_list_cmp_total x)) ∙ e)

not_before_itself : (d : Names) → path_cmp d d ≡ Less → ⊥
not_before_itself d e = let both : is_eq Less ≡ true = sym (ap is_eq e) ∙ tied_itself d in cc

later_less : (front rest : List Names) (d q : Names) → IsStrictlySortedBy path_cmp (front ++ d ∷ rest) → Contains rest q → path_cmp d q ≡ Less
later_less [] rest d q sorted c = All-contains (λ (x : Names). path_cmp d x ≡ Less) rest q (All-after_first path_cmp d rest sorted) c
later_less (x ∷ front) rest d q sorted c = later_less front rest d q (sorted_tail path_cmp x (front ++ d ∷ rest) sorted) c

front_less : (front rest : List Names) (d q : Names) → IsStrictlySortedBy path_cmp (front ++ d ∷ rest) → Contains front q → path_cmp q d ≡ Less
front_less [] rest d q sorted c = absurd (contains_none q c)
front_less (x ∷ front) rest d q sorted c = elim (contains_cases x q front c) [
  | inl same ↦ subst (λ (y : Names). path_cmp y d ≡ Less) same
      (All-contains (λ (y : Names). path_cmp x y ≡ Less) (front ++ d ∷ rest) d (All-after_first path_cmp x (front ++ d ∷ rest) sorted) (Contains-append_right front (d ∷ rest) d (contains_head d rest)))
  | inr later ↦ front_less front rest d q (sorted_tail path_cmp x (front ++ d ∷ rest) sorted) later
]

-- what is above a path stands before it
in_front : (front rest : List Names) (q : Names) (n : List ℕ) → IsStrictlySortedBy path_cmp (front ++ (q ++ n ∷ []) ∷ rest) → Contains (front ++ (q ++ n ∷ []) ∷ rest) q → Contains front q
in_front front rest q n sorted c = elim (Contains-append_cases front ((q ++ n ∷ []) ∷ rest) q c) [
  | inl before ↦ before
  | inr more ↦ elim (contains_cases (q ++ n ∷ []) q rest more) [
    | inl same ↦ absurd (push_other q n same)
    | inr later ↦ absurd (longer_not_less q n (later_less front rest (q ++ n ∷ []) q sorted later))
  ]
]
  where
    push_other : (q : Names) (n : List ℕ) → q ++ n ∷ [] ≡ q → ⊥
    push_other [] n e = cc
    push_other (x ∷ q) n e = push_other q n cc

names_front : (p r : Names) → AreNames (p ++ r) → AreNames p
names_front [] r all = refl
names_front (x ∷ p) r all = let parts = and_parts (is_name x && is_utf8 x) (list_all (λ n. is_name n && is_utf8 n) (p ++ r)) all in and_from _ _ parts.0 (names_front p r parts.1)

dirs_append : (ps qs : List Names) → map as_dir (ps ++ qs) ≡ map as_dir ps ++ map as_dir qs
dirs_append [] qs = refl
dirs_append (p ∷ ps) qs = ap (λ (l : Entries). as_dir p ∷ l) (dirs_append ps qs)

-- ---- one directory more in a placed tree

module _ (added : Entries) (to : Names → Names) (t u : FileTree) (d : Names) (absent : IsAbsent u d) (is : IsPlaced added (λ p. true) to same_node t u) where
  last_found : (q : Names) → q ≡ d → find path_cmp q (as_dir d ∷ []) ≡ Some (Dir 0o755)
  last_found q same = cond-true (tie q d) (Some (Dir 0o755)) None ((path_decides q d).1 same)

  found_more : (q : Names) → q ≡ d → IsTrue (is_some (find path_cmp q (added ++ as_dir d ∷ [])))
  found_more q same = go (find path_cmp q added) refl
    where
      go : (o : Option Node) → find path_cmp q added ≡ o → IsTrue (is_some (find path_cmp q (added ++ as_dir d ∷ [])))
      go (Some x) e = ap is_some (find-append_some q added (as_dir d ∷ []) x e)
      go None e = ap is_some (find-append_none q added (as_dir d ∷ []) e ∙ last_found q same)

  pub made_more : IsPlaced (added ++ as_dir d ∷ []) (λ p. true) to same_node t (insert u d (Dir 0o755))
  made_more = record {
    added_stand = λ q node e. stands_added q node e (find path_cmp q added) refl;
    stay = λ p node kept stood none. stays p node stood none (find path_cmp (to p) added) refl;
    only = λ q node e. comes q node e (cases_Bool (is_same_path q d));
  }
    where
      stands_added : (q : Names) (node : Node) → find path_cmp q (added ++ as_dir d ∷ []) ≡ Some node → (o : Option Node) → find path_cmp q added ≡ o → get (insert u d (Dir 0o755)) q ≡ Some node
      stands_added q node e (Some x) at =
          get-inserted_other u d (Dir 0o755) q (λ same. none-some x (sym absent ∙ ap (get u) (sym same) ∙ is.added_stand q x at))
          ∙ is.added_stand q x at ∙ sym (find-append_some q added (as_dir d ∷ []) x at) ∙ e
      stands_added q node e None at = by_tie (cases_Bool (tie q d))
        where
          last : cond (tie q d) (Some (Dir 0o755)) None ≡ Some node
          last = sym (find-append_none q added (as_dir d ∷ []) at) ∙ e

          by_tie : (tie q d ≡ true) ⊎ (tie q d ≡ false) → get (insert u d (Dir 0o755)) q ≡ Some node
          by_tie (inl same) = ap (get (insert u d (Dir 0o755))) ((path_decides q d).0 same) ∙ get-inserted u d (Dir 0o755) ∙ sym (cond-true (tie q d) (Some (Dir 0o755)) None same) ∙ last
          by_tie (inr other) = absurd (none-some node (sym (cond-false (tie q d) (Some (Dir 0o755)) None other) ∙ last))

      stays : (p : Names) (node : Node) → get t p ≡ Some node → find path_cmp (to p) (added ++ as_dir d ∷ []) ≡ None → (o : Option Node) → find path_cmp (to p) added ≡ o → get (insert u d (Dir 0o755)) (to p) ≡ Some node
      stays p node stood none (Some x) at = absurd (none-some x (sym none ∙ find-append_some (to p) added (as_dir d ∷ []) x at))
      stays p node stood none None at =
          get-inserted_other u d (Dir 0o755) (to p) (λ same. none-some (Dir 0o755) (sym none ∙ find-append_none (to p) added (as_dir d ∷ []) at ∙ last_found (to p) same)) ∙ is.stay p node refl stood at

      comes : (q : Names) (node : Node) → get (insert u d (Dir 0o755)) q ≡ Some node → (is_same_path q d ≡ true) ⊎ (is_same_path q d ≡ false)
          → IsTrue (is_some (find path_cmp q (added ++ as_dir d ∷ []))) ⊎ Came (λ p. true) to same_node t q node
      comes q node e (inl same) = inl (found_more q (same_path q d same))
      comes q node e (inr other) = elim (is.only q node (sym (get-inserted_other u d (Dir 0o755) q (λ same. let both : true ≡ false = sym (ap (is_same_path q) (sym same) ∙ same_itself q) ∙ other in cc)) ∙ e)) [
        | inl some ↦ let n = some_of (find path_cmp q added) some in inl (ap is_some (find-append_some q added (as_dir d ∷ []) n.0 n.1))
        | inr came ↦ inr came
      ]

-- and the entries in the staging directory
entries_made : (u : FileTree) (d : Names) → IsOutside d → HoldsEntries u → IsTree (insert u d (Dir 0o755)) → HoldsEntries (insert u d (Dir 0o755))
entries_made u d outside holds tree = record {
  tree = tree;
  stands = ap is_dir_node (same_in []) ∙ holds.stands;
  only = λ name node e. by_kind name node (holds.only name node (sym (same_in (name ∷ [])) ∙ e));
}
  where
    same_in : (q : Names) → get (insert u d (Dir 0o755)) (staging_name ∷ q) ≡ get u (staging_name ∷ q)
    same_in q = get-inserted_other u d (Dir 0o755) (staging_name ∷ q) (λ same. outside_front d [] outside q (append-nil d ∙ sym same))

    by_kind : (name : List ℕ) (node : Node) → IsTemporary name ⊎ (IsHeld u name node ⊎ IsFresh name node) → IsTemporary name ⊎ (IsHeld (insert u d (Dir 0o755)) name node ⊎ IsFresh name node)
    by_kind name node (inl put) = inl put
    by_kind name node (inr (inl h)) = inr (inl (record { number = h.number; small = h.small; named = h.named; kind = ⊎_elim (λ k. inl k) (λ empty. inr (λ x. same_in (name ∷ x ∷ []) ∙ empty x)) h.kind }))
    by_kind name node (inr (inr f)) = inr (inr f)

-- ---- the missing directories

module _ (t : FileTree) (rs : List Row) (set : ArePlannedRows t rs) (names : HaveNames rs) (made : List Node) (dirs : List Names) (are : AreMissing (sight_of t) rs dirs) where
  pub missing_listed : (u : Names) → Contains dirs u → Contains (missing t rs) u
  missing_listed u c =
      let a = any_parts (is_same_path u) (flat_map (missing_above (sight_of t)) rs) (sym (are.same u) ∙ any_from (is_same_path u) dirs u c (same_itself u)) in
      let f = flat_parts (missing_above (sight_of t)) rs u (subst (Contains (flat_map (missing_above (sight_of t)) rs)) (sym (same_path u a.0 a.2)) a.1) in
      by_far f.0 f.1 (cases_Bool (is_elsewhere f.0)) f.2
    where
      by_far : (r : Row) → Contains rs r → (is_elsewhere r ≡ true) ⊎ (is_elsewhere r ≡ false) → Contains (missing_above (sight_of t) r) u → Contains (missing t rs) u
      by_far r listed (inr near_by) c = absurd (contains_none u (subst (λ (l : List Names). Contains l u) (cond-false (is_elsewhere r) _ [] near_by) c))
      by_far r listed (inl far) c =
          let f = filter_parts _ (ancestors (written r)) u (subst (λ (l : List Names). Contains l u) (cond-true (is_elsewhere r) _ [] far) c) in
          contains_filter _ _ u
          (contains_flat (λ (r : Row). if is_elsewhere r then ancestors (written r) else []) rs r u listed (subst (λ (l : List Names). Contains l u) (sym (cond-true (is_elsewhere r) (ancestors (written r)) [] far)) f.0))
          (ap not (sym (is_some-seen (get t u))) ∙ f.1)

  pub listed_missing : (u : Names) → Contains (missing t rs) u → Contains dirs u
  listed_missing u c =
      let f = filter_parts _ _ u c in
      let r = flat_parts (λ (r : Row). if is_elsewhere r then ancestors (written r) else []) rs u f.0 in
      let a = any_parts (is_same_path u) dirs (are.same u ∙ any_from (is_same_path u) (flat_map (missing_above (sight_of t)) rs) u
      (contains_flat (missing_above (sight_of t)) rs r.0 u r.1 (by_far r.0 (cases_Bool (is_elsewhere r.0)) r.2 f.1)) (same_itself u)) in
      subst (Contains dirs) (sym (same_path u a.0 a.2)) a.1
    where
      by_far : (r : Row) → (is_elsewhere r ≡ true) ⊎ (is_elsewhere r ≡ false) → Contains (if is_elsewhere r then ancestors (written r) else []) u → not (is_some (get t u)) ≡ true → Contains (missing_above (sight_of t) r) u
      by_far r (inr near_by) c absent = absurd (contains_none u (subst (λ (l : List Names). Contains l u) (cond-false (is_elsewhere r) (ancestors (written r)) [] near_by) c))
      by_far r (inl far) c absent = subst (λ (l : List Names). Contains l u) (sym (cond-true (is_elsewhere r) _ [] far))
          (contains_filter _ (ancestors (written r)) u (subst (λ (l : List Names). Contains l u) (cond-true (is_elsewhere r) (ancestors (written r)) [] far) c) (ap not (is_some-seen (get t u)) ∙ absent))

  place_rests : (p : Names) → Stands t p → held_at 0 (held_paths (sight_of t) rs) p ≡ None → place (aside_route (held_paths (sight_of t) rs)) p ≡ p
  place_rests = by_last (λ p. Stands t p → held_at 0 (held_paths (sight_of t) rs) p ≡ None → place (aside_route (held_paths (sight_of t) rs)) p ≡ p) (λ s none. refl) (λ p n before s none.
      place-push (aside_route (held_paths (sight_of t) rs)) p n
      ∙ ap (λ (h : Option Names). routed (aside_route_by h) (place (aside_route (held_paths (sight_of t) rs)) p) n) none
      ∙ ap (λ (l : Names). l ++ n ∷ []) (before (dir_stands _ (set.tree.parents p n s)) (full_not_held t rs set p n s)))

  place_aside : (p path : Names) → held_at 0 (held_paths (sight_of t) rs) p ≡ Some path → place (aside_route (held_paths (sight_of t) rs)) p ≡ path
  place_aside = by_last (λ p. (path : Names) → held_at 0 (held_paths (sight_of t) rs) p ≡ Some path → place (aside_route (held_paths (sight_of t) rs)) p ≡ path)
      (λ path e. absurd (none-some path (sym (all_aside t rs set).root ∙ e)))
      (λ p n before path e. place-push (aside_route (held_paths (sight_of t) rs)) p n ∙ ap (λ (h : Option Names). routed (aside_route_by h) (place (aside_route (held_paths (sight_of t) rs)) p) n) e)

  -- what was added is in the staging directory, or is one of the directories
  pub found_as : (front : List Names) (q : Names) (node : Node) → find path_cmp q (made_at_first rs made ++ map as_dir front) ≡ Some node → ((rest : Names) × (q ≡ staging ++ rest)) ⊎ Contains front q
  found_as front q node e = by_first (find path_cmp q (made_at_first rs made)) refl
    where
      by_first : (o : Option Node) → find path_cmp q (made_at_first rs made) ≡ o → ((rest : Names) × (q ≡ staging ++ rest)) ⊎ Contains front q
      by_first None is = inr (dirs_only front q node (sym (find-append_none q (made_at_first rs made) (map as_dir front) is) ∙ e)).0
      by_first (Some x) is = elim (cases_Bool (tie q staging)) [
        | inl same ↦ inl ([], (path_decides q staging).0 same ∙ sym (append-nil staging))
        | inr other ↦
            let spots = map (λ (r : Row). fresh_spots 0 rs r.line) (filter is_fresh rs) in
            let p = zip_pair (map (λ (r : Row). fresh_spots 0 rs r.line) (filter is_fresh rs)) made q x
            (sym (cond-false (tie q staging) (Some (Dir 0o700)) (find path_cmp q (zip (map (λ (r : Row). fresh_spots 0 rs r.line) (filter is_fresh rs)) made)) other) ∙ is) in
            let r = map_parts (λ (r : Row). fresh_spots 0 rs r.line) (filter is_fresh rs) q p.0 in
            let f = filter_parts is_fresh rs r.0 r.1 in
            let s = fresh_spot 0 rs r.0 set.rise f.0 f.1 in
            inl (fresh_name s.number ∷ [], sym r.2 ∙ s.is)
      ]

  not_staged_missing : (d rest : Names) → Contains (missing t rs) d → d ≡ staging ++ rest → ⊥
  not_staged_missing d rest c at =
      let m = missing_parts t rs d c in
      let to = far_to m.0 m.2 in
      not_reserved t rs set m.0 to.0 (rest ++ m.3.0 ∷ m.3.1) m.1 to.1
      (sym (written-to m.0 to.0 to.1) ∙ m.3.2 ∙ ap (λ (l : Names). l ++ m.3.0 ∷ m.3.1) at ∙ append_assoc staging rest (m.3.0 ∷ m.3.1))

  not_root_missing : (d : Names) → Contains (missing t rs) d → d ≢ []
  not_root_missing d c root = absent_not _ (missing_parts t rs d c).4 (subst (Stands t) (sym root) (dir_stands _ set.tree.root))

  module _ (front rest : List Names) (q : Names) (n : List ℕ) (all : dirs ≡ front ++ (q ++ n ∷ []) ∷ rest) (u : FileTree)
      (is : IsPlaced (made_at_first rs made ++ map as_dir front) (λ p. true) (place (aside_route (held_paths (sight_of t) rs))) same_node t u) (holds : HoldsEntries u) where
    here : Contains (missing t rs) (q ++ n ∷ [])
    here = missing_listed (q ++ n ∷ []) (subst (λ (l : List Names). Contains l (q ++ n ∷ [])) (sym all) (Contains-append_right front ((q ++ n ∷ []) ∷ rest) (q ++ n ∷ []) (contains_head (q ++ n ∷ []) rest)))

    sorted : IsStrictlySortedBy path_cmp (front ++ (q ++ n ∷ []) ∷ rest)
    sorted = subst (IsStrictlySortedBy path_cmp) all are.sorted

    missing_front : (p : Names) → Contains front p → Contains (missing t rs) p
    missing_front p c = missing_listed p (subst (λ (l : List Names). Contains l p) (sym all) (Contains-append_left front ((q ++ n ∷ []) ∷ rest) p c))

    absent : get u (q ++ n ∷ []) ≡ None
    absent = go (get u (q ++ n ∷ [])) refl
      where
        by_added : ((more : Names) × (q ++ n ∷ [] ≡ staging ++ more)) ⊎ Contains front (q ++ n ∷ []) → ⊥
        by_added (inl (more, at)) = not_staged_missing (q ++ n ∷ []) more here at
        by_added (inr c) = not_before_itself (q ++ n ∷ []) (front_less front rest (q ++ n ∷ []) (q ++ n ∷ []) sorted c)

        by_came : (node : Node) → Came (λ p. true) (place (aside_route (held_paths (sight_of t) rs))) same_node t (q ++ n ∷ []) node → ⊥
        by_came node came = by_held (held_at 0 (held_paths (sight_of t) rs) came.path) refl
          where
            by_held : (o : Option Names) → held_at 0 (held_paths (sight_of t) rs) came.path ≡ o → ⊥
            by_held None e = absent_not _ (missing_parts t rs (q ++ n ∷ []) here).4 (subst (Stands t) (sym (place_rests came.path (ap is_some came.stood) e) ∙ came.here) (ap is_some came.stood))
            by_held (Some path) e =
                let h = held_number 0 (held_paths (sight_of t) rs) came.path path e in
                not_staged_missing (q ++ n ∷ []) (held h.number ∷ []) here (sym came.here ∙ place_aside came.path path e ∙ h.is)

        go : (o : Option Node) → get u (q ++ n ∷ []) ≡ o → get u (q ++ n ∷ []) ≡ None
        go None e = e
        go (Some node) e = absurd (elim (is.only (q ++ n ∷ []) node e) [
          | inl some ↦ let x = some_of _ some in by_added (found_as front (q ++ n ∷ []) x.0 x.1)
          | inr came ↦ by_came node came
        ])

    parent_dir : IsDir u q
    parent_dir = by_get (get t q) refl
      where
        m : (r : Row) × Contains rs r × (is_elsewhere r ≡ true) × IsAbove (q ++ n ∷ []) (written r) × IsAbsent t (q ++ n ∷ [])
        m = missing_parts t rs (q ++ n ∷ []) here

        above : IsAbove q (written m.0)
        above = (n, m.3.0 ∷ m.3.1, m.3.2 ∙ append_assoc q (n ∷ []) (m.3.0 ∷ m.3.1))

        by_get : (o : Option Node) → get t q ≡ o → IsDir u q
        by_get None e =
            let c = in_front front rest q n sorted (subst (λ (l : List Names). Contains l q) all (listed_missing q (missing_there t rs m.0 q m.1 m.2 above e))) in
            ap is_dir_node (is.added_stand q (Dir 0o755) (found_dir q c))
          where
            found_dir : (q : Names) → Contains front q → find path_cmp q (made_at_first rs made ++ map as_dir front) ≡ Some (Dir 0o755)
            found_dir q c = by_first (find path_cmp q (made_at_first rs made)) refl
              where
                by_first : (o : Option Node) → find path_cmp q (made_at_first rs made) ≡ o → find path_cmp q (made_at_first rs made ++ map as_dir front) ≡ Some (Dir 0o755)
                by_first None is = find-append_none q (made_at_first rs made) (map as_dir front) is ∙ find-dirs front q c
                by_first (Some x) is = absurd (elim (found_as [] q x (find-append_some q (made_at_first rs made) [] x is)) [
                  | inl (more, at) ↦ not_staged_missing q more (missing_front q c) at
                  | inr none ↦ contains_none q none
                ])
        by_get (Some node) e = by_held (held_at 0 (held_paths (sight_of t) rs) q) refl
          where
            dir : IsDir t q
            dir = set.fine.parents m.0 q m.1 m.2 above (ap is_some e)

            by_as : HeldAs t rs set q → ⊥
            by_as (victim r listed to stands other) = set.fine.replaceable r q listed (to, stands, other) dir
            by_as (given r listed up source) = elim (or_cases r.retargets _ up) [
              | inl link ↦ set.are.no_dir r q listed link source dir
              | inr removes ↦ elim set.are.kinds [
                | inl none ↦ let both : true ≡ false = sym removes ∙ none r listed in cc
                | inr quiet ↦ let both : true ≡ false = sym m.2 ∙ (quiet m.0 m.1).0 in cc
              ]
            ]

            by_held : (o : Option Names) → held_at 0 (held_paths (sight_of t) rs) q ≡ o → IsDir u q
            by_held (Some path) h = absurd (by_as (held_is t rs set q path h))
            by_held None h = by_found (find path_cmp q (made_at_first rs made ++ map as_dir front)) refl
              where
                at : place (aside_route (held_paths (sight_of t) rs)) q ≡ q
                at = place_rests q (ap is_some e) h

                by_found : (o : Option Node) → find path_cmp q (made_at_first rs made ++ map as_dir front) ≡ o → IsDir u q
                by_found None f = ap is_dir_node (ap (get u) (sym at) ∙ is.stay q node refl e (ap (λ (l : Names). find path_cmp l (made_at_first rs made ++ map as_dir front)) at ∙ f) ∙ sym e) ∙ dir
                by_found (Some x) f = absurd (elim (found_as front q x f) [
                  | inl (more, staged_at) ↦ not_staged t rs set q more (ap is_some e) staged_at
                  | inr c ↦ none-some node (sym (missing_parts t rs q (missing_front q c)).4 ∙ e)
                ])

    named : AreNames (q ++ n ∷ [])
    named =
        let m = missing_parts t rs (q ++ n ∷ []) here in
        let to = far_to m.0 m.2 in
        names_front (q ++ n ∷ []) (m.3.0 ∷ m.3.1) (subst AreNames (sym (written-to m.0 to.0 to.1) ∙ m.3.2) (names m.0 to.0 m.1 (inr to.1)))

    pub dir_outside : IsOutside (q ++ n ∷ [])
    dir_outside = outside_path (q ++ n ∷ []) (not_root_missing (q ++ n ∷ []) here) (λ more at. not_staged_missing (q ++ n ∷ []) more here at)

    parent_there : IsDir u (parent (q ++ n ∷ []))
    parent_there = subst (IsDir u) (sym (parent-push q n)) parent_dir

    pub dir_before : IsBefore (MakeDir (q ++ n ∷ [])) u
    dir_before = (absent, parent_there)

    is_0o755 : 0o755 ≤ 0o7777
    is_0o755 = omega arith

    pub dir_holds : HoldsEntries (insert u (q ++ n ∷ []) (Dir 0o755))
    dir_holds = entries_made u (q ++ n ∷ []) dir_outside holds
        (tree_kept (call.MakeDir (q ++ n ∷ []) 0o755) u 0 refl holds.tree (record { named = named; absent = absent; parent_is_dir = parent_there }, is_0o755))

    pub dir_placed : IsPlaced (made_at_first rs made ++ map as_dir (front ++ (q ++ n ∷ []) ∷ [])) (λ p. true) (place (aside_route (held_paths (sight_of t) rs))) same_node t (insert u (q ++ n ∷ []) (Dir 0o755))
    dir_placed = subst (λ (l : Entries). IsPlaced l (λ p. true) (place (aside_route (held_paths (sight_of t) rs))) same_node t (insert u (q ++ n ∷ []) (Dir 0o755)))
        (append_assoc (made_at_first rs made) (map as_dir front) (as_dir (q ++ n ∷ []) ∷ []) ∙ ap (λ (l : Entries). made_at_first rs made ++ l) (sym (dirs_append front ((q ++ n ∷ []) ∷ []))))
        (made_more (made_at_first rs made ++ map as_dir front) (place (aside_route (held_paths (sight_of t) rs))) t u (q ++ n ∷ []) absent is)

  -- ---- all of them

  record NextDir (front : List Names) (d : Names) (u : FileTree) : Type 0 where
    pub outside : IsOutside d
    pub before : IsBefore (MakeDir d) u
    pub holds : HoldsEntries (insert u d (Dir 0o755))
    pub placed : IsPlaced (made_at_first rs made ++ map as_dir (front ++ d ∷ [])) (λ p. true) (place (aside_route (held_paths (sight_of t) rs))) same_node t (insert u d (Dir 0o755))

  next_dir : (front rest : List Names) (d : Names) (all : dirs ≡ front ++ d ∷ rest) (u : FileTree)
      → IsPlaced (made_at_first rs made ++ map as_dir front) (λ p. true) (place (aside_route (held_paths (sight_of t) rs))) same_node t u → HoldsEntries u → NextDir front d u
  next_dir front rest d all u is holds = subst (λ (l : Names). NextDir front l u) (sym split) (record {
    outside = dir_outside front rest (parent d) (last_name d) there u is holds;
    before = dir_before front rest (parent d) (last_name d) there u is holds;
    holds = dir_holds front rest (parent d) (last_name d) there u is holds;
    placed = dir_placed front rest (parent d) (last_name d) there u is holds;
  })
    where
      split : d ≡ parent d ++ last_name d ∷ []
      split = front_last d (not_root_missing d (missing_listed d (subst (λ (l : List Names). Contains l d) (sym all) (Contains-append_right front (d ∷ rest) d (contains_head d rest)))))

      there : dirs ≡ front ++ (parent d ++ last_name d ∷ []) ∷ rest
      there = all ∙ ap (λ (l : Names). front ++ l ∷ rest) split

  pub dirs_run : (rest front : List Names) (u : FileTree) → dirs ≡ front ++ rest
      → IsPlaced (made_at_first rs made ++ map as_dir front) (λ p. true) (place (aside_route (held_paths (sight_of t) rs))) same_node t u → HoldsEntries u
      → IsRun u (map MakeDir rest) × IsPlaced (made_at_first rs made ++ map as_dir dirs) (λ p. true) (place (aside_route (held_paths (sight_of t) rs))) same_node t (after (map MakeDir rest) u)
  dirs_run [] front u all is holds =
      (holds, subst (λ (l : List Names). IsPlaced (made_at_first rs made ++ map as_dir l) (λ p. true) (place (aside_route (held_paths (sight_of t) rs))) same_node t u) (sym (all ∙ append-nil front)) is)
  dirs_run (d ∷ rest) front u all is holds =
      let on = next_dir front rest d all u is holds in
      let more = dirs_run rest (front ++ d ∷ []) (insert u d (Dir 0o755)) (all ∙ sym (append_assoc front (d ∷ []) rest)) on.placed on.holds in
      ((holds, on.outside, on.before, more.0), more.1)

  -- in whatever order they are listed
  pub same_dirs : (q : Names) → find path_cmp q (made_at_first rs made ++ map as_dir dirs) ≡ find path_cmp q (made_at_first rs made ++ map as_dir (missing t rs))
  same_dirs q = by_first (find path_cmp q (made_at_first rs made)) refl
    where
      by_dirs : (o p : Option Node) → find path_cmp q (map as_dir dirs) ≡ o → find path_cmp q (map as_dir (missing t rs)) ≡ p → find path_cmp q (map as_dir dirs) ≡ find path_cmp q (map as_dir (missing t rs))
      by_dirs (Some x) p e f = let d = dirs_only dirs q x e in e ∙ ap (λ (n : Node). Some n) d.1 ∙ sym (find-dirs (missing t rs) q (missing_listed q d.0))
      by_dirs None (Some y) e f = let d = dirs_only (missing t rs) q y f in absurd (none-some (Dir 0o755) (sym e ∙ find-dirs dirs q (listed_missing q d.0)))
      by_dirs None None e f = e ∙ sym f

      by_first : (o : Option Node) → find path_cmp q (made_at_first rs made) ≡ o → find path_cmp q (made_at_first rs made ++ map as_dir dirs) ≡ find path_cmp q (made_at_first rs made ++ map as_dir (missing t rs))
      by_first (Some x) e = find-append_some q (made_at_first rs made) (map as_dir dirs) x e ∙ sym (find-append_some q (made_at_first rs made) (map as_dir (missing t rs)) x e)
      by_first None e = find-append_none q (made_at_first rs made) (map as_dir dirs) e ∙ by_dirs (find path_cmp q (map as_dir dirs)) (find path_cmp q (map as_dir (missing t rs))) refl refl
          ∙ sym (find-append_none q (made_at_first rs made) (map as_dir (missing t rs)) e)
