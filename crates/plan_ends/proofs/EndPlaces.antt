-- Where the paths are at the end of the moves, when no change waits.
use Rattle.std.proofs.Common.{◌≡◌, ℕ, Bool, true, false, ◌&&◌, ◌||◌, List, [], ◌∷◌, ◌++◌, map, filter, refl, sym, ◌∙◌, ap, subst, append_assoc, Option, Some, None}
use Rattle.std.specs.Prelude.{Contains}
use Rattle.std.specs.List.{zip}
use Rattle.std.specs.FinMap.{find}
use Rattle.std.proofs.lemmas.Bool.{and_parts, or_from, not_from_false, false_from_ne_true}
use Rattle.std.proofs.lemmas.Option.{none-some}
use Rattle.std.proofs.lemmas.List.{same_from_push}
use Rattle.dired_text.specs.Paths.{Names, path_cmp, parent}
use Rattle.commit_steps.specs.Staging.{staging, staging_name}
use Rattle.tree_core.specs.declared.node.Node.{Node}
use Rattle.tree_core.specs.declared.node.Node.TheVariants.{Dir}
use Rattle.tree_core.specs.FileTree.{FileTree, Stands}
use Rattle.tree_core.proofs.TreeLemmas.{dir_stands}
use Rattle.edit_words.specs.declared.row.Row.{Row}
use Rattle.edit_words.specs.declared.row.Route.{Route}
use Rattle.edit_words.specs.Place.{routed, place}
use Rattle.edit_words.specs.Rows.{row_from, route_to, route_by, route_of, is_kept, is_at, is_elsewhere, written, last_name}
use Rattle.edit_words.specs.Edited.{is_fresh, missing, fresh_place_of, added_by}
use Rattle.edit_words.specs.Sight.{sight_of}
use Rattle.edit_laws.proofs.ListLemmas.{any_parts, contains_head, contains_tail, filter_parts}
use Rattle.edit_laws.proofs.PlaceLemmas.{by_last, place-push, place-apart, View, sent, near, view, routed-sent}
use Rattle.edit_laws.proofs.PlacedIsTree.{Stayed}
use Rattle.edit_laws.proofs.RowLemmas.{row_from-some, row_there, is_at-true, rows_apart, root_kept, sent_far, far_to, front_last, written-to, route_to-written}
use Rattle.edit_laws.proofs.AddedLemmas.{missing_parts, IsMadeAt, retargeted, created, Added, is_made, is_missing, added_as, fresh_found}
use Rattle.plan_moves.specs.Moves.{Spots}
use Rattle.plan_moves.specs.Plan.{held_paths, is_given_up}
use Rattle.plan_moves.specs.SoFar.{held_at, route_so_far_by, route_so_far, fresh_there, added_so_far}
use Rattle.plan_laws.proofs.Held.{victim_held, given_held, full_not_held}
use Rattle.plan_laws.proofs.Setting.{ArePlannedRows}
use Rattle.plan_laws.proofs.SoFarApart.{not_staged, not_reserved, to_not_root, source_not_root}
use Rattle.plan_laws.proofs.Places.{all_aside}

pub map_same : {A B : Type 0} (f g : A → B) (xs : List A) → ((x : A) → Contains xs x → f x ≡ g x) → map f xs ≡ map g xs
map_same f g [] same = refl
map_same f g (x ∷ xs) same = ap (λ (y : _). y ∷ map f xs) (same x (contains_head x xs)) ∙ ap (λ (ys : _). g x ∷ ys) (map_same f g xs (λ y c. same y (contains_tail x y xs c)))

module _ (t : FileTree) (rs : List Row) (set : ArePlannedRows t rs) where
  -- what stands and isn't put aside is kept
  pub kept_unless : (p : Names) → Stands t p → held_at 0 (held_paths (sight_of t) rs) p ≡ None → is_kept rs p ≡ true
  kept_unless p stands none = not_from_false _ (or_from _ _
      (false_from_ne_true _ (λ victim. victim_held t rs set p stands victim none))
      (false_from_ne_true _ (λ removed.
      let r = any_parts (λ (x : Row). x.removes && is_at p x.source) rs removed in
      let parts = and_parts r.0.removes (is_at p r.0.source) r.2 in
      given_held t rs set r.0 p r.1 (up r.0 parts.0) (is_at-true p r.0.source parts.1) none)))
    where
      up : (r : Row) → r.removes ≡ true → is_given_up r ≡ true
      up r removes = ap (λ (b : Bool). r.retargets || b) removes ∙ last r.retargets
        where
          last : (b : Bool) → (b || true) ≡ true
          last true = refl
          last false = refl

  stayed_above : (p : Names) (n : List ℕ) → Stands t (p ++ n ∷ []) → Stayed (is_kept rs) t p
  stayed_above p n stands = let up = dir_stands _ (set.tree.parents p n stands) in
      record { kept = kept_unless p up (full_not_held t rs set p n stands); stands = up }

  -- ---- no new place is in the staging directory

  at_root : (n : List ℕ) → Stands t (n ∷ []) → routed (route_of rs (n ∷ [])) [] n ≡ staging → ⊥
  at_root n stands at = by_row (row_from rs (n ∷ [])) refl
    where
      stays : n ∷ [] ≡ staging → ⊥
      stays is = not_staged t rs set (n ∷ []) [] stands is

      by_row : (o : Option Row) → row_from rs (n ∷ []) ≡ o → ⊥
      by_row None e = stays (sym (ap (λ (x : Option Row). routed (route_by (n ∷ []) x) [] n) e) ∙ at)
      by_row (Some r) e = by_to r.to refl
        where
          here : routed (route_to (n ∷ []) r.to) [] n ≡ staging
          here = sym (ap (λ (x : Option Row). routed (route_by (n ∷ []) x) [] n) e) ∙ at

          by_to : (x : Option Names) → r.to ≡ x → ⊥
          by_to None to = stays (sym (ap (λ (x : Option Names). routed (route_to (n ∷ []) x) [] n) to) ∙ here)
          by_to (Some w) to =
              let listed = (row_from-some rs (n ∷ []) r e).0 in
              not_reserved t rs set r w [] listed to
              (sym (route_to-written [] n w (to_not_root t rs set r w listed to)) ∙ sym (ap (λ (x : Option Names). routed (route_to (n ∷ []) x) [] n) to) ∙ here)

  pub not_staged_place : (p : Names) → Stands t p → (rest : Names) → place (route_of rs) p ≡ staging ++ rest → ⊥
  not_staged_place = by_last (λ p. Stands t p → (rest : Names) → place (route_of rs) p ≡ staging ++ rest → ⊥) (λ s rest at. cc) (λ p n before s rest at.
      by_view p n before s (view (route_of rs (p ++ n ∷ [])) n) rest (sym (place-push (route_of rs) p n) ∙ at))
    where
      by_view : (p : Names) (n : List ℕ) → (Stands t p → (rest : Names) → place (route_of rs) p ≡ staging ++ rest → ⊥) → Stands t (p ++ n ∷ []) → View (route_of rs (p ++ n ∷ [])) n
          → (rest : Names) → routed (route_of rs (p ++ n ∷ [])) (place (route_of rs) p) n ≡ staging ++ rest → ⊥
      by_view p n before s (sent w is) rest at =
          let r = sent_far t rs set.tree set.fine set.are (p ++ n ∷ []) w is in
          let to = far_to r.0 r.2 in
          not_reserved t rs set r.0 to.0 rest r.1 to.1 (sym (written-to r.0 to.0 to.1) ∙ r.3 ∙ sym (routed-sent (route_of rs) (p ++ n ∷ []) (place (route_of rs) p) n w is) ∙ at)
      by_view p n before s (near k named) rest at = by_last (λ rest. place (route_of rs) p ++ k ∷ [] ≡ staging ++ rest → ⊥)
          (λ here.
          let both = same_from_push (place (route_of rs) p) [] k staging_name here in
          let root : p ≡ [] = place-apart (Stayed (is_kept rs) t) (route_of rs) (rows_apart t rs set.tree set.fine set.are) p [] (stayed_above p n s)
          (record { kept = root_kept t rs set.tree set.fine set.are; stands = dir_stands _ set.tree.root }) both.0 in
          at_root n (subst (λ (l : Names). Stands t (l ++ n ∷ [])) root s)
          (subst (λ (l : Names). routed (route_of rs (l ++ n ∷ [])) [] n ≡ staging) root (ap (λ (l : Names). routed (route_of rs (p ++ n ∷ [])) l n) (sym both.0) ∙ named (place (route_of rs) p) ∙ here)))
          (λ more m skip here.
          before (dir_stands _ (set.tree.parents p n s)) more (same_from_push (place (route_of rs) p) (staging ++ more) k m (here ∙ sym (append_assoc staging more (m ∷ [])))).0)
          rest (sym (named (place (route_of rs) p)) ∙ at)

  -- nor is what is added
  pub not_staged_added : (made : List Node) (q : Names) (node : Node) (rest : Names) → find path_cmp q (added_by t rs made) ≡ Some node → q ≡ staging ++ rest → ⊥
  not_staged_added made q node rest found is = by_added (added_as t rs made set.tree set.fine set.are q node found)
    where
      reserved_to : (r : Row) (more : Names) → Contains rs r → is_elsewhere r ≡ true → written r ≡ staging ++ more → ⊥
      reserved_to r more listed far at = let to = far_to r far in not_reserved t rs set r to.0 more listed to.1 (sym (written-to r to.0 to.1) ∙ at)

      by_made : IsMadeAt t rs q → ⊥
      by_made (r, listed, retargeted s retargets source stayed at) = not_staged_place s stayed.stands rest (at ∙ is)
      by_made (r, listed, created none far at) = reserved_to r rest listed far (at ∙ is)

      by_added : Added t rs made set.tree set.fine set.are q node → ⊥
      by_added (is_made e) = by_made (fresh_found t rs made set.tree set.fine set.are q node e)
      by_added (is_missing c dir) =
          let m = missing_parts t rs q c in
          reserved_to m.0 (rest ++ m.3.0 ∷ m.3.1) m.1 m.2 (m.3.2 ∙ ap (λ (l : Names). l ++ m.3.0 ∷ m.3.1) is ∙ append_assoc staging rest (m.3.0 ∷ m.3.1))

  -- ---- what isn't put aside is where its change sends it, and what is put aside in the staging directory

  module _ (spots : Spots) where
    gone : (p : Names) → held_at 0 (held_paths (sight_of t) rs) p ≡ None → route_so_far t rs spots [] p ≡ route_of rs p
    gone p none = ap (λ (h : Option Names). route_so_far_by spots [] p h (row_from rs p)) none ∙ by_row (row_from rs p)
      where
        by_row : (o : Option Row) → route_so_far_by spots [] p None o ≡ route_by p o
        by_row None = refl
        by_row (Some r) = refl

    pub place_gone : (p : Names) → Stands t p → held_at 0 (held_paths (sight_of t) rs) p ≡ None → place (route_so_far t rs spots []) p ≡ place (route_of rs) p
    place_gone = by_last (λ p. Stands t p → held_at 0 (held_paths (sight_of t) rs) p ≡ None → place (route_so_far t rs spots []) p ≡ place (route_of rs) p) (λ s none. refl) (λ p n before s none.
        place-push (route_so_far t rs spots []) p n
        ∙ ap (λ (a : Route). routed a (place (route_so_far t rs spots []) p) n) (gone (p ++ n ∷ []) none)
        ∙ ap (λ (l : Names). routed (route_of rs (p ++ n ∷ [])) l n) (before (dir_stands _ (set.tree.parents p n s)) (full_not_held t rs set p n s))
        ∙ sym (place-push (route_of rs) p n))

    pub place_held : (p path : Names) → held_at 0 (held_paths (sight_of t) rs) p ≡ Some path → place (route_so_far t rs spots []) p ≡ path
    place_held = by_last (λ p. (path : Names) → held_at 0 (held_paths (sight_of t) rs) p ≡ Some path → place (route_so_far t rs spots []) p ≡ path)
        (λ path is. absurd (none-some path (sym (all_aside t rs set).root ∙ is)))
        (λ p n before path is.
        place-push (route_so_far t rs spots []) p n
        ∙ ap (λ (h : Option Names). routed (route_so_far_by spots [] (p ++ n ∷ []) h (row_from rs (p ++ n ∷ []))) (place (route_so_far t rs spots []) p) n) is)

    fresh_gone : (r : Row) → Contains rs r → fresh_there (route_so_far t rs spots []) r r.source ≡ fresh_place_of (place (route_of rs)) r.source r
    fresh_gone r listed = by_source r.source refl
      where
        by_source : (o : Option Names) → r.source ≡ o → fresh_there (route_so_far t rs spots []) r r.source ≡ fresh_place_of (place (route_of rs)) r.source r
        by_source None e = ap (fresh_there (route_so_far t rs spots []) r) e ∙ sym (ap (λ (x : Option Names). fresh_place_of (place (route_of rs)) x r) e)
        by_source (Some s) e =
            ap (fresh_there (route_so_far t rs spots []) r) e
            ∙ ap (λ (l : Names). routed (route_to s r.to) l (last_name s)) above
            ∙ sym here
            ∙ sym (ap (λ (x : Option Names). fresh_place_of (place (route_of rs)) x r) e)
          where
            split : s ≡ parent s ++ last_name s ∷ []
            split = front_last s (source_not_root t rs set r s listed e)

            stands : Stands t (parent s ++ last_name s ∷ [])
            stands = subst (Stands t) split (set.are.standing r s listed e)

            above : place (route_so_far t rs spots []) (parent s) ≡ place (route_of rs) (parent s)
            above = place_gone (parent s) (dir_stands _ (set.tree.parents (parent s) (last_name s) stands)) (full_not_held t rs set (parent s) (last_name s) stands)

            found : row_from rs s ≡ Some r
            found = let f = row_there rs r s listed e in let at = row_from-some rs s f.0 f.1 in f.1 ∙ ap (λ (x : Row). Some x) (set.are.sources f.0 r s at.0 listed at.1 e)

            here : place (route_of rs) s ≡ routed (route_to s r.to) (place (route_of rs) (parent s)) (last_name s)
            here = ap (place (route_of rs)) split ∙ place-push (route_of rs) (parent s) (last_name s)
                ∙ ap (λ (l : Names). routed (route_of rs l) (place (route_of rs) (parent s)) (last_name s)) (sym split)
                ∙ ap (λ (x : Option Row). routed (route_by s x) (place (route_of rs) (parent s)) (last_name s)) found

    pub added_is : (made : List Node) → added_so_far t rs made spots [] ≡ (staging, Dir 0o700) ∷ added_by t rs made
    added_is made = ap (λ (l : List Names). (staging, Dir 0o700) ∷ zip l made ++ map (λ (p : Names). (p, Dir 0o755)) (missing t rs))
        (map_same (λ (r : Row). fresh_there (route_so_far t rs spots []) r r.source) (λ (r : Row). fresh_place_of (place (route_of rs)) r.source r) (filter is_fresh rs)
        (λ r c. fresh_gone r (filter_parts is_fresh rs r c).0))
