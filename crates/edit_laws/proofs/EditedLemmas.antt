-- What stands in the edited tree of well-formed changes, and that it is a tree.
use Rattle.std.proofs.Common.{◌≡◌, ◌⊎◌, inl, inr, ℕ, Bool, true, false, not, ◌&&◌, ◌||◌, List, [], ◌∷◌, ◌++◌, filter, length, refl, sym, ◌∙◌, ap, subst, arith, append_assoc, Option, Some, None, is_some, IsTrue}
use Rattle.std.specs.Prelude.{Contains, unwrap_or}
use Rattle.std.specs.List.{zip}
use Rattle.std.specs.FinMap.{get, find}
use Rattle.std.proofs.lemmas.Bool.{cond-true, cond-false, cases_Bool, and_parts, not-true, false_from_ne_true, not_from_false}
use Rattle.std.proofs.lemmas.Option.{none-some}
use Rattle.std.proofs.lemmas.List.{same_from_push}
use Rattle.dired_text.specs.Paths.{Names, path_cmp}
use Rattle.tree_core.specs.declared.node.Node.{Node}
use Rattle.tree_core.specs.declared.node.Node.TheVariants.{Dir, Link, File}
use Rattle.tree_core.specs.FileTree.{FileTree, IsTree, IsDir, IsMode, IsLawful}
use Rattle.tree_core.proofs.TreeLemmas.{dir_stands}
use Rattle.edit_words.specs.declared.row.Row.{Row}
use Rattle.edit_words.specs.declared.row.Route.TheVariants.{Sent}
use Rattle.edit_words.specs.Place.{routed, place, IsAbove}
use Rattle.edit_words.specs.Rows.{row_from, is_at, written, is_elsewhere, route_of, is_kept}
use Rattle.edit_words.specs.Edited.{Came, missing, is_fresh, fresh_places, fresh_place_of, with_new_mode, mode_named, mode_of_row, number_in, is_number, added_by, edited, IsEdited}
use Rattle.edit_words.specs.WellFormed.{IsWellFormed, LinesRise}
use Rattle.edit_laws.specs.Laws.{is_retargeted, goes, StandsAsEdited}
use Rattle.edit_laws.proofs.ListLemmas.{contains_head, contains_tail, any_parts, any_from, contains_map, contains_filter, zip_left, zip_weaker}
use Rattle.edit_laws.proofs.PlaceLemmas.{by_last, place-push, place-apart, IsApart, push_not_root, View, sent, near, view, routed-sent}
use Rattle.edit_laws.proofs.PlacedLemmas.{placed_tree-IsPlaced}
use Rattle.edit_laws.proofs.PlacedIsTree.{IsDirNode, Stayed, IsHeldUp, placed_is_tree}
use Rattle.edit_laws.proofs.RowLemmas.{AreRows, row_from-some, is_at-true, is_at-same, rows_apart, settled, sent_far, root_kept}
use Rattle.edit_laws.proofs.AskedLemmas.{AreMadeRows}
use Rattle.edit_laws.proofs.AddedLemmas.{missing_there, missing_parts, IsMadeAt, retargeted, created, is_made, is_missing, added_as, fresh_found, zip_pair, missing_found, nothing_added, made_found}

-- ---- new modes

-- a mode that is named is that of a row
named_row : (t : FileTree) (rs : List Row) (number mode : ℕ) → mode_named t rs number ≡ Some mode → (r : Row) × Contains rs r × (r.mode ≡ Some mode)
named_row t [] number mode e = absurd (none-some mode e)
named_row t (r ∷ rs) number mode e = elim (cases_Bool (is_some r.mode && is_number number (number_in t r.source))) [
  | inl here ↦ (r, contains_head r rs, sym (cond-true _ r.mode (mode_named t rs number) here) ∙ e)
  | inr other ↦ let more = named_row t rs number mode (sym (cond-false _ r.mode (mode_named t rs number) other) ∙ e) in (more.0, contains_tail r more.0 rs more.1, more.2)
]

unwrapped : (o : Option ℕ) (mode : ℕ) → ((m : ℕ) → o ≡ Some m → IsMode m) → IsMode mode → IsMode (unwrap_or o mode)
unwrapped None mode some is = is
unwrapped (Some m) mode some is = some m refl

row_mode : (rs : List Row) (p : Names) (mode : ℕ) → mode_of_row (row_from rs p) ≡ Some mode → (r : Row) × Contains rs r × (r.mode ≡ Some mode)
row_mode rs p mode e = go (row_from rs p) refl
  where
    go : (o : Option Row) → row_from rs p ≡ o → (r : Row) × Contains rs r × (r.mode ≡ Some mode)
    go None none = absurd (none-some mode (sym (ap mode_of_row none) ∙ e))
    go (Some r) some = (r, (row_from-some rs p r some).0, sym (ap mode_of_row some) ∙ e)

new_mode_lawful : (t : FileTree) (rs : List Row) → ((r : Row) (mode : ℕ) → Contains rs r → r.mode ≡ Some mode → IsMode mode) → (p : Names) (node : Node) → IsLawful node → IsLawful (with_new_mode t rs p node)
new_mode_lawful t rs modes p (Dir mode) lawful = unwrapped (mode_of_row (row_from rs p)) mode (λ m e. let r = row_mode rs p m e in modes r.0 m r.1 r.2) lawful
new_mode_lawful t rs modes p (Link target) lawful = lawful
new_mode_lawful t rs modes p (File number bytes mode) lawful = unwrapped (mode_named t rs number) mode (λ m e. let r = named_row t rs number m e in modes r.0 m r.1 r.2) lawful

new_mode_files : (t : FileTree) (rs : List Row) (p : Names) (node : Node) (number : ℕ) (bytes : List ℕ) (mode : ℕ) → with_new_mode t rs p node ≡ File number bytes mode
    → (m : ℕ) × (node ≡ File number bytes m) × (mode ≡ unwrap_or (mode_named t rs number) m)
new_mode_files t rs p (Dir k) number bytes mode e = cc
new_mode_files t rs p (Link l) number bytes mode e = cc
new_mode_files t rs p (File n b m) number bytes mode e =
    let is_n : n ≡ number = cc in let is_b : b ≡ bytes = cc in let is_m : mode ≡ unwrap_or (mode_named t rs n) m = cc in
    (m, ap (λ (x : ℕ). File x b m) is_n ∙ ap (λ (x : List ℕ). File number x m) is_b, is_m ∙ ap (λ (x : ℕ). unwrap_or (mode_named t rs x) m) is_n)

-- ---- retargeted links

retargets_from : (rs : List Row) (r : Row) (p : Names) → Contains rs r → r.retargets ≡ true → r.source ≡ Some p → is_retargeted rs p ≡ true
retargets_from rs r p listed retargets source = any_from (λ (r : Row). r.retargets && is_at p r.source) rs r listed
    (ap (λ (b : Bool). b && is_at p r.source) retargets ∙ is_at-same p r.source source)

goes_parts : (rs : List Row) (p : Names) → goes rs p ≡ true → (is_kept rs p ≡ true) × ((r : Row) → Contains rs r → r.retargets ≡ true → r.source ≡ Some p → ⊥)
goes_parts rs p e = let parts = and_parts (is_kept rs p) (not (is_retargeted rs p)) e in
    (parts.0, λ r listed retargets source. let both : true ≡ false = sym (retargets_from rs r p listed retargets source) ∙ not-true _ parts.1 in cc)

-- the place of a retargeted link is one where an entry is made
retargeted_place : (rs : List Row) (r : Row) (p : Names) → Contains rs r → r.retargets ≡ true → r.source ≡ Some p → Contains (fresh_places rs) (place (route_of rs) p)
retargeted_place rs r p listed retargets source = subst (Contains (fresh_places rs)) (ap (λ (x : Option Names). fresh_place_of (place (route_of rs)) x r) source)
    (contains_map (λ (r : Row). fresh_place_of (place (route_of rs)) r.source r) (filter is_fresh rs) r
    (contains_filter is_fresh rs r listed (ap (λ (b : Bool). b || not (is_some r.source)) retargets)))

-- ---- the edited tree

module _ (t : FileTree) (rs : List Row) (made : List Node) (tree : IsTree t) (fine : IsWellFormed t rs) (are : AreRows t rs) where
  fits : IsApart (Stayed (is_kept rs) t) (route_of rs)
  fits = rows_apart t rs tree fine are

  pub edited-IsEdited : IsEdited t rs made (edited t rs made)
  edited-IsEdited = placed_tree-IsPlaced (is_kept rs) (place (route_of rs)) (with_new_mode t rs) (added_by t rs made) t
      (λ p q kept_p kept_q stands_p stands_q same. place-apart (Stayed (is_kept rs) t) (route_of rs) fits q p
      (record { kept = kept_q; stands = stands_q }) (record { kept = kept_p; stands = stands_p }) same)

  module _ (new : FileTree) (is : IsEdited t rs made new) (lines : LinesRise rs) (long : length made ≡ length (filter is_fresh rs)) where
    stands_where : (q : Names) (node : Node) → get new q ≡ Some node
        → Came (goes rs) (place (route_of rs)) (with_new_mode t rs) t q node ⊎ (Contains (zip (fresh_places rs) made) (q, node) ⊎ (Contains (missing t rs) q × (node ≡ Dir 0o755)))
    stands_where q node e = by_added (find path_cmp q (added_by t rs made)) refl
      where
        by_added : (o : Option Node) → find path_cmp q (added_by t rs made) ≡ o
            → Came (goes rs) (place (route_of rs)) (with_new_mode t rs) t q node ⊎ (Contains (zip (fresh_places rs) made) (q, node) ⊎ (Contains (missing t rs) q × (node ≡ Dir 0o755)))
        by_added (Some x) found = elim (added_as t rs made tree fine are q node (found ∙ sym (is.added_stand q x found) ∙ e)) [
          | is_made at ↦ inr (inl (zip_pair (fresh_places rs) made q node at).2)
          | is_missing at dir ↦ inr (inr (at, dir))
        ]
        by_added None none = elim (is.only q node e) [
          | inl some ↦ let no : IsTrue (is_some {T = Node} None) = subst (λ (o : Option Node). IsTrue (is_some o)) none some in absurd cc
          | inr came ↦ inl (record {
            path = came.path;
            was = came.was;
            kept = ap (λ (b : Bool). b && not (is_retargeted rs came.path)) came.kept ∙ not_from_false _ (no_link came);
            stood = came.stood;
            here = came.here;
            same = came.same;
          })
        ]
          where
            no_link : (came : Came (is_kept rs) (place (route_of rs)) (with_new_mode t rs) t q node) → is_retargeted rs came.path ≡ false
            no_link came = false_from_ne_true _ (λ link.
                let r = any_parts (λ (r : Row). r.retargets && is_at came.path r.source) rs link in
                let parts = and_parts r.0.retargets (is_at came.path r.0.source) r.2 in
                let there = fresh_there r.0 came.path r.1 parts.0 (is_at-true came.path r.0.source parts.1) in
                none-some there.0 (sym none ∙ ap (λ (l : Names). find path_cmp l (added_by t rs made)) (sym came.here) ∙ there.1))
              where
                fresh_there : (r : Row) (p : Names) → Contains rs r → r.retargets ≡ true → r.source ≡ Some p → (n : Node) × (find path_cmp (place (route_of rs) p) (added_by t rs made) ≡ Some n)
                fresh_there r p listed retargets source =
                    let there = zip_left _ (fresh_places rs) made (place (route_of rs) p) (made_found t rs made tree fine are lines long) (retargeted_place rs r p listed retargets source) in
                    (there.0, there.2)

    pub stands_as_edited : StandsAsEdited t rs made new
    stands_as_edited = record {
      went = λ p node going stood. let parts = goes_parts rs p going in
          is.stay p node parts.0 stood (nothing_added t rs made tree fine are p (record { kept = parts.0; stands = ap is_some stood }) parts.1);
      made_stand = zip_weaker _ (λ (q : Names) (node : Node). get new q ≡ Some node) (fresh_places rs) made (λ q node c found. is.added_stand q node found) (made_found t rs made tree fine are lines long);
      missing_stand = λ q c. is.added_stand q (Dir 0o755) (missing_found t rs made tree fine are q c);
      only = stands_where;
    }

  -- ---- that it is a tree

  module _ (made_are : AreMadeRows t rs made) where
    abbrev Above : Names → Type 0
    Above u = IsDirNode (find path_cmp u (added_by t rs made)) ⊎ (Stayed (is_kept rs) t u × IsDir t u × (place (route_of rs) u ≡ u))

    above_far_path : (r : Row) (u : Names) → Contains rs r → is_elsewhere r ≡ true → IsAbove u (written r) → Above u
    above_far_path r u listed far above = by_get (get t u) refl
      where
        by_get : (o : Option Node) → get t u ≡ o → Above u
        by_get (Some node) e = inr (settled t rs tree fine are r u listed far above (ap is_some e))
        by_get None e = inl (subst IsDirNode (sym (missing_found t rs made tree fine are u (missing_there t rs r u listed far above e))) refl)

    above_sent : (p w u : Names) → Stayed (is_kept rs) t p → route_of rs p ≡ Sent w → IsAbove u w → Above u
    above_sent p w u stayed away above = let r = sent_far t rs tree fine are p w away in above_far_path r.0 u r.1 r.2 (subst (IsAbove u) (sym r.3) above)

    abbrev AboveAdded : Names → Type 0
    AboveAdded q = IsDirNode (find path_cmp q (added_by t rs made)) ⊎ ((p : Names) × Stayed (is_kept rs) t p × IsDir t p × (place (route_of rs) p ≡ q))

    weaker : (q : Names) → Above q → AboveAdded q
    weaker q (inl dir) = inl dir
    weaker q (inr (stayed, dir, at)) = inr (q, stayed, dir, at)

    above_place : (q : Names) (n : List ℕ) (s : Names) → Stayed (is_kept rs) t s → place (route_of rs) s ≡ q ++ n ∷ [] → AboveAdded q
    above_place q n = by_last (λ s. Stayed (is_kept rs) t s → place (route_of rs) s ≡ q ++ n ∷ [] → AboveAdded q)
        (λ stayed at. absurd (push_not_root q n (sym at)))
        (λ p m before stayed at. go p m stayed (view (route_of rs (p ++ m ∷ [])) m) (sym (place-push (route_of rs) p m) ∙ at))
      where
        go : (p : Names) (m : List ℕ) → Stayed (is_kept rs) t (p ++ m ∷ []) → View (route_of rs (p ++ m ∷ [])) m → routed (route_of rs (p ++ m ∷ [])) (place (route_of rs) p) m ≡ q ++ n ∷ [] → AboveAdded q
        go p m stayed (sent w away) at =
            let w_is : w ≡ q ++ n ∷ [] = sym (routed-sent (route_of rs) (p ++ m ∷ []) (place (route_of rs) p) m w away) ∙ at in
            weaker q (above_sent (p ++ m ∷ []) w q stayed away (n, [], w_is))
        go p m stayed (near k near_by) at =
            inr (p, fits.up p m stayed, tree.parents p m stayed.stands, (same_from_push (place (route_of rs) p) q k n (sym (near_by (place (route_of rs) p)) ∙ at)).0)

    above_made : (q : Names) (n : List ℕ) → IsMadeAt t rs (q ++ n ∷ []) → AboveAdded q
    above_made q n (r, listed, retargeted s retargets source stayed at) = above_place q n s stayed at
    above_made q n (r, listed, created none far at) = weaker q (above_far_path r q listed far (n, [], at))

    above_added : (q : Names) (n : List ℕ) → IsTrue (is_some (find path_cmp (q ++ n ∷ []) (added_by t rs made))) → AboveAdded q
    above_added q n some = by_found (find path_cmp (q ++ n ∷ []) (added_by t rs made)) refl some
      where
        by_found : (o : Option Node) → find path_cmp (q ++ n ∷ []) (added_by t rs made) ≡ o → IsTrue (is_some o) → AboveAdded q
        by_found None e s = cc
        by_found (Some node) e s = elim (added_as t rs made tree fine are (q ++ n ∷ []) node e) [
          | is_made at ↦ above_made q n (fresh_found t rs made tree fine are (q ++ n ∷ []) node at)
          | is_missing c dir ↦ let m = missing_parts t rs (q ++ n ∷ []) c in
              weaker q (above_far_path m.0 q m.1 m.2 (n, m.3.0 ∷ m.3.1, m.3.2 ∙ append_assoc q (n ∷ []) (m.3.0 ∷ m.3.1)))
        ]

    -- a file that is added is one of the entries that are made
    made_file : (q : Names) (number : ℕ) (b : List ℕ) (m : ℕ) → find path_cmp q (added_by t rs made) ≡ Some (File number b m) → Contains made (File number b m)
    made_file q number b m e = elim (added_as t rs made tree fine are q (File number b m) e) [
      | is_made at ↦ (zip_pair (fresh_places rs) made q (File number b m) at).1
      | is_missing c dir ↦ let both : File number b m ≡ Dir 0o755 = dir in absurd cc
    ]

    added_lawful : (q : Names) (node : Node) → find path_cmp q (added_by t rs made) ≡ Some node → IsLawful node
    added_lawful q node e = elim (added_as t rs made tree fine are q node e) [
      | is_made at ↦ made_are.lawful node (zip_pair (fresh_places rs) made q node at).1
      | is_missing c dir ↦ subst IsLawful (sym dir) lawful_dir
    ]
      where
        lawful_dir : IsMode 0o755
        lawful_dir = omega arith

    held_up : IsHeldUp (added_by t rs made) (is_kept rs) (route_of rs) (with_new_mode t rs) (λ number m. unwrap_or (mode_named t rs number) m) t
    held_up = record {
      root = root_kept t rs tree fine are;
      directories = λ p kept dir. nothing_added t rs made tree fine are p (record { kept = kept; stands = dir_stands _ dir }) (λ r listed retargets source. are.no_dir r p listed retargets source dir);
      as_before = λ p mode. refl;
      files = new_mode_files t rs;
      above_sent = above_sent;
      above_added = above_added;
      added_alike = λ q number b c m k e. let in_made = made_file q number b m e in (
        λ r e'. made_are.alike _ _ number b c m k in_made (made_file r number c k e') refl refl,
        λ r o e' is_k. let same = made_are.as_named _ r number b c m o in_made refl e' in (same.0, same.1 ∙ sym is_k),
      );
      shown_lawful = new_mode_lawful t rs made_are.modes;
      added_lawful = added_lawful;
    }

    pub edited_is_tree : IsTree (edited t rs made)
    edited_is_tree = placed_is_tree (added_by t rs made) (is_kept rs) (route_of rs) (with_new_mode t rs) (λ number m. unwrap_or (mode_named t rs number) m) t (edited t rs made)
        tree fits held_up edited-IsEdited
