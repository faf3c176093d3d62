-- What changes add to a tree: entries that are made, and missing directories.
use Rattle.std.proofs.Common.{◌≡◌, ◌≢◌, ◌⊎◌, inl, inr, ℕ, ◌<◌, Bool, true, false, not, ◌||◌, List, [], ◌∷◌, ◌++◌, map, filter, length, refl, sym, ◌∙◌, ap, subst, arith, suc, get_or, Option, Some, None, is_some, if◌then◌else◌}
use Rattle.std.specs.Prelude.{Contains}
use Rattle.std.specs.List.{zip, AllZip, AllPairs}
use Rattle.std.specs.FinMap.{get, find}
use Rattle.std.proofs.lemmas.Bool.{cond-true, cond-false, cases_Bool}
use Rattle.std.proofs.lemmas.Option.{none-some, same_Some}
use Rattle.std.proofs.lemmas.List.Elements.{Contains-get_or}
use Rattle.std.proofs.lemmas.List.Kept.{AllPairs-filter}
use Rattle.dired_text.specs.Paths.{Names, path_cmp}
use Rattle.dired_text.proofs.PathLemmas.{path_decides}
use Rattle.tree_core.specs.declared.node.Node.{Node}
use Rattle.tree_core.specs.declared.node.Node.TheVariants.{Dir}
use Rattle.tree_core.specs.FileTree.{FileTree, IsTree, IsAbsent, Stands}
use Rattle.tree_core.proofs.TreeLemmas.{tie, tie-other, absent_not}
use Rattle.edit_words.specs.declared.row.Row.{Row}
use Rattle.edit_words.specs.Place.{place, IsAbove, ancestors}
use Rattle.edit_words.specs.Rows.{written, is_elsewhere, is_elsewhere_of, route_of, is_kept}
use Rattle.edit_words.specs.Edited.{missing, is_fresh, fresh_places, fresh_place_of, added_by}
use Rattle.edit_words.specs.WellFormed.{IsWellFormed, LinesRise}
use Rattle.edit_laws.proofs.ListLemmas.{contains_head, contains_tail, contains_none, contains_cases, contains_filter, filter_parts, contains_map, map_parts, contains_flat, flat_parts, zip_weaker}
use Rattle.edit_laws.proofs.PlaceLemmas.{place-apart}
use Rattle.edit_laws.proofs.PlacedLemmas.{find-append_some, find-append_none, tie_itself}
use Rattle.edit_laws.proofs.PlacedIsTree.{Stayed}
use Rattle.edit_laws.proofs.RowLemmas.{AreRows, rows_apart, one_row, source_stays, there_already, far_source}

-- ---- lists of paths and entries

ancestors_above : (w u : Names) → Contains (ancestors w) u → IsAbove u w
ancestors_above [] u c = absurd (contains_none u c)
ancestors_above (n ∷ w) u c = elim (contains_cases [] u (map (λ (q : Names). n ∷ q) (ancestors w)) c) [
  | inl root ↦ (n, w, ap (λ (l : Names). l ++ n ∷ w) root)
  | inr later ↦ let m = map_parts (λ (q : Names). n ∷ q) (ancestors w) u later in let a = ancestors_above w m.0 m.1 in
      (a.0, a.1, ap (λ (l : Names). n ∷ l) a.2 ∙ ap (λ (l : Names). l ++ a.0 ∷ a.1) m.2)
]

above_fronts : (u : Names) (n : List ℕ) (rest : Names) → Contains (ancestors (u ++ n ∷ rest)) u
above_fronts [] n rest = contains_head [] (map (λ (q : Names). n ∷ q) (ancestors rest))
above_fronts (x ∷ u) n rest = contains_tail [] (x ∷ u) (map (λ (q : Names). x ∷ q) (ancestors (u ++ n ∷ rest))) (contains_map (λ (q : Names). x ∷ q) (ancestors (u ++ n ∷ rest)) u (above_fronts u n rest))

abbrev pub as_dir : Names → Names × Node
as_dir p = (p, Dir 0o755)

find-dirs : (ps : List Names) (u : Names) → Contains ps u → find path_cmp u (map as_dir ps) ≡ Some (Dir 0o755)
find-dirs [] u c = absurd (contains_none u c)
find-dirs (p ∷ ps) u c = go (find-dirs ps u) (contains_cases p u ps c) (cases_Bool (tie u p))
  where
    go : (Contains ps u → find path_cmp u (map as_dir ps) ≡ Some (Dir 0o755)) → (p ≡ u) ⊎ Contains ps u → (tie u p ≡ true) ⊎ (tie u p ≡ false) → find path_cmp u (map as_dir (p ∷ ps)) ≡ Some (Dir 0o755)
    go more which (inl same) = cond-true (tie u p) (Some (Dir 0o755)) (find path_cmp u (map as_dir ps)) same
    go more (inl same) (inr other) = let both : true ≡ false = sym ((path_decides u p).1 (sym same)) ∙ other in absurd cc
    go more (inr later) (inr other) = cond-false (tie u p) (Some (Dir 0o755)) (find path_cmp u (map as_dir ps)) other ∙ more later

dirs_only : (ps : List Names) (u : Names) (node : Node) → find path_cmp u (map as_dir ps) ≡ Some node → Contains ps u × (node ≡ Dir 0o755)
dirs_only [] u node e = absurd (none-some node e)
dirs_only (p ∷ ps) u node e = elim (cases_Bool (tie u p)) [
  | inl same ↦ (subst (Contains (p ∷ ps)) (sym ((path_decides u p).0 same)) (contains_head p ps), same_Some node (Dir 0o755) (sym e ∙ cond-true (tie u p) (Some (Dir 0o755)) (find path_cmp u (map as_dir ps)) same))
  | inr other ↦ let more = dirs_only ps u node (sym (cond-false (tie u p) (Some (Dir 0o755)) (find path_cmp u (map as_dir ps)) other) ∙ e) in (contains_tail p u ps more.0, more.1)
]

-- what is found among pairs is one of them
pub zip_pair : (ps : List Names) (ns : List Node) (u : Names) (node : Node) → find path_cmp u (zip ps ns) ≡ Some node → Contains ps u × Contains ns node × Contains (zip ps ns) (u, node)
zip_pair [] ns u node e = absurd (none-some node e)
zip_pair (p ∷ ps) [] u node e = absurd (none-some node e)
zip_pair (p ∷ ps) (n ∷ ns) u node e = elim (cases_Bool (tie u p)) [
  | inl same ↦
      let is_p : p ≡ u = sym ((path_decides u p).0 same) in
      let is_n : n ≡ node = same_Some n node (sym (cond-true (tie u p) (Some n) (find path_cmp u (zip ps ns)) same) ∙ e) in (
        subst (Contains (p ∷ ps)) is_p (contains_head p ps),
        subst (Contains (n ∷ ns)) is_n (contains_head n ns),
        subst (λ (x : Names). Contains (zip (p ∷ ps) (n ∷ ns)) (x, node)) is_p (subst (λ (x : Node). Contains (zip (p ∷ ps) (n ∷ ns)) (p, x)) is_n (contains_head (p, n) (zip ps ns))),
      )
  | inr other ↦
      let more = zip_pair ps ns u node (sym (cond-false (tie u p) (Some n) (find path_cmp u (zip ps ns)) other) ∙ e) in
      (contains_tail p u ps more.0, contains_tail n node ns more.1, contains_tail (p, n) (u, node) (zip ps ns) more.2)
]

-- among pairs with different paths each is found
zip_finds : {X : Type 0} (f : X → Names) (xs : List X) (ns : List Node) → AllPairs (λ (x y : X). f x ≢ f y) xs → length ns ≡ length xs
    → AllZip (λ (q : Names) (n : Node). find path_cmp q (zip (map f xs) ns) ≡ Some n) (map f xs) ns
zip_finds f [] [] apart long = tt
zip_finds f [] (n ∷ ns) apart long = let long : length (n ∷ ns) ≡ 0 = long in absurd (omega arith)
zip_finds {X = X} f (x ∷ xs) [] apart long = let long : 0 ≡ length (x ∷ xs) = long in absurd (omega arith)
zip_finds {X = X} f (x ∷ xs) (n ∷ ns) apart long = (
  cond-true (tie (f x) (f x)) (Some n) (find path_cmp (f x) (zip (map f xs) ns)) (tie_itself (f x)),
  zip_weaker (λ (q : Names) (m : Node). find path_cmp q (zip (map f xs) ns) ≡ Some m) (λ (q : Names) (m : Node). find path_cmp q (zip (map f (x ∷ xs)) (n ∷ ns)) ≡ Some m) (map f xs) ns
      (λ q m c found. cond-false (tie q (f x)) (Some n) (find path_cmp q (zip (map f xs) ns)) (tie-other q (f x) (λ same. let y = map_parts f xs q c in other y.0 y.1 (sym (y.2 ∙ same)))) ∙ found)
      (zip_finds f xs ns (λ i j d less below. apart (suc i) (suc j) d (omega arith) (omega arith)) (omega arith)),
)
  where
    other : (y : X) → Contains xs y → f x ≡ f y → ⊥
    other y (k, below, at) same = apart 0 (suc k) y (omega arith) (omega arith) (same ∙ sym (ap f at))

-- ---- rows

module _ (t : FileTree) (rs : List Row) where
  pub missing_there : (r : Row) (u : Names) → Contains rs r → is_elsewhere r ≡ true → IsAbove u (written r) → IsAbsent t u → Contains (missing t rs) u
  missing_there r u listed far (n, rest, is) absent = contains_filter _ _ u
      (contains_flat (λ (r : Row). if is_elsewhere r then ancestors (written r) else []) rs r u listed
      (subst (λ (l : List Names). Contains l u) (sym (cond-true (is_elsewhere r) (ancestors (written r)) [] far)) (subst (λ (l : Names). Contains (ancestors l) u) (sym is) (above_fronts u n rest))))
      (ap (λ (o : Option Node). not (is_some o)) absent)

  pub missing_parts : (u : Names) → Contains (missing t rs) u → (r : Row) × Contains rs r × (is_elsewhere r ≡ true) × IsAbove u (written r) × IsAbsent t u
  missing_parts u c =
      let f = filter_parts _ _ u c in
      let r = flat_parts (λ (r : Row). if is_elsewhere r then ancestors (written r) else []) rs u f.0 in
      by_far r.0 r.1 r.2 (is_absent (get t u) refl f.1) (cases_Bool (is_elsewhere r.0))
    where
      is_absent : (o : Option Node) → get t u ≡ o → not (is_some (get t u)) ≡ true → get t u ≡ None
      is_absent None e no_one = e
      is_absent (Some x) e no_one = let both : false ≡ true = sym (ap (λ (o : Option Node). not (is_some o)) e) ∙ no_one in absurd cc

      by_far : (r : Row) → Contains rs r → Contains (if is_elsewhere r then ancestors (written r) else []) u → IsAbsent t u → (is_elsewhere r ≡ true) ⊎ (is_elsewhere r ≡ false)
          → (r : Row) × Contains rs r × (is_elsewhere r ≡ true) × IsAbove u (written r) × IsAbsent t u
      by_far r listed in_r absent (inl far) = (r, listed, far, ancestors_above (written r) u (subst (λ (l : List Names). Contains l u) (cond-true (is_elsewhere r) (ancestors (written r)) [] far) in_r), absent)
      by_far r listed in_r absent (inr near_by) = absurd (contains_none u (subst (λ (l : List Names). Contains l u) (cond-false (is_elsewhere r) (ancestors (written r)) [] near_by) in_r))

  -- what a row has made stands at the place of its source, a retargeted link, or at its new path
  pub data MadeBy (r : Row) (q : Names) : Type 0 where
    retargeted : (s : Names) → r.retargets ≡ true → r.source ≡ Some s → Stayed (is_kept rs) t s → place (route_of rs) s ≡ q → MadeBy r q
    created : r.source ≡ None → is_elsewhere r ≡ true → written r ≡ q → MadeBy r q

  abbrev pub IsMadeAt : Names → Type 0
  IsMadeAt q = (r : Row) × Contains rs r × MadeBy r q

module _ (t : FileTree) (rs : List Row) (made : List Node) (tree : IsTree t) (fine : IsWellFormed t rs) (are : AreRows t rs) where
  made_by : (q : Names) (r : Row) → Contains rs r → is_fresh r ≡ true → fresh_place_of (place (route_of rs)) r.source r ≡ q → MadeBy t rs r q
  made_by q r listed is at = by_source r.source refl
    where
      by_source : (x : Option Names) → r.source ≡ x → MadeBy t rs r q
      by_source None none = let to = are.created r listed none in created none (ap (λ (x : Option Names). is_elsewhere_of x r.to) none ∙ ap (is_elsewhere_of None) to.1)
          (sym (ap (λ (x : Option Names). fresh_place_of (place (route_of rs)) x r) none) ∙ at)
      by_source (Some s) some =
          retargeted s (no_other r.retargets (sym (ap (λ (x : Option Names). r.retargets || not (is_some x)) some) ∙ is)) some
          (source_stays t rs tree fine are r s listed is some)
          (sym (ap (λ (x : Option Names). fresh_place_of (place (route_of rs)) x r) some) ∙ at)
        where
          no_other : (b : Bool) → (b || false) ≡ true → b ≡ true
          no_other true e = refl
          no_other false e = cc

  made_at : (q : Names) → Contains (fresh_places rs) q → IsMadeAt t rs q
  made_at q c =
      let m = map_parts (λ (r : Row). fresh_place_of (place (route_of rs)) r.source r) (filter is_fresh rs) q c in
      let f = filter_parts is_fresh rs m.0 m.1 in
      (m.0, f.0, made_by q m.0 f.0 f.1 m.2)

  pub no_fresh_at : (q : Names) → (IsMadeAt t rs q → ⊥) → find path_cmp q (zip (fresh_places rs) made) ≡ None
  no_fresh_at q no_one = by_found (find path_cmp q (zip (fresh_places rs) made)) refl
    where
      by_found : (o : Option Node) → find path_cmp q (zip (fresh_places rs) made) ≡ o → find path_cmp q (zip (fresh_places rs) made) ≡ None
      by_found None e = e
      by_found (Some node) e = absurd (no_one (made_at q (zip_pair (fresh_places rs) made q node e).0))

  pub fresh_found : (q : Names) (node : Node) → find path_cmp q (zip (fresh_places rs) made) ≡ Some node → IsMadeAt t rs q
  fresh_found q node e = made_at q (zip_pair (fresh_places rs) made q node e).0

  -- nothing is made at a missing directory
  no_fresh_missing : (r : Row) (u : Names) → Contains rs r → is_elsewhere r ≡ true → IsAbove u (written r) → IsAbsent t u → IsMadeAt t rs u → ⊥
  no_fresh_missing r u listed far above absent (o, listed_o, retargeted s retargets source stayed at) =
      let here : s ≡ u = there_already t rs tree fine are r s listed far stayed (subst (λ (l : Names). IsAbove l (written r)) (sym at) above) ∙ at in
      absent_not _ absent (subst (Stands t) here stayed.stands)
  no_fresh_missing r u listed far above absent (o, listed_o, created none far_o at) =
      absent_not _ absent (subst (Stands t) at (fine.untaken r o listed listed_o far (subst (λ (l : Names). IsAbove l (written r)) (sym at) above)))

  pub missing_found : (u : Names) → Contains (missing t rs) u → find path_cmp u (added_by t rs made) ≡ Some (Dir 0o755)
  missing_found u c =
      let m = missing_parts t rs u c in
      find-append_none u (zip (fresh_places rs) made) (map as_dir (missing t rs)) (no_fresh_at u (no_fresh_missing m.0 u m.1 m.2 m.3 m.4)) ∙ find-dirs (missing t rs) u c

  -- what is added is one of the entries that are made, or a missing directory
  pub data Added (q : Names) (node : Node) : Type 0 where
    is_made : find path_cmp q (zip (fresh_places rs) made) ≡ Some node → Added q node
    is_missing : Contains (missing t rs) q → node ≡ Dir 0o755 → Added q node

  pub added_as : (q : Names) (node : Node) → find path_cmp q (added_by t rs made) ≡ Some node → Added q node
  added_as q node e = by_made (find path_cmp q (zip (fresh_places rs) made)) refl
    where
      by_made : (o : Option Node) → find path_cmp q (zip (fresh_places rs) made) ≡ o → Added q node
      by_made (Some x) z = is_made (z ∙ sym (find-append_some q (zip (fresh_places rs) made) (map as_dir (missing t rs)) x z) ∙ e)
      by_made None z = let d = dirs_only (missing t rs) q node (sym (find-append_none q (zip (fresh_places rs) made) (map as_dir (missing t rs)) z) ∙ e) in is_missing d.0 d.1

  -- nothing is added at the place of a path that stays and is no retargeted link
  pub nothing_added : (p : Names) → Stayed (is_kept rs) t p → ((r : Row) → Contains rs r → r.retargets ≡ true → r.source ≡ Some p → ⊥) → find path_cmp (place (route_of rs) p) (added_by t rs made) ≡ None
  nothing_added p stayed no_link = by_found (find path_cmp (place (route_of rs) p) (added_by t rs made)) refl
    where
      no_fresh : IsMadeAt t rs (place (route_of rs) p) → ⊥
      no_fresh (r, listed, retargeted s retargets source stayed_s at) =
          no_link r listed retargets (source ∙ ap (λ (l : Names). Some l) (place-apart (Stayed (is_kept rs) t) (route_of rs) (rows_apart t rs tree fine are) s p stayed_s stayed at))
      no_fresh (r, listed, created none far at) = none-some p (sym none ∙ far_source t rs tree fine are r p listed far stayed (sym at))

      none_here : (node : Node) → Added (place (route_of rs) p) node → ⊥
      none_here node (is_made e) = no_fresh (fresh_found (place (route_of rs) p) node e)
      none_here node (is_missing c is) =
          let m = missing_parts t rs (place (route_of rs) p) c in
          let here : p ≡ place (route_of rs) p = there_already t rs tree fine are m.0 p m.1 m.2 stayed m.3 in
          absent_not _ m.4 (subst (Stands t) here stayed.stands)

      by_found : (o : Option Node) → find path_cmp (place (route_of rs) p) (added_by t rs made) ≡ o → find path_cmp (place (route_of rs) p) (added_by t rs made) ≡ None
      by_found None e = e
      by_found (Some node) e = absurd (none_here node (added_as (place (route_of rs) p) node e))

  -- two rows that have something made at one path are one
  one_made : (r o : Row) (q : Names) → Contains rs r → Contains rs o → MadeBy t rs r q → MadeBy t rs o q → r ≡ o
  one_made r o q listed_r listed_o (retargeted s retargets source stayed at) (retargeted s' retargets' source' stayed' at') =
      let same : s ≡ s' = place-apart (Stayed (is_kept rs) t) (route_of rs) (rows_apart t rs tree fine are) s s' stayed stayed' (at ∙ sym at') in
      are.sources r o s' listed_r listed_o (source ∙ ap (λ (l : Names). Some l) same) source'
  one_made r o q listed_r listed_o (retargeted s retargets source stayed at) (created none far at') =
      absurd (none-some s (sym none ∙ far_source t rs tree fine are o s listed_o far stayed (at ∙ sym at')))
  one_made r o q listed_r listed_o (created none far at) (retargeted s retargets source stayed at') =
      absurd (none-some s (sym none ∙ far_source t rs tree fine are r s listed_r far stayed (at' ∙ sym at)))
  one_made r o q listed_r listed_o (created none far at) (created none' far' at') = one_row t rs tree fine are r o listed_r listed_o (at ∙ sym at')

  -- each entry that is made is found at its place
  pub made_found : LinesRise rs → length made ≡ length (filter is_fresh rs) → AllZip (λ (q : Names) (n : Node). find path_cmp q (added_by t rs made) ≡ Some n) (fresh_places rs) made
  made_found lines long = zip_weaker _ (λ (q : Names) (n : Node). find path_cmp q (added_by t rs made) ≡ Some n) (fresh_places rs) made
      (λ q n c found. find-append_some q (zip (fresh_places rs) made) (map as_dir (missing t rs)) n found)
      (zip_finds place_of (filter is_fresh rs) made (λ i j d less below same.
      let x = at i d (omega arith) in
      let y = at j d below in
      let one : get_or (filter is_fresh rs) i d ≡ get_or (filter is_fresh rs) j d = one_made _ _ (place_of (get_or (filter is_fresh rs) j d)) x.0 y.0 (made_by _ _ x.0 x.1 same) (made_by _ _ y.0 y.1 refl) in
      let rises : (get_or (filter is_fresh rs) i d).line < (get_or (filter is_fresh rs) j d).line = AllPairs-filter (λ (r o : Row). r.line < o.line) is_fresh rs lines i j d less below in
      let level : (get_or (filter is_fresh rs) i d).line ≡ (get_or (filter is_fresh rs) j d).line = ap (λ (r : Row). r.line) one in
      omega arith) long)
    where
      place_of : Row → Names
      place_of r = fresh_place_of (place (route_of rs)) r.source r

      at : (i : ℕ) (d : Row) → i < length (filter is_fresh rs) → Contains rs (get_or (filter is_fresh rs) i d) × (is_fresh (get_or (filter is_fresh rs) i d) ≡ true)
      at i d below = filter_parts is_fresh rs (get_or (filter is_fresh rs) i d) (Contains-get_or (filter is_fresh rs) i d below)
