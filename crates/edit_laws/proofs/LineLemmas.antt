-- Each line does what it says to its source, and what no line gives a mode keeps its mode.
use Rattle.std.proofs.Common.{◌≡◌, ◌≢◌, ◌⊎◌, inl, inr, ℕ, Bool, true, false, not, ◌&&◌, List, [], ◌∷◌, ◌++◌, refl, sym, ◌∙◌, ap, Option, Some, None, is_some, eq-eqb, eqb-true}
use Rattle.std.specs.Prelude.{Contains, unwrap_or}
use Rattle.std.specs.FinMap.{get}
use Rattle.std.proofs.lemmas.Bool.{cond-true, cond-false, cases_Bool, and_parts, not-true, false_from_ne_true}
use Rattle.dired_text.specs.Paths.{Names, parent}
use Rattle.dired_text.proofs.PathLemmas.{path_decides, parent-push}
use Rattle.tree_core.specs.declared.node.Node.{Node}
use Rattle.tree_core.specs.declared.node.Node.TheVariants.{Dir, Link, File}
use Rattle.tree_core.specs.declared.changes.Changes.{Changes}
use Rattle.tree_core.specs.FileTree.{FileTree, IsFile, mode_of}
use Rattle.edit_words.specs.declared.row.Row.{Row}
use Rattle.edit_words.specs.declared.row.Route.{Route}
use Rattle.edit_words.specs.declared.row.Route.TheVariants.{Stays, Named, Sent}
use Rattle.edit_words.specs.Place.{routed, place}
use Rattle.edit_words.specs.Rows.{rows, is_same_path, row_from, written, is_elsewhere, is_elsewhere_of, last_name, route_to, route_by, route_of}
use Rattle.edit_words.specs.Edited.{node_number, number_in, is_number, mode_named, mode_of_row, with_new_mode}
use Rattle.edit_words.specs.WellFormed.{IsWellFormed, CanBeAsked, HasNumber}
use Rattle.edit_laws.specs.Lines.{IsCarriedOut, HasNewPlaces, GivesMode}
use Rattle.edit_laws.proofs.ListLemmas.{contains_head, contains_tail, contains_none, contains_cases}
use Rattle.edit_laws.proofs.PlaceLemmas.{by_last, place-push}
use Rattle.edit_laws.proofs.PlacedIsTree.{some_of}
use Rattle.edit_laws.proofs.RowLemmas.{AreRows, row_from-some, row_there, written-to, far_to, front_last, last_name-push}
use Rattle.edit_laws.proofs.AskedLemmas.{rows_are, no_link}

-- ---- places

-- a path that isn't the root is routed from its parent's place
place_by : (route : Names → Route) (p : Names) → p ≢ [] → place route p ≡ routed (route p) (place route (parent p)) (last_name p)
place_by route = by_last (λ p. p ≢ [] → place route p ≡ routed (route p) (place route (parent p)) (last_name p)) (λ no. absurd (no refl)) (λ p n before no.
    place-push route p n
    ∙ ap (λ (l : Names). routed (route (p ++ n ∷ [])) (place route l) n) (sym (parent-push p n))
    ∙ ap (λ (m : List ℕ). routed (route (p ++ n ∷ [])) (place route (parent (p ++ n ∷ []))) m) (sym (last_name-push p n)))

-- ---- numbers of files

number_parts : (o : Option Node) (number : ℕ) → is_number number (node_number o) ≡ true → (bytes : List ℕ) × (mode : ℕ) × (o ≡ Some (File number bytes mode))
number_parts None number e = cc
number_parts (Some (Dir mode)) number e = cc
number_parts (Some (Link target)) number e = cc
number_parts (Some (File n bytes mode)) number e =
    let same : number ≡ n = eqb-true number n e in
    (bytes, mode, ap (λ (m : ℕ). Some (File m bytes mode)) (sym same))

number_parts_at : (t : FileTree) (r : Row) (number : ℕ) → is_number number (number_in t r.source) ≡ true → HasNumber t r number
number_parts_at t r number e = go r.source refl
  where
    go : (o : Option Names) → r.source ≡ o → HasNumber t r number
    go None none = let no : false ≡ true = sym (ap (λ (o : Option Names). is_number number (number_in t o)) none) ∙ e in absurd cc
    go (Some s) some =
        let parts = number_parts (get t s) number (sym (ap (λ (o : Option Names). is_number number (number_in t o)) some) ∙ e) in
        (s, parts.0, parts.1, some, parts.2)

number_from : (t : FileTree) (r : Row) (number : ℕ) → HasNumber t r number → is_number number (number_in t r.source) ≡ true
number_from t r number (s, bytes, mode, source, at) =
    ap (λ (o : Option Names). is_number number (number_in t o)) source ∙ ap (λ (o : Option Node). is_number number (node_number o)) at ∙ eq-eqb number number refl

abbrev names : FileTree → ℕ → Row → Bool
names t number r = is_some r.mode && is_number number (number_in t r.source)

-- where a row names a mode of a file, the mode that is named is that of such a row
named_by : (t : FileTree) (rs : List Row) (number : ℕ) (r : Row) → Contains rs r → names t number r ≡ true → (o : Row) × Contains rs o × (names t number o ≡ true) × (mode_named t rs number ≡ o.mode)
named_by t [] number r c e = absurd (contains_none r c)
named_by t (x ∷ rs) number r c e = go (named_by t rs number r) (contains_cases x r rs c) (cases_Bool (names t number x))
  where
    go : (Contains rs r → names t number r ≡ true → (o : Row) × Contains rs o × (names t number o ≡ true) × (mode_named t rs number ≡ o.mode))
        → (x ≡ r) ⊎ Contains rs r → (names t number x ≡ true) ⊎ (names t number x ≡ false)
        → (o : Row) × Contains (x ∷ rs) o × (names t number o ≡ true) × (mode_named t (x ∷ rs) number ≡ o.mode)
    go more which (inl here) = (x, contains_head x rs, here, cond-true (names t number x) x.mode (mode_named t rs number) here)
    go more (inl same) (inr other) = let both : true ≡ false = sym e ∙ ap (names t number) (sym same) ∙ other in absurd cc
    go more (inr later) (inr other) =
        let m = more later e in
        (m.0, contains_tail x m.0 rs m.1, m.2, cond-false (names t number x) x.mode (mode_named t rs number) other ∙ m.3)

none_named : (t : FileTree) (rs : List Row) (number : ℕ) → ((r : Row) → Contains rs r → names t number r ≡ false) → mode_named t rs number ≡ None
none_named t [] number none = refl
none_named t (r ∷ rs) number none = cond-false (names t number r) r.mode (mode_named t rs number) (none r (contains_head r rs))
    ∙ none_named t rs number (λ x c. none x (contains_tail r x rs c))

-- ---- what no line gives a mode

pub others_keep : (t : FileTree) (rs : List Row) (p : Names) (node : Node) → ((r : Row) → Contains rs r → GivesMode t r p node → ⊥) → with_new_mode t rs p node ≡ node
others_keep t rs p (Dir mode) none = ap (λ (o : Option ℕ). Dir (unwrap_or o mode)) (by_row (row_from rs p) refl)
  where
    by_mode : (r : Row) (o : Option ℕ) → row_from rs p ≡ Some r → r.mode ≡ o → r.mode ≡ None
    by_mode r None is is_mode = is_mode
    by_mode r (Some m) is is_mode = let found = row_from-some rs p r is in absurd (none r found.0 (ap (λ (o : Option ℕ). is_some o) is_mode, inl found.1))

    by_row : (o : Option Row) → row_from rs p ≡ o → mode_of_row (row_from rs p) ≡ None
    by_row None is = ap mode_of_row is
    by_row (Some r) is = ap mode_of_row is ∙ by_mode r r.mode is refl
others_keep t rs p (Link target) none = refl
others_keep t rs p (File number bytes mode) none = ap (λ (o : Option ℕ). File number bytes (unwrap_or o mode)) (none_named t rs number (λ r c. false_from_ne_true _ (λ e.
    let parts = and_parts (is_some r.mode) (is_number number (number_in t r.source)) e in
    none r c (parts.0, inr (number, number_parts_at t r number parts.1, refl)))))

-- ---- lines

module _ (t : FileTree) (changes : Changes) (asked : CanBeAsked (IsFile t) changes) (fine : IsWellFormed t (rows changes)) (r : Row) (s : Names)
    (listed : Contains (rows changes) r) (source : r.source ≡ Some s) where
  are : AreRows t (rows changes)
  are = rows_are t changes asked fine

  found : row_from (rows changes) s ≡ Some r
  found =
      let o = row_there (rows changes) r s listed source in
      let there = row_from-some (rows changes) s o.0 o.1 in
      o.1 ∙ ap (λ (x : Row). Some x) (are.sources o.0 r s there.0 listed there.1 source)

  turn_is : route_of (rows changes) s ≡ route_to s r.to
  turn_is = ap (route_by s) found

  source_not_root : s ≢ []
  source_not_root root = (are.not_root r listed).0 (source ∙ ap (λ (l : Names). Some l) root)

  place_is : (route : Route) → route_to s r.to ≡ route → place (route_of (rows changes)) s ≡ routed route (place (route_of (rows changes)) (parent s)) (last_name s)
  place_is route is = place_by (route_of (rows changes)) s source_not_root ∙ ap (λ (a : Route). routed a (place (route_of (rows changes)) (parent s)) (last_name s)) (turn_is ∙ is)

  far_is : (w : Names) → r.to ≡ Some w → is_elsewhere r ≡ not (is_same_path (parent s) (parent w))
  far_is w to = ap (λ (x : Option Names). is_elsewhere_of x r.to) source ∙ ap (is_elsewhere_of (Some s)) to

  carried_far : is_elsewhere r ≡ true → place (route_of (rows changes)) s ≡ written r
  carried_far far =
      let to = far_to r far in
      let apart : is_same_path (parent s) (parent to.0) ≡ false = not-true _ (sym (far_is to.0 to.1) ∙ far) in
      place_is (Sent to.0) (ap (route_to s) to.1 ∙ cond-false _ (Named (last_name to.0)) (Sent to.0) apart) ∙ sym (written-to r to.0 to.1)

  same_dir : (w : Names) → r.to ≡ Some w → is_elsewhere r ≡ false → is_same_path (parent s) (parent w) ≡ true
  same_dir w to near = elim (cases_Bool (is_same_path (parent s) (parent w))) [
    | inl same ↦ same
    | inr apart ↦ let both : false ≡ true = sym near ∙ far_is w to ∙ ap not apart in absurd cc
  ]

  carried_near : (w : Names) → r.to ≡ Some w → is_elsewhere r ≡ false
      → (w ≡ parent s ++ last_name w ∷ []) × (place (route_of (rows changes)) s ≡ place (route_of (rows changes)) (parent s) ++ last_name w ∷ [])
  carried_near w to near =
      let same : is_same_path (parent s) (parent w) ≡ true = same_dir w to near in (
        front_last w (λ root. (are.not_root r listed).1 (to ∙ ap (λ (l : Names). Some l) root)) ∙ ap (λ (l : Names). l ++ last_name w ∷ []) (sym ((path_decides (parent s) (parent w)).0 same)),
        place_is (Named (last_name w)) (ap (route_to s) to ∙ cond-true _ (Named (last_name w)) (Sent w) same),
      )

  carried_mode : (mode : ℕ) (node : Node) → r.mode ≡ Some mode → get t s ≡ Some node → mode_of (with_new_mode t (rows changes) s node) ≡ mode
  carried_mode mode (Dir k) is at = ap (λ (o : Option Row). unwrap_or (mode_of_row o) k) found ∙ ap (λ (o : Option ℕ). unwrap_or o k) is
  carried_mode mode (Link target) is at = absurd (no_link t changes asked fine r s mode target listed source is at)
  carried_mode mode (File number bytes k) is at = ap (λ (o : Option ℕ). unwrap_or o k) (named.3 ∙ named_mode.1)
      ∙ fine.modes named.0 r number named_mode.0 mode named.1 listed (number_parts_at t named.0 number parts.1) here named_mode.1 is
    where
      here : HasNumber t r number
      here = (s, bytes, k, source, at)

      named : (o : Row) × Contains (rows changes) o × (names t number o ≡ true) × (mode_named t (rows changes) number ≡ o.mode)
      named = named_by t (rows changes) number r listed
          (ap (λ (o : Option ℕ). is_some o && is_number number (number_in t r.source)) is ∙ number_from t r number here)

      parts : (is_some named.0.mode ≡ true) × (is_number number (number_in t named.0.source) ≡ true)
      parts = and_parts (is_some named.0.mode) (is_number number (number_in t named.0.source)) named.2

      named_mode : (m : ℕ) × (named.0.mode ≡ Some m)
      named_mode = some_of named.0.mode parts.0

  pub carried_out : IsCarriedOut t (rows changes) r s
  carried_out = record {
    elsewhere = carried_far;
    in_place = carried_near;
    still = λ to. place_is Stays (ap (route_to s) to);
    mode = carried_mode;
  }

-- ---- the new place by its cases

other_place : (rs : List Row) (p : Names) → p ≢ [] → ((r : Row) → Contains rs r → r.source ≡ Some p → r.to ≡ None) → place (route_of rs) p ≡ place (route_of rs) (parent p) ++ last_name p ∷ []
other_place rs p some none = place_by (route_of rs) p some ∙ ap (λ (a : Route). routed a (place (route_of rs) (parent p)) (last_name p)) (by_row (row_from rs p) refl)
  where
    by_row : (o : Option Row) → row_from rs p ≡ o → route_of rs p ≡ Stays
    by_row None is = ap (route_by p) is
    by_row (Some r) is = let found = row_from-some rs p r is in ap (route_by p) is ∙ ap (route_to p) (none r found.0 found.1)

pub by_cases : (t : FileTree) (changes : Changes) → CanBeAsked (IsFile t) changes → IsWellFormed t (rows changes) → HasNewPlaces (rows changes)
by_cases t changes asked fine = record {
  root = refl;
  in_place = λ r p w listed source to here. ((carried_out t changes asked fine r p listed source).in_place w to here).1;
  elsewhere = λ r p listed source far. (carried_out t changes asked fine r p listed source).elsewhere far;
  other = other_place (rows changes);
}
