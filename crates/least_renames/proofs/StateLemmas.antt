-- What waits of flat changes: whatever isn't ready goes to the path of another one that waits at its source.
use Rattle.std.proofs.Common.{◌≡◌, ◌⊎◌, inl, inr, ℕ, ◌==◌, Bool, true, false, not, ◌&&◌, ◌||◌, List, [], ◌∷◌, ◌++◌, filter, refl, sym, ◌∙◌, ap, subst, append_assoc, Option, Some, None, is_some, Contains}
use Rattle.std.specs.List.{list_any}
use Rattle.std.proofs.lemmas.Bool.{cond-true, cond-false, cases_Bool, and_parts, and_from, or_left, or_right, or_from, not-true, not-false, not_from_true, not_from_false, false_from_ne_true, eqb-true, eq-eqb}
use Rattle.dired_text.specs.Paths.{Names, parent}
use Rattle.dired_text.proofs.PathLemmas.{parent-push}
use Rattle.edit_words.specs.declared.row.Row.{Row}
use Rattle.edit_words.specs.Place.{IsAbove, is_above}
use Rattle.edit_words.specs.Rows.{written, is_at, is_elsewhere, is_elsewhere_of, is_same_path, last_name}
use Rattle.edit_words.specs.Edited.{is_fresh}
use Rattle.edit_words.proofs.SameLemmas.{same_path}
use Rattle.edit_words.proofs.AboveLemmas.{above_decides}
use Rattle.edit_laws.proofs.ListLemmas.{filter_parts, any_parts, any_from, any_none, contains_map, map_parts}
use Rattle.edit_laws.proofs.RowLemmas.{is_at-true, is_at-same, written-to, written-none, front_last}
use Rattle.plan_moves.specs.Waiting.{Waiting, HasDifferentLines, is_free, is_unkept, is_above_source, is_in_place, keeps_in_place, is_ready, put_away}
use Rattle.plan_moves.specs.Plan.{is_moving}
use Rattle.plan_moves.proofs.Order.{put}
use Rattle.plan_moves.proofs.Number.{distinct_less, distinct_put}
use Rattle.least_renames.specs.Cycles.{IsVacated, AreFlat}
use Rattle.least_renames.proofs.CycleLemmas.{Moving}

-- a change waits at its source
abbrev pub WaitsHere : List Waiting → Row → Type 0
WaitsHere ws r = Contains ws (record { row = r; is_away = false })

pub waits_here : (ws : List Waiting) (w : Waiting) → Contains ws w → w.is_away ≡ false → WaitsHere ws w.row
waits_here ws w c here = subst (Contains ws) (ap (λ (b : Bool). record w { is_away = b }) here) c

-- ---- moving edits

pub source_of : (r : Row) → is_moving r ≡ true → (p : Names) × (r.source ≡ Some p)
source_of r moves = go r.source refl
  where
    go : (o : Option Names) → r.source ≡ o → (p : Names) × (r.source ≡ Some p)
    go None none =
        let kept : not (is_fresh r) ≡ true = (and_parts (is_some r.to) (not (is_fresh r)) moves).1 in
        let fresh : is_fresh r ≡ true = or_right r.retargets (not (is_some r.source)) (ap (λ (x : Option Names). not (is_some x)) none) in
        let both : false ≡ true = sym (not_from_true (is_fresh r) fresh) ∙ kept in absurd cc
    go (Some p) is = (p, is)

pub new_path_of : (r : Row) → is_moving r ≡ true → (p : Names) × (r.to ≡ Some p)
new_path_of r moves = go r.to refl
  where
    go : (o : Option Names) → r.to ≡ o → (p : Names) × (r.to ≡ Some p)
    go None none = let both : false ≡ true = sym (ap (λ (x : Option Names). is_some x) none) ∙ (and_parts (is_some r.to) (not (is_fresh r)) moves).0 in absurd cc
    go (Some p) is = (p, is)

-- ---- flat changes

pub record AreFlatRows (rs : List Row) : Type 0 where
  pub lines : (r o : Row) → Contains rs r → Contains rs o → r.line ≡ o.line → r ≡ o
  pub sources : (r o : Row) (p : Names) → Contains rs r → Contains rs o → r.source ≡ Some p → o.source ≡ Some p → r ≡ o
  pub written_apart : (r o : Row) → Contains rs r → Contains rs o → written r ≡ written o → r ≡ o
  pub not_root : (r : Row) (p : Names) → Contains rs r → r.source ≡ Some p → p ≡ [] → ⊥
  pub flat : AreFlat rs

-- what waits, each once, and only moving edits at their sources
pub record AreWaiting (rs : List Row) (ws : List Waiting) : Type 0 where
  pub listed : (w : Waiting) → Contains ws w → Contains rs w.row
  pub different : HasDifferentLines ws
  pub waits : (w : Waiting) → Contains ws w → (is_fresh w.row || is_some w.row.to) ≡ true
  pub here : (w : Waiting) → Contains ws w → w.is_away ≡ false → is_moving w.row ≡ true

-- above a path and so above each in the same directory
above_sibling : (s p w : Names) → IsAbove s w → parent p ≡ parent w → (p ≡ [] → ⊥) → IsAbove s p
above_sibling s p w above same not_root =
    let front = behind above.0 above.1 in
    let dir : parent w ≡ s ++ front.0 = ap parent (above.2 ∙ ap (λ (l : Names). s ++ l) front.1 ∙ sym (append_assoc s front.0 (front.2 ∷ []))) ∙ parent-push (s ++ front.0) front.2 in
    let is : p ≡ s ++ (front.0 ++ last_name p ∷ []) = front_last p not_root ∙ ap (λ (l : Names). l ++ last_name p ∷ []) (same ∙ dir) ∙ append_assoc s front.0 (last_name p ∷ []) in
    first front.0 (last_name p) is
  where
    behind : (n : List ℕ) (rest : Names) → (front : Names) × (n ∷ rest ≡ front ++ last_name (n ∷ rest) ∷ []) × List ℕ
    behind n rest = (parent (n ∷ rest), front_last (n ∷ rest) (λ e. cc), last_name (n ∷ rest))

    first : (front : Names) (m : List ℕ) → p ≡ s ++ (front ++ m ∷ []) → IsAbove s p
    first [] m is = (m, [], is)
    first (x ∷ front) m is = (x, front ++ m ∷ [], is)

module _ (rs : List Row) (fine : AreFlatRows rs) where
  -- what waits at a source, or did so, leaves it
  vacated_of : (r : Row) (p : Names) → Contains rs r → (is_fresh r || is_some r.to) ≡ true → r.source ≡ Some p → IsVacated rs p
  vacated_of r p c waits source = (r, c, source, go (cases_Bool r.retargets))
    where
      go : (r.retargets ≡ true) ⊎ (r.retargets ≡ false) → (is_moving r || r.retargets) ≡ true
      go (inl link) = or_right (is_moving r) r.retargets link
      go (inr other) =
          let no : is_fresh r ≡ false = or_from r.retargets (not (is_some r.source)) other (ap (λ (x : Option Names). not (is_some x)) source) in
          let to : is_some r.to ≡ true = sym (ap (λ (b : Bool). b || is_some r.to) no) ∙ waits in
          or_left (is_moving r) r.retargets (and_from (is_some r.to) (not (is_fresh r)) to (not_from_false (is_fresh r) no))

  -- nothing keeps an edit at its source
  none_keeps : (v : Waiting) (s : Names) → Contains rs v.row → (is_fresh v.row || is_some v.row.to) ≡ true → IsVacated rs s → keeps_in_place s v ≡ false
  none_keeps v s c waits vacated = or_from (not v.is_away && is_above_source s v.row.source) (v.is_away && is_in_place v.row && is_above s (written v.row))
      (false_from_ne_true _ (λ e. below v.row.source refl (and_parts (not v.is_away) (is_above_source s v.row.source) e).1))
      (false_from_ne_true _ (λ e. let parts = and_parts (v.is_away && is_in_place v.row) (is_above s (written v.row)) e in
      in_place v.row.source refl (and_parts v.is_away (is_in_place v.row) parts.0).1 ((above_decides s (written v.row)).0 parts.1)))
    where
      below : (o : Option Names) → v.row.source ≡ o → is_above_source s v.row.source ≡ true → ⊥
      below None is e = let both : false ≡ true = sym (ap (is_above_source s) is) ∙ e in cc
      below (Some q) is e = fine.flat s q vacated (vacated_of v.row q c waits is) ((above_decides s q).0 (sym (ap (is_above_source s) is) ∙ e))

      in_place : (o : Option Names) → v.row.source ≡ o → is_in_place v.row ≡ true → IsAbove s (written v.row) → ⊥
      in_place None is e above = let both : false ≡ true = sym (ap (λ (x : Option Names). is_some x && not (is_elsewhere v.row)) is) ∙ e in cc
      in_place (Some q) is e above = by_to v.row.to refl
        where
          by_to : (x : Option Names) → v.row.to ≡ x → ⊥
          by_to None to = fine.flat s q vacated (vacated_of v.row q c waits is) (subst (IsAbove s) (written-none v.row q is to) above)
          by_to (Some w) to =
              let near : is_elsewhere v.row ≡ false = not-true (is_elsewhere v.row) (and_parts (is_some v.row.source) (not (is_elsewhere v.row)) e).1 in
              let far_of : is_elsewhere v.row ≡ not (is_same_path (parent q) (parent w)) = ap (λ (a : Option Names). is_elsewhere_of a v.row.to) is ∙ ap (is_elsewhere_of (Some q)) to in
              let same : parent q ≡ parent w = same_path (parent q) (parent w) (not-false (is_same_path (parent q) (parent w)) (sym far_of ∙ near)) in
              fine.flat s q vacated (vacated_of v.row q c waits is)
              (above_sibling s q w (subst (IsAbove s) (written-to v.row w to) above) same (fine.not_root v.row q c is))

  module _ (ws : List Waiting) (are : AreWaiting rs ws) where
    unkept : (w : Waiting) → Contains ws w → (w.is_away || is_unkept ws w.row.source) ≡ true
    unkept w c = go (cases_Bool w.is_away)
      where
        go : (w.is_away ≡ true) ⊎ (w.is_away ≡ false) → (w.is_away || is_unkept ws w.row.source) ≡ true
        go (inl away) = or_left w.is_away (is_unkept ws w.row.source) away
        go (inr here) =
            let s = source_of w.row (are.here w c here) in
            let vacated : IsVacated rs s.0 = vacated_of w.row s.0 (are.listed w c) (are.waits w c) s.1 in
            or_right w.is_away (is_unkept ws w.row.source) (ap (is_unkept ws) s.1
            ∙ not_from_false (list_any (keeps_in_place s.0) ws) (any_none (keeps_in_place s.0) ws (λ v d. none_keeps v s.0 (are.listed v d) (are.waits v d) vacated)))

    -- what isn't ready goes to the path of one that waits at its source,
    pub next_waits : (w : Waiting) → Contains ws w → is_ready ws w ≡ false → (r : Row) × WaitsHere ws r × (r.source ≡ Some (written w.row))
    next_waits w c unready =
        let taken : is_free ws (written w.row) ≡ false = false_from_ne_true (is_free ws (written w.row)) (λ free.
        let both : true ≡ false = sym (and_from (is_free ws (written w.row)) (w.is_away || is_unkept ws w.row.source) free (unkept w c)) ∙ unready in cc) in
        let some = not-false (list_any (λ (v : Waiting). not v.is_away && is_at (written w.row) v.row.source) ws) taken in
        let v = any_parts (λ (v : Waiting). not v.is_away && is_at (written w.row) v.row.source) ws some in
        let parts = and_parts (not v.0.is_away) (is_at (written w.row) v.0.row.source) v.2 in
        (v.0.row, waits_here ws v.0 v.1 (not-true v.0.is_away parts.0), is_at-true (written w.row) v.0.row.source parts.1)

    -- and the other way round
    pub blocked : (w : Waiting) (r : Row) → WaitsHere ws r → r.source ≡ Some (written w.row) → is_ready ws w ≡ false
    blocked w r here source = false_from_ne_true (is_ready ws w) (λ ready.
        let free : is_free ws (written w.row) ≡ true = (and_parts (is_free ws (written w.row)) (w.is_away || is_unkept ws w.row.source) ready).0 in
        let no = not-true (list_any (λ (v : Waiting). not v.is_away && is_at (written w.row) v.row.source) ws) free in
        let yes_one = any_from (λ (v : Waiting). not v.is_away && is_at (written w.row) v.row.source) ws (record { row = r; is_away = false }) here (is_at-same (written w.row) r.source source) in
        let both : true ≡ false = sym yes_one ∙ no in cc)

    pub moves_here : (r : Row) → WaitsHere ws r → is_moving r ≡ true
    moves_here r here = are.here (record { row = r; is_away = false }) here refl

    pub listed_here : (r : Row) → WaitsHere ws r → Contains rs r
    listed_here r here = are.listed (record { row = r; is_away = false }) here

    pub moving_here : Moving (WaitsHere ws)
    moving_here = record {
      from = λ r here. source_of r (moves_here r here);
      goes = λ r here. new_path_of r (moves_here r here);
      new_paths = λ r o p here there to_r to_o. fine.written_apart r o (listed_here r here) (listed_here o there) (written-to r p to_r ∙ sym (written-to o p to_o));
      sources = λ r o p here there from_r from_o. fine.sources r o p (listed_here r here) (listed_here o there) from_r from_o;
    }

  -- ---- one less, and one put away

  pub waiting_less : (q : Waiting → Bool) (ws : List Waiting) → AreWaiting rs ws → AreWaiting rs (filter q ws)
  waiting_less q ws are = record {
    listed = λ w c. are.listed w (filter_parts q ws w c).0;
    different = distinct_less q ws are.different;
    waits = λ w c. are.waits w (filter_parts q ws w c).0;
    here = λ w c here. are.here w (filter_parts q ws w c).0 here;
  }

  -- one of the rows that were there, or the one put away
  put_row : (d v : Waiting) → (put d v).row ≡ v.row
  put_row d v = elim (cases_Bool (v.row.line == d.row.line)) [
    | inl is ↦ ap (λ (y : Waiting). y.row) (cond-true _ (record v { is_away = true }) v is)
    | inr isnt ↦ ap (λ (y : Waiting). y.row) (cond-false _ (record v { is_away = true }) v isnt)
  ]

  -- what still waits at its source was there, and is another one
  put_back : (d v : Waiting) → (put d v).is_away ≡ false → (put d v ≡ v) × (v.row.line ≡ d.row.line → ⊥)
  put_back d v here = elim (cases_Bool (v.row.line == d.row.line)) [
    | inl is ↦ let both : true ≡ false = sym (ap (λ (y : Waiting). y.is_away) (cond-true _ (record v { is_away = true }) v is)) ∙ here in absurd cc
    | inr isnt ↦ (cond-false _ (record v { is_away = true }) v isnt, λ same. let both : true ≡ false = sym (eq-eqb v.row.line d.row.line same) ∙ isnt in cc)
  ]

  pub waiting_put : (d : Waiting) (ws : List Waiting) → AreWaiting rs ws → AreWaiting rs (put_away d ws)
  waiting_put d ws are = record {
    listed = λ w c. let v = map_parts (put d) ws w c in subst (Contains rs) (sym (put_row d v.0) ∙ ap (λ (y : Waiting). y.row) v.2) (are.listed v.0 v.1);
    different = distinct_put d ws are.different;
    waits = λ w c. let v = map_parts (put d) ws w c in subst (λ (r : Row). (is_fresh r || is_some r.to) ≡ true) (sym (put_row d v.0) ∙ ap (λ (y : Waiting). y.row) v.2) (are.waits v.0 v.1);
    here = λ w c here. let v = map_parts (put d) ws w c in
        let back = put_back d v.0 (ap (λ (y : Waiting). y.is_away) v.2 ∙ here) in
        let is : v.0 ≡ w = sym back.0 ∙ v.2 in
        subst (λ (y : Waiting). is_moving y.row ≡ true) is (are.here v.0 v.1 (ap (λ (y : Waiting). y.is_away) is ∙ here));
  }

  pub here_before : (d : Waiting) (ws : List Waiting) (r : Row) → WaitsHere (put_away d ws) r → WaitsHere ws r × (r.line ≡ d.row.line → ⊥)
  here_before d ws r here =
      let v = map_parts (put d) ws (record { row = r; is_away = false }) here in
      let back = put_back d v.0 (ap (λ (y : Waiting). y.is_away) v.2) in
      let is : v.0 ≡ record { row = r; is_away = false } = sym back.0 ∙ v.2 in
      (subst (Contains ws) is v.1, λ same. back.1 (ap (λ (y : Waiting). y.row.line) is ∙ same))

  pub here_after : (d : Waiting) (ws : List Waiting) (r : Row) → WaitsHere ws r → (r.line ≡ d.row.line → ⊥) → WaitsHere (put_away d ws) r
  here_after d ws r here other =
      let no : (r.line == d.row.line) ≡ false = false_from_ne_true (r.line == d.row.line) (λ e. other (eqb-true r.line d.row.line e)) in
      subst (Contains (put_away d ws)) (cond-false _ (record { row = r; is_away = true }) (record { row = r; is_away = false }) no) (contains_map (put d) ws (record { row = r; is_away = false }) here)
