-- Where each edit goes to the path of another one, whoever follows them comes back: a cycle goes through each.
use Rattle.std.proofs.Common.{◌≡◌, ◌⊎◌, inl, inr, ℕ, zero, suc, ◌+◌, ◌≤◌, true, false, List, [], ◌∷◌, ◌++◌, map, length, sym, ◌∙◌, ap, subst, arith, length-append, Option, Some, Contains}
use Rattle.std.specs.Prelude.{unwrap_or}
use Rattle.std.proofs.lemmas.Bool.{cases_Bool}
use Rattle.std.proofs.lemmas.List.{length-map}
use Rattle.std.proofs.lemmas.List.Elements.{Contains-append_cases}
use Rattle.dired_text.specs.Paths.{Names}
use Rattle.edit_words.specs.declared.row.Row.{Row}
use Rattle.edit_words.specs.Rows.{is_same_path}
use Rattle.edit_words.proofs.SameLemmas.{same_path, same_itself}
use Rattle.edit_words.proofs.FindLemmas.{contains_head, contains_tail, contains_none, contains_cases, contains_map_from}
use Rattle.least_renames.specs.Cycles.{GoesRound, HasNoRepeats}
use Rattle.least_renames.proofs.ListLemmas.{no_repeats_joined, no_repeats_map, fits_in}
use Rattle.least_renames.proofs.CycleLemmas.{Trail, of_trail, Moving}

abbrev pub source_path : Row → Names
source_path r = unwrap_or r.source []

trail_push : (r : Row) (rs : List Row) (x y : Row) → Trail r rs x → x.to ≡ y.source → Trail r (rs ++ x ∷ []) y
trail_push r [] x y trail next = (trail, next)
trail_push r (o ∷ rs) x y trail next = (trail.0, trail_push o rs x y trail.1 next)

last_of_trail : (r : Row) (rs : List Row) (end : Row) → Trail r rs end → (l : Row) × Contains (r ∷ rs) l × (l.to ≡ end.source)
last_of_trail r [] end trail = (r, contains_head r [], trail)
last_of_trail r (o ∷ rs) end trail = let more = last_of_trail o rs end trail.1 in (more.0, contains_tail r more.0 (o ∷ rs) more.1, more.2)

-- A cycle through an edit, with no edit twice.
pub record CycleThrough (Moves : Row → Type 0) (d : Row) : Type 0 where
  pub rest : List Row
  pub cycle : GoesRound (d ∷ rest)
  pub move : (r : Row) → Contains (d ∷ rest) r → Moves r
  pub once : HasNoRepeats (d ∷ rest)

module _ (Moves : Row → Type 0) (moving : Moving Moves) where
  -- edits of one source are one
  pub one_source : (r o : Row) → Moves r → Moves o → source_path r ≡ source_path o → r ≡ o
  one_source r o mr mo same =
      let a = moving.from r mr in
      let b = moving.from o mo in
      let e : a.0 ≡ b.0 = sym (ap (λ (x : Option Names). unwrap_or x []) a.1) ∙ same ∙ ap (λ (x : Option Names). unwrap_or x []) b.1 in
      moving.sources r o a.0 mr mo a.1 (b.1 ∙ ap (λ (p : Names). Some p) (sym e))

  -- the next one of a trail is none of it, but its first
  next_is_new : (r : Row) (rs : List Row) (x : Row) → Trail r rs x → HasNoRepeats (r ∷ rs) → ((o : Row) → Contains (r ∷ rs) o → Moves o) → Contains rs x → ⊥
  next_is_new r [] x trail once move c = contains_none x c
  next_is_new r (o ∷ rs) x trail once move c = elim (contains_cases o x rs c) [
    | inl same ↦
        let last = last_of_trail o rs x trail.1 in
        let to = moving.goes r (move r (contains_head r (o ∷ rs))) in
        let meets : last.0.to ≡ r.to = last.2 ∙ ap (λ (y : Row). y.source) (sym same) ∙ sym trail.0 in
        let is : last.0 ≡ r = moving.new_paths last.0 r to.0 (move last.0 (contains_tail r last.0 (o ∷ rs) last.1)) (move r (contains_head r (o ∷ rs))) (meets ∙ to.1) to.1 in
        once.0 (subst (Contains (o ∷ rs)) is last.1)
    | inr later ↦ next_is_new o rs x trail.1 once.1 (λ y d. move y (contains_tail r y (o ∷ rs) d)) later
  ]

  -- there are no more of them than paths in a list that has their sources
  short : (paths : List Names) → ((r : Row) → Moves r → Contains paths (source_path r)) → (rs : List Row) → HasNoRepeats rs → ((r : Row) → Contains rs r → Moves r) → length rs ≤ length paths
  short paths within rs once move =
      let few = fits_in (map source_path rs) paths
      (no_repeats_map source_path rs (λ x y c d same. one_source x y (move x c) (move y d) same) once)
      (λ p c. let m = contains_map_from source_path p rs c in subst (Contains paths) m.2 (within m.0 (move m.0 m.1))) in
      let long = length-map rs source_path in
      omega arith

  module _ (next : (r : Row) → Moves r → (o : Row) × Moves o × (r.to ≡ o.source)) (paths : List Names) (within : (r : Row) → Moves r → Contains paths (source_path r)) where
    walk : (turns : ℕ) (d : Row) (rs : List Row) (x : Row) → length paths ≤ turns + length rs → Trail d rs x → HasNoRepeats (d ∷ rs) → ((o : Row) → Contains (d ∷ rs) o → Moves o) → Moves x → CycleThrough Moves d
    walk zero d rs x far trail once move mx = absurd (let few : length (d ∷ rs) ≤ length paths = short paths within (d ∷ rs) once move in omega arith)
    walk (suc turns) d rs x far trail once move mx = go (walk turns d (rs ++ x ∷ [])) (cases_Bool (is_same_path (source_path x) (source_path d)))
      where
        go : ((y : Row) → length paths ≤ turns + length (rs ++ x ∷ []) → Trail d (rs ++ x ∷ []) y → HasNoRepeats (d ∷ rs ++ x ∷ []) → ((o : Row) → Contains (d ∷ rs ++ x ∷ []) o → Moves o) → Moves y → CycleThrough Moves d)
            → (is_same_path (source_path x) (source_path d) ≡ true) ⊎ (is_same_path (source_path x) (source_path d) ≡ false) → CycleThrough Moves d
        go on (inl same) =
            let is : x ≡ d = one_source x d mx (move d (contains_head d rs)) (same_path (source_path x) (source_path d) same) in
            record { rest = rs; cycle = of_trail d rs d (subst (Trail d rs) is trail); move = move; once = once }
        go on (inr other) =
            let y = next x mx in
            on y.0 (let long : length (rs ++ x ∷ []) ≡ length rs + 1 = length-append rs (x ∷ []) in omega arith)
            (trail_push d rs x y.0 trail y.2)
            (no_repeats_joined (d ∷ rs) (x ∷ []) once ((λ c. contains_none x c), tt) apart)
            (λ o c. elim (Contains-append_cases (d ∷ rs) (x ∷ []) o c) [
              | inl here ↦ move o here
              | inr last ↦ elim (contains_cases x o [] last) [ inl is ↦ subst Moves is mx | inr none ↦ absurd (contains_none o none) ]
            ])
            y.1
          where
            apart : (z : Row) → Contains (d ∷ rs) z → Contains (x ∷ []) z → ⊥
            apart z here there = elim (contains_cases x z [] there) [
              | inl is ↦ elim (contains_cases d z rs here) [
                | inl first ↦ let both : true ≡ false = sym (ap (λ (l : Names). is_same_path l (source_path d)) (ap source_path (is ∙ sym first)) ∙ same_itself (source_path d)) ∙ other in cc
                | inr later ↦ next_is_new d rs x trail once move (subst (Contains rs) (sym is) later)
              ]
              | inr none ↦ contains_none z none
            ]

    pub cycle_through : (d : Row) → Moves d → CycleThrough Moves d
    cycle_through d md =
        let x = next d md in
        walk (length paths) d [] x.0 (omega arith) x.2 ((λ c. contains_none d c), tt)
        (λ o c. elim (contains_cases d o [] c) [ inl is ↦ subst Moves is md | inr none ↦ absurd (contains_none o none) ]) x.1
