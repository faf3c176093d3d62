-- How often the paths of edits in one directory are renamed themselves: each once, and on each cycle once more.
use Rattle.std.proofs.Common.{◌≡◌, ◌≢◌, ◌⊎◌, inl, inr, ℕ, ◌+◌, ◌<◌, ◌≤◌, ◌==◌, Bool, true, false, not, List, [], ◌∷◌, ◌++◌, map, filter, length, refl, sym, ◌∙◌, ap, subst, arith, length-append, Option, Some, Contains}
use Rattle.std.specs.Prelude.{unwrap_or}
use Rattle.std.specs.List.{list_any}
use Rattle.std.proofs.lemmas.Bool.{cases_Bool, cases_lt, not-true, not_from_false, eqb-true, eq-eqb}
use Rattle.std.proofs.lemmas.List.{same_from_push, length-map}
use Rattle.std.proofs.lemmas.List.Elements.{Contains-append_cases, Contains-append_left, Contains-append_right}
use Rattle.dired_text.specs.Paths.{Names}
use Rattle.tree_core.specs.FileTree.{FileTree, IsTree, Stands}
use Rattle.edit_words.specs.declared.row.Row.{Row}
use Rattle.edit_words.specs.Refusals.{total}
use Rattle.edit_laws.proofs.ListLemmas.{contains_head, contains_tail, contains_none, contains_cases, contains_filter, filter_parts, any_parts, any_from, contains_map, map_parts}
use Rattle.plan_moves.specs.Least.{Renames, CanRenameAll, carried}
use Rattle.least_renames.specs.Cycles.{GoesRound, HasNoRepeats, edits_of}
use Rattle.least_renames.proofs.ListLemmas.{no_repeats_joined, no_repeats_filter, no_repeats_map, fits_in, total-append}
use Rattle.least_renames.proofs.RenameFacts.{own, own_sum, at_least_once, Before, twice, first, before_or_after}
use Rattle.least_renames.proofs.CycleLemmas.{Trail, trail_of}
use Rattle.least_renames.proofs.WalkLemmas.{source_path}

-- ---- sums

at_least : {X : Type 0} (f : X → ℕ) (xs : List X) → ((x : X) → Contains xs x → 0 < f x) → length xs ≤ total f xs
at_least f [] some = omega arith
at_least f (x ∷ xs) some = let one = some x (contains_head x xs) in let more = at_least f xs (λ y c. some y (contains_tail x y xs c)) in omega arith

-- where the sum is no more, each is one
all_one : {X : Type 0} (f : X → ℕ) (xs : List X) → ((x : X) → Contains xs x → 0 < f x) → total f xs ≤ length xs → (x : X) → Contains xs x → f x ≡ 1
all_one f [] some few x c = absurd (contains_none x c)
all_one f (y ∷ xs) some few x c =
    let one = some y (contains_head y xs) in
    let rest = at_least f xs (λ z d. some z (contains_tail y z xs d)) in
    elim (contains_cases y x xs c) [
      | inl same ↦ let is : f y ≡ f x = ap f same in omega arith
      | inr later ↦ all_one f xs (λ z d. some z (contains_tail y z xs d)) (omega arith) x later
    ]

total-map : {X Y : Type 0} (f : Y → ℕ) (g : X → Y) (xs : List X) → total f (map g xs) ≡ total (λ (x : X). f (g x)) xs
total-map f g [] = refl
total-map f g (x ∷ xs) = let more = total-map f g xs in omega arith

-- An edit in a directory d that gives its path another name, where some renames carry that path to it.
pub record Shifts (t : FileTree) (others : Renames) (d : Names) (r : Row) : Type 0 where
  pub name : List ℕ
  pub next : List ℕ
  pub source : r.source ≡ Some (d ++ name ∷ [])
  pub to : r.to ≡ Some (d ++ next ∷ [])
  pub other : name ≢ next
  pub stands : Stands t (d ++ name ∷ [])
  pub goes : carried others (d ++ name ∷ []) ≡ carried others d ++ next ∷ []

module _ (t : FileTree) (others : Renames) (tree : IsTree t) (can : CanRenameAll t others) (d : Names) (stands_d : Stands t d) where
  -- how often an edit's path is itself renamed, and when first
  abbrev times : Row → ℕ
  times r = own others (source_path r)

  abbrev at : Row → ℕ
  at r = first others (source_path r)

  path_is : (r : Row) (s : Shifts t others d r) → source_path r ≡ d ++ s.name ∷ []
  path_is r s = ap (λ (o : Option Names). unwrap_or o []) s.source

  renamed_once : (r : Row) → Shifts t others d r → 0 < own others (source_path r)
  renamed_once r s = subst (λ (l : Names). 0 < own others l) (sym (path_is r s)) (at_least_once others d s.name s.next s.other s.goes)

  -- whoever is renamed once only is so after the one whose place it takes
  falls : (r o : Row) → Shifts t others d r → Shifts t others d o → r.to ≡ o.source → own others (source_path r) ≡ 1 → first others (source_path o) < first others (source_path r)
  falls r o s z meets once = by_order (before_or_after t others tree can (d ++ s.name ∷ []) (d ++ z.name ∷ []) s.stands z.stands
      (λ same. s.other ((same_from_push d d s.name z.name same).1 ∙ sym next_is))
      (subst (λ (l : Names). 0 < own others l) (path_is r s) (renamed_once r s)) (subst (λ (l : Names). 0 < own others l) (path_is o z) (renamed_once o z)))
    where
      next_is : s.next ≡ z.name
      next_is = (same_from_push d d s.next z.name (ap (λ (x : Option Names). unwrap_or x []) (sym s.to ∙ meets ∙ z.source))).1

      by_order : Before others (d ++ s.name ∷ []) (d ++ z.name ∷ []) ⊎ (first others (d ++ z.name ∷ []) < first others (d ++ s.name ∷ [])) → first others (source_path o) < first others (source_path r)
      by_order (inl before) = absurd (twice t others tree can d s.name z.name (λ same. s.other (same ∙ sym next_is)) stands_d s.stands z.stands before
          (s.goes ∙ ap (λ (n : List ℕ). carried others d ++ n ∷ []) next_is) (sym (ap (own others) (path_is r s)) ∙ once))
      by_order (inr less) = subst (λ (l : Names). first others l < first others (source_path r)) (sym (path_is o z)) (subst (λ (l : Names). first others (d ++ z.name ∷ []) < first others l) (sym (path_is r s)) less)

  trail_falls : (r : Row) (rs : List Row) (end : Row) → Trail r rs end → ((x : Row) → Contains (r ∷ rs) x → Shifts t others d x × (own others (source_path x) ≡ 1)) → Shifts t others d end
      → first others (source_path end) < first others (source_path r)
  trail_falls r [] end trail all z = let s = all r (contains_head r []) in falls r end s.0 z trail s.1
  trail_falls r (o ∷ rs) end trail all z =
      let s = all r (contains_head r (o ∷ rs)) in
      let e = all o (contains_tail r o (o ∷ rs) (contains_head o rs)) in
      let here = falls r o s.0 e.0 trail.0 s.1 in
      let later = trail_falls o rs end trail.1 (λ x c. all x (contains_tail r x (o ∷ rs) c)) z in
      omega arith

  -- the paths of a cycle are renamed at least once each, and once more
  cycle_sum : (c : List Row) → GoesRound c → ((r : Row) → Contains c r → Shifts t others d r) → length c + 1 ≤ total times c
  cycle_sum [] cycle shifts = absurd cycle
  cycle_sum (r ∷ rs) cycle shifts = elim (cases_lt (length (r ∷ rs)) (total times (r ∷ rs))) [
    | inl many ↦ omega arith
    | inr few ↦ absurd (let less = trail_falls r rs r (trail_of r rs r cycle)
        (λ x c. (shifts x c, all_one times (r ∷ rs) (λ y e. renamed_once y (shifts y e)) few x c)) (shifts r (contains_head r rs)) in omega arith)
  ]

  cycles_sum : (cycles : List (List Row)) → ((c : List Row) → Contains cycles c → GoesRound c) → ((r : Row) → Contains (edits_of cycles) r → Shifts t others d r)
      → length (edits_of cycles) + length cycles ≤ total times (edits_of cycles)
  cycles_sum [] each shifts = omega arith
  cycles_sum (c ∷ cycles) each shifts =
      let one = cycle_sum c (each c (contains_head c cycles)) (λ r e. shifts r (Contains-append_left c (edits_of cycles) r e)) in
      let more = cycles_sum cycles (λ x e. each x (contains_tail c x cycles e)) (λ r e. shifts r (Contains-append_right c (edits_of cycles) r e)) in
      let split = total-append times c (edits_of cycles) in
      let long = length-append c (edits_of cycles) in
      omega arith

  -- ---- at least as many renames as there are edits and cycles

  module _ (rs : List Row) (once : HasNoRepeats rs) (lines : (r o : Row) → Contains rs r → Contains rs o → r.line ≡ o.line → r ≡ o)
      (sources : (r o : Row) (p : Names) → Contains rs r → Contains rs o → r.source ≡ Some p → o.source ≡ Some p → r ≡ o)
      (shifts : (r : Row) → Contains rs r → Shifts t others d r)
      (cycles : List (List Row)) (each : (c : List Row) → Contains cycles c → GoesRound c)
      (among : (r : Row) → Contains (edits_of cycles) r → Contains rs r) (cycles_once : HasNoRepeats (edits_of cycles)) where
    abbrev on_cycle : Row → Bool
    on_cycle r = list_any (λ (o : Row). o.line == r.line) (edits_of cycles)

    abbrev rest : List Row
    rest = filter (λ (r : Row). not (on_cycle r)) rs

    rest_parts : (r : Row) → Contains rest r → Contains rs r × (not (on_cycle r) ≡ true)
    rest_parts r c = filter_parts (λ (r : Row). not (on_cycle r)) rs r c

    listed : (r : Row) → Contains (edits_of cycles ++ rest) r → Contains rs r
    listed r c = elim (Contains-append_cases (edits_of cycles) rest r c) [ inl here ↦ among r here | inr there ↦ (rest_parts r there).0 ]

    rest_once : HasNoRepeats rest
    rest_once = no_repeats_filter (λ (r : Row). not (on_cycle r)) rs once

    apart : (x : Row) → Contains (edits_of cycles) x → Contains rest x → ⊥
    apart x here there =
        let out : list_any (λ (o : Row). o.line == x.line) (edits_of cycles) ≡ false = not-true (on_cycle x) (rest_parts x there).1 in
        let both : true ≡ false = sym (any_from (λ (o : Row). o.line == x.line) (edits_of cycles) x here (eq-eqb x.line x.line refl)) ∙ out in cc

    every : (r : Row) → Contains rs r → Contains (edits_of cycles ++ rest) r
    every r c = go (cases_Bool (list_any (λ (o : Row). o.line == r.line) (edits_of cycles)))
      where
        go : (list_any (λ (o : Row). o.line == r.line) (edits_of cycles) ≡ true) ⊎ (list_any (λ (o : Row). o.line == r.line) (edits_of cycles) ≡ false) → Contains (edits_of cycles ++ rest) r
        go (inl on) =
            let o = any_parts (λ (o : Row). o.line == r.line) (edits_of cycles) on in
            let is : o.0 ≡ r = lines o.0 r (among o.0 o.1) c (eqb-true o.0.line r.line o.2) in
            Contains-append_left (edits_of cycles) rest r (subst (Contains (edits_of cycles)) is o.1)
        go (inr off) = Contains-append_right (edits_of cycles) rest r (contains_filter (λ (r : Row). not (on_cycle r)) rs r c (not_from_false (on_cycle r) off))

    one_path : (r o : Row) → Contains rs r → Contains rs o → source_path r ≡ source_path o → r ≡ o
    one_path r o c e same =
        let s = shifts r c in
        let z = shifts o e in
        sources r o (d ++ s.name ∷ []) c e s.source (z.source ∙ ap (λ (p : Names). Some p) (sym (path_is o z) ∙ sym same ∙ path_is r s))

    pub least_by_cycles : length rs + length cycles ≤ length others
    least_by_cycles =
        let on = cycles_sum cycles each (λ r c. shifts r (among r c)) in
        let off = at_least times rest (λ r c. renamed_once r (shifts r (rest_parts r c).0)) in
        let split = total-append times (edits_of cycles) rest in
        let long = length-append (edits_of cycles) rest in
        let paths = total-map (own others) source_path (edits_of cycles ++ rest) in
        let upper = own_sum t others tree can (map source_path (edits_of cycles ++ rest))
        (λ p c. let m = map_parts source_path (edits_of cycles ++ rest) p c in let s = shifts m.0 (listed m.0 m.1) in subst (Stands t) (sym (path_is m.0 s) ∙ m.2) s.stands)
        (no_repeats_map source_path (edits_of cycles ++ rest) (λ x y c e same. one_path x y (listed x c) (listed y e) same)
        (no_repeats_joined (edits_of cycles) rest cycles_once rest_once apart)) in
        let fits = fits_in (map source_path rs) (map source_path (edits_of cycles ++ rest)) (no_repeats_map source_path rs (λ x y c e same. one_path x y c e same) once)
        (λ p c. let m = map_parts source_path rs p c in subst (Contains (map source_path (edits_of cycles ++ rest))) m.2 (contains_map source_path (edits_of cycles ++ rest) m.0 (every m.0 m.1))) in
        let a = length-map rs source_path in
        let b = length-map (edits_of cycles ++ rest) source_path in
        omega arith
