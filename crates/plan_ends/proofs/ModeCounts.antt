-- The modes that change: what each is, and that no two are of one place or of one file.
use Rattle.std.proofs.Common.{◌≡◌, ◌⊎◌, inl, inr, ℕ, suc, ◌<◌, ◌≤◌, ◌==◌, ◌&&◌, Bool, true, false, cond, List, [], ◌∷◌, filter, length, get_or, refl, sym, ◌∙◌, ap, subst, arith, Option, Some, None, eqb-true, eq-eqb}
use Rattle.std.specs.Prelude.{Contains}
use Rattle.std.specs.List.{filter_map, cons_option, count_by}
use Rattle.std.specs.Option.{option_map}
use Rattle.std.specs.FinMap.{get}
use Rattle.std.proofs.lemmas.Bool.{cond-true, cond-false, cases_Bool, and_parts, and_from}
use Rattle.std.proofs.lemmas.Option.{none-some, same_Some}
use Rattle.std.proofs.lemmas.List.Sums.{length-filter}
use Rattle.dired_text.specs.Paths.{Names}
use Rattle.tree_core.specs.declared.edit.Shown.{Shown}
use Rattle.tree_core.specs.FileTree.{FileTree}
use Rattle.edit_words.specs.declared.row.Row.{Row}
use Rattle.edit_words.specs.Place.{place}
use Rattle.edit_words.specs.Rows.{is_same_path, line_where, route_of}
use Rattle.edit_words.specs.Edited.{node_number, is_number}
use Rattle.edit_words.specs.Sight.{Sight, number_at}
use Rattle.edit_words.specs.WellFormed.{LinesRise}
use Rattle.edit_words.proofs.SameLemmas.{same_path, same_itself}
use Rattle.edit_laws.proofs.ListLemmas.{contains_head, contains_tail, contains_none, contains_cases, contains_filter, filter_parts, find_parts, find_from}
use Rattle.edit_rules.specs.Plans.{ModeChange, AreModes, names_place, is_line, mode_change_by, mode_change_of, mode_changes}
use Rattle.edit_rules.specs.Tables.{names_mode}
use Rattle.plan_ends.proofs.ModeSteps.{AreOthers}

-- ---- lists

pub map_parts_some : {X Y : Type 0} (f : X → Option Y) (xs : List X) (y : Y) → Contains (filter_map f xs) y → (x : X) × Contains xs x × (f x ≡ Some y)
map_parts_some f [] y c = absurd (contains_none y c)
map_parts_some {X = X} {Y = Y} f (x ∷ xs) y c = go (map_parts_some f xs y) (f x) refl c
  where
    go : (Contains (filter_map f xs) y → (z : X) × Contains xs z × (f z ≡ Some y)) → (o : Option Y) → f x ≡ o → Contains (cons_option (f x) (filter_map f xs)) y → (z : X) × Contains (x ∷ xs) z × (f z ≡ Some y)
    go more None is c = let m = more (subst (λ (o : Option Y). Contains (cons_option o (filter_map f xs)) y) is c) in (m.0, contains_tail x m.0 xs m.1, m.2)
    go more (Some v) is c = elim (contains_cases v y (filter_map f xs) (subst (λ (o : Option Y). Contains (cons_option o (filter_map f xs)) y) is c)) [
      | inl same ↦ (x, contains_head x xs, is ∙ ap (λ (z : Y). Some z) same)
      | inr later ↦ let m = more later in (m.0, contains_tail x m.0 xs m.1, m.2)
    ]

pub contains_some : {X Y : Type 0} (f : X → Option Y) (xs : List X) (x : X) (y : Y) → Contains xs x → f x ≡ Some y → Contains (filter_map f xs) y
contains_some f [] x y c e = absurd (contains_none x c)
contains_some {X = X} {Y = Y} f (a ∷ xs) x y c e = go (λ later. contains_some f xs x y later e) (f a) refl (contains_cases a x xs c)
  where
    go : (Contains xs x → Contains (filter_map f xs) y) → (o : Option Y) → f a ≡ o → (a ≡ x) ⊎ Contains xs x → Contains (cons_option (f a) (filter_map f xs)) y
    go more None is (inl same) = absurd (none-some y (sym is ∙ ap f same ∙ e))
    go more None is (inr later) = subst (λ (o : Option Y). Contains (cons_option o (filter_map f xs)) y) (sym is) (more later)
    go more (Some v) is (inl same) = subst (λ (o : Option Y). Contains (cons_option o (filter_map f xs)) y) (sym (ap f same ∙ e)) (contains_head y (filter_map f xs))
    go more (Some v) is (inr later) = subst (λ (o : Option Y). Contains (cons_option o (filter_map f xs)) y) (sym is) (contains_tail v y (filter_map f xs) (more later))

module _ {X : Type 0} (p : X → Bool) where
  longer : (x : X) (xs : List X) → length (filter p xs) ≤ length (filter p (x ∷ xs))
  longer x xs = elim (cases_Bool (p x)) [
    | inl here ↦ let e : length (filter p (x ∷ xs)) ≡ length (x ∷ filter p xs) = ap length (cond-true (p x) (x ∷ filter p xs) (filter p xs) here) in omega arith
    | inr other ↦ let e : length (filter p (x ∷ xs)) ≡ length (filter p xs) = ap length (cond-false (p x) (x ∷ filter p xs) (filter p xs) other) in omega arith
  ]

  passes : (xs : List X) (x : X) → Contains xs x → p x ≡ true → 1 ≤ length (filter p xs)
  passes xs x c e = some (filter p xs) (contains_filter p xs x c e)
    where
      some : (ys : List X) → Contains ys x → 1 ≤ length ys
      some [] c = absurd (contains_none x c)
      some (y ∷ ys) c = omega arith

  two_pass : (x y : X) (xs : List X) → p x ≡ true → Contains xs y → p y ≡ true → 2 ≤ length (filter p (x ∷ xs))
  two_pass x y xs here c e =
      let more : 1 ≤ length (filter p xs) = passes xs y c e in
      let is : length (filter p (x ∷ xs)) ≡ length (x ∷ filter p xs) = ap length (cond-true (p x) (x ∷ filter p xs) (filter p xs) here) in
      omega arith

  pub one_found : (xs : List X) → 1 ≤ length (filter p xs) → (x : X) × Contains xs x × (p x ≡ true)
  one_found xs least = first (filter p xs) refl
    where
      first : (ys : List X) → filter p xs ≡ ys → (x : X) × Contains xs x × (p x ≡ true)
      first [] e = let none : length (filter p xs) ≡ 0 = ap length e in absurd (omega arith)
      first (y ∷ ys) e = let f = filter_parts p xs y (subst (λ (l : List X). Contains l y) (sym e) (contains_head y ys)) in (y, f.0, f.1)

  none_pass : (xs : List X) → ((x : X) → Contains xs x → p x ≡ true → ⊥) → length (filter p xs) ≡ 0
  none_pass xs none = by_list (filter p xs) refl
    where
      by_list : (ys : List X) → filter p xs ≡ ys → length (filter p xs) ≡ 0
      by_list [] e = ap length e
      by_list (y ∷ ys) e = absurd (let f = filter_parts p xs y (subst (λ (l : List X). Contains l y) (sym e) (contains_head y ys)) in none y f.0 f.1)

-- of rows in the order of their lines one passes at most where all that do are of one line
one_passes : (f : Row → Option ModeChange) (test : ModeChange → Bool) (rs : List Row) → LinesRise rs
    → ((r o : Row) (a b : ModeChange) → Contains rs r → Contains rs o → f r ≡ Some a → f o ≡ Some b → test a ≡ true → test b ≡ true → r.line ≡ o.line)
    → length (filter test (filter_map f rs)) ≤ 1
one_passes f test [] rise same = omega arith
one_passes f test (r ∷ rs) rise same = go (f r) refl
    (one_passes f test rs (λ i j d less below. rise (suc i) (suc j) d (omega arith) (omega arith)) (λ x o a b cx co. same x o a b (contains_tail r x rs cx) (contains_tail r o rs co)))
  where
    above : (o : Row) → Contains rs o → r.line < o.line
    above o (k, below, at) = let less : r.line < (get_or rs k o).line = rise 0 (suc k) o (omega arith) (omega arith) in subst (λ (x : Row). r.line < x.line) at less

    go : (o : Option ModeChange) → f r ≡ o → length (filter test (filter_map f rs)) ≤ 1 → length (filter test (cons_option (f r) (filter_map f rs))) ≤ 1
    go None e more = subst (λ (o : Option ModeChange). length (filter test (cons_option o (filter_map f rs))) ≤ 1) (sym e) more
    go (Some a) e more = subst (λ (o : Option ModeChange). length (filter test (cons_option o (filter_map f rs))) ≤ 1) (sym e) (by_test (cases_Bool (test a)))
      where
        by_test : (test a ≡ true) ⊎ (test a ≡ false) → length (filter test (a ∷ filter_map f rs)) ≤ 1
        by_test (inr other) = let is : length (filter test (a ∷ filter_map f rs)) ≡ length (filter test (filter_map f rs)) = ap length (cond-false (test a) (a ∷ filter test (filter_map f rs)) (filter test (filter_map f rs)) other) in omega arith
        by_test (inl here) =
            let none : length (filter test (filter_map f rs)) ≡ 0 = none_pass test (filter_map f rs) (λ b c it.
            let o = map_parts_some f rs b c in
            let level : r.line ≡ o.0.line = same r o.0 a b (contains_head r rs) (contains_tail r o.0 rs o.1) e o.2 here it in
            let less : r.line < o.0.line = above o.0 o.1 in
            omega arith) in
            let is : length (filter test (a ∷ filter_map f rs)) ≡ length (a ∷ filter test (filter_map f rs)) = ap length (cond-true (test a) (a ∷ filter test (filter_map f rs)) (filter test (filter_map f rs)) here) in
            omega arith

-- changes of which few have one place or are of one file are others
pub others_from : (u : FileTree) (ms : List ModeChange) → ((p : Names) → length (filter (λ (m : ModeChange). is_same_path p m.0) ms) ≤ 1)
    → ((n : ℕ) → length (filter (λ (m : ModeChange). is_number n (node_number (get u m.0))) ms) ≤ 1) → AreOthers u ms
others_from u [] places numbers = tt
others_from u (m ∷ ms) places numbers = (
  λ k c. record {
    places = λ same.
        let two : 2 ≤ length (filter (λ (x : ModeChange). is_same_path m.0 x.0) (m ∷ ms)) = two_pass (λ (x : ModeChange). is_same_path m.0 x.0) m k ms (same_itself m.0) c (ap (is_same_path m.0) (sym same) ∙ same_itself m.0) in
        let most : length (filter (λ (x : ModeChange). is_same_path m.0 x.0) (m ∷ ms)) ≤ 1 = places m.0 in
        omega arith;
    numbers = λ n at_m at_k.
        let two : 2 ≤ length (filter (λ (x : ModeChange). is_number n (node_number (get u x.0))) (m ∷ ms)) = two_pass (λ (x : ModeChange). is_number n (node_number (get u x.0))) m k ms
        (ap (is_number n) at_m ∙ eq-eqb n n refl) c (ap (is_number n) at_k ∙ eq-eqb n n refl) in
        let most : length (filter (λ (x : ModeChange). is_number n (node_number (get u x.0))) (m ∷ ms)) ≤ 1 = numbers n in
        omega arith;
  },
  others_from u ms
      (λ p. let less : length (filter (λ (x : ModeChange). is_same_path p x.0) ms) ≤ length (filter (λ (x : ModeChange). is_same_path p x.0) (m ∷ ms)) = longer (λ (x : ModeChange). is_same_path p x.0) m ms in
      let most : length (filter (λ (x : ModeChange). is_same_path p x.0) (m ∷ ms)) ≤ 1 = places p in omega arith)
      (λ n. let less : length (filter (λ (x : ModeChange). is_number n (node_number (get u x.0))) ms) ≤ length (filter (λ (x : ModeChange). is_number n (node_number (get u x.0))) (m ∷ ms)) = longer (λ (x : ModeChange). is_number n (node_number (get u x.0))) m ms in
      let most : length (filter (λ (x : ModeChange). is_number n (node_number (get u x.0))) (m ∷ ms)) ≤ 1 = numbers n in omega arith),
)

-- ---- the changes of rows

-- what a change comes from
pub record ComesFrom (sight : Sight) (rs : List Row) (r : Row) (m : ModeChange) : Type 0 where
  pub source : Names
  pub was : Shown
  pub at : r.source ≡ Some source
  pub shown : r.was ≡ Some was
  pub mode : r.mode ≡ Some m.2
  pub names : names_place sight rs r (number_at sight r.source) ≡ true
  pub place_is : m.0 ≡ place (route_of rs) source
  pub old_is : m.1 ≡ was.mode

pub comes_from : (sight : Sight) (rs : List Row) (r : Row) (m : ModeChange) → mode_change_of sight rs r ≡ Some m → ComesFrom sight rs r m
comes_from sight rs r m e = by_source r.source refl
  where
    by_source : (s : Option Names) → r.source ≡ s → ComesFrom sight rs r m
    by_source None at = absurd (none-some m (sym (ap (λ (s : Option Names). mode_change_by rs (names_place sight rs r (number_at sight r.source)) s r.was r.mode) at) ∙ e))
    by_source (Some s) at = by_was r.was refl
      where
        with_source : mode_change_by rs (names_place sight rs r (number_at sight r.source)) (Some s) r.was r.mode ≡ Some m
        with_source = sym (ap (λ (x : Option Names). mode_change_by rs (names_place sight rs r (number_at sight r.source)) x r.was r.mode) at) ∙ e

        by_was : (w : Option Shown) → r.was ≡ w → ComesFrom sight rs r m
        by_was None shown = absurd (none-some m (sym (ap (λ (w : Option Shown). mode_change_by rs (names_place sight rs r (number_at sight r.source)) (Some s) w r.mode) shown) ∙ with_source))
        by_was (Some was) shown = by_mode r.mode refl
          where
            with_was : mode_change_by rs (names_place sight rs r (number_at sight r.source)) (Some s) (Some was) r.mode ≡ Some m
            with_was = sym (ap (λ (w : Option Shown). mode_change_by rs (names_place sight rs r (number_at sight r.source)) (Some s) w r.mode) shown) ∙ with_source

            by_mode : (o : Option ℕ) → r.mode ≡ o → ComesFrom sight rs r m
            by_mode None mode = absurd (none-some m (sym (ap (mode_change_by rs (names_place sight rs r (number_at sight r.source)) (Some s) (Some was)) mode) ∙ with_was))
            by_mode (Some new) mode = by_names (cases_Bool (names_place sight rs r (number_at sight r.source)))
              where
                whole : cond (names_place sight rs r (number_at sight r.source)) (Some (place (route_of rs) s, was.mode, new)) None ≡ Some m
                whole = sym (ap (mode_change_by rs (names_place sight rs r (number_at sight r.source)) (Some s) (Some was)) mode) ∙ with_was

                by_names : (names_place sight rs r (number_at sight r.source) ≡ true) ⊎ (names_place sight rs r (number_at sight r.source) ≡ false) → ComesFrom sight rs r m
                by_names (inr other) = absurd (none-some m (sym (cond-false (names_place sight rs r (number_at sight r.source)) (Some (place (route_of rs) s, was.mode, new)) None other) ∙ whole))
                by_names (inl here) =
                    let is : m ≡ (place (route_of rs) s, was.mode, new) = same_Some _ _ (sym whole ∙ cond-true (names_place sight rs r (number_at sight r.source)) (Some (place (route_of rs) s, was.mode, new)) None here) in
                    record {
                      source = s;
                      was = was;
                      at = at;
                      shown = shown;
                      mode = mode ∙ ap (λ (x : ModeChange). Some x.2) (sym is);
                      names = here;
                      place_is = ap (λ (x : ModeChange). x.0) is;
                      old_is = ap (λ (x : ModeChange). x.1) is;
                    }

-- a row that names a mode changes it, where it names the place
pub change_of : (sight : Sight) (rs : List Row) (r : Row) (s : Names) (was : Shown) (new : ℕ) → r.source ≡ Some s → r.was ≡ Some was → r.mode ≡ Some new → names_place sight rs r (number_at sight r.source) ≡ true
    → mode_change_of sight rs r ≡ Some (place (route_of rs) s, was.mode, new)
change_of sight rs r s was new at shown mode names =
    ap (λ (x : Option Names). mode_change_by rs (names_place sight rs r (number_at sight r.source)) x r.was r.mode) at
    ∙ ap (λ (w : Option Shown). mode_change_by rs (names_place sight rs r (number_at sight r.source)) (Some s) w r.mode) shown
    ∙ ap (mode_change_by rs (names_place sight rs r (number_at sight r.source)) (Some s) (Some was)) mode
    ∙ cond-true (names_place sight rs r (number_at sight r.source)) (Some (place (route_of rs) s, was.mode, new)) None names

-- two that name the place of one file are of one line
pub one_line : (sight : Sight) (rs : List Row) (r o : Row) (n : ℕ) → names_place sight rs r (Some n) ≡ true → names_place sight rs o (Some n) ≡ true → r.line ≡ o.line
one_line sight rs r o n names names_o = go (line_where (names_mode sight n) rs) names names_o
  where
    go : (x : Option ℕ) → is_line r.line x ≡ true → is_line o.line x ≡ true → r.line ≡ o.line
    go None a b = cc
    go (Some line) a b = sym (eqb-true line r.line a) ∙ eqb-true line o.line b

-- of the rows that name a mode of a file one names the place
pub first_names : (sight : Sight) (rs : List Row) (r : Row) (n : ℕ) → Contains rs r → names_mode sight n r ≡ true → (o : Row) × Contains rs o × (names_mode sight n o ≡ true) × (names_place sight rs o (Some n) ≡ true)
first_names sight rs r n listed names =
    let f = find_from (names_mode sight n) rs r listed names in
    let parts = find_parts (names_mode sight n) rs f.0 f.1 in
    (f.0, parts.0, parts.1, ap (λ (x : Option Row). is_line f.0.line (option_map (λ (y : Row). y.line) x)) f.1 ∙ eq-eqb f.0.line f.0.line refl)

-- ---- the plan's changes are those of the rows

abbrev is_it : ModeChange → ModeChange → Bool
is_it m x = is_same_path m.0 x.0 && (m.1 == x.1 && m.2 == x.2)

it_is : (m x : ModeChange) → is_it m x ≡ true → m ≡ x
it_is (p, a, b) (q, c, d) e =
    let parts = and_parts (is_same_path p q) _ e in
    let more = and_parts (a == c) _ parts.1 in
    ap (λ (l : Names). (l, a, b)) (same_path p q parts.0) ∙ ap (λ (x : ℕ). (q, x, b)) (eqb-true a c more.0) ∙ ap (λ (x : ℕ). (q, c, x)) (eqb-true b d more.1)

is_itself : (m : ModeChange) → is_it m m ≡ true
is_itself m = and_from _ _ (same_itself m.0) (and_from _ _ (eq-eqb m.1 m.1 refl) (eq-eqb m.2 m.2 refl))

pub as_long : (xs ys : List ModeChange) → ((test : ModeChange → Bool) → count_by test xs ≡ count_by test ys) → (test : ModeChange → Bool) → length (filter test xs) ≡ length (filter test ys)
as_long xs ys same test = length-filter test xs ∙ same test ∙ sym (length-filter test ys)

pub listed_too : (xs ys : List ModeChange) → ((test : ModeChange → Bool) → length (filter test xs) ≡ length (filter test ys)) → (m : ModeChange) → Contains xs m → Contains ys m
listed_too xs ys same m c =
    let least : 1 ≤ length (filter (is_it m) xs) = passes (is_it m) xs m c (is_itself m) in
    let level : length (filter (is_it m) xs) ≡ length (filter (is_it m) ys) = same (is_it m) in
    let f = one_found (is_it m) ys (omega arith) in
    subst (Contains ys) (sym (it_is m f.0 f.2)) f.1

-- one at most is of a place or a file where two that are have one line
pub few_changes : (sight : Sight) (rs : List Row) (ms : List ModeChange) → LinesRise rs → AreModes sight rs ms → (test : ModeChange → Bool)
    → ((r o : Row) (a b : ModeChange) → Contains rs r → Contains rs o → ComesFrom sight rs r a → ComesFrom sight rs o b → test a ≡ true → test b ≡ true → r.line ≡ o.line)
    → length (filter test ms) ≤ 1
few_changes sight rs ms rise are test same =
    let most : length (filter test (mode_changes sight rs)) ≤ 1 = one_passes (mode_change_of sight rs) test rs rise (λ r o a b cr co ea eb. same r o a b cr co (comes_from sight rs r a ea) (comes_from sight rs o b eb)) in
    let level : length (filter test ms) ≡ length (filter test (mode_changes sight rs)) = as_long ms (mode_changes sight rs) are.same test in
    omega arith
