-- The order of versions, and where those of one file stand in a sorted list.
use Rattle.std.proofs.Common.{◌≡◌, ℕ, zero, suc, ◌+◌, ◌-◌, ◌<◌, ◌≤◌, Bool, true, false, cond, ◌&&◌, nat_le, nat_lt, List, [], ◌∷◌, ◌++◌, filter, length, take, drop, get_or, refl, sym, ◌∙◌, ap, subst, arith, length-append, length-drop, append_assoc, add-one}
use Rattle.std.specs.FinMap.{IsAntisymmetric, nat_cmp-IsAntisymmetric, slice_cmp-IsAntisymmetric}
use Rattle.std.specs.List.{AllByRecursion}
use Rattle.std.specs.List.Sorted.{IsStrictlySortedBy}
use Rattle.std.specs.declared.cmp.Ordering.{Ordering}
use Rattle.std.specs.declared.cmp.Ordering.TheVariants.{Less, Equal, Greater}
use Rattle.std.specs.Ordering.{is_eq, nat_cmp, ordering_then, ordering_reverse}
use Rattle.std.specs.Cmp.{IsTotalOrder, then_total, on_total, nat_cmp_total, tied_itself}
use Rattle.std.specs.Cmp.Lexicographic.{slice_cmp, nat_list_cmp_total}
use Rattle.std.specs.Str.{bytes_eq}
use Rattle.std.proofs.lemmas.Slice.Eq.{bytes_eq-Decides}
use Rattle.std.proofs.lemmas.Bool.Decides.{nat_tests}
use Rattle.std.proofs.lemmas.List.{take-append-drop, get_or-take, get_or-drop, length-take-le}
use Rattle.std.proofs.lemmas.List.Elements.{filter-append}
use Rattle.std.proofs.lemmas.Map.Keys.{sorted_head, sorted_tail}
use Rattle.std.proofs.Math.Seq.{drop-cons}
use Rattle.mark_table.specs.declared.version.Version.{Version}
use Rattle.mark_table.specs.Excess.{version_cmp, older, newer}

pub version_cmp-total : IsTotalOrder version_cmp
version_cmp-total = then_total (on_total (λ (v : Version). v.stem) nat_list_cmp_total) (on_total (λ (v : Version). v.number) nat_cmp_total)

abbrev Stems : List ℕ → List ℕ → Ordering
Stems = slice_cmp nat_cmp

stems_exact : (a b : List ℕ) → Stems a b ≡ Equal → a ≡ b
stems_exact = slice_cmp-IsAntisymmetric nat_cmp-IsAntisymmetric

pub same_version : (u v : Version) → u.stem ≡ v.stem → u.number ≡ v.number → u ≡ v
same_version u v s n = λ i. record { stem = s i; number = n i }

pub version_cmp-exact : IsAntisymmetric version_cmp
version_cmp-exact u v e =
    elim (Stems u.stem v.stem) as (λ o. Stems u.stem v.stem ≡ o → ordering_then o (nat_cmp u.number v.number) ≡ Equal → u ≡ v) [
      | Less ↦ λ s t. cc
      | Equal ↦ λ s t. same_version u v (stems_exact u.stem v.stem s) (nat_cmp-IsAntisymmetric u.number v.number t)
      | Greater ↦ λ s t. cc
    ] refl e

pub tie_is : (u v : Version) → is_eq (version_cmp u v) ≡ true → u ≡ v
tie_is u v t = elim (version_cmp u v) as (λ o. version_cmp u v ≡ o → is_eq o ≡ true → u ≡ v) [
  | Less ↦ λ e s. cc
  | Equal ↦ λ e s. version_cmp-exact u v e
  | Greater ↦ λ e s. cc
] refl t

-- of versions that rise, where the outer ones are of one file, the inner one is too
pub between : (a b c : Version) → version_cmp a b ≡ Less → version_cmp b c ≡ Less → a.stem ≡ c.stem → b.stem ≡ c.stem
between a b c ab bc same =
    elim (Stems a.stem b.stem) as (λ o. Stems a.stem b.stem ≡ o → ordering_then o (nat_cmp a.number b.number) ≡ Less → b.stem ≡ c.stem) [
      | Less ↦ λ s t.
          let back : Stems b.stem c.stem ≡ Greater = ap (Stems b.stem) (sym same) ∙ nat_list_cmp_total.antisymm b.stem a.stem ∙ ap ordering_reverse s in
          let clash : Greater ≡ Less = sym (ap (λ o. ordering_then o (nat_cmp b.number c.number)) back) ∙ bc in cc
      | Equal ↦ λ s t. sym (stems_exact a.stem b.stem s) ∙ same
      | Greater ↦ λ s t. cc
    ] refl ab

less_is : (m n : ℕ) → nat_cmp m n ≡ Less → m < n
less_is m n e = grind (arith, nat_tests)

pub numbers_rise : (u v : Version) → version_cmp u v ≡ Less → u.stem ≡ v.stem → u.number < v.number
numbers_rise u v less same =
    let tied : Stems u.stem v.stem ≡ Equal = ap (Stems u.stem) (sym same) ∙ tied_itself nat_list_cmp_total u.stem in
    less_is u.number v.number (sym (ap (λ o. ordering_then o (nat_cmp u.number v.number)) tied) ∙ less)

-- ---- the tests on the versions before and behind one

abbrev pub of_file : Version → Version → Bool
of_file v u = bytes_eq u.stem v.stem

abbrev is_older : Version → Version → Bool
is_older v u = bytes_eq u.stem v.stem && nat_lt u.number v.number

abbrev is_newer : Version → Version → Bool
is_newer v u = bytes_eq u.stem v.stem && nat_lt v.number u.number

abbrev AllBefore : Version → List Version → Type 0
AllBefore v us = AllByRecursion (λ u. version_cmp u v ≡ Less) us

abbrev AllBehind : Version → List Version → Type 0
AllBehind v us = AllByRecursion (λ u. version_cmp v u ≡ Less) us

-- a second test that holds wherever the first does, and one that holds nowhere there
and_holds : (a b : Bool) → (a ≡ true → b ≡ true) → (a && b) ≡ a
and_holds true b h = h refl
and_holds false b h = refl

and_fails : (a b : Bool) → (a ≡ true → b ≡ false) → (a && b) ≡ false
and_fails true b h = h refl
and_fails false b h = refl

lt_holds : (m n : ℕ) → m < n → nat_lt m n ≡ true
lt_holds m n h = grind (arith, nat_tests)

pub lt_fails : (m n : ℕ) → n ≤ m → nat_lt m n ≡ false
lt_fails m n h = grind (arith, nat_tests)

filter_step : (f g : Version → Bool) (u : Version) (xs ys : List Version) → f u ≡ g u → xs ≡ ys → cond (f u) (u ∷ xs) xs ≡ cond (g u) (u ∷ ys) ys
filter_step f g u xs ys e h = ap (λ (b : Bool). cond b (u ∷ xs) xs) e ∙ ap (λ (l : List Version). cond (g u) (u ∷ l) l) h

older-before : (v : Version) (us : List Version) → AllBefore v us → filter (is_older v) us ≡ filter (of_file v) us
older-before v [] all = refl
older-before v (u ∷ us) all =
    filter_step (is_older v) (of_file v) u _ _
    (and_holds (of_file v u) _ (λ same. lt_holds _ _ (numbers_rise u v all.0 ((bytes_eq-Decides u.stem v.stem).0 same))))
    (older-before v us all.1)

newer-before : (v : Version) (us : List Version) → AllBefore v us → filter (is_newer v) us ≡ []
newer-before v [] all = refl
newer-before v (u ∷ us) all =
    ap (λ (b : Bool). cond b (u ∷ filter (is_newer v) us) (filter (is_newer v) us))
    (and_fails (of_file v u) _ (λ same. let rise = numbers_rise u v all.0 ((bytes_eq-Decides u.stem v.stem).0 same) in lt_fails v.number u.number (omega arith)))
    ∙ newer-before v us all.1

newer-behind : (v : Version) (us : List Version) → AllBehind v us → filter (is_newer v) us ≡ filter (of_file v) us
newer-behind v [] all = refl
newer-behind v (u ∷ us) all =
    filter_step (is_newer v) (of_file v) u _ _
    (and_holds (of_file v u) _ (λ same. lt_holds _ _ (numbers_rise v u all.0 (sym ((bytes_eq-Decides u.stem v.stem).0 same)))))
    (newer-behind v us all.1)

older-behind : (v : Version) (us : List Version) → AllBehind v us → filter (is_older v) us ≡ []
older-behind v [] all = refl
older-behind v (u ∷ us) all =
    ap (λ (b : Bool). cond b (u ∷ filter (is_older v) us) (filter (is_older v) us))
    (and_fails (of_file v u) _ (λ same. let rise = numbers_rise v u all.0 (sym ((bytes_eq-Decides u.stem v.stem).0 same)) in lt_fails u.number v.number (omega arith)))
    ∙ older-behind v us all.1

-- ---- sorted lists, taken apart

at_seam : (R : Version → Type 0) (xs : List Version) (y : Version) (ys : List Version) → AllByRecursion R (xs ++ y ∷ ys) → R y × AllByRecursion R xs × AllByRecursion R ys
at_seam R [] y ys all = (all.0, tt, all.1)
at_seam R (x ∷ xs) y ys all = let rest = at_seam R xs y ys all.1 in (rest.0, (all.0, rest.1), rest.2)

pub record Parts (xs : List Version) (y : Version) (ys : List Version) : Type 0 where
  pub before : AllBefore y xs
  pub behind : AllBehind y ys

pub parts : (xs : List Version) (y : Version) (ys : List Version) → IsStrictlySortedBy version_cmp (xs ++ y ∷ ys) → Parts xs y ys
parts [] y ys s = record { before = tt; behind = sorted_head version_cmp y ys s }
parts (x ∷ xs) y ys s =
    let rest = parts xs y ys (sorted_tail version_cmp x (xs ++ y ∷ ys) s) in
    let seam = at_seam (λ u. version_cmp x u ≡ Less) xs y ys (sorted_head version_cmp x (xs ++ y ∷ ys) s) in
    record { before = (seam.0, rest.before); behind = rest.behind }

all_counted : (v : Version) (us : List Version) → AllByRecursion (λ u. of_file v u ≡ true) us → length (filter (of_file v) us) ≡ length us
all_counted v [] all = refl
all_counted v (u ∷ us) all = ap (λ (b : Bool). length (cond b (u ∷ filter (of_file v) us) (filter (of_file v) us))) all.0 ∙ ap suc (all_counted v us all.1)

none_counted : (v : Version) (us : List Version) → AllByRecursion (λ u. of_file v u ≡ false) us → length (filter (of_file v) us) ≡ 0
none_counted v [] all = refl
none_counted v (u ∷ us) all = ap (λ (b : Bool). length (cond b (u ∷ filter (of_file v) us) (filter (of_file v) us))) all.0 ∙ none_counted v us all.1

pub counted-le : (p : Version → Bool) (us : List Version) → length (filter p us) ≤ length us
counted-le p [] = omega arith
counted-le p (u ∷ us) =
    let rest = counted-le p us in
    elim (p u) as (λ b. length (cond b (u ∷ filter p us) (filter p us)) ≤ suc (length us)) [ true ↦ omega arith | false ↦ omega arith ]

not_true : (b : Bool) → (b ≡ true → ⊥) → b ≡ false
not_true true h = absurd (h refl)
not_true false h = refl

-- y is of the file where all between y and v are, and else none beyond y is
between_all : (v y : Version) (us : List Version) (P Q : Version → Type 0) → ((u : Version) → P u → Q u → of_file v u ≡ true) → AllByRecursion P us → AllByRecursion Q us → AllByRecursion (λ u. of_file v u ≡ true) us
between_all v y [] P Q h ps qs = tt
between_all v y (u ∷ us) P Q h ps qs = (h u ps.0 qs.0, between_all v y us P Q h ps.1 qs.1)

beyond_none : (v : Version) (us : List Version) (P : Version → Type 0) → ((u : Version) → P u → of_file v u ≡ false) → AllByRecursion P us → AllByRecursion (λ u. of_file v u ≡ false) us
beyond_none v [] P h ps = tt
beyond_none v (u ∷ us) P h ps = (h u ps.0, beyond_none v us P h ps.1)

leb_holds : (m n : ℕ) → m ≤ n → nat_le m n ≡ true
leb_holds m n h = grind (arith, nat_tests)

pub leb_fails : (m n : ℕ) → n < m → nat_le m n ≡ false
leb_fails m n h = grind (arith, nat_tests)

-- a: how many beyond y count, b: how many between y and v, of so many
tally : (t : Bool) (a b n : ℕ) → (t ≡ true → b ≡ n) → (t ≡ false → a ≡ 0) → b ≤ n → t ≡ nat_le (n + 1) (a + cond t 1 0 + b)
tally true a b n all none le = let e = all refl in sym (leb_holds _ _ (omega arith))
tally false a b n all none le = let e = none refl in sym (leb_fails _ _ (omega arith))

one : (v y : Version) (us : List Version) → length (filter (of_file v) (y ∷ us)) ≡ cond (of_file v y) 1 0 + length (filter (of_file v) us)
one v y us = elim (of_file v y) as (λ b. length (cond b (y ∷ filter (of_file v) us) (filter (of_file v) us)) ≡ cond b 1 0 + length (filter (of_file v) us)) [ true ↦ omega arith | false ↦ omega arith ]

is_file : (v u : Version) → u.stem ≡ v.stem → of_file v u ≡ true
is_file v u e = (bytes_eq-Decides u.stem v.stem).1 e

file_is : (v u : Version) → of_file v u ≡ true → u.stem ≡ v.stem
file_is v u e = (bytes_eq-Decides u.stem v.stem).0 e

-- v is not older than itself
itself : (v : Version) (back : List Version) → AllBehind v back → filter (is_older v) (v ∷ back) ≡ []
itself v back behind =
    ap (λ (b : Bool). cond b (v ∷ filter (is_older v) back) (filter (is_older v) back)) (and_fails (of_file v v) _ (λ t. lt_fails v.number v.number (omega arith)))
    ∙ older-behind v back behind

sums : (all a c y b : ℕ) → all ≡ a + c → c ≡ y + b → all + 0 ≡ a + y + b
sums all a c y b e f = omega arith

module _ (a : List Version) (y : Version) (b : List Version) (v : Version) (back : List Version) (s : IsStrictlySortedBy version_cmp ((a ++ y ∷ b) ++ v ∷ back)) where
  older_parts : Parts (a ++ y ∷ b) v back
  older_parts = parts (a ++ y ∷ b) v back s

  outer : Parts a y (b ++ v ∷ back)
  outer = parts a y (b ++ v ∷ back) (subst (IsStrictlySortedBy version_cmp) (append_assoc a (y ∷ b) (v ∷ back)) s)

  pub older-split : of_file v y ≡ nat_le (length b + 1) (older ((a ++ y ∷ b) ++ v ∷ back) v)
  older-split =
      let y_to_v = at_seam (λ u. version_cmp y u ≡ Less) b v back outer.behind in
      let up_to_v = at_seam (λ u. version_cmp u v ≡ Less) a y b older_parts.before in
      let inner : of_file v y ≡ true → length (filter (of_file v) b) ≡ length b =
      λ t. all_counted v b (between_all v y b (λ u. version_cmp y u ≡ Less) (λ u. version_cmp u v ≡ Less)
      (λ u yu uv. is_file v u (between y u v yu uv (file_is v y t))) y_to_v.1 up_to_v.2) in
      let beyond : of_file v y ≡ false → length (filter (of_file v) a) ≡ 0 =
      λ f. none_counted v a (beyond_none v a (λ u. version_cmp u y ≡ Less)
      (λ u uy. not_true (of_file v u) (λ t. let here = is_file v y (between u y v uy y_to_v.0 (file_is v u t)) in cc)) outer.before) in
      let split : older ((a ++ y ∷ b) ++ v ∷ back) v ≡ length (filter (of_file v) a) + cond (of_file v y) 1 0 + length (filter (of_file v) b) =
      ap length (filter-append (is_older v) (a ++ y ∷ b) (v ∷ back))
      ∙ length-append (filter (is_older v) (a ++ y ∷ b)) (filter (is_older v) (v ∷ back))
      ∙ ap (λ (l : List Version). length l + length (filter (is_older v) (v ∷ back))) (older-before v (a ++ y ∷ b) older_parts.before ∙ filter-append (of_file v) a (y ∷ b))
      ∙ ap (λ (l : List Version). length (filter (of_file v) a ++ filter (of_file v) (y ∷ b)) + length l) (itself v back older_parts.behind)
      ∙ sums _ _ _ _ _ (length-append (filter (of_file v) a) (filter (of_file v) (y ∷ b))) (one v y b) in
      tally (of_file v y) _ _ (length b) inner beyond (counted-le (of_file v) b) ∙ ap (nat_le (length b + 1)) (sym split)

not_itself : (v : Version) (back : List Version) → filter (is_newer v) (v ∷ back) ≡ filter (is_newer v) back
not_itself v back = ap (λ (b : Bool). cond b (v ∷ filter (is_newer v) back) (filter (is_newer v) back)) (and_fails (of_file v v) _ (λ t. lt_fails v.number v.number (omega arith)))

turned : (all a c y b : ℕ) → all ≡ b + c → c ≡ y + a → all ≡ a + y + b
turned all a c y b e f = omega arith

module _ (front : List Version) (v : Version) (b : List Version) (y : Version) (a : List Version) (s : IsStrictlySortedBy version_cmp (front ++ v ∷ (b ++ y ∷ a))) where
  newer_parts : Parts front v (b ++ y ∷ a)
  newer_parts = parts front v (b ++ y ∷ a) s

  far : Parts (front ++ v ∷ b) y a
  far = parts (front ++ v ∷ b) y a (subst (IsStrictlySortedBy version_cmp) (sym (append_assoc front (v ∷ b) (y ∷ a))) s)

  pub newer-split : of_file v y ≡ nat_le (length b + 1) (newer (front ++ v ∷ (b ++ y ∷ a)) v)
  newer-split =
      let from_v = at_seam (λ u. version_cmp v u ≡ Less) b y a newer_parts.behind in
      let to_y = at_seam (λ u. version_cmp u y ≡ Less) front v b far.before in
      let inner : of_file v y ≡ true → length (filter (of_file v) b) ≡ length b =
      λ t. all_counted v b (between_all v y b (λ u. version_cmp v u ≡ Less) (λ u. version_cmp u y ≡ Less)
      (λ u vu uy. is_file v u (between v u y vu uy (sym (file_is v y t)) ∙ file_is v y t)) from_v.1 to_y.2) in
      let beyond : of_file v y ≡ false → length (filter (of_file v) a) ≡ 0 =
      λ f. none_counted v a (beyond_none v a (λ u. version_cmp y u ≡ Less)
      (λ u yu. not_true (of_file v u) (λ t. let here = is_file v y (between v y u from_v.0 yu (sym (file_is v u t)) ∙ file_is v u t) in cc)) far.behind) in
      let split : newer (front ++ v ∷ (b ++ y ∷ a)) v ≡ length (filter (of_file v) a) + cond (of_file v y) 1 0 + length (filter (of_file v) b) =
      ap length (filter-append (is_newer v) front (v ∷ (b ++ y ∷ a)))
      ∙ ap (λ (l : List Version). length (l ++ filter (is_newer v) (v ∷ (b ++ y ∷ a)))) (newer-before v front newer_parts.before)
      ∙ ap length (not_itself v (b ++ y ∷ a))
      ∙ ap length (newer-behind v (b ++ y ∷ a) newer_parts.behind ∙ filter-append (of_file v) b (y ∷ a))
      ∙ turned _ _ _ _ _ (length-append (filter (of_file v) b) (filter (of_file v) (y ∷ a))) (one v y a) in
      tally (of_file v y) _ _ (length b) inner beyond (counted-le (of_file v) b) ∙ ap (nat_le (length b + 1)) (sym split)

-- ---- by places

any_default : (vs : List Version) (i : ℕ) (d e : Version) → i < length vs → get_or vs i d ≡ get_or vs i e
any_default [] i d e within = absurd (omega arith)
any_default (v ∷ vs) zero d e within = refl
any_default (v ∷ vs) (suc i) d e within = any_default vs i d e (omega arith)

cut : (vs : List Version) (i : ℕ) (v : Version) → i < length vs → v ≡ get_or vs i v → take i vs ++ v ∷ drop (i + 1) vs ≡ vs
cut vs i v within is =
    ap (λ (l : List Version). take i vs ++ l) (ap (λ (u : Version). u ∷ drop (i + 1) vs) is ∙ ap (λ (n : ℕ). get_or vs i v ∷ drop n vs) (add-one i) ∙ sym (drop-cons vs i v within))
    ∙ take-append-drop i vs

pub older_at : (vs : List Version) (at k : ℕ) (y v : Version) → IsStrictlySortedBy version_cmp vs → at < length vs → k ≤ at → y ≡ get_or vs (at - k) y → v ≡ get_or vs at v
    → bytes_eq y.stem v.stem ≡ nat_le k (older vs v)
older_at vs at zero y v s within le y_is v_is =
    let same : y ≡ v = y_is ∙ ap (λ (n : ℕ). get_or vs n y) (omega arith) ∙ any_default vs at y v within ∙ sym v_is in
    is_file v y (ap (λ (u : Version). u.stem) same) ∙ sym (leb_holds zero (older vs v) (omega arith))
older_at vs at (suc k) y v s within le y_is v_is =
    let whole : take at vs ++ v ∷ drop (at + 1) vs ≡ vs = cut vs at v within v_is in
    let len : length (take at vs) ≡ at = length-take-le at vs (omega arith) in
    let inside : at - suc k < length (take at vs) = omega arith in
    let y_there : y ≡ get_or (take at vs) (at - suc k) y = y_is ∙ sym (get_or-take at vs (at - suc k) y (omega arith)) in
    let first : take (at - suc k) (take at vs) ++ y ∷ drop (at - suc k + 1) (take at vs) ≡ take at vs = cut (take at vs) (at - suc k) y inside y_there in
    let all : (take (at - suc k) (take at vs) ++ y ∷ drop (at - suc k + 1) (take at vs)) ++ v ∷ drop (at + 1) vs ≡ vs = ap (λ (l : List Version). l ++ v ∷ drop (at + 1) vs) first ∙ whole in
    let gap : length (drop (at - suc k + 1) (take at vs)) ≡ k = length-drop (at - suc k + 1) (take at vs) ∙ omega arith in
    older-split (take (at - suc k) (take at vs)) y (drop (at - suc k + 1) (take at vs)) v (drop (at + 1) vs) (subst (IsStrictlySortedBy version_cmp) (sym all) s)
    ∙ ap (λ (n : ℕ). nat_le (n + 1) (older ((take (at - suc k) (take at vs) ++ y ∷ drop (at - suc k + 1) (take at vs)) ++ v ∷ drop (at + 1) vs) v)) gap
    ∙ ap (λ (l : List Version). nat_le (k + 1) (older l v)) all
    ∙ ap (λ (n : ℕ). nat_le n (older vs v)) (add-one k)

pub older_past : (vs : List Version) (at k : ℕ) (v : Version) → IsStrictlySortedBy version_cmp vs → at < length vs → at < k → v ≡ get_or vs at v → false ≡ nat_le k (older vs v)
older_past vs at k v s within past v_is =
    let whole : take at vs ++ v ∷ drop (at + 1) vs ≡ vs = cut vs at v within v_is in
    let len : length (take at vs) ≡ at = length-take-le at vs (omega arith) in
    let p = parts (take at vs) v (drop (at + 1) vs) (subst (IsStrictlySortedBy version_cmp) (sym whole) s) in
    let most = counted-le (is_older v) (take at vs) in
    let split : older vs v ≡ length (filter (is_older v) (take at vs)) + 0 =
    ap (λ (l : List Version). older l v) (sym whole)
    ∙ ap length (filter-append (is_older v) (take at vs) (v ∷ drop (at + 1) vs))
    ∙ length-append (filter (is_older v) (take at vs)) (filter (is_older v) (v ∷ drop (at + 1) vs))
    ∙ ap (λ (l : List Version). length (filter (is_older v) (take at vs)) + length l) (itself v (drop (at + 1) vs) p.behind) in
    sym (leb_fails k (older vs v) (omega arith))

pub newer_at : (vs : List Version) (at k : ℕ) (y v : Version) → IsStrictlySortedBy version_cmp vs → at < length vs → k < length vs - at → y ≡ get_or vs (at + k) y → v ≡ get_or vs at v
    → bytes_eq y.stem v.stem ≡ nat_le k (newer vs v)
newer_at vs at zero y v s within lt y_is v_is =
    let same : y ≡ v = y_is ∙ ap (λ (n : ℕ). get_or vs n y) (omega arith) ∙ any_default vs at y v within ∙ sym v_is in
    is_file v y (ap (λ (u : Version). u.stem) same) ∙ sym (leb_holds zero (newer vs v) (omega arith))
newer_at vs at (suc k) y v s within lt y_is v_is =
    let whole : take at vs ++ v ∷ drop (at + 1) vs ≡ vs = cut vs at v within v_is in
    let len : length (drop (at + 1) vs) ≡ length vs - (at + 1) = length-drop (at + 1) vs in
    let inside : k < length (drop (at + 1) vs) = omega arith in
    let y_there : y ≡ get_or (drop (at + 1) vs) k y = y_is ∙ ap (λ (n : ℕ). get_or vs n y) (omega arith) ∙ sym (get_or-drop (at + 1) vs k y) in
    let second : take k (drop (at + 1) vs) ++ y ∷ drop (k + 1) (drop (at + 1) vs) ≡ drop (at + 1) vs = cut (drop (at + 1) vs) k y inside y_there in
    let all : take at vs ++ v ∷ (take k (drop (at + 1) vs) ++ y ∷ drop (k + 1) (drop (at + 1) vs)) ≡ vs = ap (λ (l : List Version). take at vs ++ v ∷ l) second ∙ whole in
    let gap : length (take k (drop (at + 1) vs)) ≡ k = length-take-le k (drop (at + 1) vs) (omega arith) in
    newer-split (take at vs) v (take k (drop (at + 1) vs)) y (drop (k + 1) (drop (at + 1) vs)) (subst (IsStrictlySortedBy version_cmp) (sym all) s)
    ∙ ap (λ (n : ℕ). nat_le (n + 1) (newer (take at vs ++ v ∷ (take k (drop (at + 1) vs) ++ y ∷ drop (k + 1) (drop (at + 1) vs))) v)) gap
    ∙ ap (λ (l : List Version). nat_le (k + 1) (newer l v)) all
    ∙ ap (λ (n : ℕ). nat_le n (newer vs v)) (add-one k)

pub newer_past : (vs : List Version) (at k : ℕ) (v : Version) → IsStrictlySortedBy version_cmp vs → at < length vs → length vs - at ≤ k → v ≡ get_or vs at v → false ≡ nat_le k (newer vs v)
newer_past vs at k v s within past v_is =
    let whole : take at vs ++ v ∷ drop (at + 1) vs ≡ vs = cut vs at v within v_is in
    let len : length (drop (at + 1) vs) ≡ length vs - (at + 1) = length-drop (at + 1) vs in
    let p = parts (take at vs) v (drop (at + 1) vs) (subst (IsStrictlySortedBy version_cmp) (sym whole) s) in
    let most = counted-le (is_newer v) (drop (at + 1) vs) in
    let split : newer vs v ≡ length (filter (is_newer v) (drop (at + 1) vs)) =
    ap (λ (l : List Version). newer l v) (sym whole)
    ∙ ap length (filter-append (is_newer v) (take at vs) (v ∷ drop (at + 1) vs))
    ∙ ap (λ (l : List Version). length (l ++ filter (is_newer v) (v ∷ drop (at + 1) vs))) (newer-before v (take at vs) p.before)
    ∙ ap length (not_itself v (drop (at + 1) vs)) in
    sym (leb_fails k (newer vs v) (omega arith))
