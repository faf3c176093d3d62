-- Rows in an order.
use Rattle.std.proofs.Common.{◌≡◌, ◌≢◌, ℕ, ◌+◌, ◌-◌, ◌<◌, ◌≤◌, zero, suc, List, [], ◌∷◌, ◌++◌, length, map, drop, refl, ap, sym, subst, ◌∙◌, arith, true, false, ◌⊎◌, inl, inr, length-append, Contains, filter, nat_le, nat_lt, not, Bool, ◌&&◌}
use Rattle.std.proofs.lemmas.Bool.Decides.{eqb_tells, nat_tests}
use Rattle.std.proofs.lemmas.List.{map-append, take_at, drop_at}
use Rattle.std.proofs.lemmas.List.Elements.{Contains-append_cases, Contains-append_left, Contains-append_right, Contains-push, Contains-push_cases, filter-append}
use Rattle.link_rows.specs.Net.{AllBelow, last_of}
use Rattle.link_rows.proofs.NetLemmas.{Misses, Unique, misses-append, misses-join}
use Rattle.section_rows.specs.Orders.{run, place_of, with_at, without, without_run, behind_row}
use Rattle.section_rows.specs.Kept.{nodes_of, place_behind}

-- the rows of nodes
pub rows-back : (rows : List ℕ) → map (λ x. x - 3) (nodes_of rows) ≡ rows
rows-back [] = refl
rows-back (r ∷ rows) =
    let e : 3 + r - 3 ≡ r = omega arith in
    ap (λ x. x ∷ map (λ x. x - 3) (nodes_of rows)) e ∙ ap (λ rest. r ∷ rest) (rows-back rows)

pub nodes-join : (xs ys : List ℕ) → nodes_of (xs ++ ys) ≡ nodes_of xs ++ nodes_of ys
nodes-join xs ys = map-append (λ (r : ℕ). 3 + r) xs ys

pub nodes-missed : (r : ℕ) (xs : List ℕ) → Misses r xs → Misses (3 + r) (nodes_of xs)
nodes-missed r [] m = tt
nodes-missed r (x ∷ xs) m = ((λ (e : 3 + x ≡ 3 + r). m.0 (omega arith)), nodes-missed r xs m.1)

pub rows-missed : (r : ℕ) (xs : List ℕ) → Misses (3 + r) (nodes_of xs) → Misses r xs
rows-missed r [] m = tt
rows-missed r (x ∷ xs) m = ((λ (e : x ≡ r). m.0 (ap (λ y. 3 + y) e)), rows-missed r xs m.1)

pub rows-unique : (xs : List ℕ) → Unique (nodes_of xs) → Unique xs
rows-unique [] u = tt
rows-unique (x ∷ xs) u = (rows-missed x xs u.0, rows-unique xs u.1)

-- where r first stands
contains-none : (r : ℕ) → Contains [] r → ⊥
contains-none r c = let below : c.0 < 0 = c.1 in omega arith

contains-cases : (x r : ℕ) (xs : List ℕ) → Contains (x ∷ xs) r → (x ≡ r) ⊎ Contains xs r
contains-cases x r xs c = elim (Contains-append_cases (x ∷ []) xs r c) [
  | inl one ↦ elim (Contains-push_cases [] x r one) [ inl no_one ↦ absurd (contains-none r no_one) | inr same ↦ inl same ]
  | inr more ↦ inr more
]

pub record Stands (order : List ℕ) (r : ℕ) (fs gs : List ℕ) : Type 0 where
  pub parts : order ≡ fs ++ r ∷ gs
  pub first : Misses r fs

pub stands : (order : List ℕ) (r : ℕ) → Contains order r → (fs : List ℕ) × (gs : List ℕ) × Stands order r fs gs
stands [] r c = absurd (contains-none r c)
stands (x ∷ order) r c = elim (eqb_tells x r) [
  | inl same ↦ ([], order, record { parts = ap (λ y. y ∷ order) same.1; first = tt })
  | inr other ↦ elim (contains-cases x r order c) [
    | inl e ↦ absurd (other.1 e)
    | inr more ↦ let k = stands order r more in (x ∷ k.0, k.1, record { parts = ap (λ rest. x ∷ rest) k.2.parts; first = (other.1, k.2.first) })
  ]
]

pub place-at : (r : ℕ) (fs gs : List ℕ) → Misses r fs → place_of r (fs ++ r ∷ gs) ≡ length fs
place-at r [] gs m = elim (eqb_tells r r) [ inl same ↦ rw same.0 refl | inr other ↦ absurd (other.1 refl) ]
place-at r (x ∷ fs) gs m = elim (eqb_tells x r) [ inl same ↦ absurd (m.0 same.1) | inr other ↦ rw other.0 (ap suc (place-at r fs gs m.1)) ]

pub without-at : (r : ℕ) (fs gs : List ℕ) → Misses r fs → without r (fs ++ r ∷ gs) ≡ fs ++ gs
without-at r [] gs m = elim (eqb_tells r r) [ inl same ↦ rw same.0 refl | inr other ↦ absurd (other.1 refl) ]
without-at r (x ∷ fs) gs m = elim (eqb_tells x r) [ inl same ↦ absurd (m.0 same.1) | inr other ↦ rw other.0 (ap (λ rest. x ∷ rest) (without-at r fs gs m.1)) ]

pub with-at : (r : ℕ) (fs gs : List ℕ) → with_at (length fs) r (fs ++ gs) ≡ fs ++ r ∷ gs
with-at r fs gs = ap (λ front. front ++ r ∷ drop (length fs) (fs ++ gs)) (take_at fs gs (length fs) refl) ∙ ap (λ back. fs ++ r ∷ back) (drop_at fs gs (length fs) refl)

pub behind-at : (r : ℕ) (rows fs gs : List ℕ) → Misses r fs → behind_row r rows (fs ++ r ∷ gs) ≡ (fs ++ r ∷ []) ++ (rows ++ gs)
behind-at r rows [] gs m = elim (eqb_tells r r) [ inl same ↦ rw same.0 refl | inr other ↦ absurd (other.1 refl) ]
behind-at r rows (x ∷ fs) gs m = elim (eqb_tells x r) [ inl same ↦ absurd (m.0 same.1) | inr other ↦ rw other.0 (ap (λ rest. x ∷ rest) (behind-at r rows fs gs m.1)) ]

-- the last of some rows that differ stands behind all the others
last-missed : (x y : ℕ) (ys : List ℕ) → Misses x (y ∷ ys) → x ≢ last_of y ys
last-missed x y [] m = λ e. m.0 (sym e)
last-missed x y (z ∷ ys) m = last-missed x z ys m.1

last-place : (x : ℕ) (xs gs : List ℕ) → Unique (x ∷ (xs ++ gs)) → suc (place_of (last_of x xs) (x ∷ (xs ++ gs))) ≡ length (x ∷ xs)
last-place x [] gs u = elim (eqb_tells x x) [ inl same ↦ rw same.0 refl | inr other ↦ absurd (other.1 refl) ]
last-place x (y ∷ ys) gs u =
    let m = misses-append x (y ∷ ys) gs u.0 in
    elim (eqb_tells x (last_of y ys)) [
      | inl same ↦ absurd (last-missed x y ys m.0 same.1)
      | inr other ↦ rw other.0 (ap suc (last-place y ys gs u.1))
    ]

pub last-node : (x : ℕ) (xs : List ℕ) → last_of (3 + x) (nodes_of xs) ≡ 3 + last_of x xs
last-node x [] = refl
last-node x (y ∷ xs) = last-node y xs

node-place : (y : ℕ) (order : List ℕ) → place_behind (3 + y) order ≡ suc (place_of y order)
node-place y order =
    let big : nat_lt (3 + y) 3 ≡ false = grind (arith, nat_tests) in
    let e : 3 + y - 3 ≡ y = omega arith in
    rw big (ap (λ z. suc (place_of z order)) e)

pub place-behind : (fs gs : List ℕ) → Unique (fs ++ gs) → place_behind (last_of 0 (nodes_of fs)) (fs ++ gs) ≡ length fs
place-behind [] gs u = refl
place-behind (x ∷ xs) gs u =
    ap (λ y. place_behind y (x ∷ (xs ++ gs))) (last-node x xs) ∙ (node-place (last_of x xs) (x ∷ (xs ++ gs)) ∙ last-place x xs gs u)

-- runs
abbrev pub in_run : ℕ → ℕ → ℕ → Bool
in_run first count r = nat_le first r && nat_lt r (first + count)

out-of-run : (first count r : ℕ) → Misses r (run first count) → in_run first count r ≡ false
out-of-run first zero r m = grind (arith, nat_tests)
out-of-run first (suc n) r m =
    let p = misses-append r (run first n) ((first + n) ∷ []) m in
    let q : first + n ≢ r = p.1.0 in
    let e : in_run first n r ≡ false = out-of-run first n r p.0 in
    grind (arith, nat_tests)

run-in : (first count most r : ℕ) → count ≤ most → Contains (run first count) r → in_run first most r ≡ true
run-in first zero most r h c = absurd (contains-none r c)
run-in first (suc n) most r h c = elim (Contains-push_cases (run first n) (first + n) r c) [
  | inl more ↦ run-in first n most r (omega arith) more
  | inr e ↦ let f : first + n ≡ r = e in grind (arith, nat_tests)
]

keeps-all : (first count : ℕ) (xs : List ℕ) → ((r : ℕ) → Contains xs r → in_run first count r ≡ false) → without_run first count xs ≡ xs
keeps-all first count [] out = refl
keeps-all first count (x ∷ xs) out =
    let e : in_run first count x ≡ false = out x (Contains-append_left (x ∷ []) xs x (Contains-push [] x)) in
    rw e (ap (λ rest. x ∷ rest) (keeps-all first count xs (λ r c. out r (Contains-append_right (x ∷ []) xs r c))))

drops-all : (first count : ℕ) (xs : List ℕ) → ((r : ℕ) → Contains xs r → in_run first count r ≡ true) → without_run first count xs ≡ []
drops-all first count [] out = refl
drops-all first count (x ∷ xs) out =
    let e : in_run first count x ≡ true = out x (Contains-append_left (x ∷ []) xs x (Contains-push [] x)) in
    rw e (drops-all first count xs (λ r c. out r (Contains-append_right (x ∷ []) xs r c)))

-- what stands in both parts of a list of rows that differ
pub misses-by : (r : ℕ) (xs : List ℕ) → (Contains xs r → ⊥) → Misses r xs
misses-by r [] out = tt
misses-by r (x ∷ xs) out =
    ((λ e. out (subst (λ z. Contains (z ∷ xs) r) (sym e) (Contains-append_left (r ∷ []) xs r (Contains-push [] r)))), misses-by r xs (λ c. out (Contains-append_right (x ∷ []) xs r c)))

pub misses-not : (r : ℕ) (xs : List ℕ) → Misses r xs → Contains xs r → ⊥
misses-not r [] m c = contains-none r c
misses-not r (x ∷ xs) m c = elim (contains-cases x r xs c) [ inl e ↦ m.0 e | inr more ↦ misses-not r xs m.1 more ]

apart : (r : ℕ) (xs ys : List ℕ) → Unique (xs ++ ys) → Contains xs r → Contains ys r → ⊥
apart r [] ys u c d = contains-none r c
apart r (x ∷ xs) ys u c d = elim (contains-cases x r xs c) [
  | inl e ↦ misses-not x ys (misses-append x xs ys u.0).1 (subst (λ z. Contains ys z) (sym e) d)
  | inr more ↦ apart r xs ys u.1 more d
]

pub unique-back : (xs ys : List ℕ) → Unique (xs ++ ys) → Unique ys
unique-back [] ys u = u
unique-back (x ∷ xs) ys u = unique-back xs ys u.1

pub without-run : (first count : ℕ) (fs gs : List ℕ) → Unique (fs ++ (run first count ++ gs)) → without_run first count (fs ++ (run first count ++ gs)) ≡ fs ++ gs
without-run first count fs gs u =
    let rows = run first count in
    let test : ℕ → Bool = λ r. not (in_run first count r) in
    let a : without_run first count fs ≡ fs = keeps-all first count fs (λ r c. out-of-run first count r (misses-by r rows (λ d. apart r fs (rows ++ gs) u c (Contains-append_left rows gs r d)))) in
    let b : without_run first count rows ≡ [] = drops-all first count rows (λ r c. run-in first count count r (omega arith) c) in
    let v = unique-back fs (rows ++ gs) u in
    let d : without_run first count gs ≡ gs = keeps-all first count gs (λ r c. out-of-run first count r (misses-by r rows (λ e. apart r rows gs v e c))) in
    filter-append test fs (rows ++ gs) ∙ (ap (λ front. front ++ filter test (rows ++ gs)) a ∙ ap (λ back. fs ++ back) (filter-append test rows gs ∙ (ap (λ front. front ++ filter test gs) b ∙ d)))

pub run-length : (first count : ℕ) → length (run first count) ≡ count
run-length first zero = refl
run-length first (suc n) = let e = run-length first n in omega (arith, length-append (run first n) ((first + n) ∷ []))

-- the same from the front
pub run-front : (first count : ℕ) → run first (suc count) ≡ first ∷ run (suc first) count
run-front first zero = let e : first + 0 ≡ first = omega arith in ap (λ x. x ∷ []) e
run-front first (suc n) =
    let e : first + suc n ≡ suc first + n = omega arith in
    ap (λ front. front ++ (first + suc n) ∷ []) (run-front first n) ∙ ap (λ x. first ∷ (run (suc first) n ++ x ∷ [])) e

last-pushed : (i : ℕ) (xs : List ℕ) (x : ℕ) → last_of i (xs ++ x ∷ []) ≡ x
last-pushed i [] x = refl
last-pushed i (y ∷ xs) x = last-pushed y xs x

pub run-last : (first count : ℕ) → last_of first (run (suc first) count) ≡ first + count
run-last first zero = omega arith
run-last first (suc n) = last-pushed first (run (suc first) n) (suc first + n) ∙ omega arith

-- without one of them they still differ
pub mid-unique : (r : ℕ) (fs gs : List ℕ) → Unique (fs ++ r ∷ gs) → Unique (fs ++ gs)
mid-unique r [] gs u = u.1
mid-unique r (x ∷ fs) gs u =
    let p = misses-append x fs (r ∷ gs) u.0 in
    (misses-join x fs gs p.0 p.1.1, mid-unique r fs gs u.1)

-- rows below a number
pub below-split : (n : ℕ) (xs ys : List ℕ) → AllBelow n (xs ++ ys) → AllBelow n xs × AllBelow n ys
below-split n [] ys b = (tt, b)
below-split n (x ∷ xs) ys b = let p = below-split n xs ys b.1 in ((b.0, p.0), p.1)

pub below-join : (n : ℕ) (xs ys : List ℕ) → AllBelow n xs → AllBelow n ys → AllBelow n (xs ++ ys)
below-join n [] ys b c = c
below-join n (x ∷ xs) ys b c = (b.0, below-join n xs ys b.1 c)

pub below-mid : (n : ℕ) (fs : List ℕ) (r : ℕ) (gs : List ℕ) → AllBelow n (fs ++ r ∷ gs) → r < n
below-mid n fs r gs b = (below-split n fs (r ∷ gs) b).1.0

pub below-less : (n : ℕ) (fs : List ℕ) (r : ℕ) (gs : List ℕ) → AllBelow n (fs ++ r ∷ gs) → AllBelow n (fs ++ gs)
below-less n fs r gs b = let p = below-split n fs (r ∷ gs) b in below-join n fs gs p.0 p.1.1

pub below-with : (n : ℕ) (fs : List ℕ) (r : ℕ) (gs : List ℕ) → AllBelow n (fs ++ gs) → r < n → AllBelow n (fs ++ r ∷ gs)
below-with n fs r gs b h = let p = below-split n fs gs b in below-join n fs (r ∷ gs) p.0 (h, p.1)

pub below-cut : (n : ℕ) (fs rows gs : List ℕ) → AllBelow n (fs ++ (rows ++ gs)) → AllBelow n (fs ++ gs)
below-cut n fs rows gs b =
    let p = below-split n fs (rows ++ gs) b in
    below-join n fs gs p.0 (below-split n rows gs p.1).1

pub run-below : (first count n : ℕ) → first + count ≤ n → AllBelow n (run first count)
run-below first zero n h = tt
run-below first (suc k) n h = let b : first + k < n = omega arith in below-join n (run first k) ((first + k) ∷ []) (run-below first k n (omega arith)) (b, tt)
