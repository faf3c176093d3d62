-- Walks from number to number.
use Rattle.std.proofs.Common.{◌≡◌, ◌⊎◌, inl, inr, ◌<◌, ◌≤◌, ◌+◌, ℕ, zero, suc, true, false, cond, List, [], ◌∷◌, ◌++◌, length, length-append, set, take, drop, get_or, Option, Some, None, option_and_then, refl, sym, ◌∙◌, ap, ap₂, subst, arith}
use Rattle.std.proofs.lemmas.List.{take_more, drop_more}
use Rattle.std.proofs.lemmas.Bool.{cases_Bool, false≢true}
use Rattle.std.proofs.lemmas.Option.{same_Some, none-some}
use Rattle.std.specs.Ordering.{eq_by_cmp}
use Rattle.dired_text.specs.Paths.{Names, path_cmp}
use Rattle.path_map.specs.Walks.{Below, IsBelow, child, value_of, walk}
use Rattle.path_map.proofs.ListLemmas.{got_set, got_beside, last_of, path_itself, same_path}

-- the step of a walk that leads somewhere
pub stepped : (below : Below) (i j : ℕ) (n : List ℕ) (p : Names) → walk below i (n ∷ p) ≡ Some j → (k : ℕ) × (child below i n ≡ Some k) × (walk below k p ≡ Some j)
stepped below i j n p e = go (child below i n) refl e
  where
    go : (o : Option ℕ) → child below i n ≡ o → option_and_then (λ (k : ℕ). walk below k p) o ≡ Some j → (k : ℕ) × (child below i n ≡ Some k) × (walk below k p ≡ Some j)
    go None is none = absurd (none-some j none)
    go (Some k) is some = (k, is, some)

pub step : (below : Below) (i k : ℕ) (n : List ℕ) (p : Names) (o : Option ℕ) → child below i n ≡ Some k → walk below k p ≡ o → walk below i (n ∷ p) ≡ o
step below i k n p o edge rest = ap (option_and_then (λ (k : ℕ). walk below k p)) edge ∙ rest

-- one name more
pub walk_pushed : (below : Below) (i : ℕ) (p : Names) (n : List ℕ) → walk below i (p ++ n ∷ []) ≡ option_and_then (λ (j : ℕ). child below j n) (walk below i p)
walk_pushed below i [] n = go (child below i n)
  where
    go : (o : Option ℕ) → option_and_then (λ (k : ℕ). walk below k []) o ≡ o
    go None = refl
    go (Some k) = refl
walk_pushed below i (m ∷ p) n = go (λ (k : ℕ). walk_pushed below k p n) (child below i m)
  where
    go : ((k : ℕ) → walk below k (p ++ n ∷ []) ≡ option_and_then (λ (j : ℕ). child below j n) (walk below k p)) → (o : Option ℕ)
        → option_and_then (λ (k : ℕ). walk below k (p ++ n ∷ [])) o ≡ option_and_then (λ (j : ℕ). child below j n) (option_and_then (λ (k : ℕ). walk below k p) o)
    go later None = refl
    go later (Some k) = later k

-- a walk goes on where a name of it is behind it
pub walk_on : (below : Below) (path : Names) (at next : Option ℕ) (k : ℕ) (name : List ℕ) → k < length path → name ≡ get_or path k name → next ≡ option_and_then (λ (i : ℕ). child below i name) at
    → option_and_then (λ (i : ℕ). walk below i (drop k path)) at ≡ walk below 0 path → option_and_then (λ (i : ℕ). walk below i (drop (k + 1) path)) next ≡ walk below 0 path
walk_on below path at next k name less is next_is so_far =
    let rest : drop k path ≡ name ∷ drop (k + 1) path = drop_more path k name less ∙ ap (λ (n : List ℕ). n ∷ drop (k + 1) path) (sym is) in
    ap (option_and_then (λ (i : ℕ). walk below i (drop (k + 1) path))) next_is ∙ go at ∙ sym (ap (λ (p : Names). option_and_then (λ (i : ℕ). walk below i p) at) rest) ∙ so_far
  where
    go : (o : Option ℕ) → option_and_then (λ (i : ℕ). walk below i (drop (k + 1) path)) (option_and_then (λ (i : ℕ). child below i name) o) ≡ option_and_then (λ (i : ℕ). walk below i (name ∷ drop (k + 1) path)) o
    go None = refl
    go (Some i) = refl

-- and leads to what is at the first names of its path
pub walk_next : (below : Below) (path : Names) (k : ℕ) (name : List ℕ) (at : Option ℕ) → k < length path → name ≡ get_or path k name → at ≡ walk below 0 (take k path)
    → option_and_then (λ (i : ℕ). child below i name) at ≡ walk below 0 (take (k + 1) path)
walk_next below path k name at less is so_far =
    let more : take (k + 1) path ≡ take k path ++ name ∷ [] = take_more path k name less ∙ ap (λ (n : List ℕ). take k path ++ n ∷ []) (sym is) in
    ap (option_and_then (λ (i : ℕ). child below i name)) so_far ∙ sym (walk_pushed below 0 (take k path) name) ∙ sym (ap (walk below 0) more)

-- a walk leads to numbers that were made
pub walk_made : (below : Below) (i j : ℕ) (p : Names) → IsBelow below → i < length below → walk below i p ≡ Some j → (i ≤ j) × (j < length below)
walk_made below i j [] is made e = let same : i ≡ j = same_Some i j e in (omega (arith, same), omega (arith, same, made))
walk_made below i j (n ∷ p) is made e =
    let s = stepped below i j n p e in
    let k : ℕ = s.0 in
    let edge = is.later i k n s.1 in
    let more : i < k = edge.0 in
    let rest = walk_made below k j p is edge.1 s.2 in
    let behind : k ≤ j = rest.0 in
    (omega (arith, more, behind), rest.1)

-- the last step of a walk
last_step : (below : Below) (j : ℕ) (p r : Names) (n : List ℕ) → p ≡ r ++ n ∷ [] → walk below 0 p ≡ Some j → (i : ℕ) × (walk below 0 r ≡ Some i) × (child below i n ≡ Some j)
last_step below j p r n e w = by (walk below 0 r) refl (sym (walk_pushed below 0 r n) ∙ sym (ap (walk below 0) e) ∙ w)
  where
    by : (o : Option ℕ) → walk below 0 r ≡ o → option_and_then (λ (j : ℕ). child below j n) o ≡ Some j → (i : ℕ) × (walk below 0 r ≡ Some i) × (child below i n ≡ Some j)
    by None none e = absurd (none-some j e)
    by (Some i) some e = (i, some, e)

-- no step leads to the root
no_root : (below : Below) (j : ℕ) (p r : Names) (n : List ℕ) (q : Names) → IsBelow below → p ≡ r ++ n ∷ [] → q ≡ [] → walk below 0 p ≡ Some j → walk below 0 q ≡ Some j → ⊥
no_root below j p r n q is e none w v =
    let l = last_step below j p r n e w in
    let edge : l.0 < j = (is.later l.0 j n l.2).0 in
    let at : 0 ≡ j = same_Some 0 j (sym (ap (walk below 0) none) ∙ v) in
    absurd (omega (arith, edge, at))

abbrev LastOf : Names → Type 0
LastOf p = (p ≡ []) ⊎ ((r : Names) × (n : List ℕ) × (p ≡ r ++ n ∷ []))

-- two paths that lead from the root to one number are the same, if shorter ones are
abbrev AreOne : Below → ℕ → Type 0
AreOne below k = (j : ℕ) (p q : Names) → length p ≡ k → walk below 0 p ≡ Some j → walk below 0 q ≡ Some j → p ≡ q

one_of : (below : Below) (k : ℕ) → IsBelow below → ((l : ℕ) → suc l ≡ k → AreOne below l) → (j : ℕ) (p q : Names) → LastOf p → LastOf q → length p ≡ k → walk below 0 p ≡ Some j → walk below 0 q ≡ Some j → p ≡ q
one_of below k is shorter j p q (inl e) (inl f) long a b = e ∙ sym f
one_of below k is shorter j p q (inl e) (inr f) long a b = absurd (no_root below j q f.0 f.1 p is f.2 e b a)
one_of below k is shorter j p q (inr e) (inl f) long a b = absurd (no_root below j p e.0 e.1 q is e.2 f a b)
one_of below k is shorter j p q (inr e) (inr f) long a b =
    let more : length p ≡ length e.0 + 1 = ap length e.2 ∙ length-append e.0 (e.1 ∷ []) in
    let l = last_step below j p e.0 e.1 e.2 a in
    let m = last_step below j q f.0 f.1 f.2 b in
    let one = is.one l.0 m.0 j e.1 f.1 l.2 m.2 in
    let fewer : suc (length e.0) ≡ k = omega (arith, more, long) in
    let same : e.0 ≡ f.0 = shorter (length e.0) fewer l.0 e.0 f.0 refl l.1 (m.1 ∙ ap (λ (i : ℕ). Some i) (sym one.0)) in
    e.2 ∙ ap₂ (λ (r : Names) (n : List ℕ). r ++ n ∷ []) same one.1 ∙ sym f.2

all_one : (below : Below) (k : ℕ) → IsBelow below → AreOne below k
all_one below zero is j p q = one_of below zero is (λ l e. absurd (omega (arith, e))) j p q (last_of p) (last_of q)
all_one below (suc k) is j p q = one_of below (suc k) is (λ l e. let same : k ≡ l = omega (arith, e) in subst (λ (m : ℕ). AreOne below m) same (all_one below k is)) j p q (last_of p) (last_of q)

pub walk_one : (below : Below) (j : ℕ) (p q : Names) → IsBelow below → walk below 0 p ≡ Some j → walk below 0 q ≡ Some j → p ≡ q
walk_one below j p q is a b = all_one below (length p) is j p q refl a b

module _ {V : Type 0} where
  -- a value that is put at the number of a path is that of this path alone
  pub value_put : (below : Below) (values : List (Option V)) (at : ℕ) (path q : Names) (v : V) → IsBelow below → walk below 0 path ≡ Some at → at < length values
      → option_and_then (value_of (set values at (Some v))) (walk below 0 q) ≡ cond (eq_by_cmp path_cmp path q) (Some v) (option_and_then (value_of values) (walk below 0 q))
  value_put below values at path q v is walked made = go (cases_Bool (eq_by_cmp path_cmp path q))
    where
      here : value_of (set values at (Some v)) at ≡ Some v
      here = ap (option_and_then (λ (o : Option V). o)) (got_set values at (Some v) made)

      other : eq_by_cmp path_cmp path q ≡ false → (o : Option ℕ) → walk below 0 q ≡ o → option_and_then (value_of (set values at (Some v))) o ≡ option_and_then (value_of values) o
      other differs None none = refl
      other differs (Some j) some = ap (option_and_then (λ (o : Option V). o)) (got_beside values at j (Some v) (λ e.
          let same : path ≡ q = walk_one below at path q is walked (some ∙ ap (λ (i : ℕ). Some i) e) in
          false≢true (sym differs ∙ subst (λ (r : Names). eq_by_cmp path_cmp path r ≡ true) same (path_itself path))))

      go : (eq_by_cmp path_cmp path q ≡ true) ⊎ (eq_by_cmp path_cmp path q ≡ false)
          → option_and_then (value_of (set values at (Some v))) (walk below 0 q) ≡ cond (eq_by_cmp path_cmp path q) (Some v) (option_and_then (value_of values) (walk below 0 q))
      go (inl same) = rw same (ap (option_and_then (value_of (set values at (Some v)))) (sym (ap (walk below 0) (same_path path q same)) ∙ walked) ∙ here)
      go (inr differs) = rw differs (other differs (walk below 0 q) refl)
