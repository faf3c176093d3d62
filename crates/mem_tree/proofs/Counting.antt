-- How many values of a finite map pass a test.
use Rattle.std.proofs.Common.{◌≡◌, ℕ, ◌+◌, ◌<◌, Bool, true, false, cond, T, List, [], ◌∷◌, length, filter, refl, sym, ◌∙◌, ap, arith, Option, Some, None}
use Rattle.std.proofs.lemmas.Bool.{cond-true, cond-false}
use Rattle.std.specs.FinMap.{FinMap, find, put, is_sorted, IsAntisymmetric, get, insert, remove, entries, from_entries, empty, entries_sorted, entries-insert, get-entries, get-insert, get-remove, get-from_entries, same_map}
use Rattle.std.specs.FinMap.Entries.{below_all, by_order}
use Rattle.std.specs.List.{AllByRecursion}
use Rattle.std.specs.declared.cmp.Ordering.{Ordering}
use Rattle.std.specs.declared.cmp.Ordering.TheVariants.{Less, Equal, Greater}
use Rattle.std.specs.Ordering.{eq_by_cmp, is_eq}
use Rattle.std.specs.Cmp.{IsTotalOrder, tied_itself}
use Rattle.mem_tree.proofs.MapLemmas.{parts_true, equal_of, find_under, below_trans, all_entries}

from_T : (b : Bool) → T b → b ≡ true
from_T true t = refl
from_T false t = absurd t

pub sorted_entries : {K X : Type 0} {R : K → K → Ordering} (m : FinMap R X) → is_sorted R (entries m) ≡ true
sorted_entries m = from_T _ (entries_sorted m)

pub length_cond : {A : Type 0} (b : Bool) (x : A) (l : List A) → length (cond b (x ∷ l) l) ≡ cond b 1 0 + length l
length_cond true x l = omega arith
length_cond false x l = omega arith

abbrev pub weight : {X : Type 0} → (X → Bool) → Option X → ℕ
weight p None = 0
weight p (Some v) = cond (p v) 1 0

abbrev pub count_list : {K X : Type 0} → (X → Bool) → List (K × X) → ℕ
count_list {K} {X} p es = length (filter (λ (e : K × X). p e.1) es)

abbrev pub count : {K X : Type 0} {R : K → K → Ordering} → (X → Bool) → FinMap R X → ℕ
count p m = count_list p (entries m)

-- no two of the entries tie
abbrev pub AreApart : {K X : Type 0} → (K → K → Ordering) → List (K × X) → Type 0
AreApart R [] = Unit {0}
AreApart R (e ∷ es) = (find R e.0 es ≡ None) × AreApart R es

module _ {K X : Type 0} (p : X → Bool) where
  count_cons : (e : K × X) (es : List (K × X)) → count_list p (e ∷ es) ≡ cond (p e.1) 1 0 + count_list p es
  count_cons e es = length_cond (p e.1) e (filter (λ (e : K × X). p e.1) es)

module _ {K X : Type 0} {R : K → K → Ordering} (p : X → Bool) where
  module _ (o : IsTotalOrder R) (exact : IsAntisymmetric R) where
    count-put : (k : K) (v : X) (es : List (K × X)) → is_sorted R es ≡ true → count_list p (put R k v es) + weight p (find R k es) ≡ count_list p es + cond (p v) 1 0
    count-put k v [] s = let h = count_cons p (k, v) [] in omega arith
    count-put k v (e ∷ es) s =
        let parts = parts_true (below_all R e.0 es) (is_sorted R es) s in
        by (R k e.0) refl parts.0 (count-put k v es parts.1)
      where
        by : (r : Ordering) → R k e.0 ≡ r → below_all R e.0 es ≡ true → count_list p (put R k v es) + weight p (find R k es) ≡ count_list p es + cond (p v) 1 0
            → count_list p (by_order (R k e.0) ((k, v) ∷ e ∷ es) ((e.0, v) ∷ es) (e ∷ put R k v es)) + weight p (cond (is_eq (R k e.0)) (Some e.1) (find R k es)) ≡ count_list p (e ∷ es) + cond (p v) 1 0
        by Less is below more =
            let none : find R k es ≡ None = find_under o k es (below_trans o k e.0 es is below) in
            let front : count_list p ((k, v) ∷ e ∷ es) ≡ cond (p v) 1 0 + count_list p (e ∷ es) = count_cons p (k, v) (e ∷ es) in
            ap (λ r. count_list p (by_order r ((k, v) ∷ e ∷ es) ((e.0, v) ∷ es) (e ∷ put R k v es)) + weight p (cond (is_eq r) (Some e.1) (find R k es))) is
            ∙ ap (λ f. count_list p ((k, v) ∷ e ∷ es) + weight p f) none ∙ omega arith
        by Equal is below more =
            let new : count_list p ((e.0, v) ∷ es) ≡ cond (p v) 1 0 + count_list p es = count_cons p (e.0, v) es in
            let old : count_list p (e ∷ es) ≡ cond (p e.1) 1 0 + count_list p es = count_cons p e es in
            ap (λ r. count_list p (by_order r ((k, v) ∷ e ∷ es) ((e.0, v) ∷ es) (e ∷ put R k v es)) + weight p (cond (is_eq r) (Some e.1) (find R k es))) is
            ∙ omega arith
        by Greater is below more =
            let new : count_list p (e ∷ put R k v es) ≡ cond (p e.1) 1 0 + count_list p (put R k v es) = count_cons p e (put R k v es) in
            let old : count_list p (e ∷ es) ≡ cond (p e.1) 1 0 + count_list p es = count_cons p e es in
            ap (λ r. count_list p (by_order r ((k, v) ∷ e ∷ es) ((e.0, v) ∷ es) (e ∷ put R k v es)) + weight p (cond (is_eq r) (Some e.1) (find R k es))) is
            ∙ omega arith

    -- a value put in counts, and the one that it replaces no longer
    pub count-insert : (m : FinMap R X) (k : K) (v : X) → count p (insert m k v) + weight p (get m k) ≡ count p m + cond (p v) 1 0
    count-insert m k v = (λ i. count_list p (entries-insert o m k v i) + weight p (get-entries m k i)) ∙ count-put k v (entries m) (sorted_entries m)

    pub count-new : (m : FinMap R X) (k : K) (v : X) → get m k ≡ None → count p (insert m k v) ≡ count p m + cond (p v) 1 0
    count-new m k v none = let h = count-insert m k v in let z : weight p (get m k) ≡ 0 = ap (weight p) none in omega arith

    -- what is taken out counts no longer
    pub count-remove : (m : FinMap R X) (k : K) → count p (remove m k) + weight p (get m k) ≡ count p m
    count-remove m k = by (get m k) refl
      where
        gone : get (remove m k) k ≡ None
        gone = get-remove o m k k ∙ cond-true _ None _ (ap is_eq (tied_itself o k))

        by : (x : Option X) → get m k ≡ x → count p (remove m k) + weight p x ≡ count p m
        by None is =
            let same : remove m k ≡ m = same_map o exact _ _ (λ q. get-remove o m k q ∙ at q (eq_by_cmp R q k) refl) in
            ap (λ (n : FinMap R X). count p n + 0) same ∙ omega arith
          where
            at : (q : K) (b : Bool) → eq_by_cmp R q k ≡ b → cond (eq_by_cmp R q k) None (get m q) ≡ get m q
            at q true t = cond-true _ None _ t ∙ sym (ap (get m) (exact q k (equal_of _ t)) ∙ is)
            at q false t = cond-false _ None _ t
        by (Some v) is =
            let same : insert (remove m k) k v ≡ m = same_map o exact _ _ (λ q. get-insert o (remove m k) k v q ∙ ap (cond (eq_by_cmp R q k) (Some v)) (get-remove o m k q) ∙ at q (eq_by_cmp R q k) refl) in
            let h = count-new (remove m k) k v gone in
            let e : count p (insert (remove m k) k v) ≡ count p m = ap (count p) same in omega arith
          where
            at : (q : K) (b : Bool) → eq_by_cmp R q k ≡ b → cond (eq_by_cmp R q k) (Some v) (cond (eq_by_cmp R q k) None (get m q)) ≡ get m q
            at q true t = cond-true _ (Some v) _ t ∙ sym (ap (get m) (exact q k (equal_of _ t)) ∙ is)
            at q false t = cond-false _ (Some v) _ t ∙ cond-false _ None _ t

    -- where a value passes, there is one
    pub count_some : (m : FinMap R X) (k : K) (v : X) → get m k ≡ Some v → p v ≡ true → 0 < count p m
    count_some m k v is passes = let h = count-remove m k in let w : weight p (get m k) ≡ 1 = ap (weight p) is ∙ ap (λ b. cond b 1 0) passes in omega arith

    -- where none does, there is none
    pub count_none : (m : FinMap R X) → ((k : K) (v : X) → get m k ≡ Some v → p v ≡ false) → count p m ≡ 0
    count_none m none = empty_filter (entries m) (all_entries o (λ (e : K × X). p e.1 ≡ false) (entries m) (sorted_entries m) (λ e found. none e.0 e.1 (get-entries m e.0 ∙ found)))
      where
        empty_filter : (es : List (K × X)) → AllByRecursion (λ (e : K × X). p e.1 ≡ false) es → count_list p es ≡ 0
        empty_filter [] h = refl
        empty_filter (e ∷ es) h = ap (λ b. length (cond b (e ∷ filter (λ (e : K × X). p e.1) es) (filter (λ (e : K × X). p e.1) es))) h.0 ∙ empty_filter es h.1

    clash : (v : X) → None ≡ Some v → ⊥
    clash v e = cc

    pub count-made : (es : List (K × X)) → AreApart R es → count p (from_entries {R = R} es) ≡ count_list p es
    count-made [] apart = count_none empty (λ k v is. absurd (clash v (sym (get-from_entries o [] k) ∙ is)))
    count-made (e ∷ es) apart =
        let new = count-new (from_entries {R = R} es) e.0 e.1 (get-from_entries o es e.0 ∙ apart.0) in
        let more = count-made es apart.1 in
        let cons = count_cons p e es in omega arith
