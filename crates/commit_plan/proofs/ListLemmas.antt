-- The lists of those that wait for a change.
use Rattle.std.proofs.Common.{◌≡◌, ◌⊎◌, inl, inr, ℕ, ◌+◌, ◌<◌, List, [], ◌∷◌, ◌++◌, sym, ◌∙◌, ap, subst, arith, Contains, Some, Vec, All}
use Rattle.std.proofs.Math.ListN.{set}
use Rattle.std.specs.List.{slice_get}
use Rattle.std.proofs.lemmas.Option.{same_Some, slice_get_within}
use Rattle.std.proofs.lemmas.List.Elements.{Contains-append_right, Contains-append_left, Contains-push, Contains-append_cases, Contains-push_cases}
use Rattle.std.proofs.lemmas.Option.{get_or_from_slice_get}
use Rattle.commit_plan.specs.Boards.{IsNoted, IsReleased, Waiter}
use Rattle.commit_plan.proofs.ChangeLemmas.{contains_none}
use Rattle.commit_plan.proofs.KeeperLemmas.{here_or_apart, set_apart, set_here, set_long}

module _ {Z : Type 0} (ls : List (Vec ℕ Z)) (i : ℕ) (v w : Vec ℕ Z) (is : slice_get ls i ≡ Some v) where
  -- who was in a list is in it still, if that list is the other or has grown
  grown : ((k : ℕ) → Contains v.items k → Contains w.items k) → (b k : ℕ) → Waiter ls b k → Waiter (set ls i w) b k
  grown more b k old = elim (here_or_apart b i) [
    | inl here ↦
        let same : old.0 ≡ v = same_Some _ _ (sym old.1 ∙ (ap (slice_get ls) here ∙ is)) in
        (w, ap (slice_get (set ls i w)) here ∙ set_here ls i v w is, more k (subst (λ (x : Vec ℕ Z). Contains x.items k) same old.2))
    | inr apart ↦ (old.0, set_apart ls i b w apart ∙ old.1, old.2)
  ]

  -- and who is in a list was in it, or is new in that list
  was : (b k : ℕ) → Waiter (set ls i w) b k → Waiter ls b k ⊎ Contains w.items k
  was b k new = elim (here_or_apart b i) [
    | inl here ↦
        let same : new.0 ≡ w = same_Some _ _ (sym new.1 ∙ (ap (slice_get (set ls i w)) here ∙ set_here ls i v w is)) in
        inr (subst (λ (x : Vec ℕ Z). Contains x.items k) same new.2)
    | inr apart ↦ inl (new.0, sym (set_apart ls i b w apart) ∙ new.1, new.2)
  ]

  pub noted_set : (k : ℕ) → w.items ≡ v.items ++ k ∷ [] → IsNoted ls i k (set ls i w)
  noted_set k pushed = record {
    sized = set_long ls i w;
    noted = (w, set_here ls i v w is, subst (λ (l : List ℕ). Contains l k) (sym pushed) (Contains-push v.items k));
    kept = grown (λ x c. subst (λ (l : List ℕ). Contains l x) (sym pushed) (Contains-append_left v.items (k ∷ []) x c));
    only = λ b x new. by_push b x new (here_or_apart b i);
  }
    where
      by_push : (b x : ℕ) → Waiter (set ls i w) b x → (b ≡ i) ⊎ (b ≡ i → ⊥) → Waiter ls b x ⊎ (x ≡ k)
      by_push b x new (inr apart) = inl (new.0, sym (set_apart ls i b w apart) ∙ new.1, new.2)
      by_push b x new (inl here) =
          let same : new.0 ≡ w = same_Some _ _ (sym new.1 ∙ (ap (slice_get (set ls i w)) here ∙ set_here ls i v w is)) in
          let at : Contains (v.items ++ k ∷ []) x = subst (λ (l : List ℕ). Contains l x) pushed (subst (λ (y : Vec ℕ Z). Contains y.items x) same new.2) in
          elim (Contains-push_cases v.items k x at) [
            | inl old ↦ inl (v, ap (slice_get ls) here ∙ is, old)
            | inr is_k ↦ inr (sym is_k)
          ]

  pub released_set : (queue longer : List ℕ) → w.items ≡ [] → longer ≡ queue ++ v.items → IsReleased ls i queue (set ls i w) longer
  released_set queue longer none appended = record {
    sized = set_long ls i w;
    moved = λ k old.
        let same : old.0 ≡ v = same_Some _ _ (sym old.1 ∙ is) in
        subst (λ (l : List ℕ). Contains l k) (sym appended) (Contains-append_right queue v.items k (subst (λ (x : Vec ℕ Z). Contains x.items k) same old.2));
    queued = λ k c. subst (λ (l : List ℕ). Contains l k) (sym appended) (Contains-append_left queue v.items k c);
    kept = λ b k apart old. (old.0, set_apart ls i b w apart ∙ old.1, old.2);
    only = λ b k new. elim (was b k new) [ inl old ↦ old | inr c ↦ absurd (contains_none k (subst (λ (l : List ℕ). Contains l k) none c)) ];
    from = λ k c. elim (Contains-append_cases queue v.items k (subst (λ (l : List ℕ). Contains l k) appended c)) [
      | inl old ↦ inl old
      | inr moved ↦ inr (v, is, moved)
    ];
  }

-- no list has anyone
pub no_waiter : {Z : Type 0} (ls : List (Vec ℕ Z)) → All (λ (v : Vec ℕ Z). v.items ≡ []) ls → (j k : ℕ) → Waiter ls j k → ⊥
no_waiter {Z} ls empty j k w =
    let none = empty j w.0 (slice_get_within ls j w.0 w.1) in
    let is = get_or_from_slice_get ls j w.0 w.0 w.1 in
    contains_none k (subst (λ (l : List ℕ). Contains l k) (sym (ap (λ (x : Vec ℕ Z). x.items) is) ∙ none) w.2)

-- ---- the numbers below a number

pub record AreBelow (n : ℕ) (xs : List ℕ) : Type 0 where
  pub all : (k : ℕ) → k < n → Contains xs k
  pub within : (k : ℕ) → Contains xs k → k < n

pub none_below : AreBelow 0 []
none_below = record { all = λ k h. absurd (omega (arith, h)); within = λ k c. absurd (contains_none k c) }

pub one_below : (n : ℕ) (xs : List ℕ) → AreBelow n xs → AreBelow (n + 1) (xs ++ n ∷ [])
one_below n xs are = record {
  all = λ k h. elim (here_or_apart k n) [
    | inl here ↦ subst (λ (x : ℕ). Contains (xs ++ n ∷ []) x) (sym here) (Contains-push xs n)
    | inr apart ↦ Contains-append_left xs (n ∷ []) k (are.all k (omega (arith, h, apart)))
  ];
  within = λ k c. elim (Contains-push_cases xs n k c) [
    | inl old ↦ let less = are.within k old in omega (arith, less)
    | inr same ↦ omega (arith, same)
  ];
}
