-- A number that is put below another one.
use Rattle.std.proofs.Common.{◌≡◌, ◌≢◌, ◌⊎◌, inl, inr, ◌<◌, ◌+◌, ℕ, zero, suc, true, false, cond, List, [], ◌∷◌, ◌++◌, length, length-set, set, slice_get, Option, Some, None, option_and_then, eqb, refl, sym, ◌∙◌, ap, arith}
use Rattle.std.proofs.lemmas.Bool.{cases_Bool}
use Rattle.std.proofs.lemmas.Bool.Decides.{eqb_tells}
use Rattle.std.proofs.lemmas.Option.{same_Some, none-some, slice_get_past}
use Rattle.std.specs.BTreeMap.{BTreeMap, get}
use Rattle.std.specs.Ordering.{is_eq, nat_cmp}
use Rattle.std.specs.Cmp.Lexicographic.{slice_cmp}
use Rattle.dired_text.specs.Paths.{Names}
use Rattle.path_map.specs.Walks.{Below, IsBelow, IsLinked, child, value_of, walk}
use Rattle.path_map.proofs.ListLemmas.{got_set, got_beside, name_itself, same_edge, same_name}
use Rattle.path_map.proofs.WalkLemmas.{step, stepped}

-- a map with a name more
pub entry_linked : (below : Below) (at next : ℕ) (name : List ℕ) (old new : BTreeMap (List ℕ) ℕ) → at < length below → slice_get below at ≡ Some old
    → ((n : List ℕ) → get (slice_cmp nat_cmp) new n ≡ cond (is_eq (slice_cmp nat_cmp name n)) (Some next) (get (slice_cmp nat_cmp) old n))
    → IsLinked below (set below at new) at name next
entry_linked below at next name old new made is updated = record {
  linked = ap (option_and_then (λ m. get (slice_cmp nat_cmp) m name)) (got_set below at new made) ∙ updated name ∙ ap (λ b. cond b (Some next) (get (slice_cmp nat_cmp) old name)) (name_itself name);
  others = λ i n other. go i n other (cases_Bool (is_eq (slice_cmp nat_cmp name n)));
  length = length-set below at new;
}
  where
    go : (i : ℕ) (n : List ℕ) → ((i ≡ at) × (n ≡ name) → ⊥) → (is_eq (slice_cmp nat_cmp name n) ≡ true) ⊎ (is_eq (slice_cmp nat_cmp name n) ≡ false) → child (set below at new) i n ≡ child below i n
    go i n other (inl same) = ap (option_and_then (λ m. get (slice_cmp nat_cmp) m n)) (got_beside below at i new (λ e. other (e, sym (same_name name n same))))
    go i n other (inr differs) = by (eqb_tells i at)
      where
        by : ((eqb i at ≡ true) × (i ≡ at)) ⊎ ((eqb i at ≡ false) × (i ≢ at)) → child (set below at new) i n ≡ child below i n
        by (inr beside) = ap (option_and_then (λ m. get (slice_cmp nat_cmp) m n)) (got_beside below at i new beside.1)
        by (inl e) =
            ap (λ k. child (set below at new) k n) e.1
            ∙ ap (option_and_then (λ m. get (slice_cmp nat_cmp) m n)) (got_set below at new made)
            ∙ updated n ∙ ap (λ b. cond b (Some next) (get (slice_cmp nat_cmp) old n)) differs
            ∙ sym (ap (option_and_then (λ m. get (slice_cmp nat_cmp) m n)) is)
            ∙ sym (ap (λ k. child below k n) e.1)

-- a number with nothing below it
pub child_beside : (below : Below) (empty : BTreeMap (List ℕ) ℕ) (i : ℕ) (n : List ℕ) → get (slice_cmp nat_cmp) empty n ≡ None → child (below ++ empty ∷ []) i n ≡ child below i n
child_beside [] empty zero n none = none
child_beside [] empty (suc i) n none = refl
child_beside (m ∷ below) empty zero n none = refl
child_beside (m ∷ below) empty (suc i) n none = child_beside below empty i n none

-- a new number under a name that was free
pub record IsEntered (old new : Below) (at : ℕ) (name : List ℕ) : Type 0 where
  pub made : at < length old
  pub free : child old at name ≡ None
  pub linked : child new at name ≡ Some (length old)
  pub others : (i : ℕ) (n : List ℕ) → ((i ≡ at) × (n ≡ name) → ⊥) → child new i n ≡ child old i n
  pub longer : length new ≡ length old + 1

module _ (old new : Below) (at : ℕ) (name : List ℕ) (e : IsEntered old new at name) where
  pub edge_kept : (i j : ℕ) (n : List ℕ) → child old i n ≡ Some j → child new i n ≡ Some j
  edge_kept i j n edge = go (same_edge i at n name)
    where
      go : ((i ≡ at) × (n ≡ name)) ⊎ ((i ≡ at) × (n ≡ name) → ⊥) → child new i n ≡ Some j
      go (inl same) = absurd (none-some j (sym e.free ∙ sym (ap (λ k. child old k name) same.0) ∙ sym (ap (child old i) same.1) ∙ edge))
      go (inr other) = e.others i n other ∙ edge

  pub edge_back : (i j : ℕ) (n : List ℕ) → child new i n ≡ Some j → (child old i n ≡ Some j) ⊎ ((i ≡ at) × (n ≡ name) × (j ≡ length old))
  edge_back i j n edge = go (same_edge i at n name)
    where
      go : ((i ≡ at) × (n ≡ name)) ⊎ ((i ≡ at) × (n ≡ name) → ⊥) → (child old i n ≡ Some j) ⊎ ((i ≡ at) × (n ≡ name) × (j ≡ length old))
      go (inl same) = inr (same.0, same.1, same_Some j (length old) (sym edge ∙ ap (child new i) same.1 ∙ ap (λ k. child new k name) same.0 ∙ e.linked))
      go (inr other) = inl (sym (e.others i n other) ∙ edge)

  pub below_entered : IsBelow old → IsBelow new
  below_entered is = record {
    later = λ i j n edge. later i j n (edge_back i j n edge);
    one = λ i k j n o a b. one i k j n o (edge_back i j n a) (edge_back k j o b);
  }
    where
      later : (i j : ℕ) (n : List ℕ) → (child old i n ≡ Some j) ⊎ ((i ≡ at) × (n ≡ name) × (j ≡ length old)) → (i < j) × (j < length new)
      later i j n (inl edge) =
          let both = is.later i j n edge in
          let made : j < length old = both.1 in
          let longer : length new ≡ length old + 1 = e.longer in
          (both.0, omega (arith, made, longer))
      later i j n (inr same) =
          let made : at < length old = e.made in
          let longer : length new ≡ length old + 1 = e.longer in
          let a : i ≡ at = same.0 in
          let b : j ≡ length old = same.2 in
          (omega (arith, made, a, b), omega (arith, longer, b))

      one : (i k j : ℕ) (n o : List ℕ) → (child old i n ≡ Some j) ⊎ ((i ≡ at) × (n ≡ name) × (j ≡ length old)) → (child old k o ≡ Some j) ⊎ ((k ≡ at) × (o ≡ name) × (j ≡ length old)) → (i ≡ k) × (n ≡ o)
      one i k j n o (inl a) (inl b) = is.one i k j n o a b
      one i k j n o (inl a) (inr b) = let made : j < length old = (is.later i j n a).1 in let fresh : j ≡ length old = b.2 in absurd (omega (arith, made, fresh))
      one i k j n o (inr a) (inl b) = let made : j < length old = (is.later k j o b).1 in let fresh : j ≡ length old = a.2 in absurd (omega (arith, made, fresh))
      one i k j n o (inr a) (inr b) = (a.0 ∙ sym b.0, a.1 ∙ sym b.1)

  pub walk_kept : (i j : ℕ) (p : Names) → walk old i p ≡ Some j → walk new i p ≡ Some j
  walk_kept i j [] w = w
  walk_kept i j (n ∷ p) w = let s = stepped old i j n p w in step new i s.0 n p (Some j) (edge_kept i s.0 n s.1) (walk_kept s.0 j p s.2)

  past : (n : List ℕ) → child new (length old) n ≡ None
  past n =
      let made : at < length old = e.made in
      e.others (length old) n (λ same. let s : length old ≡ at = same.0 in omega (arith, made, s)) ∙ ap (option_and_then (λ m. get (slice_cmp nat_cmp) m n)) (slice_get_past old (length old) (omega arith))

  -- a walk led there before, or leads to the new number
  pub walk_back : (i j : ℕ) (p : Names) → walk new i p ≡ Some j → (walk old i p ≡ Some j) ⊎ (j ≡ length old)
  walk_back i j [] w = inl w
  walk_back i j (n ∷ p) w = let s = stepped new i j n p w in by (λ (k : ℕ) (r : walk new k p ≡ Some j). walk_back k j p r) s.0 (edge_back i s.0 n s.1) s.2
    where
      inner : (k : ℕ) → child old i n ≡ Some k → (walk old k p ≡ Some j) ⊎ (j ≡ length old) → (walk old i (n ∷ p) ≡ Some j) ⊎ (j ≡ length old)
      inner k edge (inl before) = inl (step old i k n p (Some j) edge before)
      inner k edge (inr fresh) = inr fresh

      outer : (k : ℕ) (q : Names) → k ≡ length old → walk new k q ≡ Some j → j ≡ length old
      outer k [] same rest = sym (same_Some k j rest) ∙ same
      outer k (m ∷ q) same rest =
          let s = stepped new k j m q rest in
          absurd (none-some s.0 (sym (past m) ∙ sym (ap (λ (i : ℕ). child new i m) same) ∙ s.1))

      by : ((k : ℕ) → walk new k p ≡ Some j → (walk old k p ≡ Some j) ⊎ (j ≡ length old)) → (k : ℕ)
          → (child old i n ≡ Some k) ⊎ ((i ≡ at) × (n ≡ name) × (k ≡ length old)) → walk new k p ≡ Some j → (walk old i (n ∷ p) ≡ Some j) ⊎ (j ≡ length old)
      by later k (inl edge) rest = inner k edge (later k rest)
      by later k (inr same) rest = inr (outer k p same.2 rest)

module _ {V : Type 0} where
  value_past : (values : List (Option V)) (j : ℕ) → value_of (values ++ None ∷ []) j ≡ value_of values j
  value_past [] zero = refl
  value_past [] (suc j) = refl
  value_past (v ∷ values) zero = refl
  value_past (v ∷ values) (suc j) = value_past values j

  -- the new number has no value, and the others keep theirs
  pub value_kept : (old new : Below) (at : ℕ) (name : List ℕ) (values : List (Option V)) (p : Names) → IsEntered old new at name → length values ≡ length old
      → option_and_then (value_of (values ++ None ∷ [])) (walk new 0 p) ≡ option_and_then (value_of values) (walk old 0 p)
  value_kept old new at name values p e counted = go (walk old 0 p) (walk new 0 p) refl refl
    where
      go : (o n : Option ℕ) → walk old 0 p ≡ o → walk new 0 p ≡ n → option_and_then (value_of (values ++ None ∷ [])) n ≡ option_and_then (value_of values) o
      go None None a b = refl
      go None (Some j) a b = by (walk_back old new at name e 0 j p b)
        where
          by : (walk old 0 p ≡ Some j) ⊎ (j ≡ length old) → value_of (values ++ None ∷ []) j ≡ None
          by (inl some) = absurd (none-some j (sym a ∙ some))
          by (inr fresh) = value_past values j ∙ ap (option_and_then (λ (o : Option V). o)) (slice_get_past values j (let n : j ≡ length old = fresh in let c : length values ≡ length old = counted in omega (arith, n, c)))
      go (Some i) None a b = absurd (none-some i (sym b ∙ walk_kept old new at name e 0 i p a))
      go (Some i) (Some j) a b =
          let same : i ≡ j = same_Some i j (sym (walk_kept old new at name e 0 i p a) ∙ b) in
          value_past values j ∙ ap (value_of values) (sym same)
