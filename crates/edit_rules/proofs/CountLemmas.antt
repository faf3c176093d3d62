-- How many different paths there are.
use Rattle.std.proofs.Common.{◌≡◌, ◌≤◌, ◌+◌, ℕ, Bool, true, false, cond, not, ◌||◌, List, [], ◌∷◌, ◌++◌, length, refl, sym, ◌∙◌, ap, arith}
use Rattle.std.proofs.lemmas.Bool.{false≢true}
use Rattle.std.specs.List.{list_any}
use Rattle.std.specs.BTreeSet.{BTreeSet, contains, btree_set_len}
use Rattle.dired_text.specs.Paths.{Names, path_cmp}
use Rattle.edit_words.specs.Rows.{is_same_path}
use Rattle.edit_words.specs.Counting.{different}
use Rattle.edit_rules.specs.PathSets.{HasPaths}
use Rattle.edit_words.proofs.SameLemmas.{same_path, same_swapped, path_added}

abbrev one_if : Bool → ℕ
one_if b = cond b 1 0

abbrev one_unless : Bool → ℕ
one_unless b = cond b 0 1

any_pushed : (test : Names → Bool) (ps : List Names) (p : Names) → list_any test (ps ++ p ∷ []) ≡ (list_any test ps || test p)
any_pushed test [] p = or_false (test p)
  where
    or_false : (b : Bool) → (b || false) ≡ b
    or_false true = refl
    or_false false = refl
any_pushed test (x ∷ ps) p = ap (λ (b : Bool). test x || b) (any_pushed test ps p) ∙ grouped (test x) (list_any test ps) (test p)
  where
    grouped : (a b c : Bool) → (a || (b || c)) ≡ ((a || b) || c)
    grouped true b c = refl
    grouped false b c = refl

-- a path behind, the same as one before or not
counted : (a b s : Bool) (d : ℕ) → (s ≡ true → a ≡ b) → cond (a || s) 0 1 + (d + cond b 0 1) ≡ (cond a 0 1 + d) + cond (s || b) 0 1
counted true true true d same = omega arith
counted true true false d same = omega arith
counted true false true d same = absurd (false≢true (sym (same refl)))
counted true false false d same = omega arith
counted false true true d same = absurd (false≢true (same refl))
counted false true false d same = omega arith
counted false false true d same = omega arith
counted false false false d same = omega arith

-- a path behind others counts where it is none of them
pub different_pushed : (ps : List Names) (p : Names) → different (ps ++ p ∷ []) ≡ different ps + cond (list_any (is_same_path p) ps) 0 1
different_pushed [] p = refl
different_pushed (x ∷ ps) p =
    ap (λ (b : Bool). cond b 0 1 + different (ps ++ p ∷ [])) (any_pushed (is_same_path x) ps p)
    ∙ ap (λ (n : ℕ). cond (list_any (is_same_path x) ps || is_same_path x p) 0 1 + n) (different_pushed ps p)
    ∙ counted (list_any (is_same_path x) ps) (list_any (is_same_path p) ps) (is_same_path x p) (different ps) (λ e. ap (λ (q : Names). list_any (is_same_path q) ps) (same_path x p e))
    ∙ ap (λ (s : Bool). (cond (list_any (is_same_path x) ps) 0 1 + different ps) + cond (s || list_any (is_same_path p) ps) 0 1) (same_swapped x p)

-- a path put into a set
pub has_pushed : (old new : BTreeSet Names) (p : Names) (added : Bool) (ps : List Names)
    → ((q : Names) → contains path_cmp new q ≡ cond (is_same_path p q) true (contains path_cmp old q))
    → added ≡ not (contains path_cmp old p)
    → btree_set_len new ≡ btree_set_len old + cond added 1 0
    → HasPaths old ps → HasPaths new (ps ++ p ∷ [])
has_pushed old new p added ps puts is more has = record {
  has = λ q. puts q ∙ path_added p q (contains path_cmp old q) ∙ ap (λ (b : Bool). b || is_same_path q p) (has.has q) ∙ sym (any_pushed (is_same_path q) ps p);
  len =
      more
      ∙ ap (λ (n : ℕ). n + cond added 1 0) has.len
      ∙ ap (λ (n : ℕ). different ps + n) (routed added (contains path_cmp old p) is ∙ ap (λ (b : Bool). one_unless b) (has.has p))
      ∙ sym (different_pushed ps p);
}
  where
    routed : (new there : Bool) → new ≡ not there → cond new 1 0 ≡ one_unless there
    routed new true e = ap (λ (b : Bool). one_if b) e
    routed new false e = ap (λ (b : Bool). one_if b) e

-- there are at most as many different paths as paths
pub different_few : (ps : List Names) → different ps ≤ length ps
different_few [] = omega arith
different_few (p ∷ ps) = one (list_any (is_same_path p) ps) (different_few ps)
  where
    one : (b : Bool) → different ps ≤ length ps → one_unless b + different ps ≤ length (p ∷ ps)
    one true less = omega (arith, less)
    one false less = omega (arith, less)
