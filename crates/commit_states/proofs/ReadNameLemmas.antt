-- The names in the staging directory are read whole.
use Rattle.std.proofs.Common.{◌≡◌, inl, inr, ⊎_elim, ℕ, suc, Bool, true, false, not, ◌&&◌, ◌||◌, List, [], ◌∷◌, refl, sym, ◌∙◌, ap, subst, arith}
use Rattle.std.proofs.lemmas.Bool.{cases_Bool}
use Rattle.std.proofs.lemmas.Map.Text.{is_eq-slice_cmp}
use Rattle.std.proofs.lemmas.Map.Views.{any-filter_same, All-after_first}
use Rattle.std.proofs.lemmas.Map.Keys.{sorted_tail}
use Rattle.std.proofs.lemmas.List.Kept.{IsStrictlySortedBy-filter}
use Rattle.std.proofs.lemmas.Slice.Eq.{bytes_eq-Decides}
use Rattle.std.specs.List.{AllByRecursion, filter, list_any}
use Rattle.std.specs.Prelude.{All}
use Rattle.std.specs.Str.{bytes_eq}
use Rattle.std.specs.Ordering.{nat_cmp, is_eq}
use Rattle.std.specs.Cmp.Lexicographic.{slice_cmp}
use Rattle.std.specs.declared.cmp.Ordering.TheVariants.{Less}
use Rattle.tree_core.specs.Fields.{RiseStrictly, names_in}
use Rattle.tree_core.specs.FileTree.{FileTree, Stands}
use Rattle.tree_core.proofs.NameLemmas.{names_stand, names_rise}
use Rattle.commit_steps.specs.Staging.{staging, staged}
use Rattle.commit_states.specs.Reads.{IsNamed, AreOnce, AreRead, items_in}
use Rattle.commit_states.proofs.ReadLemmas.{IsItem}

or_first : (a b : Bool) → a ≡ true → (a || b) ≡ true
or_first true b e = refl
or_first false b e = cc

or_second : (a b : Bool) → b ≡ true → (a || b) ≡ true
or_second true b e = refl
or_second false b e = e

or_rest : (a b : Bool) → a ≡ false → (a || b) ≡ true → b ≡ true
or_rest true b f e = cc
or_rest false b f e = e

and_parts : (a b : Bool) → (a && b) ≡ true → (a ≡ true) × (b ≡ true)
and_parts true b e = (refl, e)
and_parts false b e = cc

abbrev is_in : List ℕ → List (List ℕ) → Bool
is_in name names = list_any (bytes_eq name) names

named_in : (t : FileTree) (name : List ℕ) (names : List (List ℕ)) → is_in name names ≡ true → IsNamed name (items_in t names)
named_in t name [] e = cc
named_in t name (n ∷ names) e = ⊎_elim (λ same. inl ((bytes_eq-Decides name n).0 same)) (λ other. inr (named_in t name names (or_rest (bytes_eq name n) (is_in name names) other e))) (cases_Bool (bytes_eq name n))

items_each : (t : FileTree) (Left : List ℕ → Type 0) (names : List (List ℕ)) → ((n : List ℕ) → is_in n names ≡ true → (Left n → ⊥) × Stands t (staged n)) → AllByRecursion (IsItem t Left) (items_in t names)
items_each t Left [] each = tt
items_each t Left (n ∷ names) each =
    let here = each n (or_first (bytes_eq n n) (is_in n names) ((bytes_eq-Decides n n).1 refl)) in
    ((here.0, here.1, refl), items_each t Left names (λ m e. each m (or_second (bytes_eq m n) (is_in m names) e)))

not_below : (n : List ℕ) → slice_cmp nat_cmp n n ≡ Less → ⊥
not_below n less = let e : true ≡ false = sym (is_eq-slice_cmp n n ∙ (bytes_eq-Decides n n).1 refl) ∙ ap is_eq less in cc

not_later : (t : FileTree) (n : List ℕ) (names : List (List ℕ)) → All (λ y. slice_cmp nat_cmp n y ≡ Less) names → IsNamed n (items_in t names) → ⊥
not_later t n [] below is = is
not_later t n (m ∷ names) below (inl same) = not_below n (subst (λ y. slice_cmp nat_cmp n y ≡ Less) (sym same) (below 0 m (omega arith)))
not_later t n (m ∷ names) below (inr more) = not_later t n names (λ k d lt. below (suc k) d (omega arith)) more

items_once : (t : FileTree) (names : List (List ℕ)) → RiseStrictly names → AreOnce (items_in t names)
items_once t [] rise = tt
items_once t (n ∷ names) rise = (not_later t n names (All-after_first (slice_cmp nat_cmp) n names rise), items_once t names (sorted_tail (slice_cmp nat_cmp) n names rise))

pub names_read : (t : FileTree) → AreRead t (λ name. ⊥) (items_in t (names_in t staging))
names_read t = record {
  each = items_each t (λ name. ⊥) (names_in t staging) (λ n e. ((λ nothing. nothing), sym (names_stand t staging n) ∙ e));
  once = items_once t (names_in t staging) (names_rise t staging);
  all = λ name stands. inr (named_in t name (names_in t staging) (names_stand t staging name ∙ stands));
}

module _ (t : FileTree) (journal : List ℕ) where
  abbrev kept : List ℕ → Bool
  kept name = not (bytes_eq journal name)

  abbrev others : List (List ℕ)
  others = filter kept (names_in t staging)

  in_others : (n : List ℕ) → is_in n others ≡ (kept n && is_in n (names_in t staging))
  in_others n = any-filter_same (bytes_eq n) kept (kept n) (λ k e. ap kept (sym ((bytes_eq-Decides n k).0 e))) (names_in t staging)

  no_journal : (n : List ℕ) → kept n ≡ true → n ≡ journal → ⊥
  no_journal n e same = let yes_is : bytes_eq journal n ≡ true = (bytes_eq-Decides journal n).1 (sym same) in let clash : false ≡ true = sym (ap not yes_is) ∙ e in cc

  pub others_read : AreRead t (λ name. name ≡ journal) (items_in t others)
  others_read = record {
    each = items_each t (λ name. name ≡ journal) others (λ n e. let p = and_parts (kept n) (is_in n (names_in t staging)) (sym (in_others n) ∙ e) in (no_journal n p.0, sym (names_stand t staging n) ∙ p.1));
    once = items_once t others (IsStrictlySortedBy-filter (slice_cmp nat_cmp) kept (names_in t staging) (names_rise t staging));
    all = λ name stands. ⊎_elim
        (λ same. inl (sym ((bytes_eq-Decides journal name).0 same)))
        (λ other. inr (named_in t name others (in_others name ∙ ap (λ b. not b && is_in name (names_in t staging)) other ∙ names_stand t staging name ∙ stands)))
        (cases_Bool (bytes_eq journal name));
  }
