-- Filters: one behind another, and what no longer passes a test.
use Rattle.std.proofs.Common.{◌≡◌, inl, inr, Bool, true, false, cond, ◌&&◌, List, [], ◌∷◌, filter, refl, ◌∙◌, ap}
use Rattle.std.specs.Prelude.{Contains}
use Rattle.std.specs.List.{list_any}
use Rattle.std.proofs.lemmas.Bool.{cond-true, cond-false, cases_Bool, or_parts, or_from}
use Rattle.edit_laws.proofs.ListLemmas.{contains_head, contains_tail}

module _ {X : Type 0} where
  pub any_less : (p q : X → Bool) (xs : List X) → list_any p xs ≡ false → list_any p (filter q xs) ≡ false
  any_less p q [] e = refl
  any_less p q (x ∷ xs) e = let parts = or_parts (p x) (list_any p xs) e in elim (cases_Bool (q x)) [
    | inl in_q ↦ ap (list_any p) (cond-true (q x) (x ∷ filter q xs) (filter q xs) in_q) ∙ or_from _ _ parts.0 (any_less p q xs parts.1)
    | inr out ↦ ap (list_any p) (cond-false (q x) (x ∷ filter q xs) (filter q xs) out) ∙ any_less p q xs parts.1
  ]

  pub filter_swap : (p q : X → Bool) (xs : List X) → filter p (filter q xs) ≡ filter q (filter p xs)
  filter_swap p q [] = refl
  filter_swap p q (x ∷ xs) = go (filter_swap p q xs) (p x) (q x) refl refl
    where
      go : filter p (filter q xs) ≡ filter q (filter p xs) → (a b : Bool) → p x ≡ a → q x ≡ b → filter p (cond (q x) (x ∷ filter q xs) (filter q xs)) ≡ filter q (cond (p x) (x ∷ filter p xs) (filter p xs))
      go less true true ea eb = simp (ea, eb) (ap (λ (l : List X). x ∷ l) less)
      go less true false ea eb = simp (ea, eb) less
      go less false true ea eb = simp (ea, eb) less
      go less false false ea eb = simp (ea, eb) less

  pub filter_alike : (p q : X → Bool) (xs : List X) → ((x : X) → Contains xs x → p x ≡ q x) → filter p xs ≡ filter q xs
  filter_alike p q [] same = refl
  filter_alike p q (x ∷ xs) same =
      ap (λ (l : List X). cond (p x) (x ∷ l) l) (filter_alike p q xs (λ y c. same y (contains_tail x y xs c)))
      ∙ ap (λ (b : Bool). cond b (x ∷ filter q xs) (filter q xs)) (same x (contains_head x xs))

  pub filter_all : (xs : List X) → filter (λ (x : X). true) xs ≡ xs
  filter_all [] = refl
  filter_all (x ∷ xs) = ap (λ (l : List X). x ∷ l) (filter_all xs)

  pub filter_both : (p q : X → Bool) (xs : List X) → filter p (filter q xs) ≡ filter (λ (x : X). q x && p x) xs
  filter_both p q [] = refl
  filter_both p q (x ∷ xs) = go (filter_both p q xs) (p x) (q x) refl refl
    where
      go : filter p (filter q xs) ≡ filter (λ (x : X). q x && p x) xs → (a b : Bool) → p x ≡ a → q x ≡ b
          → filter p (cond (q x) (x ∷ filter q xs) (filter q xs)) ≡ cond (q x && p x) (x ∷ filter (λ (x : X). q x && p x) xs) (filter (λ (x : X). q x && p x) xs)
      go less true true ea eb = simp (ea, eb) (ap (λ (l : List X). x ∷ l) less)
      go less true false ea eb = simp (ea, eb) less
      go less false true ea eb = simp (ea, eb) less
      go less false false ea eb = simp (ea, eb) less
