-- The paths of steps: outside of the staging directory, or entries in it.
use Rattle.std.proofs.Common.{◌≡◌, ◌≢◌, inl, inr, ℕ, ◌<◌, ◌^◌, List, [], ◌∷◌, ◌++◌, refl, sym, ◌∙◌, ap, subst, Option, Some, None}
use Rattle.std.specs.Prelude.{Contains}
use Rattle.std.specs.List.{AllByRecursion}
use Rattle.std.proofs.lemmas.Bool.{cond-true, cond-false, cases_Bool}
use Rattle.dired_text.specs.Paths.{Names, parent, rest_below}
use Rattle.commit_steps.specs.declared.step.Step.TheVariants.{Rename}
use Rattle.commit_steps.specs.Staging.{staging_name, staged, temporary, held, fresh_name}
use Rattle.commit_steps.specs.Steps.{IsOutside, IsEntryPath, IsLawfulStep}
use Rattle.edit_words.specs.declared.row.Row.{Row}
use Rattle.edit_words.specs.declared.row.Route.{Route}
use Rattle.edit_words.specs.declared.row.Route.TheVariants.{Named, Sent}
use Rattle.edit_words.specs.Place.{routed, place}
use Rattle.edit_words.specs.Rows.{row_from, route_of, route_by, route_to, is_same_path, last_name}
use Rattle.edit_words.specs.Sight.{Sight}
use Rattle.edit_words.proofs.SameLemmas.{same_path}
use Rattle.edit_laws.proofs.ListLemmas.{contains_head, contains_tail}
use Rattle.edit_laws.proofs.PlaceLemmas.{by_last, place-push}
use Rattle.edit_laws.proofs.RowLemmas.{front_last, row_from-some}
use Rattle.dired_text.proofs.PathLemmas.{parent-push}
use Rattle.plan_laws.proofs.AtSource.{none_below}
use Rattle.plan_journals.proofs.Taken.{AreTaken}

pub held_entry : (n : ℕ) → n < 2 ^ 32 → IsEntryPath (staged (held n))
held_entry n small = record { name = held n; is = refl; entry = record { number = n; small = small; named = inr (inl refl) } }

pub temporary_entry : (n : ℕ) → n < 2 ^ 32 → IsEntryPath (staged (temporary n))
temporary_entry n small = record { name = temporary n; is = refl; entry = record { number = n; small = small; named = inl refl } }

pub fresh_entry : (n : ℕ) → n < 2 ^ 32 → IsEntryPath (staged (fresh_name n))
fresh_entry n small = record { name = fresh_name n; is = refl; entry = record { number = n; small = small; named = inr (inr refl) } }

-- a path outside and one inside are apart
outside_staged : (p : Names) (name : List ℕ) → IsOutside p → (rest_below p (staged name) ≡ None) × (rest_below (staged name) p ≡ None)
outside_staged [] name out = absurd out
outside_staged (x ∷ p) name out = (
  none_below (x ∷ p) (staged name) (λ r e. let first : staging_name ≡ x = cc in out (sym first)),
  none_below (staged name) (x ∷ p) (λ r e. let first : x ≡ staging_name = cc in out first),
)

pub put_in : (p q : Names) → IsOutside p → IsEntryPath q → IsLawfulStep (Rename p q)
put_in p q out entry = let apart = outside_staged p entry.name out in (
  inl out,
  inr entry,
  ap (rest_below p) entry.is ∙ apart.0,
  ap (λ (x : Names). rest_below x p) entry.is ∙ apart.1,
)

pub put_out : (p q : Names) → IsEntryPath p → IsOutside q → IsLawfulStep (Rename p q)
put_out p q entry out = let apart = outside_staged q entry.name out in (
  inr entry,
  inl out,
  ap (λ (x : Names). rest_below x q) entry.is ∙ apart.1,
  ap (rest_below q) entry.is ∙ apart.0,
)

-- what has an outside path below it and isn't the root is outside, and what is below an outside path
pub outside_above : (p r : Names) → p ≢ [] → IsOutside (p ++ r) → IsOutside p
outside_above [] r root out = root refl
outside_above (x ∷ p) r root out = out

pub outside_below : (p r : Names) → IsOutside p → IsOutside (p ++ r)
outside_below [] r out = absurd out
outside_below (x ∷ p) r out = out

pub outside_root : (p : Names) → IsOutside p → p ≢ []
outside_root [] out e = out
outside_root (x ∷ p) out e = cc

-- ---- all of a list

pub all-append : {X : Type 0} (P : X → Type 0) (xs ys : List X) → AllByRecursion P xs → AllByRecursion P ys → AllByRecursion P (xs ++ ys)
all-append P [] ys a b = b
all-append P (x ∷ xs) ys a b = (a.0, all-append P xs ys a.1 b)

pub all_listed : {X : Type 0} (P : X → Type 0) (xs : List X) → ((x : X) → Contains xs x → P x) → AllByRecursion P xs
all_listed P [] each = tt
all_listed P (x ∷ xs) each = (each x (contains_head x xs), all_listed P xs (λ y c. each y (contains_tail x y xs c)))

-- ---- new places are outside

module _ (sight : Sight) (rs : List Row) (set : AreTaken sight rs) where
  pushed : (q : Names) (n name : List ℕ) → IsOutside (q ++ n ∷ []) → (IsOutside q → IsOutside (place (route_of rs) q)) → (q ≡ [] → name ≢ staging_name) → IsOutside (place (route_of rs) q ++ name ∷ [])
  pushed [] n name out before at_root = at_root refl
  pushed (x ∷ q) n name out before at_root = outside_below (place (route_of rs) (x ∷ q)) (name ∷ []) (before out)

  own_name : (q : Names) (n : List ℕ) → IsOutside (q ++ n ∷ []) → q ≡ [] → n ≢ staging_name
  own_name [] n out root = out
  own_name (x ∷ q) n out root = absurd cc

  other_name : (q w : Names) → IsOutside w → q ≡ parent w → q ≡ [] → last_name w ≢ staging_name
  other_name q w out same root = subst IsOutside (front_last w (outside_root w out) ∙ ap (λ (l : Names). l ++ last_name w ∷ []) (sym same ∙ root)) out

  place_of : (q : Names) (n : List ℕ) → (IsOutside q → IsOutside (place (route_of rs) q)) → IsOutside (q ++ n ∷ []) → IsOutside (routed (route_of rs (q ++ n ∷ [])) (place (route_of rs) q) n)
  place_of q n before out = by_row (row_from rs (q ++ n ∷ [])) refl
    where
      by_to : (o : Option Names) → ((w : Names) → o ≡ Some w → IsOutside w) → IsOutside (routed (route_to (q ++ n ∷ []) o) (place (route_of rs) q) n)
      by_to None outs = pushed q n n out before (own_name q n out)
      by_to (Some w) outs = elim (cases_Bool (is_same_path (parent (q ++ n ∷ [])) (parent w))) [
        | inl near ↦ subst (λ (r : Route). IsOutside (routed r (place (route_of rs) q) n)) (sym (cond-true _ (Named (last_name w)) (Sent w) near))
            (pushed q n (last_name w) out before (other_name q w (outs w refl) (sym (parent-push q n) ∙ same_path (parent (q ++ n ∷ [])) (parent w) near)))
        | inr far ↦ subst (λ (r : Route). IsOutside (routed r (place (route_of rs) q) n)) (sym (cond-false _ (Named (last_name w)) (Sent w) far)) (outs w refl)
      ]

      by_row : (o : Option Row) → row_from rs (q ++ n ∷ []) ≡ o → IsOutside (routed (route_of rs (q ++ n ∷ [])) (place (route_of rs) q) n)
      by_row None e = subst (λ (o : Option Row). IsOutside (routed (route_by (q ++ n ∷ []) o) (place (route_of rs) q) n)) (sym e) (pushed q n n out before (own_name q n out))
      by_row (Some r) e = subst (λ (o : Option Row). IsOutside (routed (route_by (q ++ n ∷ []) o) (place (route_of rs) q) n)) (sym e)
          (by_to r.to (λ w to. set.outside r w (row_from-some rs (q ++ n ∷ []) r e).0 (inr to)))

  pub place_outside : (s : Names) → IsOutside s → IsOutside (place (route_of rs) s)
  place_outside = by_last (λ (s : Names). IsOutside s → IsOutside (place (route_of rs) s)) (λ out. absurd out)
      (λ q n before out. subst IsOutside (sym (place-push (route_of rs) q n)) (place_of q n before out))
