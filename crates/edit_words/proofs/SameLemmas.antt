-- Paths in maps, and what is written at them.
use Rattle.std.proofs.Common.{◌≡◌, ◌⊎◌, suc, ℕ, Bool, true, false, ◌||◌, cond, List, [], ◌∷◌, length, Option, Some, None, refl, sym, ◌∙◌, ap, subst, arith, ◌≤◌, ◌-◌, slice_index_or, is_some, if◌then◌else◌, IsTrue}
use Rattle.std.specs.Option.{option_or}
use Rattle.std.specs.declared.cmp.Ordering.{Ordering}
use Rattle.std.specs.declared.cmp.Ordering.TheVariants.{Less, Equal, Greater}
use Rattle.std.specs.Ordering.{is_eq}
use Rattle.std.specs.Cmp.{tied_itself}
use Rattle.std.proofs.lemmas.Bool.{cases_Bool}
use Rattle.std.proofs.Common.{inl, inr}
use Rattle.dired_text.specs.Paths.{Names, path_cmp}
use Rattle.dired_text.proofs.PathLemmas.{path_cmp-total, path_cmp-exact}
use Rattle.edit_words.specs.declared.row.Route.{Route}
use Rattle.edit_words.specs.Rows.{is_same_path, is_at, route_to, last_name}

tied : (o : Ordering) → is_eq o ≡ true → o ≡ Equal
tied Less e = cc
tied Equal e = refl
tied Greater e = cc

-- paths that tie are the same
pub same_path : (p q : Names) → is_same_path p q ≡ true → p ≡ q
same_path p q e = path_cmp-exact p q (tied (path_cmp p q) e)

pub same_itself : (p : Names) → is_same_path p p ≡ true
same_itself p = ap is_eq (tied_itself path_cmp-total p)

pub same_swapped : (p q : Names) → is_same_path p q ≡ is_same_path q p
same_swapped p q = go (cases_Bool (is_same_path p q)) (cases_Bool (is_same_path q p))
  where
    go : (is_same_path p q ≡ true) ⊎ (is_same_path p q ≡ false) → (is_same_path q p ≡ true) ⊎ (is_same_path q p ≡ false) → is_same_path p q ≡ is_same_path q p
    go (inl a) (inl b) = a ∙ sym b
    go (inr a) (inr b) = a ∙ sym b
    go (inl a) (inr b) = let e : p ≡ q = same_path p q a in subst (λ r. is_same_path p r ≡ is_same_path r p) e refl
    go (inr a) (inl b) = let e : q ≡ p = same_path q p b in subst (λ r. is_same_path r q ≡ is_same_path q r) e refl

-- where a value is put under a key, it is that of each path that ties
pub put_at : {A : Type 0} (key p : Names) (f : Names → A) (other : A) → cond (is_same_path key p) (f key) other ≡ cond (is_same_path key p) (f p) other
put_at key p f other = go (cases_Bool (is_same_path key p))
  where
    go : (is_same_path key p ≡ true) ⊎ (is_same_path key p ≡ false) → cond (is_same_path key p) (f key) other ≡ cond (is_same_path key p) (f p) other
    go (inl a) = ap (λ (r : Names). cond (is_same_path key p) (f r) other) (same_path key p a)
    go (inr a) = rw a refl

or_none : {A : Type 0} (o : Option A) → option_or o None ≡ o
or_none None = refl
or_none (Some a) = refl

or_some : {A : Type 0} (o b : Option A) → IsTrue (is_some o) → o ≡ option_or o b
or_some None b is = cc
or_some (Some a) b is = refl

-- what becomes of a source that had nothing noted is noted,
pub route_noted : (source p : Names) (to : Option Names) (route : Route) (old : Names → Option Route) → old source ≡ None → route ≡ route_to source to
    → cond (is_same_path source p) (Some route) (old p) ≡ option_or (old p) (if is_at p (Some source) then Some (route_to p to) else None)
route_noted source p to route old none is = go (cases_Bool (is_same_path source p))
  where
    go : (is_same_path source p ≡ true) ⊎ (is_same_path source p ≡ false)
        → cond (is_same_path source p) (Some route) (old p) ≡ option_or (old p) (if is_at p (Some source) then Some (route_to p to) else None)
    go (inl a) =
        let e : source ≡ p = same_path source p a in
        subst (λ (q : Names). cond (is_same_path source q) (Some route) (old q) ≡ option_or (old q) (if is_same_path q source then Some (route_to q to) else None)) e
        (simp (same_itself source, none, is) refl)
    go (inr a) = let b : is_same_path p source ≡ false = same_swapped p source ∙ a in rw (a, b) (sym (or_none (old p)))

-- and one that had keeps it
pub route_kept : (source p : Names) (to : Option Names) (old : Names → Option Route) → IsTrue (is_some (old source))
    → old p ≡ option_or (old p) (if is_at p (Some source) then Some (route_to p to) else None)
route_kept source p to old some = go (cases_Bool (is_same_path p source))
  where
    go : (is_same_path p source ≡ true) ⊎ (is_same_path p source ≡ false) → old p ≡ option_or (old p) (if is_same_path p source then Some (route_to p to) else None)
    go (inl a) = let e : p ≡ source = same_path p source a in or_some (old p) _ (subst (λ (q : Names). IsTrue (is_some (old q))) (sym e) some)
    go (inr a) = rw a (sym (or_none (old p)))

-- ---- the last name of a path

-- the last name stands at the last place
pub last_at : (p : Names) (d : List ℕ) → 1 ≤ length p → slice_index_or p (length p - 1) d ≡ last_name p
last_at [] d some = absurd (omega (arith, some))
last_at (n ∷ []) d some = refl
last_at (n ∷ m ∷ p) d some = let e : length (n ∷ m ∷ p) - 1 ≡ suc (length (m ∷ p) - 1) = omega arith in rw e (last_at (m ∷ p) d (omega arith))

-- a path that is put into a set is there
pub path_added : (path p : Names) (b : Bool) → cond (is_same_path path p) true b ≡ (b || is_same_path p path)
path_added path p b = ap (λ (t : Bool). cond t true b) (same_swapped path p) ∙ go (is_same_path p path) b
  where
    go : (t b : Bool) → cond t true b ≡ (b || t)
    go true true = refl
    go true false = refl
    go false true = refl
    go false false = refl
