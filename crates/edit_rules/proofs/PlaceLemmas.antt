-- The new place of a path, name by name.
use Rattle.std.proofs.Common.{◌≡◌, ◌⊎◌, inl, inr, ◌<◌, ◌≤◌, ◌+◌, ℕ, zero, suc, List, [], ◌∷◌, ◌++◌, length, map, take, drop, get_or, slice_get, refl, sym, ◌∙◌, ap, ap₂, subst, arith, Option, Some, None, option_map}
use Rattle.std.specs.Option.{unwrap_or}
use Rattle.std.proofs.lemmas.List.{take_more, drop_more, length-map}
use Rattle.std.proofs.lemmas.Option.{same_Some, slice_get-map, slice_get-get_or}
use Rattle.path_map.specs.Walks.{firsts}
use Rattle.edit_rules.specs.Standing.{IsBegun}
use Rattle.dired_text.specs.Paths.{Names}
use Rattle.edit_words.specs.declared.row.Row.{Row}
use Rattle.edit_words.specs.declared.row.Route.{Route}
use Rattle.edit_words.specs.declared.row.Route.TheVariants.{Stays, Sent}
use Rattle.edit_words.specs.Place.{place, placed, routed}
use Rattle.edit_words.specs.Rows.{route_by, route_to}

-- what becomes of a path, where it is noted only for sources
pub route_noted : (p : Names) (o : Option Row) → unwrap_or (option_map (λ (r : Row). route_to p r.to) o) Stays ≡ route_by p o
route_noted p None = refl
route_noted p (Some r) = refl

-- one name more
pub placed_next : (route : Names → Route) (path to next : Names) (i : ℕ) (name : List ℕ) → i < length path → name ≡ get_or path i name → next ≡ routed (route (take (i + 1) path)) to name
    → placed route (take i path) to (drop i path) ≡ place route path → placed route (take (i + 1) path) next (drop (i + 1) path) ≡ place route path
placed_next route path to next i name below is next_is so_far =
    let more : take (i + 1) path ≡ take i path ++ name ∷ [] = take_more path i name below ∙ ap (λ (n : List ℕ). take i path ++ n ∷ []) (sym is) in
    let rest : drop i path ≡ name ∷ drop (i + 1) path = drop_more path i name below ∙ ap (λ (n : List ℕ). n ∷ drop (i + 1) path) (sym is) in
    ap (λ (q : Names). placed route (take (i + 1) path) q (drop (i + 1) path)) next_is
    ∙ ap (λ (q : Names). placed route q (routed (route q) to name) (drop (i + 1) path)) more
    ∙ sym (ap (λ (l : Names). placed route (take i path) to l) rest)
    ∙ so_far

any_default : {A : Type 0} (xs : List A) (i : ℕ) (d e : A) → i < length xs → get_or xs i d ≡ get_or xs i e
any_default xs i d e less = same_Some (get_or xs i d) (get_or xs i e) (sym (slice_get-get_or xs i d less) ∙ slice_get-get_or xs i e less)

-- the first names of a path have some place, from which the rest is placed
reached : (route : Names → Route) (path : Names) (k : ℕ) → k ≤ length path → (to : Names) × (placed route (take k path) to (drop k path) ≡ place route path)
reached route path zero less = ([], refl)
reached route path (suc k) less =
    let r = reached route path k (omega (arith, less)) in
    let name = get_or path k [] in
    let next = routed (route (take (k + 1) path)) r.0 name in
    let more : k + 1 ≡ suc k = omega arith in
    (next, subst (λ (m : ℕ). placed route (take m path) next (drop m path) ≡ place route path) more (placed_next route path r.0 next k name (omega (arith, less)) (any_default path k [] name (omega (arith, less))) refl r.1))

-- where they are sent, that is it, whatever becomes of what is above
pub sent_there : (route : Names → Route) (path to : Names) (k : ℕ) → 0 < k → k ≤ length path → route (take k path) ≡ Sent to → placed route (take k path) to (drop k path) ≡ place route path
sent_there route path to zero some less sent = absurd (omega (arith, some))
sent_there route path to (suc k) some less sent =
    let r = reached route path k (omega (arith, less)) in
    let name = get_or path k [] in
    let more : suc k ≡ k + 1 = omega arith in
    let next : to ≡ routed (route (take (k + 1) path)) r.0 name = sym (ap (λ (t : Route). routed t r.0 name) (sym (ap (λ (m : ℕ). route (take m path)) more) ∙ sent)) in
    subst (λ (m : ℕ). placed route (take m path) to (drop m path) ≡ place route path) (sym more) (placed_next route path r.0 to k name (omega (arith, less)) (any_default path k [] name (omega (arith, less))) next r.1)

-- what was begun goes on
pub begun : (route : Names → Route) (path : Names) (len start : ℕ) (to : Names) (o : Option Route) → len ≤ length path → route (take len path) ≡ unwrap_or o Stays → IsBegun len o start to
    → placed route (take start path) to (drop start path) ≡ place route path
begun route path len start to o short is (inl none) = ap₂ (λ (m : ℕ) (q : Names). placed route (take m path) q (drop m path)) none.0 none.1
begun route path len start to o short is (inr sent) =
    ap (λ (m : ℕ). placed route (take m path) to (drop m path)) sent.0
    ∙ sent_there route path to len sent.1 short (is ∙ ap (λ (x : Option Route). unwrap_or x Stays) sent.2)

-- what becomes of the first names of a path
first_at : (p : Names) (k : ℕ) → k ≤ length p → slice_get (firsts p) k ≡ Some (take k p)
first_at [] zero less = refl
first_at [] (suc k) less = absurd (omega (arith, less))
first_at (n ∷ p) zero less = refl
first_at (n ∷ p) (suc k) less = slice_get-map (λ (q : Names). n ∷ q) (firsts p) k ∙ ap (option_map (λ (q : Names). n ∷ q)) (first_at p k (omega (arith, less)))

firsts_counted : (p : Names) → length (firsts p) ≡ length p + 1
firsts_counted [] = refl
firsts_counted (n ∷ p) =
    let later : length (firsts p) ≡ length p + 1 = firsts_counted p in
    let same : length (map (λ (q : Names). n ∷ q) (firsts p)) ≡ length (firsts p) = length-map (firsts p) (λ (q : Names). n ∷ q) in
    omega (arith, later, same)

module _ {A : Type 0} (h : Option A → Option Route) (items : List (Option A)) (f : Names → Option Route) (p : Names) (e : map h items ≡ map f (firsts p)) where
  pub routes_counted : length items ≡ length p + 1
  routes_counted = sym (length-map items h) ∙ ap length e ∙ length-map (firsts p) f ∙ firsts_counted p

  pub route_at : (k : ℕ) (x : Option A) → k ≤ length p → x ≡ get_or items k x → h x ≡ f (take k p)
  route_at k x less is =
      let many : length items ≡ length p + 1 = routes_counted in
      let got : slice_get items k ≡ Some x = slice_get-get_or items k x (omega (arith, many, less)) ∙ ap (λ (y : Option A). Some y) (sym is) in
      same_Some (h x) (f (take k p))
      (sym (ap (option_map h) got) ∙ sym (slice_get-map h items k) ∙ ap (λ l. slice_get l k) e ∙ slice_get-map f (firsts p) k ∙ ap (option_map f) (first_at p k less))
