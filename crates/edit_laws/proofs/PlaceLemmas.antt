-- Where paths go: each place follows from its parent's, and no two paths that stay go to one place.
use Rattle.std.proofs.Common.{◌≡◌, ◌≢◌, ℕ, List, [], ◌∷◌, ◌++◌, refl, sym, ◌∙◌, ap, subst, append_assoc}
use Rattle.std.proofs.lemmas.List.{append-nil, same_from_push}
use Rattle.dired_text.specs.Paths.{Names}
use Rattle.edit_words.specs.declared.row.Route.{Route}
use Rattle.edit_words.specs.declared.row.Route.TheVariants.{Stays, Named, Sent}
use Rattle.edit_words.specs.Place.{routed, placed, place, IsAbove}

-- induction on a path by its last name
module _ (P : Names → Type 0) (root : P []) (push : (p : Names) (n : List ℕ) → P p → P (p ++ n ∷ [])) where
  from_front : (old rest : Names) → P old → P (old ++ rest)
  from_front old [] here = subst P (sym (append-nil old)) here
  from_front old (n ∷ rest) here = subst P (append_assoc old (n ∷ []) rest) (from_front (old ++ n ∷ []) rest (push old n here))

  pub by_last : (p : Names) → P p
  by_last p = from_front [] p root

pub placed-push : (route : Names → Route) (old to p : Names) (n : List ℕ) → placed route old to (p ++ n ∷ []) ≡ routed (route ((old ++ p) ++ n ∷ [])) (placed route old to p) n
placed-push route old to [] n = ap (λ (q : Names). routed (route (q ++ n ∷ [])) to n) (sym (append-nil old))
placed-push route old to (x ∷ p) n =
    placed-push route (old ++ x ∷ []) (routed (route (old ++ x ∷ [])) to x) p n
    ∙ ap (λ (q : Names). routed (route (q ++ n ∷ [])) (placed route old to (x ∷ p)) n) (append_assoc old (x ∷ []) p)

pub place-push : (route : Names → Route) (p : Names) (n : List ℕ) → place route (p ++ n ∷ []) ≡ routed (route (p ++ n ∷ [])) (place route p) n
place-push route p n = placed-push route [] [] p n

-- a route sends a path away, or gives it a name in its directory
pub data View (route : Route) (n : List ℕ) : Type 0 where
  sent : (w : Names) → route ≡ Sent w → View route n
  near : (m : List ℕ) → ((to : Names) → routed route to n ≡ to ++ m ∷ []) → View route n

pub view : (route : Route) (n : List ℕ) → View route n
view Stays n = near n (λ to. refl)
view (Named m) n = near m (λ to. refl)
view (Sent w) n = sent w refl

pub push_not_root : (p : Names) (n : List ℕ) → p ++ n ∷ [] ≡ [] → ⊥
push_not_root [] n e = cc
push_not_root (x ∷ p) n e = cc

pub routed-sent : (route : Names → Route) (p to : Names) (n : List ℕ) (w : Names) → route p ≡ Sent w → routed (route p) to n ≡ w
routed-sent route p to n w is = ap (λ (a : Route). routed a to n) is

-- what is written above w has that path already
abbrev pub IsFirm : (Names → Type 0) → (Names → Route) → Names → Type 0
IsFirm Kept route w = (q : Names) (m : List ℕ) → Kept (q ++ m ∷ []) → IsAbove (routed (route (q ++ m ∷ [])) q m) w → q ++ m ∷ [] ≡ routed (route (q ++ m ∷ [])) q m

-- What keeps the places of the paths apart. Kept says which paths stay.
pub record IsApart (Kept : Names → Type 0) (route : Names → Route) : Type 0 where
  pub up : (p : Names) (n : List ℕ) → Kept (p ++ n ∷ []) → Kept p
  pub not_root : (p w : Names) → Kept p → route p ≡ Sent w → w ≢ []
  -- no two are written to one path
  pub apart : (p q : Names) (n m : List ℕ) → Kept (p ++ n ∷ []) → Kept (q ++ m ∷ [])
      → routed (route (p ++ n ∷ [])) p n ≡ routed (route (q ++ m ∷ [])) q m → p ++ n ∷ [] ≡ q ++ m ∷ []
  -- above a path to which one is sent away no other is written
  pub firm : (p w : Names) → Kept p → route p ≡ Sent w → IsFirm Kept route w

module _ (Kept : Names → Type 0) (route : Names → Route) (fits : IsApart Kept route) where
  -- what goes to a place above such a path has that place already
  pub stays_above : (w : Names) → IsFirm Kept route w → (q : Names) → Kept q → IsAbove (place route q) w → q ≡ place route q
  stays_above w firm = by_last (λ q. Kept q → IsAbove (place route q) w → q ≡ place route q) (λ kept above. refl) (λ q m before kept above.
      let here : IsAbove (routed (route (q ++ m ∷ [])) (place route q) m) w = subst (λ (l : Names). IsAbove l w) (place-push route q m) above in
      go q m before kept (view (route (q ++ m ∷ [])) m) here ∙ sym (place-push route q m))
    where
      go : (q : Names) (m : List ℕ) → (Kept q → IsAbove (place route q) w → q ≡ place route q) → Kept (q ++ m ∷ []) → View (route (q ++ m ∷ [])) m
          → IsAbove (routed (route (q ++ m ∷ [])) (place route q) m) w → q ++ m ∷ [] ≡ routed (route (q ++ m ∷ [])) (place route q) m
      go q m before kept (sent v away) above =
          let to_v = routed-sent route (q ++ m ∷ []) (place route q) m v away in
          let from_v = routed-sent route (q ++ m ∷ []) q m v away in
          firm q m kept (subst (λ (l : Names). IsAbove l w) (to_v ∙ sym from_v) above) ∙ from_v ∙ sym to_v
      go q m before kept (near k named) above =
          let there : IsAbove (place route q ++ k ∷ []) w = subst (λ (l : Names). IsAbove l w) (named (place route q)) above in
          let up : IsAbove (place route q) w = (k, there.0 ∷ there.1, there.2 ∙ append_assoc (place route q) (k ∷ []) (there.0 ∷ there.1)) in
          let same : q ≡ place route q = before (fits.up q m kept) up in
          let is_q : routed (route (q ++ m ∷ [])) (place route q) m ≡ routed (route (q ++ m ∷ [])) q m = ap (λ (l : Names). routed (route (q ++ m ∷ [])) l m) (sym same) in
          firm q m kept (subst (λ (l : Names). IsAbove l w) is_q above) ∙ sym is_q

  -- what goes to such a path is written there
  pub written_at : (w : Names) → IsFirm Kept route w → (q : Names) (m : List ℕ) → Kept (q ++ m ∷ []) → place route (q ++ m ∷ []) ≡ w → routed (route (q ++ m ∷ [])) q m ≡ w
  written_at w firm q m kept at = go (view (route (q ++ m ∷ [])) m)
    where
      go : View (route (q ++ m ∷ [])) m → routed (route (q ++ m ∷ [])) q m ≡ w
      go (sent v away) = routed-sent route (q ++ m ∷ []) q m v away ∙ sym (routed-sent route (q ++ m ∷ []) (place route q) m v away) ∙ sym (place-push route q m) ∙ at
      go (near k named) =
          let there : w ≡ place route q ++ k ∷ [] = sym at ∙ place-push route q m ∙ named (place route q) in
          let same : q ≡ place route q = stays_above w firm q (fits.up q m kept) (k, [], there) in
          named q ∙ ap (λ (l : Names). l ++ k ∷ []) same ∙ sym there

  abbrev pub Apart : Names → Type 0
  Apart p = (q : Names) → Kept p → Kept q → place route p ≡ place route q → p ≡ q

  not_at_root : (q : Names) (m : List ℕ) → Kept (q ++ m ∷ []) → [] ≡ place route (q ++ m ∷ []) → ⊥
  not_at_root q m kept e = go (view (route (q ++ m ∷ [])) m) (e ∙ place-push route q m)
    where
      go : View (route (q ++ m ∷ [])) m → [] ≡ routed (route (q ++ m ∷ [])) (place route q) m → ⊥
      go (sent w is) e = fits.not_root (q ++ m ∷ []) w kept is (sym (e ∙ routed-sent route (q ++ m ∷ []) (place route q) m w is))
      go (near k named) e = push_not_root (place route q) k (sym (e ∙ named (place route q)))

  module _ (p q : Names) (n m : List ℕ) (kept_p : Kept (p ++ n ∷ [])) (kept_q : Kept (q ++ m ∷ [])) where
    cases : Apart p → View (route (p ++ n ∷ [])) n → View (route (q ++ m ∷ [])) m → place route (p ++ n ∷ []) ≡ place route (q ++ m ∷ []) → p ++ n ∷ [] ≡ q ++ m ∷ []
    cases before (sent w is_p) other e = fits.apart p q n m kept_p kept_q
        (routed-sent route _ p n w is_p
        ∙ sym (written_at w (fits.firm (p ++ n ∷ []) w kept_p is_p) q m kept_q (sym e ∙ place-push route p n ∙ routed-sent route _ (place route p) n w is_p)))
    cases before (near k named) (sent v is_q) e = fits.apart p q n m kept_p kept_q
        (written_at v (fits.firm (q ++ m ∷ []) v kept_q is_q) p n kept_p (e ∙ place-push route q m ∙ routed-sent route _ (place route q) m v is_q)
        ∙ sym (routed-sent route _ q m v is_q))
    cases before (near k named) (near l named') e =
        let both = same_from_push (place route p) (place route q) k l (sym (named (place route p)) ∙ sym (place-push route p n) ∙ e ∙ place-push route q m ∙ named' (place route q)) in
        let same : p ≡ q = before q (fits.up p n kept_p) (fits.up q m kept_q) both.0 in
        fits.apart p q n m kept_p kept_q (named p ∙ ap (λ (x : Names). x ++ k ∷ []) same ∙ ap (λ (x : List ℕ). q ++ x ∷ []) both.1 ∙ sym (named' q))

  -- no two paths that stay go to one place
  pub place-apart : (p : Names) → Apart p
  place-apart = by_last Apart
      (by_last (λ q. Kept [] → Kept q → [] ≡ place route q → [] ≡ q) (λ kept kept' e. refl) (λ q m before kept kept_q e. absurd (not_at_root q m kept_q e)))
      (λ p n before. by_last (λ q. Kept (p ++ n ∷ []) → Kept q → place route (p ++ n ∷ []) ≡ place route q → p ++ n ∷ [] ≡ q)
      (λ kept kept_q e. absurd (not_at_root p n kept (sym e)))
      (λ q m skip kept kept_q e. cases p q n m kept kept_q before (view _ n) (view _ m) e))

-- a path keeps its place where no route is made of what is above it or of itself
pub place-stays : (route : Names → Route) (u : Names) → ((v : Names) (n : List ℕ) (rest : Names) → u ≡ (v ++ n ∷ []) ++ rest → route (v ++ n ∷ []) ≡ Stays) → place route u ≡ u
place-stays route = by_last (λ u. ((v : Names) (n : List ℕ) (rest : Names) → u ≡ (v ++ n ∷ []) ++ rest → route (v ++ n ∷ []) ≡ Stays) → place route u ≡ u)
    (λ all. refl)
    (λ p n before all. place-push route p n ∙ ap (λ (a : Route). routed a (place route p) n) (all p n [] (sym (append-nil (p ++ n ∷ []))))
    ∙ ap (λ (l : Names). l ++ n ∷ []) (before (λ v m rest is. all v m (rest ++ n ∷ []) (ap (λ (l : Names). l ++ n ∷ []) is ∙ append_assoc (v ++ m ∷ []) rest (n ∷ [])))))
