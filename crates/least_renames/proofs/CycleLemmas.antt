-- Cycles: each has a next one, and two with an edit in common have the same edits.
use Rattle.std.proofs.Common.{◌≡◌, ◌⊎◌, inl, inr, List, [], ◌∷◌, ◌++◌, map, refl, sym, ◌∙◌, ap, subst, Option, Some, Contains}
use Rattle.std.proofs.lemmas.List.Elements.{Contains-append_cases, Contains-append_left, Contains-append_right}
use Rattle.dired_text.specs.Paths.{Names}
use Rattle.edit_words.specs.declared.row.Row.{Row}
use Rattle.edit_words.proofs.FindLemmas.{contains_head, contains_tail, contains_none, contains_cases}
use Rattle.least_renames.specs.Cycles.{GoesRound, edits_of}

-- each of these goes to the path of the next one, and the last to that of `end`
abbrev pub Trail : Row → List Row → Row → Type 0
Trail r [] end = r.to ≡ end.source
Trail r (o ∷ rs) end = (r.to ≡ o.source) × Trail o rs end

pub trail_of : (r : Row) (rs : List Row) (end : Row) → map (λ (o : Row). o.to) (r ∷ rs) ≡ map (λ (o : Row). o.source) (rs ++ end ∷ []) → Trail r rs end
trail_of r [] end same = cc
trail_of r (o ∷ rs) end same = (cc, trail_of o rs end cc)

pub of_trail : (r : Row) (rs : List Row) (end : Row) → Trail r rs end → map (λ (o : Row). o.to) (r ∷ rs) ≡ map (λ (o : Row). o.source) (rs ++ end ∷ [])
of_trail r [] end trail = ap (λ (o : Option Names). o ∷ []) trail
of_trail r (o ∷ rs) end trail = let rest = of_trail o rs end trail.1 in ap (λ (p : Option Names). p ∷ map (λ (o : Row). o.to) (o ∷ rs)) trail.0 ∙ ap (λ (l : List (Option Names)). o.source ∷ l) rest

-- what each on a trail hands on to the next one
module _ (P : Row → Type 0) where
  abbrev pub HandsOn : List Row → Row → Type 0
  HandsOn rs end = (a b : Row) → P a → (Contains rs b ⊎ (end ≡ b)) → a.to ≡ b.source → P b

  rest_hands_on : (o : Row) (rs : List Row) (end : Row) → HandsOn (o ∷ rs) end → HandsOn rs end
  rest_hands_on o rs end hands a b pa (inl c) e = hands a b pa (inl (contains_tail o b rs c)) e
  rest_hands_on o rs end hands a b pa (inr same) e = hands a b pa (inr same) e

  -- from its first to each of it, and to its end
  pub along : (r : Row) (rs : List Row) (end : Row) → Trail r rs end → HandsOn rs end → P r → (x : Row) → Contains (r ∷ rs) x → P x
  along r [] end trail hands pr x c = elim (contains_cases r x [] c) [
    | inl same ↦ subst P same pr
    | inr later ↦ absurd (contains_none x later)
  ]
  along r (o ∷ rs) end trail hands pr x c = elim (contains_cases r x (o ∷ rs) c) [
    | inl same ↦ subst P same pr
    | inr later ↦ along o rs end trail.1 (rest_hands_on o rs end hands) (hands r o pr (inl (contains_head o rs)) trail.0) x later
  ]

  -- from any of it to its end
  pub to_end : (r : Row) (rs : List Row) (end : Row) → Trail r rs end → HandsOn rs end → (x : Row) → Contains (r ∷ rs) x → P x → P end
  to_end r [] end trail hands x c px = elim (contains_cases r x [] c) [
    | inl same ↦ hands r end (subst P (sym same) px) (inr refl) trail
    | inr later ↦ absurd (contains_none x later)
  ]
  to_end r (o ∷ rs) end trail hands x c px = elim (contains_cases r x (o ∷ rs) c) [
    | inl same ↦ to_end o rs end trail.1 (rest_hands_on o rs end hands) o (contains_head o rs) (hands r o (subst P (sym same) px) (inl (contains_head o rs)) trail.0)
    | inr later ↦ to_end o rs end trail.1 (rest_hands_on o rs end hands) x later px
  ]

  -- what each of a cycle hands on to the next one holds of all, where it holds of one
  pub round : (c : List Row) → GoesRound c → ((a b : Row) → P a → Contains c b → a.to ≡ b.source → P b) → (x : Row) → Contains c x → P x → (y : Row) → Contains c y → P y
  round [] cycle hands x c px y d = absurd cycle
  round (r ∷ rs) cycle hands x c px y d =
      let trail = trail_of r rs r cycle in
      along r rs r trail next (to_end r rs r trail next x c px) y d
    where
      next : HandsOn rs r
      next a b pa (inl later) e = hands a b pa (contains_tail r b rs later) e
      next a b pa (inr same) e = hands a b pa (subst (Contains (r ∷ rs)) same (contains_head r rs)) e

-- each of a cycle has a next one
next_on : (r : Row) (rs : List Row) (end : Row) → Trail r rs end → (x : Row) → Contains (r ∷ rs) x → (y : Row) × (Contains rs y ⊎ (end ≡ y)) × (x.to ≡ y.source)
next_on r [] end trail x c = elim (contains_cases r x [] c) [
  | inl same ↦ (end, inr refl, ap (λ (o : Row). o.to) (sym same) ∙ trail)
  | inr later ↦ absurd (contains_none x later)
]
next_on r (o ∷ rs) end trail x c = elim (contains_cases r x (o ∷ rs) c) [
  | inl same ↦ (o, inl (contains_head o rs), ap (λ (o : Row). o.to) (sym same) ∙ trail.0)
  | inr later ↦ let more = next_on o rs end trail.1 x later in (more.0, further more.0 more.1, more.2)
]
  where
    further : (y : Row) → Contains rs y ⊎ (end ≡ y) → Contains (o ∷ rs) y ⊎ (end ≡ y)
    further y (inl c) = inl (contains_tail o y rs c)
    further y (inr same) = inr same

pub next_in : (c : List Row) → GoesRound c → (x : Row) → Contains c x → (y : Row) × Contains c y × (x.to ≡ y.source)
next_in [] cycle x c = absurd cycle
next_in (r ∷ rs) cycle x c = let next = next_on r rs r (trail_of r rs r cycle) x c in (next.0, within next.0 next.1, next.2)
  where
    within : (y : Row) → Contains rs y ⊎ (r ≡ y) → Contains (r ∷ rs) y
    within y (inl later) = contains_tail r y rs later
    within y (inr same) = subst (Contains (r ∷ rs)) same (contains_head r rs)

-- Edits of different sources with different new paths.
pub record Moving (Moves : Row → Type 0) : Type 0 where
  pub from : (r : Row) → Moves r → (p : Names) × (r.source ≡ Some p)
  pub goes : (r : Row) → Moves r → (p : Names) × (r.to ≡ Some p)
  pub new_paths : (r o : Row) (p : Names) → Moves r → Moves o → r.to ≡ Some p → o.to ≡ Some p → r ≡ o
  pub sources : (r o : Row) (p : Names) → Moves r → Moves o → r.source ≡ Some p → o.source ≡ Some p → r ≡ o

-- two cycles with an edit in common have the same edits
pub cycles_meet : (Moves : Row → Type 0) → Moving Moves → (c d : List Row) → GoesRound c → GoesRound d → ((r : Row) → Contains c r → Moves r) → ((r : Row) → Contains d r → Moves r)
    → (x : Row) → Contains c x → Contains d x → (y : Row) → Contains c y → Contains d y
cycles_meet Moves moving c d cycle_c cycle_d moves_c moves_d x in_c in_d y y_in = round (Contains d) c cycle_c hands x in_c in_d y y_in
  where
    hands : (a b : Row) → Contains d a → Contains c b → a.to ≡ b.source → Contains d b
    hands a b in_d in_c e =
        let next = next_in d cycle_d a in_d in
        let to = moving.goes a (moves_d a in_d) in
        let same : next.0 ≡ b = moving.sources next.0 b to.0 (moves_d next.0 next.1) (moves_c b in_c) (sym next.2 ∙ to.1) (sym e ∙ to.1) in
        subst (Contains d) same next.1

-- ---- the edits of cycles

pub edits_from : (cycles : List (List Row)) (c : List Row) (r : Row) → Contains cycles c → Contains c r → Contains (edits_of cycles) r
edits_from [] c r in_cycles in_c = absurd (contains_none c in_cycles)
edits_from (d ∷ cycles) c r in_cycles in_c = elim (contains_cases d c cycles in_cycles) [
  | inl same ↦ Contains-append_left d (edits_of cycles) r (subst (λ (l : List Row). Contains l r) (sym same) in_c)
  | inr later ↦ Contains-append_right d (edits_of cycles) r (edits_from cycles c r later in_c)
]

pub cycle_of : (cycles : List (List Row)) (r : Row) → Contains (edits_of cycles) r → (c : List Row) × Contains cycles c × Contains c r
cycle_of [] r c = absurd (contains_none r c)
cycle_of (d ∷ cycles) r c = elim (Contains-append_cases d (edits_of cycles) r c) [
  | inl here ↦ (d, contains_head d cycles, here)
  | inr later ↦ let more = cycle_of cycles r later in (more.0, contains_tail d more.0 cycles more.1, more.2)
]
