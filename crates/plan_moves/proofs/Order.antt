-- The knots don't depend on the order in which ready changes are carried out.
use Rattle.std.proofs.Common.{◌≡◌, ◌⊎◌, inl, inr, ℕ, ◌+◌, ◌==◌, Bool, true, false, not, ◌&&◌, ◌||◌, List, [], ◌∷◌, filter, refl, sym, ◌∙◌, ap, subst, Option, Some, None, if◌then◌else◌}
use Rattle.std.specs.Prelude.{Contains}
use Rattle.std.specs.List.{list_any}
use Rattle.std.proofs.lemmas.Bool.{cond-true, cond-false, cases_Bool, and_parts, and_from, or_cases, not-true, not_from_false, or_left, or_right, false_from_ne_true, eqb-true, eq-eqb}
use Rattle.std.proofs.lemmas.Option.{none-some, same_Some}
use Rattle.dired_text.specs.Paths.{Names}
use Rattle.edit_words.specs.Rows.{written}
use Rattle.edit_laws.proofs.ListLemmas.{contains_head, contains_tail, contains_filter, filter_parts, any_parts, any_from, map_parts}
use Rattle.plan_moves.proofs.FilterLemmas.{any_less, filter_swap, filter_alike, filter_all, filter_both}
use Rattle.plan_moves.specs.Waiting.{Waiting, is_free, is_unkept, is_ready, without, deepest, put_away, NoneReady, unready, Knots, none, ready, stuck}

-- ---- a ready change stays ready when others are gone

unkept_less : (q : Waiting → Bool) (ws : List Waiting) (s : Option Names) → is_unkept ws s ≡ true → is_unkept (filter q ws) s ≡ true
unkept_less q ws None e = refl
unkept_less q ws (Some s) e = not_from_false _ (any_less _ q ws (not-true _ e))

pub ready_less : (q : Waiting → Bool) (ws : List Waiting) (w : Waiting) → is_ready ws w ≡ true → is_ready (filter q ws) w ≡ true
ready_less q ws w e =
    let parts = and_parts (is_free ws (written w.row)) _ e in
    and_from _ _ (not_from_false _ (any_less _ q ws (not-true _ parts.0)))
    (elim (or_cases w.is_away _ parts.1) [
      | inl away ↦ or_left _ _ away
      | inr unkept ↦ or_right _ _ (unkept_less q ws w.row.source unkept)
    ])

-- ---- one at a time

pub data Counts : List Waiting → ℕ → Type 0 where
  over : (ws : List Waiting) → NoneReady ws → deepest ws ≡ None → Counts ws 0
  carry : (ws : List Waiting) (w : Waiting) (k : ℕ) → Contains ws w → is_ready ws w ≡ true → Counts (without w ws) k → Counts ws k
  knot : (ws : List Waiting) (d : Waiting) (k : ℕ) → NoneReady ws → deepest ws ≡ Some d → Counts (put_away d ws) k → Counts ws (k + 1)

not_none : (ws : List Waiting) (w : Waiting) → Contains ws w → is_ready ws w ≡ true → NoneReady ws → ⊥
not_none ws w c e no_one = let both : true ≡ false = sym e ∙ no_one w c in cc

-- whichever ready change goes first, the count is the same
pub carried_first : (ws : List Waiting) (k : ℕ) → Counts ws k → (r : Waiting) → Contains ws r → is_ready ws r ≡ true → Counts (without r ws) k
carried_first ws k (over _ no_one end) r c e = absurd (not_none ws r c e no_one)
carried_first ws k (carry _ w _ cw ew rest) r c e = go (carried_first (without w ws) k rest r) (cases_Bool (r.row.line == w.row.line))
  where
    go : (Contains (without w ws) r → is_ready (without w ws) r ≡ true → Counts (without r (without w ws)) k) → ((r.row.line == w.row.line) ≡ true) ⊎ ((r.row.line == w.row.line) ≡ false) → Counts (without r ws) k
    go after (inl same) = subst (λ (l : List Waiting). Counts l k) (ap (λ (n : ℕ). filter (λ (v : Waiting). not (v.row.line == n)) ws) (sym (eqb-true r.row.line w.row.line same))) rest
    go after (inr other) =
        let w_other : (w.row.line == r.row.line) ≡ false = false_from_ne_true _ (λ is. let both : true ≡ false = sym (eq-eqb r.row.line w.row.line (sym (eqb-true w.row.line r.row.line is))) ∙ other in cc) in
        carry (without r ws) w k
        (contains_filter _ ws w cw (not_from_false _ w_other))
        (ready_less _ ws w ew)
        (subst (λ (l : List Waiting). Counts l k) (filter_swap _ _ ws)
        (after (contains_filter _ ws r c (not_from_false _ other)) (ready_less _ ws r e)))
carried_first ws k (knot _ d _ no_one is rest) r c e = absurd (not_none ws r c e no_one)

-- so there is one count
pub one_count : (ws : List Waiting) (k l : ℕ) → Counts ws k → Counts ws l → k ≡ l
one_count ws k l (over _ no_one end) (over _ no_one' end') = refl
one_count ws k l (over _ no_one end) (carry _ w _ c e rest) = absurd (not_none ws w c e no_one)
one_count ws k l (over _ no_one end) (knot _ d _ no_one' is rest) = absurd (none-some d (sym end ∙ is))
one_count ws k l (carry _ w _ c e rest) other = one_count (without w ws) k l rest (carried_first ws l other w c e)
one_count ws k l (knot _ d j no_one is rest) (over _ no_one' end) = absurd (none-some d (sym end ∙ is))
one_count ws k l (knot _ d j no_one is rest) (carry _ w _ c e rest') = absurd (not_none ws w c e no_one)
one_count ws k l (knot _ d j no_one is rest) (knot _ d' j' no_one' is' rest') =
    let same : d' ≡ d = same_Some d' d (sym is' ∙ is) in
    ap (λ (n : ℕ). n + 1) (one_count (put_away d ws) j j' rest (subst (λ (x : Waiting). Counts (put_away x ws) j') same rest'))

-- ---- all ready ones at once

abbrev pub HasOwnLines : List Waiting → Type 0
HasOwnLines ws = (v w : Waiting) → Contains ws v → Contains ws w → v.row.line ≡ w.row.line → v ≡ w

abbrev is_gone : (Waiting → Bool) → List Waiting → Waiting → Bool
is_gone goes ds v = list_any (λ (d : Waiting). goes d && (v.row.line == d.row.line)) ds

all_in_turn : (goes : Waiting → Bool) (ds ws : List Waiting) (k : ℕ)
    → ((d : Waiting) → Contains ds d → goes d ≡ true → (v : Waiting) → Contains ws v → v.row.line ≡ d.row.line → is_ready ws v ≡ true)
    → Counts (filter (λ (v : Waiting). not (is_gone goes ds v)) ws) k → Counts ws k
all_in_turn goes [] ws k fine c = subst (λ (l : List Waiting). Counts l k) (filter_all ws) c
all_in_turn goes (d ∷ ds) ws k fine c = go (all_in_turn goes ds) (cases_Bool (goes d))
  where
    go : ((ws : List Waiting) (k : ℕ) → ((d : Waiting) → Contains ds d → goes d ≡ true → (v : Waiting) → Contains ws v → v.row.line ≡ d.row.line → is_ready ws v ≡ true)
        → Counts (filter (λ (v : Waiting). not (is_gone goes ds v)) ws) k → Counts ws k)
        → (goes d ≡ true) ⊎ (goes d ≡ false) → Counts ws k
    go rest (inr stays) = rest ws k (λ x cx. fine x (contains_tail d x ds cx))
        (subst (λ (l : List Waiting). Counts l k) (filter_alike _ _ ws (λ v cv. ap (λ (b : Bool). not ((b && (v.row.line == d.row.line)) || is_gone goes ds v)) stays)) c)
    go rest (inl leaves) = first (cases_Bool (list_any (λ (v : Waiting). v.row.line == d.row.line) ws))
      where
        others : Counts (without d ws) k
        others = rest (without d ws) k (λ x cx gx v cv line. ready_less _ ws v (fine x (contains_tail d x ds cx) gx v ((filter_parts _ ws v cv).0) line))
            (subst (λ (l : List Waiting). Counts l k)
            (filter_alike _ _ ws (λ v cv. ap (λ (b : Bool). not ((b && (v.row.line == d.row.line)) || is_gone goes ds v)) leaves ∙ not_or (v.row.line == d.row.line) (is_gone goes ds v))
            ∙ sym (filter_both (λ (v : Waiting). not (is_gone goes ds v)) (λ (v : Waiting). not (v.row.line == d.row.line)) ws)) c)
          where
            not_or : (a b : Bool) → not (a || b) ≡ (not a && not b)
            not_or true b = refl
            not_or false b = refl

        first : (list_any (λ (v : Waiting). v.row.line == d.row.line) ws ≡ true) ⊎ (list_any (λ (v : Waiting). v.row.line == d.row.line) ws ≡ false) → Counts ws k
        first (inl some_one) =
            let v = any_parts _ ws some_one in
            let line : v.0.row.line ≡ d.row.line = eqb-true v.0.row.line d.row.line v.2 in
            carry ws v.0 k v.1 (fine d (contains_head d ds) leaves v.0 v.1 line)
            (subst (λ (l : List Waiting). Counts l k) (ap (λ (n : ℕ). filter (λ (x : Waiting). not (x.row.line == n)) ws) (sym line)) others)
        first (inr no_one) = subst (λ (l : List Waiting). Counts l k)
            (filter_alike _ _ ws (λ v cv. not_from_false _ (false_from_ne_true _ (λ is. let both : true ≡ false = sym (any_from (λ (x : Waiting). x.row.line == d.row.line) ws v cv is) ∙ no_one in cc))) ∙ filter_all ws) others

own_less : (q : Waiting → Bool) (ws : List Waiting) → HasOwnLines ws → HasOwnLines (filter q ws)
own_less q ws own v w cv cw = own v w ((filter_parts q ws v cv).0) ((filter_parts q ws w cw).0)

abbrev pub put : Waiting → Waiting → Waiting
put d v = if v.row.line == d.row.line then record v { is_away = true } else v

pub put-line : (d : Waiting) (x : Waiting) → (put d x).row.line ≡ x.row.line
put-line d x = elim (cases_Bool (x.row.line == d.row.line)) [
  | inl is ↦ ap (λ (y : Waiting). y.row.line) (cond-true _ (record x { is_away = true }) x is)
  | inr isnt ↦ ap (λ (y : Waiting). y.row.line) (cond-false _ (record x { is_away = true }) x isnt)
]

own_put : (d : Waiting) (ws : List Waiting) → HasOwnLines ws → HasOwnLines (put_away d ws)
own_put d ws own v w cv cw line =
    let a = map_parts (put d) ws v cv in
    let b = map_parts (put d) ws w cw in
    let same : a.0 ≡ b.0 = own a.0 b.0 a.1 b.1 (sym (put-line d a.0) ∙ ap (λ (x : Waiting). x.row.line) a.2 ∙ line ∙ ap (λ (x : Waiting). x.row.line) (sym b.2) ∙ put-line d b.0) in
    sym a.2 ∙ ap (put d) same ∙ b.2

-- the definition's number is that of any order
pub counts_from_knots : (ws : List Waiting) (k : ℕ) → HasOwnLines ws → Knots ws k → Counts ws k
counts_from_knots ws k own (none _ no_one end) = over ws no_one end
counts_from_knots ws k own (stuck _ d j no_one is rest) = knot ws d j no_one is (counts_from_knots (put_away d ws) j (own_put d ws own) rest)
counts_from_knots ws k own (ready _ _ some_one rest) = all_in_turn (is_ready ws) ws ws k
    (λ d cd ed v cv line. subst (λ (x : Waiting). is_ready ws x ≡ true) (own d v cd cv (sym line)) ed)
    (subst (λ (l : List Waiting). Counts l k) (filter_alike _ _ ws (λ v cv. ap not (by_ready v cv (cases_Bool (is_ready ws v)))))
    (counts_from_knots (unready ws) k (own_less _ ws own) rest))
  where
    by_ready : (v : Waiting) → Contains ws v → (is_ready ws v ≡ true) ⊎ (is_ready ws v ≡ false) → is_ready ws v ≡ is_gone (is_ready ws) ws v
    by_ready v cv (inl is) = is ∙ sym (any_from _ ws v cv (and_from _ _ is (eq-eqb v.row.line v.row.line refl)))
    by_ready v cv (inr isnt) = isnt ∙ sym (false_from_ne_true _ (λ gone.
        let d = any_parts _ ws gone in
        let parts = and_parts (is_ready ws d.0) _ d.2 in
        let same : v ≡ d.0 = own v d.0 cv d.1 (eqb-true v.row.line d.0.row.line parts.1) in
        let both : true ≡ false = sym parts.0 ∙ ap (is_ready ws) (sym same) ∙ isnt in cc))

-- so the definition's number and that of any order of carrying out are one
pub order_is_free : (ws : List Waiting) (k l : ℕ) → HasOwnLines ws → Knots ws k → Counts ws l → k ≡ l
order_is_free ws k l own all one = one_count ws k l (counts_from_knots ws k own all) one
