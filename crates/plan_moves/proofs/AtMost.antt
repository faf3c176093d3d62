-- There are at most as many knots as edits that wait at their sources.
use Rattle.std.proofs.Common.{◌≡◌, ◌⊎◌, inl, inr, ℕ, ◌+◌, ◌≤◌, ◌==◌, Bool, true, false, cond, not, List, [], ◌∷◌, filter, length, refl, sym, ◌∙◌, ap, arith, Option, Some, None}
use Rattle.std.specs.Prelude.{Contains}
use Rattle.std.proofs.lemmas.Bool.{cond-true, cond-false, cases_Bool, eq-eqb}
use Rattle.std.proofs.lemmas.Option.{none-some, same_Some}
use Rattle.plan_moves.specs.Waiting.{Waiting, deepest, deeper, is_before, put_away, without, at_sources}
use Rattle.edit_laws.proofs.ListLemmas.{contains_cases, contains_none}
use Rattle.plan_moves.proofs.Order.{Counts, over, carry, knot, put}
use Rattle.plan_moves.proofs.Number.{deepest-contains}

abbrev pub zero_if : Bool → ℕ
zero_if true = 0
zero_if false = 1

-- how many wait at their source
abbrev pub count_here : List Waiting → ℕ
count_here [] = 0
count_here (w ∷ ws) = zero_if w.is_away + count_here ws

pub here_are : (ws : List Waiting) → count_here ws ≡ length (at_sources ws)
here_are [] = refl
here_are (w ∷ ws) = go (here_are ws) (cases_Bool (not w.is_away))
  where
    one : (away : Bool) → zero_if away ≡ cond (not away) 1 0
    one true = refl
    one false = refl

    go : count_here ws ≡ length (at_sources ws) → (not w.is_away ≡ true) ⊎ (not w.is_away ≡ false) → count_here (w ∷ ws) ≡ length (at_sources (w ∷ ws))
    go more (inl here) =
        let e = ap length (cond-true (not w.is_away) (w ∷ at_sources ws) (at_sources ws) here) in let counts = one w.is_away ∙ cond-true (not w.is_away) 1 0 here in omega arith
    go more (inr away) =
        let e = ap length (cond-false (not w.is_away) (w ∷ at_sources ws) (at_sources ws) away) in let counts = one w.is_away ∙ cond-false (not w.is_away) 1 0 away in omega arith

pub here_less : (q : Waiting → Bool) (ws : List Waiting) → count_here (filter q ws) ≤ count_here ws
here_less q [] = omega arith
here_less q (w ∷ ws) = go (here_less q ws) (cases_Bool (q w))
  where
    go : count_here (filter q ws) ≤ count_here ws → (q w ≡ true) ⊎ (q w ≡ false) → count_here (filter q (w ∷ ws)) ≤ count_here (w ∷ ws)
    go more (inl in_q) = let e = ap count_here (cond-true (q w) (w ∷ filter q ws) (filter q ws) in_q) in omega arith
    go more (inr out) = let e = ap count_here (cond-false (q w) (w ∷ filter q ws) (filter q ws) out) in omega arith

put_less : (d w : Waiting) → zero_if (put d w).is_away ≤ zero_if w.is_away
put_less d w = elim (cases_Bool (w.row.line == d.row.line)) [
  | inl same ↦ let e = ap (λ (x : Waiting). zero_if x.is_away) (cond-true _ (record w { is_away = true }) w same) in omega arith
  | inr other ↦ let e = ap (λ (x : Waiting). zero_if x.is_away) (cond-false _ (record w { is_away = true }) w other) in omega arith
]

all_put_less : (d : Waiting) (ws : List Waiting) → count_here (put_away d ws) ≤ count_here ws
all_put_less d [] = omega arith
all_put_less d (w ∷ ws) = let one = put_less d w in let more = all_put_less d ws in omega arith

pub put_one : (d : Waiting) (ws : List Waiting) → Contains ws d → d.is_away ≡ false → count_here (put_away d ws) + 1 ≤ count_here ws
put_one d [] c here = absurd (contains_none d c)
put_one d (w ∷ ws) c here = go (put_one d ws) (contains_cases w d ws c)
  where
    go : (Contains ws d → d.is_away ≡ false → count_here (put_away d ws) + 1 ≤ count_here ws) → (w ≡ d) ⊎ Contains ws d → count_here (put_away d (w ∷ ws)) + 1 ≤ count_here (w ∷ ws)
    go more (inl same) =
        let e = ap (λ (x : Waiting). zero_if x.is_away) (cond-true _ (record w { is_away = true }) w (eq-eqb w.row.line d.row.line (ap (λ (x : Waiting). x.row.line) same))) in
        let was = ap zero_if (ap (λ (x : Waiting). x.is_away) same ∙ here) in
        let rest = all_put_less d ws in omega arith
    go more (inr later) = let one = put_less d w in let rest = more later here in omega arith

pub deepest-here : (ws : List Waiting) (d : Waiting) → deepest ws ≡ Some d → d.is_away ≡ false
deepest-here [] d e = absurd (none-some d e)
deepest-here (w ∷ ws) d e = go (deepest-here ws) (deepest ws) refl (cases_Bool w.is_away)
  where
    go : ((d : Waiting) → deepest ws ≡ Some d → d.is_away ≡ false) → (o : Option Waiting) → deepest ws ≡ o → (w.is_away ≡ true) ⊎ (w.is_away ≡ false) → d.is_away ≡ false
    go more o is (inl away) = more d (sym (cond-true w.is_away (deepest ws) (Some (deeper w (deepest ws))) away) ∙ e)
    go more None is (inr here) =
        let same : w ≡ d = same_Some w d (ap (λ (x : Option Waiting). Some (deeper w x)) (sym is) ∙ sym (cond-false w.is_away (deepest ws) (Some (deeper w (deepest ws))) here) ∙ e) in
        ap (λ (x : Waiting). x.is_away) (sym same) ∙ here
    go more (Some v) is (inr here) =
        let got : deeper w (Some v) ≡ d = same_Some (deeper w (Some v)) d (ap (λ (x : Option Waiting). Some (deeper w x)) (sym is) ∙ sym (cond-false w.is_away (deepest ws) (Some (deeper w (deepest ws))) here) ∙ e) in
        elim (cases_Bool (is_before w.row.source v.row.source)) [
          | inl first ↦ ap (λ (x : Waiting). x.is_away) (sym (sym (cond-true _ w v first) ∙ got)) ∙ here
          | inr second ↦ more d (is ∙ ap (λ (x : Waiting). Some x) (sym (cond-false _ w v second) ∙ got))
        ]

pub counts_at_most : (ws : List Waiting) (k : ℕ) → Counts ws k → k ≤ count_here ws
counts_at_most ws k (over _ no_one end) = omega arith
counts_at_most ws k (carry _ w _ c e rest) = let more = counts_at_most _ k rest in let less : count_here (without w ws) ≤ count_here ws = here_less _ ws in omega arith
counts_at_most ws k (knot _ d j no_one is rest) = let more = counts_at_most _ j rest in let less = put_one d ws (deepest-contains ws d is) (deepest-here ws d is) in omega arith
