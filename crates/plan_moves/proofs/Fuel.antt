-- Two turns for each change that waits are fuel enough: the function is the relation.
use Rattle.std.proofs.Common.{◌≡◌, ◌⊎◌, inl, inr, ℕ, zero, suc, ◌+◌, ◌≤◌, Bool, true, false, not, List, [], ◌∷◌, filter, length, refl, sym, ◌∙◌, ap, subst, arith, Option, Some, None, if◌then◌else◌}
use Rattle.std.specs.Prelude.{◌||◌}
use Rattle.std.specs.List.{list_any}
use Rattle.std.proofs.lemmas.Bool.{cond-true, cond-false, cases_Bool, false_from_ne_true, not_from_true}
use Rattle.commit_steps.specs.declared.step.Step.{Step}
use Rattle.plan_moves.specs.Waiting.{Waiting, is_ready, unready, deepest, put_away, NoneReady, knots_by, knots_from, knots, Knots, none, ready, stuck, HasDifferentLines, at_sources}
use Rattle.plan_moves.specs.Moves.{Moves, Spots}
use Rattle.edit_laws.proofs.ListLemmas.{contains_none, any_from}
use Rattle.plan_moves.proofs.Order.{counts_from_knots}
use Rattle.plan_moves.proofs.Number.{deepest-contains, number_by_knots, length-put, own_lines}
use Rattle.plan_moves.proofs.AtMost.{count_here, zero_if, here_less, here_are, put_one, deepest-here, counts_at_most}

filter_short : {X : Type 0} (q : X → Bool) (xs : List X) → length (filter q xs) ≤ length xs
filter_short q [] = omega arith
filter_short q (x ∷ xs) = elim (cases_Bool (q x)) [
  | inl keep ↦ let e = ap length (cond-true (q x) (x ∷ filter q xs) (filter q xs) keep) in let more = filter_short q xs in omega arith
  | inr out ↦ let e = ap length (cond-false (q x) (x ∷ filter q xs) (filter q xs) out) in let more = filter_short q xs in omega arith
]

filter_less : {X : Type 0} (p : X → Bool) (xs : List X) → list_any p xs ≡ true → length (filter (λ (x : X). not (p x)) xs) + 1 ≤ length xs
filter_less p [] e = cc
filter_less p (x ∷ xs) e = go (filter_less p xs) (cases_Bool (p x))
  where
    go : (list_any p xs ≡ true → length (filter (λ (x : _). not (p x)) xs) + 1 ≤ length xs) → (p x ≡ true) ⊎ (p x ≡ false) → length (filter (λ (x : _). not (p x)) (x ∷ xs)) + 1 ≤ length (x ∷ xs)
    go more (inl is) = let e = ap length (cond-false (not (p x)) (x ∷ filter (λ (x : _). not (p x)) xs) (filter (λ (x : _). not (p x)) xs) (not_from_true _ is)) in let short = filter_short (λ (x : _). not (p x)) xs in omega arith
    go more (inr isnt) = let rest = more (sym (ap (λ (b : Bool). b || list_any p xs) isnt) ∙ e) in
        let short = filter_short (λ (x : _). not (p x)) xs in
        elim (cases_Bool (not (p x))) [
          | inl keep ↦ let e = ap length (cond-true (not (p x)) (x ∷ filter (λ (x : _). not (p x)) xs) (filter (λ (x : _). not (p x)) xs) keep) in omega arith
          | inr out ↦ let e = ap length (cond-false (not (p x)) (x ∷ filter (λ (x : _). not (p x)) xs) (filter (λ (x : _). not (p x)) xs) out) in omega arith
        ]

none_ready : (ws : List Waiting) → list_any (is_ready ws) ws ≡ false → NoneReady ws
none_ready ws e w c = false_from_ne_true _ (λ is. let both : true ≡ false = sym (any_from (is_ready ws) ws w c is) ∙ e in cc)

no_waiting : (ws : List Waiting) → length ws ≤ 0 → ws ≡ []
no_waiting [] e = refl
no_waiting (w ∷ ws) e = absurd (omega arith)

pub enough : (fuel : ℕ) (ws : List Waiting) → length ws + count_here ws ≤ fuel → Knots ws (knots_by fuel ws)
enough zero ws short = subst (λ (l : List Waiting). Knots l 0) (sym (no_waiting ws (omega arith))) (none [] (λ w c. absurd (contains_none w c)) refl)
enough (suc fuel) ws short = go (enough fuel) (cases_Bool (list_any (is_ready ws) ws))
  where
    go : ((ws : List Waiting) → length ws + count_here ws ≤ fuel → Knots ws (knots_by fuel ws)) → (list_any (is_ready ws) ws ≡ true) ⊎ (list_any (is_ready ws) ws ≡ false)
        → Knots ws (if list_any (is_ready ws) ws then knots_by fuel (unready ws) else knots_from (knots_by fuel) ws (deepest ws))
    go more (inl some) =
        let less : length (unready ws) + 1 ≤ length ws = filter_less (is_ready ws) ws some in
        let here : count_here (unready ws) ≤ count_here ws = here_less (λ (w : Waiting). not (is_ready ws w)) ws in
        subst (Knots ws) (sym (cond-true (list_any (is_ready ws) ws) (knots_by fuel (unready ws)) (knots_from (knots_by fuel) ws (deepest ws)) some))
        (ready ws (knots_by fuel (unready ws)) some (more (unready ws) (omega arith)))
    go more (inr no_one) =
        subst (Knots ws) (sym (cond-false (list_any (is_ready ws) ws) (knots_by fuel (unready ws)) (knots_from (knots_by fuel) ws (deepest ws)) no_one)) (by_deepest (deepest ws) refl)
      where
        by_deepest : (o : Option Waiting) → deepest ws ≡ o → Knots ws (knots_from (knots_by fuel) ws (deepest ws))
        by_deepest None e = subst (λ (o : Option Waiting). Knots ws (knots_from (knots_by fuel) ws o)) (sym e) (none ws (none_ready ws no_one) e)
        by_deepest (Some d) e =
            let less : count_here (put_away d ws) + 1 ≤ count_here ws = put_one d ws (deepest-contains ws d e) (deepest-here ws d e) in
            let same : length (put_away d ws) ≡ length ws = length-put d ws in
            let sum : knots_by fuel (put_away d ws) + 1 ≡ 1 + knots_by fuel (put_away d ws) = omega arith in
            subst (λ (o : Option Waiting). Knots ws (knots_from (knots_by fuel) ws o)) (sym e)
            (subst (Knots ws) sum (stuck ws d (knots_by fuel (put_away d ws)) (none_ready ws no_one) e (more (put_away d ws) (omega arith))))

count_short : (ws : List Waiting) → count_here ws ≤ length ws
count_short [] = omega arith
count_short (w ∷ ws) = let more = count_short ws in let one = zero_one w.is_away in omega arith
  where
    zero_one : (b : Bool) → zero_if b ≤ 1
    zero_one true = omega arith
    zero_one false = omega arith

pub knots_are : (ws : List Waiting) → Knots ws (knots ws)
knots_are ws = enough (length ws + length ws) ws (let short = count_short ws in omega arith)

-- the number of moves is that of the definition
pub number : (n : ℕ) (spots : Spots) (ws : List Waiting) (steps : List Step) → HasDifferentLines ws → Moves n spots ws steps → length steps ≡ length ws + knots ws
number n spots ws steps d moves = number_by_knots n spots ws steps (knots ws) d (knots_are ws) moves

-- and there are at most as many knots as changes at their sources
pub at_most : (ws : List Waiting) → HasDifferentLines ws → knots ws ≤ length (at_sources ws)
at_most ws d = subst (λ (n : ℕ). knots ws ≤ n) (here_are ws) (counts_at_most ws (knots ws) (counts_from_knots ws (knots ws) (own_lines ws d) (knots_are ws)))
