-- The number of moves: one for each change that waits, and one for each knot.
use Rattle.std.proofs.Common.{◌≡◌, ◌⊎◌, inl, inr, ℕ, ◌+◌, ◌==◌, Bool, true, false, not, List, [], ◌∷◌, filter, length, refl, sym, ◌∙◌, ap, subst, arith, Option, Some, None}
use Rattle.std.specs.Prelude.{Contains, ◌&&◌, ◌||◌}
use Rattle.std.specs.List.{list_any}
use Rattle.std.proofs.lemmas.Option.{none-some, same_Some}
use Rattle.edit_words.specs.Rows.{written, is_at}
use Rattle.std.proofs.lemmas.Bool.{cond-true, cond-false, cases_Bool, not_from_true, not_from_false, false_from_ne_true, eqb-true, eq-eqb, and_from, or_left}
use Rattle.dired_text.specs.Paths.{Names}
use Rattle.commit_steps.specs.declared.step.Step.{Step}
use Rattle.plan_moves.specs.Waiting.{Waiting, HasDifferentLines, is_ready, without, put_away, NoneReady, Knots, deepest, deeper, is_before}
use Rattle.plan_moves.specs.Moves.{Moves, Spots, over, carry, knot}
use Rattle.edit_laws.proofs.ListLemmas.{contains_cases, contains_head, contains_tail, contains_none, filter_parts, map_parts}
use Rattle.plan_moves.proofs.FilterLemmas.{filter_alike, filter_all}
use Rattle.plan_moves.proofs.Order.{Counts, over as counted_over, carry as counted_carry, knot as counted_knot, HasOwnLines, order_is_free, put, put-line}

pub own_lines : (ws : List Waiting) → HasDifferentLines ws → HasOwnLines ws
own_lines [] d v w cv cw line = absurd (contains_none v cv)
own_lines (x ∷ ws) d v w cv cw line = go (own_lines ws d.1 v w) (contains_cases x v ws cv) (contains_cases x w ws cw)
  where
    go : (Contains ws v → Contains ws w → v.row.line ≡ w.row.line → v ≡ w) → (x ≡ v) ⊎ Contains ws v → (x ≡ w) ⊎ Contains ws w → v ≡ w
    go more (inl a) (inl b) = sym a ∙ b
    go more (inl a) (inr b) = absurd (d.0 w b (sym line ∙ ap (λ (y : Waiting). y.row.line) (sym a)))
    go more (inr a) (inl b) = absurd (d.0 v a (line ∙ ap (λ (y : Waiting). y.row.line) (sym b)))
    go more (inr a) (inr b) = more a b line

pub distinct_less : (q : Waiting → Bool) (ws : List Waiting) → HasDifferentLines ws → HasDifferentLines (filter q ws)
distinct_less q [] d = tt
distinct_less q (w ∷ ws) d = go (distinct_less q ws d.1) (cases_Bool (q w))
  where
    go : HasDifferentLines (filter q ws) → (q w ≡ true) ⊎ (q w ≡ false) → HasDifferentLines (filter q (w ∷ ws))
    go more (inl in_q) = subst HasDifferentLines (sym (cond-true (q w) (w ∷ filter q ws) (filter q ws) in_q)) ((λ v cv. d.0 v ((filter_parts q ws v cv).0)), more)
    go more (inr out) = subst HasDifferentLines (sym (cond-false (q w) (w ∷ filter q ws) (filter q ws) out)) more

pub distinct_put : (x : Waiting) (ws : List Waiting) → HasDifferentLines ws → HasDifferentLines (put_away x ws)
distinct_put x [] d = tt
distinct_put x (w ∷ ws) d =
    ((λ v cv line. let a = map_parts (put x) ws v cv in d.0 a.0 a.1 (sym (put-line x a.0) ∙ ap (λ (y : Waiting). y.row.line) a.2 ∙ line ∙ put-line x w)), distinct_put x ws d.1)

same_line : (v w : Waiting) → v.row.line ≡ w.row.line → not (v.row.line == w.row.line) ≡ false
same_line v w e = not_from_true _ (eq-eqb v.row.line w.row.line e)

other_line : (v w : Waiting) → (v.row.line ≡ w.row.line → ⊥) → not (v.row.line == w.row.line) ≡ true
other_line v w e = not_from_false _ (false_from_ne_true _ (λ is. e (eqb-true v.row.line w.row.line is)))

pub length-without : (ws : List Waiting) (w : Waiting) → HasDifferentLines ws → Contains ws w → length ws ≡ length (without w ws) + 1
length-without [] w d c = absurd (contains_none w c)
length-without (x ∷ ws) w d c = go (length-without ws w d.1) (contains_cases x w ws c)
  where
    go : (Contains ws w → length ws ≡ length (without w ws) + 1) → (x ≡ w) ⊎ Contains ws w → length (x ∷ ws) ≡ length (without w (x ∷ ws)) + 1
    go more (inl same) =
        let gone : without w (x ∷ ws) ≡ without w ws = cond-false _ (x ∷ without w ws) (without w ws) (same_line x w (ap (λ (y : Waiting). y.row.line) same)) in
        let all : without w ws ≡ ws = filter_alike _ _ ws (λ v cv. other_line v w (λ e. d.0 v cv (e ∙ ap (λ (y : Waiting). y.row.line) (sym same)))) ∙ filter_all ws in
        let long : length (without w (x ∷ ws)) ≡ length ws = ap length (gone ∙ all) in
        omega arith
    go more (inr later) =
        let stays : without w (x ∷ ws) ≡ x ∷ without w ws = cond-true _ (x ∷ without w ws) (without w ws) (other_line x w (λ e. d.0 w later (sym e))) in
        let long : length (without w (x ∷ ws)) ≡ length (x ∷ without w ws) = ap length stays in
        let less = more later in
        omega arith

no_source : (ws : List Waiting) (p : Names) → deepest ws ≡ None → list_any (λ (v : Waiting). not v.is_away && is_at p v.row.source) ws ≡ false
no_source [] p e = refl
no_source (v ∷ ws) p e = go (no_source ws p) (cases_Bool v.is_away)
  where
    go : (deepest ws ≡ None → list_any (λ (v : Waiting). not v.is_away && is_at p v.row.source) ws ≡ false) → (v.is_away ≡ true) ⊎ (v.is_away ≡ false)
        → ((not v.is_away && is_at p v.row.source) || list_any (λ (v : Waiting). not v.is_away && is_at p v.row.source) ws) ≡ false
    go more (inl away) = ap (λ (b : Bool). (not b && is_at p v.row.source) || list_any (λ (v : Waiting). not v.is_away && is_at p v.row.source) ws) away
        ∙ more (sym (cond-true v.is_away (deepest ws) (Some (deeper v (deepest ws))) away) ∙ e)
    go more (inr here) = absurd (none-some (deeper v (deepest ws)) (sym e ∙ cond-false v.is_away (deepest ws) (Some (deeper v (deepest ws))) here))

pub all_away : (ws : List Waiting) (w : Waiting) → deepest ws ≡ None → Contains ws w → w.is_away ≡ true
all_away [] w e c = absurd (contains_none w c)
all_away (v ∷ ws) w e c = go (all_away ws w) (cases_Bool v.is_away) (contains_cases v w ws c)
  where
    go : (deepest ws ≡ None → Contains ws w → w.is_away ≡ true) → (v.is_away ≡ true) ⊎ (v.is_away ≡ false) → (v ≡ w) ⊎ Contains ws w → w.is_away ≡ true
    go more (inr here) which = absurd (none-some (deeper v (deepest ws)) (sym e ∙ cond-false v.is_away (deepest ws) (Some (deeper v (deepest ws))) here))
    go more (inl away) (inl same) = ap (λ (y : Waiting). y.is_away) (sym same) ∙ away
    go more (inl away) (inr later) = more (sym (cond-true v.is_away (deepest ws) (Some (deeper v (deepest ws))) away) ∙ e) later

-- where none is ready and none waits at its source, none waits
pub none_left : (ws : List Waiting) → NoneReady ws → deepest ws ≡ None → ws ≡ []
none_left [] no_one end = refl
none_left (w ∷ ws) no_one end =
    let c = contains_head w ws in
    let is : is_ready (w ∷ ws) w ≡ true = and_from _ _ (not_from_false _ (no_source (w ∷ ws) (written w.row) end)) (or_left _ _ (all_away (w ∷ ws) w end c)) in
    let both : true ≡ false = sym is ∙ no_one w c in
    absurd cc

pub length-put : (d : Waiting) (ws : List Waiting) → length (put_away d ws) ≡ length ws
length-put d [] = refl
length-put d (w ∷ ws) = let more = length-put d ws in omega arith

pub deepest-contains : (ws : List Waiting) (d : Waiting) → deepest ws ≡ Some d → Contains ws d
deepest-contains [] d e = absurd (none-some d e)
deepest-contains (w ∷ ws) d e = go (deepest-contains ws) (deepest ws) refl (cases_Bool w.is_away)
  where
    go : ((d : Waiting) → deepest ws ≡ Some d → Contains ws d) → (o : Option Waiting) → deepest ws ≡ o → (w.is_away ≡ true) ⊎ (w.is_away ≡ false) → Contains (w ∷ ws) d
    go more o is (inl away) = contains_tail w d ws (more d (sym (cond-true w.is_away (deepest ws) (Some (deeper w (deepest ws))) away) ∙ e))
    go more None is (inr here) =
        let same : w ≡ d = same_Some w d (ap (λ (x : Option Waiting). Some (deeper w x)) (sym is) ∙ sym (cond-false w.is_away (deepest ws) (Some (deeper w (deepest ws))) here) ∙ e) in
        subst (λ (x : Waiting). Contains (w ∷ ws) x) same (contains_head w ws)
    go more (Some v) is (inr here) =
        let got : deeper w (Some v) ≡ d = same_Some (deeper w (Some v)) d (ap (λ (x : Option Waiting). Some (deeper w x)) (sym is) ∙ sym (cond-false w.is_away (deepest ws) (Some (deeper w (deepest ws))) here) ∙ e) in
        elim (cases_Bool (is_before w.row.source v.row.source)) [
          | inl first ↦ subst (λ (x : Waiting). Contains (w ∷ ws) x) (sym (cond-true _ w v first) ∙ got) (contains_head w ws)
          | inr second ↦ contains_tail w d ws (more d (is ∙ ap (λ (x : Waiting). Some x) (sym (cond-false _ w v second) ∙ got)))
        ]

-- the moves have one step for each change that waits and one for each knot
pub number_of_moves : (n : ℕ) (spots : Spots) (ws : List Waiting) (steps : List Step) → HasDifferentLines ws → Moves n spots ws steps → (k : ℕ) × Counts ws k × (length steps ≡ length ws + k)
number_of_moves n spots ws steps d (over _ _ _ no_one end) = (0, counted_over ws no_one end, let long = ap length (none_left ws no_one end) in omega arith)
number_of_moves n spots ws steps d (carry _ _ _ w rest c is moves) =
    let more = number_of_moves n spots (without w ws) rest (distinct_less _ ws d) moves in
    (more.0, counted_carry ws w more.0 c is more.1, let long = length-without ws w d c in let rest_long = more.2 in omega arith)
number_of_moves n spots ws steps d (knot _ _ _ x rest no_one is moves) =
    let more = number_of_moves _ _ (put_away x ws) rest (distinct_put x ws d) moves in
    (more.0 + 1, counted_knot ws x more.0 no_one is more.1, let long = length-put x ws in let rest_long = more.2 in omega arith)

-- so whatever the planner does, the number is that of the definition
pub number_by_knots : (n : ℕ) (spots : Spots) (ws : List Waiting) (steps : List Step) (k : ℕ) → HasDifferentLines ws → Knots ws k → Moves n spots ws steps → length steps ≡ length ws + k
number_by_knots n spots ws steps k d knots moves =
    let m = number_of_moves n spots ws steps d moves in
    let same = order_is_free ws k m.0 (own_lines ws d) knots m.1 in
    let long = m.2 in omega arith
