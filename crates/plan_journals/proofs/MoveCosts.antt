-- What moves cost: the bytes of their paths, and some more for each.
use Rattle.std.proofs.Common.{◌≡◌, ◌⊎◌, inl, inr, ℕ, ◌+◌, ◌≤◌, ◌^◌, ◌==◌, not, ◌||◌, Bool, true, false, cond, List, [], ◌∷◌, refl, ◌∙◌, ap, arith, Option, is_some}
use Rattle.std.specs.Prelude.{Contains, unwrap_or}
use Rattle.std.proofs.lemmas.Bool.{cond-true, cond-false, cases_Bool, eq-eqb}
use Rattle.dired_text.specs.Paths.{Names, path_bytes}
use Rattle.commit_steps.specs.declared.step.Step.{Step}
use Rattle.commit_steps.specs.declared.step.Step.TheVariants.{MakeDir, Rename, Mode}
use Rattle.commit_steps.specs.Staging.{staged, temporary}
use Rattle.edit_words.specs.declared.row.Row.{Row}
use Rattle.edit_words.specs.Edited.{is_fresh}
use Rattle.edit_words.specs.Refusals.{total}
use Rattle.edit_words.specs.Rows.{written}
use Rattle.edit_laws.proofs.ListLemmas.{contains_none, contains_cases}
use Rattle.plan_moves.specs.Waiting.{Waiting, waiting, put_away, without}
use Rattle.plan_moves.specs.Moves.{Moves, Spots, over, carry, knot, spot_of, with_spot}
use Rattle.plan_moves.proofs.AtMost.{count_here, here_less, put_one, deepest-here}
use Rattle.plan_moves.proofs.Number.{deepest-contains}
use Rattle.plan_moves.proofs.Order.{put}
use Rattle.plan_journals.proofs.Totals.{less_one}
use Rattle.plan_journals.proofs.StagedBytes.{AreShort, temporary_bytes, short_with}

-- the bytes of a step's paths, and c more for a rename or a mode, d more for a directory
abbrev pub weight : ℕ → ℕ → Step → ℕ
weight c d (MakeDir p) = path_bytes p + d
weight c d (Rename from to) = path_bytes from + path_bytes to + c
weight c d (Mode p old new) = path_bytes p + c

-- what a change at its source costs more than one that is away
abbrev pub way_out : ℕ → Bool → Option Names → ℕ
way_out c true source = 0
way_out c false source = path_bytes (unwrap_or source []) + (26 + c)

abbrev pub wait_cost : ℕ → Waiting → ℕ
wait_cost c w = way_out c w.is_away w.row.source + (path_bytes (written w.row) + (26 + c))

module _ (c d : ℕ) where
  put_less : (x w : Waiting) → wait_cost c (put x w) ≤ wait_cost c w
  put_less x w = elim (cases_Bool (w.row.line == x.row.line)) [
    | inl same ↦ let e = ap (wait_cost c) (cond-true _ (record w { is_away = true }) w same) in omega arith
    | inr other ↦ let e = ap (wait_cost c) (cond-false _ (record w { is_away = true }) w other) in omega arith
  ]

  all_put_less : (x : Waiting) (ws : List Waiting) → total (wait_cost c) (put_away x ws) ≤ total (wait_cost c) ws
  all_put_less x [] = omega arith
  all_put_less x (w ∷ ws) = let one = put_less x w in let more = all_put_less x ws in omega arith

  put_itself : (x w : Waiting) → w ≡ x → x.is_away ≡ false → wait_cost c (put x w) + way_out c false x.row.source ≤ wait_cost c w
  put_itself x w same here =
      let e = ap (wait_cost c) (cond-true _ (record w { is_away = true }) w (eq-eqb w.row.line x.row.line (ap (λ (y : Waiting). y.row.line) same))) in
      let was = ap (λ (b : Bool). way_out c b w.row.source) (ap (λ (y : Waiting). y.is_away) same ∙ here) in
      let at = ap (λ (y : Waiting). way_out c false y.row.source) same in
      omega arith

  put_away_less : (x : Waiting) (ws : List Waiting) → Contains ws x → x.is_away ≡ false → total (wait_cost c) (put_away x ws) + way_out c false x.row.source ≤ total (wait_cost c) ws
  put_away_less x [] listed here = absurd (contains_none x listed)
  put_away_less x (w ∷ ws) listed here = go (put_away_less x ws) (contains_cases w x ws listed)
    where
      go : (Contains ws x → x.is_away ≡ false → total (wait_cost c) (put_away x ws) + way_out c false x.row.source ≤ total (wait_cost c) ws) → (w ≡ x) ⊎ Contains ws x
          → total (wait_cost c) (put_away x (w ∷ ws)) + way_out c false x.row.source ≤ total (wait_cost c) (w ∷ ws)
      go more (inl same) = let own = put_itself x w same here in let rest = all_put_less x ws in omega arith
      go more (inr later) = let one = put_less x w in let rest = more later here in omega arith

  without_less : (w : Waiting) (ws : List Waiting) → Contains ws w → total (wait_cost c) (without w ws) + wait_cost c w ≤ total (wait_cost c) ws
  without_less w ws listed = less_one (λ (v : Waiting). not (v.row.line == w.row.line)) (wait_cost c) ws w listed (ap not (eq-eqb w.row.line w.row.line refl))

  carry_cost : (spots : Spots) (w : Waiting) → AreShort spots → (path_bytes (spot_of spots w) + path_bytes (written w.row)) + c ≤ wait_cost c w
  carry_cost spots w short = by_place w.is_away
    where
      by_place : (b : Bool) → (path_bytes (cond b (spots w.row.line) (unwrap_or w.row.source [])) + path_bytes (written w.row)) + c ≤ way_out c b w.row.source + (path_bytes (written w.row) + (26 + c))
      by_place true = let s = short w.row.line in omega arith
      by_place false = omega arith

  pub moves_cost : (n : ℕ) (spots : Spots) (ws : List Waiting) (steps : List Step) → AreShort spots → n + count_here ws ≤ 2 ^ 32 → Moves n spots ws steps → total (weight c d) steps ≤ total (wait_cost c) ws
  moves_cost n spots ws steps short few (over _ _ _ no_one end) = omega arith
  moves_cost n spots ws steps short few (carry _ _ _ w rest listed is moves) =
      let less : count_here (without w ws) ≤ count_here ws = here_less _ ws in
      let more = moves_cost n spots (without w ws) rest short (omega arith) moves in
      let gone = without_less w ws listed in
      let own = carry_cost spots w short in
      omega arith
  moves_cost n spots ws steps short few (knot _ _ _ x rest no_one is moves) =
      let here = deepest-here ws x is in
      let listed = deepest-contains ws x is in
      let less = put_one x ws listed here in
      let name = temporary_bytes n (omega arith) in
      let more = moves_cost (n + 1) (with_spot spots x.row.line (staged (temporary n))) (put_away x ws) rest (short_with spots x.row.line (staged (temporary n)) short name) (omega arith) moves in
      let gone = put_away_less x ws listed here in
      let own = ap path_bytes (cond-false x.is_away (spots x.row.line) (unwrap_or x.row.source []) here) in
      omega arith

  -- ---- by row

  abbrev pub move_cost : Row → ℕ
  move_cost r = cond (is_fresh r || is_some r.to) (way_out c (is_fresh r) r.source + (path_bytes (written r) + (26 + c))) 0

  pub waiting_cost : (rs : List Row) → total (wait_cost c) (waiting rs) ≡ total move_cost rs
  waiting_cost [] = refl
  waiting_cost (r ∷ rs) = go (waiting_cost rs) (cases_Bool (is_fresh r || is_some r.to))
    where
      go : total (wait_cost c) (waiting rs) ≡ total move_cost rs → ((is_fresh r || is_some r.to) ≡ true) ⊎ ((is_fresh r || is_some r.to) ≡ false) → total (wait_cost c) (waiting (r ∷ rs)) ≡ total move_cost (r ∷ rs)
      go more (inl waits) =
          let e = ap (total (wait_cost c)) (cond-true _ ((record { row = r; is_away = is_fresh r }) ∷ waiting rs) (waiting rs) waits) in
          let own = cond-true (is_fresh r || is_some r.to) (way_out c (is_fresh r) r.source + (path_bytes (written r) + (26 + c))) 0 waits in
          omega arith
      go more (inr stays) =
          let e = ap (total (wait_cost c)) (cond-false _ ((record { row = r; is_away = is_fresh r }) ∷ waiting rs) (waiting rs) stays) in
          let own = cond-false (is_fresh r || is_some r.to) (way_out c (is_fresh r) r.source + (path_bytes (written r) + (26 + c))) 0 stays in
          omega arith
