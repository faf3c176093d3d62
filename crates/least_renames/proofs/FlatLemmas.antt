-- What waits at first of flat changes, and their cycles.
use Rattle.std.proofs.Common.{◌≡◌, ◌⊎◌, inl, inr, ◌≤◌, Bool, true, false, not, ◌||◌, List, [], ◌∷◌, length, refl, sym, ◌∙◌, ap, subst, arith, Some, is_some, Contains}
use Rattle.std.proofs.lemmas.Bool.{cond-true, cond-false, cases_Bool, and_parts, and_from, not-true, not_from_false, or_right}
use Rattle.dired_text.specs.Paths.{Names}
use Rattle.tree_core.specs.declared.changes.Changes.{Changes}
use Rattle.tree_core.specs.FileTree.{FileTree, IsFile}
use Rattle.edit_words.specs.declared.row.Row.{Row}
use Rattle.edit_words.specs.Rows.{rows}
use Rattle.edit_words.specs.Edited.{is_fresh}
use Rattle.edit_words.specs.WellFormed.{IsWellFormed, CanBeAsked}
use Rattle.edit_laws.proofs.ListLemmas.{contains_head, contains_tail, contains_none, contains_cases}
use Rattle.edit_laws.proofs.AskedLemmas.{rows_are}
use Rattle.plan_moves.specs.Waiting.{Waiting, waiting, knots}
use Rattle.plan_moves.specs.Plan.{is_moving}
use Rattle.plan_moves.proofs.Order.{Counts, counts_from_knots}
use Rattle.plan_moves.proofs.Number.{own_lines}
use Rattle.plan_moves.proofs.Fuel.{knots_are}
use Rattle.plan_moves.proofs.StepCount.{waiting_different}
use Rattle.least_renames.specs.Cycles.{AreCycles, IsMovingIn, AreFlat}
use Rattle.least_renames.proofs.StateLemmas.{WaitsHere, AreFlatRows, AreWaiting}
use Rattle.least_renames.proofs.KnotLemmas.{alike_cycles, counted, found}

-- what waits at first
pub record WaitsAtFirst (rs : List Row) (w : Waiting) : Type 0 where
  pub listed : Contains rs w.row
  pub waits : (is_fresh w.row || is_some w.row.to) ≡ true
  pub away : w.is_away ≡ is_fresh w.row

pub waiting_parts : (rs : List Row) (w : Waiting) → Contains (waiting rs) w → WaitsAtFirst rs w
waiting_parts [] w c = absurd (contains_none w c)
waiting_parts (r ∷ rs) w c = go (waiting_parts rs w) (cases_Bool (is_fresh r || is_some r.to))
  where
    further : WaitsAtFirst rs w → WaitsAtFirst (r ∷ rs) w
    further at = record { listed = contains_tail r w.row rs at.listed; waits = at.waits; away = at.away }

    go : (Contains (waiting rs) w → WaitsAtFirst rs w) → ((is_fresh r || is_some r.to) ≡ true) ⊎ ((is_fresh r || is_some r.to) ≡ false) → WaitsAtFirst (r ∷ rs) w
    go more (inl waits) = elim (contains_cases (record { row = r; is_away = is_fresh r }) w (waiting rs)
        (subst (λ (l : List Waiting). Contains l w) (cond-true _ ((record { row = r; is_away = is_fresh r }) ∷ waiting rs) (waiting rs) waits) c)) [
          | inl same ↦ subst (WaitsAtFirst (r ∷ rs)) same (record { listed = contains_head r rs; waits = waits; away = refl })
          | inr later ↦ further (more later)
        ]
    go more (inr stays) = further (more (subst (λ (l : List Waiting). Contains l w) (cond-false _ ((record { row = r; is_away = is_fresh r }) ∷ waiting rs) (waiting rs) stays) c))

pub waiting_from : (rs : List Row) (r : Row) → Contains rs r → (is_fresh r || is_some r.to) ≡ true → Contains (waiting rs) (record { row = r; is_away = is_fresh r })
waiting_from [] r c waits = absurd (contains_none r c)
waiting_from (o ∷ rs) r c waits = go (waiting_from rs r) (contains_cases o r rs c) (cases_Bool (is_fresh o || is_some o.to))
  where
    go : (Contains rs r → (is_fresh r || is_some r.to) ≡ true → Contains (waiting rs) (record { row = r; is_away = is_fresh r })) → (o ≡ r) ⊎ Contains rs r
        → ((is_fresh o || is_some o.to) ≡ true) ⊎ ((is_fresh o || is_some o.to) ≡ false) → Contains (waiting (o ∷ rs)) (record { row = r; is_away = is_fresh r })
    go more (inl same) (inl first) = subst (λ (l : List Waiting). Contains l (record { row = r; is_away = is_fresh r })) (sym (cond-true _ ((record { row = o; is_away = is_fresh o }) ∷ waiting rs) (waiting rs) first))
        (subst (λ (y : Row). Contains ((record { row = o; is_away = is_fresh o }) ∷ waiting rs) (record { row = y; is_away = is_fresh y })) same (contains_head (record { row = o; is_away = is_fresh o }) (waiting rs)))
    go more (inl same) (inr stays) = let both : true ≡ false = sym waits ∙ ap (λ (y : Row). is_fresh y || is_some y.to) (sym same) ∙ stays in absurd cc
    go more (inr later) (inl first) = subst (λ (l : List Waiting). Contains l (record { row = r; is_away = is_fresh r })) (sym (cond-true _ ((record { row = o; is_away = is_fresh o }) ∷ waiting rs) (waiting rs) first))
        (contains_tail (record { row = o; is_away = is_fresh o }) (record { row = r; is_away = is_fresh r }) (waiting rs) (more later waits))
    go more (inr later) (inr stays) = subst (λ (l : List Waiting). Contains l (record { row = r; is_away = is_fresh r })) (sym (cond-false _ ((record { row = o; is_away = is_fresh o }) ∷ waiting rs) (waiting rs) stays)) (more later waits)

-- at most one waits for each row
pub waiting_short : (rs : List Row) → length (waiting rs) ≤ length rs
waiting_short [] = omega arith
waiting_short (r ∷ rs) = go (waiting_short rs) (cases_Bool (is_fresh r || is_some r.to))
  where
    go : length (waiting rs) ≤ length rs → ((is_fresh r || is_some r.to) ≡ true) ⊎ ((is_fresh r || is_some r.to) ≡ false) → length (waiting (r ∷ rs)) ≤ length (r ∷ rs)
    go more (inl waits) = let e = ap length (cond-true _ ((record { row = r; is_away = is_fresh r }) ∷ waiting rs) (waiting rs) waits) in omega arith
    go more (inr stays) = let e = ap length (cond-false _ ((record { row = r; is_away = is_fresh r }) ∷ waiting rs) (waiting rs) stays) in omega arith

-- those that wait at their sources are the moving edits
here_moves : (r : Row) → is_fresh r ≡ false → (is_fresh r || is_some r.to) ≡ true → is_moving r ≡ true
here_moves r own_entry waits = and_from (is_some r.to) (not (is_fresh r)) (sym (ap (λ (b : Bool). b || is_some r.to) own_entry) ∙ waits) (not_from_false (is_fresh r) own_entry)

moving_of : (rs : List Row) (r : Row) → WaitsHere (waiting rs) r → IsMovingIn rs r
moving_of rs r here = let at = waiting_parts rs (record { row = r; is_away = false }) here in (at.listed, here_moves r (sym at.away) at.waits)

of_moving : (rs : List Row) (r : Row) → IsMovingIn rs r → WaitsHere (waiting rs) r
of_moving rs r (listed, moves) =
    let parts = and_parts (is_some r.to) (not (is_fresh r)) moves in
    let no : is_fresh r ≡ false = not-true (is_fresh r) parts.1 in
    subst (λ (b : Bool). Contains (waiting rs) (record { row = r; is_away = b })) no (waiting_from rs r listed (or_right (is_fresh r) (is_some r.to) parts.0))

module _ (t : FileTree) (changes : Changes) (asked : CanBeAsked (IsFile t) changes) (fine : IsWellFormed t (rows changes)) (flat : AreFlat (rows changes)) where
  flat_rows : AreFlatRows (rows changes)
  flat_rows = let are = rows_are t changes asked fine in record {
    lines = are.lines;
    sources = are.sources;
    written_apart = λ r o c d same. are.lines r o c d (fine.to_one r o c d same);
    not_root = λ r p c source root. (are.not_root r c).0 (source ∙ ap (λ (l : Names). Some l) root);
    flat = flat;
  }

  at_first : AreWaiting (rows changes) (waiting (rows changes))
  at_first = record {
    listed = λ w c. (waiting_parts (rows changes) w c).listed;
    different = waiting_different (rows changes) asked.lines;
    waits = λ w c. (waiting_parts (rows changes) w c).waits;
    here = λ w c here. let at = waiting_parts (rows changes) w c in here_moves w.row (sym at.away ∙ here) at.waits;
  }

  counts : Counts (waiting (rows changes)) (knots (waiting (rows changes)))
  counts = counts_from_knots (waiting (rows changes)) (knots (waiting (rows changes))) (own_lines (waiting (rows changes)) at_first.different) (knots_are (waiting (rows changes)))

  pub knots_counted : (cycles : List (List Row)) → AreCycles (IsMovingIn (rows changes)) cycles → knots (waiting (rows changes)) ≡ length cycles
  knots_counted cycles all = counted (rows changes) flat_rows (waiting (rows changes)) (knots (waiting (rows changes))) at_first counts cycles
      (alike_cycles (IsMovingIn (rows changes)) (WaitsHere (waiting (rows changes))) cycles (λ r c moves. of_moving (rows changes) r moves) (λ r here. moving_of (rows changes) r here) all)

  pub cycles_found : (cycles : List (List Row)) × AreCycles (IsMovingIn (rows changes)) cycles
  cycles_found =
      let some = found (rows changes) flat_rows (waiting (rows changes)) (knots (waiting (rows changes))) at_first counts in
      (some.0, alike_cycles (WaitsHere (waiting (rows changes))) (IsMovingIn (rows changes)) some.0 (λ r c here. moving_of (rows changes) r here) (λ r moves. of_moving (rows changes) r moves) some.1)
