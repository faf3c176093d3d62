-- What the steps of a plan cost.
use Rattle.std.proofs.Common.{◌≡◌, ◌⊎◌, inl, inr, ℕ, ◌+◌, ◌*◌, ◌≤◌, ◌^◌, not, ◌||◌, Bool, true, false, cond, List, [], ◌∷◌, ◌++◌, map, filter, length, sym, ◌∙◌, ap, subst, arith, length-append, is_some}
use Rattle.std.specs.Prelude.{Contains}
use Rattle.std.specs.List.{flat_map, list_any}
use Rattle.std.specs.List.Sorted.{IsStrictlySortedBy}
use Rattle.std.specs.Ordering.{is_eq}
use Rattle.std.specs.declared.cmp.Ordering.{Ordering}
use Rattle.std.specs.declared.cmp.Ordering.TheVariants.{Less}
use Rattle.std.proofs.lemmas.Bool.{cond-true, cond-false, cases_Bool}
use Rattle.std.proofs.lemmas.List.Elements.{All-contains}
use Rattle.std.proofs.lemmas.Map.Keys.{sorted_tail}
use Rattle.std.proofs.lemmas.Map.Views.{All-after_first}
use Rattle.dired_text.specs.Paths.{Names, path_cmp}
use Rattle.commit_steps.specs.declared.step.Step.{Step}
use Rattle.commit_steps.specs.declared.step.Step.TheVariants.{MakeDir}
use Rattle.edit_words.specs.declared.row.Row.{Row}
use Rattle.edit_words.specs.Edited.{is_fresh}
use Rattle.edit_words.specs.Place.{ancestors}
use Rattle.edit_words.specs.Refusals.{total, missing_above, row_bytes}
use Rattle.edit_words.specs.Rows.{is_same_path, is_elsewhere, written}
use Rattle.edit_words.specs.Sight.{Sight}
use Rattle.edit_words.proofs.AncestorLemmas.{ancestors_counted}
use Rattle.edit_words.proofs.SameLemmas.{same_path, same_itself}
use Rattle.edit_laws.proofs.ListLemmas.{contains_head, contains_tail, contains_filter, any_parts, any_from}
use Rattle.edit_rules.specs.Plans.{AreMissing, AreModes, ModeChange, mode_change_of, mode_changes}
use Rattle.edit_rules.proofs.BytesLemmas.{names_counted, filtered_counted}
use Rattle.plan_moves.specs.Moves.{fresh_spots}
use Rattle.plan_moves.specs.Plan.{IsPlan, held_by, held_paths, holds, mode_step}
use Rattle.plan_moves.specs.Waiting.{waiting}
use Rattle.plan_moves.proofs.AtMost.{count_here, zero_if}
use Rattle.plan_journals.proofs.Totals.{total-append, total_most, less_one, same_total, total-map, total-flat, of_some, total-some}
use Rattle.plan_journals.proofs.StagedBytes.{held_bytes, short_at_first}
use Rattle.plan_journals.proofs.MoveCosts.{weight, moves_cost, move_cost, waiting_cost}
use Rattle.plan_journals.proofs.RowCosts.{RemovedAlone, hold_cost, dir_cost, mode_cost, own_cost, row_costs, held_few, written_counted}

-- ---- numbers

pub few_held : (sight : Sight) (all rs : List Row) → length (flat_map (held_by sight all) rs) ≤ 2 * length rs
few_held sight all [] = omega arith
few_held sight all (r ∷ rs) =
    let both = length-append (held_by sight all r) (flat_map (held_by sight all) rs) in
    let own = held_few sight all r in
    let more = few_held sight all rs in
    omega arith

one_at_most : (b : Bool) → zero_if b ≤ 1
one_at_most true = omega arith
one_at_most false = omega arith

pub few_here : (rs : List Row) → count_here (waiting rs) ≤ length rs
few_here [] = omega arith
few_here (r ∷ rs) = go (few_here rs) (cases_Bool (is_fresh r || is_some r.to))
  where
    go : count_here (waiting rs) ≤ length rs → ((is_fresh r || is_some r.to) ≡ true) ⊎ ((is_fresh r || is_some r.to) ≡ false) → count_here (waiting (r ∷ rs)) ≤ length (r ∷ rs)
    go more (inl waits) = let e = ap count_here (cond-true _ ((record { row = r; is_away = is_fresh r }) ∷ waiting rs) (waiting rs) waits) in let own = one_at_most (is_fresh r) in omega arith
    go more (inr stays) = let e = ap count_here (cond-false _ ((record { row = r; is_away = is_fresh r }) ∷ waiting rs) (waiting rs) stays) in omega arith

-- ---- the parts of a plan

module _ (c d : ℕ) where
  holds_cost : (n : ℕ) (ps : List Names) → n + length ps ≤ 2 ^ 32 → total (weight c d) (holds n ps) ≤ total (hold_cost c) ps
  holds_cost n [] few = omega arith
  holds_cost n (p ∷ ps) few = let own = held_bytes n (omega arith) in let more = holds_cost (n + 1) ps (omega arith) in omega arith

later_other : (p q : Names) → path_cmp p q ≡ Less → not (is_same_path p q) ≡ true
later_other p q less = ap (λ (o : Ordering). not (is_eq o)) less

-- paths that differ, of a list
differ_cost : (f : Names → ℕ) (ps qs : List Names) → IsStrictlySortedBy path_cmp ps → ((p : Names) → Contains ps p → Contains qs p) → total f ps ≤ total f qs
differ_cost f [] qs sorted within = omega arith
differ_cost f (p ∷ ps) qs sorted within =
    let others = λ (q : Names). not (is_same_path p q) in
    let more = differ_cost f ps (filter others qs) (sorted_tail path_cmp p ps sorted)
    (λ q c. contains_filter others qs q (within q (contains_tail p q ps c)) (later_other p q (All-contains (λ (x : Names). path_cmp p x ≡ Less) ps q (All-after_first path_cmp p ps sorted) c))) in
    let own = less_one others f qs p (within p (contains_head p ps)) (ap not (same_itself p)) in
    omega arith

pub missing_within : (sight : Sight) (rs : List Row) (ps : List Names) → AreMissing sight rs ps → (p : Names) → Contains ps p → Contains (flat_map (missing_above sight) rs) p
missing_within sight rs ps are p c =
    let has : list_any (is_same_path p) (flat_map (missing_above sight) rs) ≡ true = sym (are.same p) ∙ any_from (is_same_path p) ps p c (same_itself p) in
    let found = any_parts (is_same_path p) (flat_map (missing_above sight) rs) has in
    subst (Contains (flat_map (missing_above sight) rs)) (sym (same_path p found.0 found.2)) found.1

total_parts : (a b e g : Row → ℕ) (rs : List Row) → total a rs + total b rs + total e rs + total g rs ≡ total (λ r. (a r + b r + e r) + g r) rs
total_parts a b e g [] = omega arith
total_parts a b e g (r ∷ rs) = let more = total_parts a b e g rs in omega arith

-- ---- all steps

module _ (c d : ℕ) (sight : Sight) (rs : List Row) where
  -- the most that the steps for a change cost
  abbrev pub most_cost : Row → ℕ
  most_cost r = 2 * row_bytes sight rs r + ((104 + 4 * c) + total (λ (p : Names). d) (missing_above sight r))

  modes_cost : (ms : List ModeChange) → AreModes sight rs ms → total (weight c d) (map mode_step ms) ≡ total (λ (r : Row). of_some (mode_cost c) (mode_change_of sight rs r)) rs
  modes_cost ms are = total-map (weight c d) mode_step ms ∙ same_total (mode_cost c) ms (mode_changes sight rs) are.same ∙ total-some (mode_cost c) (mode_change_of sight rs) rs

  pub plan_costs : (steps : List Step) → 2 * length rs ≤ 2 ^ 32 → ((r : Row) → Contains rs r → RemovedAlone r) → IsPlan sight rs steps → total (weight c d) steps ≤ total most_cost rs
  plan_costs steps few alone plan =
      let whole = ap (total (weight c d)) plan.steps_are in
      let a = total-append (weight c d) (holds 0 (held_paths sight rs)) (map MakeDir plan.dirs ++ (plan.moves ++ map mode_step plan.modes)) in
      let b = total-append (weight c d) (map MakeDir plan.dirs) (plan.moves ++ map mode_step plan.modes) in
      let e = total-append (weight c d) plan.moves (map mode_step plan.modes) in
      let long = few_held sight rs rs in
      let held = holds_cost c d 0 (held_paths sight rs) (omega arith) in
      let held_rows = total-flat (hold_cost c) (held_by sight rs) rs in
      let made = total-map (weight c d) MakeDir plan.dirs in
      let made_most = differ_cost (dir_cost d) plan.dirs (flat_map (missing_above sight) rs) plan.missing.sorted (missing_within sight rs plan.dirs plan.missing) in
      let made_rows = total-flat (dir_cost d) (missing_above sight) rs in
      let here = few_here rs in
      let moved = moves_cost c d 0 (fresh_spots 0 rs) (waiting rs) plan.moves (short_at_first 0 rs (omega arith)) (omega arith) plan.moved in
      let moved_rows = waiting_cost c d rs in
      let changed = modes_cost plan.modes plan.changed in
      let parts = total_parts (λ (r : Row). total (hold_cost c) (held_by sight rs r)) (move_cost c d) (λ (r : Row). of_some (mode_cost c) (mode_change_of sight rs r))
      (λ (r : Row). total (dir_cost d) (missing_above sight r)) rs in
      let most = total_most (λ (r : Row). own_cost c sight rs r + total (dir_cost d) (missing_above sight r)) most_cost rs (λ r listed. row_costs c sight rs d r (alone r listed)) in
      omega arith

-- ---- by the bytes of the changes

pub missing_few : (sight : Sight) (rs : List Row) (r : Row) → length (missing_above sight r) ≤ row_bytes sight rs r + 1
missing_few sight rs r =
    let names = names_counted (written r) in
    let counted = ancestors_counted (written r) in
    let own = written_counted rs r in
    let kept = by_far (is_elsewhere r) in
    omega arith
  where
    missing_of : (b : Bool) → List Names
    missing_of b = cond b (filter (λ (p : Names). not (is_some (sight.at p))) (ancestors (written r))) []

    by_far : (b : Bool) → length (missing_of b) ≤ length (ancestors (written r))
    by_far true = filtered_counted (λ (p : Names). not (is_some (sight.at p))) (ancestors (written r))
    by_far false = omega arith
