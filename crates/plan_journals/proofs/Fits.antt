-- The steps of a plan fit a journal.
use Rattle.std.proofs.Common.{◌≡◌, ◌⊎◌, inl, inr, ℕ, ◌+◌, ◌*◌, ◌≤◌, ◌^◌, nat_lt, true, false, List, [], ◌∷◌, length, refl, sym, ◌∙◌, arith, Some, None}
use Rattle.std.proofs.lemmas.Bool.{cond-true, cases_Bool}
use Rattle.std.proofs.lemmas.Bool.Decides.{nat_tests}
use Rattle.std.proofs.lemmas.Option.{none-some}
use Rattle.dired_text.specs.Paths.{Names}
use Rattle.tree_core.specs.declared.changes.Changes.{Changes}
use Rattle.tree_core.specs.declared.changes.Confirmed.{Confirmed}
use Rattle.edit_words.specs.declared.fault.CheckFault.TheVariants.{PathBytes}
use Rattle.edit_words.specs.declared.row.Row.{Row}
use Rattle.edit_words.specs.Refusals.{total, missing_above, row_bytes, changed_bytes, max_changed_bytes, too_many_bytes, refusal}
use Rattle.edit_words.specs.Rows.{rows}
use Rattle.edit_words.specs.Sight.{Sight}
use Rattle.edit_words.specs.WellFormed.{AreAsked}
use Rattle.edit_words.proofs.FindLemmas.{or_none}
use Rattle.commit_steps.specs.declared.step.Step.{Step}
use Rattle.plan_moves.specs.Plan.{IsPlan}
use Rattle.plan_journals.specs.Laws.{FitsAJournal}
use Rattle.plan_journals.proofs.RowCosts.{removed_alone}
use Rattle.plan_journals.proofs.TextBytes.{bytes_are, number_is, journal_bytes}
use Rattle.plan_journals.proofs.PlanCosts.{most_cost, plan_costs, missing_few}

-- ---- the bytes of changes that aren't refused

few_bytes : (n : ℕ) → too_many_bytes n ≡ None → n ≤ max_changed_bytes
few_bytes n none = go (cases_Bool (nat_lt max_changed_bytes n))
  where
    at_most : nat_lt max_changed_bytes n ≡ false → n ≤ max_changed_bytes
    at_most e = grind (arith, nat_tests)

    go : (nat_lt max_changed_bytes n ≡ true) ⊎ (nat_lt max_changed_bytes n ≡ false) → n ≤ max_changed_bytes
    go (inl over) = absurd (none-some (PathBytes n) (sym none ∙ cond-true (nat_lt max_changed_bytes n) (Some (PathBytes n)) None over))
    go (inr few) = at_most few

pub taken_bytes : (sight : Sight) (confirmed : Confirmed) (rs : List Row) → refusal sight confirmed rs ≡ None → changed_bytes sight rs ≤ max_changed_bytes
taken_bytes sight confirmed rs taken = few_bytes (changed_bytes sight rs) ((or_none _ _).0 ((or_none _ _).0 taken).1).1

-- ---- by what each step costs

none_each : (ps : List Names) → total (λ (p : Names). 0) ps ≡ 0
none_each [] = refl
none_each (p ∷ ps) = let more = none_each ps in omega arith

one_each : (ps : List Names) → total (λ (p : Names). 1) ps ≡ length ps
one_each [] = refl
one_each (p ∷ ps) = let more = one_each ps in omega arith

nine_each : (ps : List Names) → total (λ (p : Names). 9) ps ≡ 9 * length ps
nine_each [] = refl
nine_each (p ∷ ps) = let more = nine_each ps in omega arith

module _ (sight : Sight) (all : List Row) where
  by_bytes : (rs : List Row) → total (most_cost 0 0 sight all) rs ≡ 2 * total (row_bytes sight all) rs + 104 * length rs
  by_bytes [] = refl
  by_bytes (r ∷ rs) = let more = by_bytes rs in let dirs = none_each (missing_above sight r) in omega arith

  by_number : (rs : List Row) → total (most_cost 1 1 sight all) rs ≤ 3 * total (row_bytes sight all) rs + 109 * length rs
  by_number [] = omega arith
  by_number (r ∷ rs) = let more = by_number rs in let dirs = one_each (missing_above sight r) in let few = missing_few sight all r in omega arith

  by_text : (rs : List Row) → total (most_cost 17 9 sight all) rs ≤ 11 * total (row_bytes sight all) rs + 181 * length rs
  by_text [] = omega arith
  by_text (r ∷ rs) = let more = by_text rs in let dirs = nine_each (missing_above sight r) in let few = missing_few sight all r in omega arith

pub fits : (sight : Sight) (confirmed : Confirmed) (changes : Changes) (steps : List Step) → AreAsked changes → refusal sight confirmed (rows changes) ≡ None → IsPlan sight (rows changes) steps
    → FitsAJournal sight (rows changes) steps
fits sight confirmed changes steps asked taken plan =
    let rs = rows changes in
    let limit = taken_bytes sight confirmed rs taken in
    let few = asked.count in
    let some : 2 * length rs ≤ 2 ^ 32 = omega arith in
    let bytes = plan_costs 0 0 sight rs steps some (removed_alone changes) plan in
    let bytes_sum = by_bytes sight rs rs in
    let bytes_is = bytes_are steps in
    let number = plan_costs 1 1 sight rs steps some (removed_alone changes) plan in
    let number_sum = by_number sight rs rs in
    let number_least = number_is steps in
    let text = plan_costs 17 9 sight rs steps some (removed_alone changes) plan in
    let text_sum = by_text sight rs rs in
    let text_least = journal_bytes steps in
    record {
      bytes = omega arith;
      within = omega arith;
      few = omega arith;
      short = omega arith;
    }
