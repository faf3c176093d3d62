-- A journal takes the steps of a plan in each order.
use Rattle.std.proofs.Common.{◌≡◌, ℕ, ◌+◌, ◌*◌, ◌≤◌, ◌^◌, List, [], ◌∷◌, ◌++◌, length, refl, sym, ◌∙◌, arith}
use Rattle.std.specs.List.{AllByRecursion}
use Rattle.commit_journal.specs.declared.version.Version.TheVariants.{Two}
use Rattle.commit_journal.specs.Spelling.{CanEncode, journal_text}
use Rattle.commit_steps.specs.declared.step.Step.{Step}
use Rattle.commit_steps.specs.Steps.{IsLawfulStep, all_bytes}
use Rattle.dired_text.specs.Paths.{Names}
use Rattle.edit_check.specs.StandFor.{changes_in, confirmed_in, found_in}
use Rattle.edit_words.specs.declared.row.Row.{Row}
use Rattle.edit_words.specs.Refusals.{max_changed_bytes, missing_above, row_bytes, total}
use Rattle.edit_words.specs.Rows.{rows}
use Rattle.edit_words.specs.Sight.{Sight}
use Rattle.plan_journals.specs.Laws.{max_journal_bytes}
use Rattle.plan_journals.proofs.Fits.{fits, taken_bytes}
use Rattle.plan_journals.proofs.MoveCosts.{weight}
use Rattle.plan_journals.proofs.PlanCosts.{missing_few, most_cost, plan_costs}
use Rattle.plan_journals.proofs.RowCosts.{removed_alone}
use Rattle.plan_journals.proofs.Spelled.{spelled}
use Rattle.plan_journals.proofs.TextBytes.{bytes_are, journal_bytes}
use Rattle.plan_journals.proofs.Totals.{total-append}
use Rattle.plan_orders.specs.Laws.{OrdersCanBeSpelled}
use Rattle.step_layers.specs.Order.{KeepsOrder, none, placed}
use Rattle.step_layers.proofs.ExchangeLemmas.{orders_have_all}
use Rattle.step_layers.proofs.OrderLemmas.{all_both, all_first, all_second}

-- ---- sums and properties of steps

total_kept : (f : Step → ℕ) (steps others : List Step) → KeepsOrder steps others → total f others ≡ total f steps
total_kept f _ _ none = refl
total_kept f _ _ (placed s steps before behind apart keeps) =
    let there = total-append f before (s ∷ behind) in
    let here = total-append f before behind in
    let more = total_kept f steps (before ++ behind) keeps in
    omega arith

pub all_of : (P : Step → Type 0) (steps others : List Step) → KeepsOrder steps others → AllByRecursion P steps → AllByRecursion P others
all_of P _ _ none all = tt
all_of P _ _ (placed s steps before behind apart keeps) all =
    let more = all_of P steps (before ++ behind) keeps all.1 in
    all_both P before (s ∷ behind) (all_first P before behind more) (all.0, all_second P before behind more)

-- and back
pub all_from : (P : Step → Type 0) (steps others : List Step) → KeepsOrder steps others → AllByRecursion P others → AllByRecursion P steps
all_from P _ _ none all = tt
all_from P _ _ (placed s steps before behind apart keeps) all =
    let rest = all_second P before (s ∷ behind) all in
    (rest.0, all_from P steps (before ++ behind) keeps (all_both P before behind (all_first P before (s ∷ behind) all) rest.1))

-- ---- the bytes of a journal

nine_each : (ps : List Names) → total (λ (p : Names). 9) ps ≡ 9 * length ps
nine_each [] = refl
nine_each (p ∷ ps) = let more = nine_each ps in omega arith

by_text : (sight : Sight) (all rs : List Row) → total (most_cost 17 9 sight all) rs ≤ 11 * total (row_bytes sight all) rs + 181 * length rs
by_text sight all [] = omega arith
by_text sight all (r ∷ rs) = let more = by_text sight all rs in let dirs = nine_each (missing_above sight r) in let few = missing_few sight all r in omega arith

pub orders_can_be_spelled : OrdersCanBeSpelled
orders_can_be_spelled checked steps others is plan keeps =
    let sight = found_in checked in
    let rs = rows (changes_in checked) in
    let spell = spelled checked steps is plan in
    let few = spell.few in
    let as_many = (orders_have_all steps others keeps).1 in
    let within = spell.within in
    let bytes = bytes_are steps in
    let other_bytes = bytes_are others in
    let same_bytes = total_kept (weight 0 0) steps others keeps in
    let limit = taken_bytes sight (confirmed_in checked) rs is.taken in
    let count = is.asked.count in
    let some : 2 * length rs ≤ 2 ^ 32 = omega arith in
    let text = plan_costs 17 9 sight rs steps some (removed_alone (changes_in checked)) plan in
    let text_sum = by_text sight rs rs in
    let same_text = total_kept (weight 17 9) steps others keeps in
    let text_least = journal_bytes others in
    (record { lawful = all_of IsLawfulStep steps others keeps spell.lawful; few = omega arith; within = omega arith }, omega arith)
