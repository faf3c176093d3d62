-- What a commit takes with it fits each tree that the check stands for.
use Rattle.std.proofs.Common.{◌≡◌, ℕ, ◌+◌, ◌≤◌, Bool, List, length, sym, ◌∙◌, ap, subst, arith, IsPermutation, Result, Ok, Err, IfOk}
use Rattle.std.proofs.lemmas.List.Sorted.{length_permutation}
use Rattle.std.specs.List.{AllByRecursion}
use Rattle.dired_text.specs.Paths.{Names}
use Rattle.commit_journal.specs.declared.version.Version.TheVariants.{Two}
use Rattle.commit_journal.specs.Grammar.{IsJournalOf}
use Rattle.commit_journal.specs.Spelling.{journal_text}
use Rattle.commit_journal.proofs.GrammarLemmas.{journal_spelled, journal_spells}
use Rattle.commit_plan.specs.Promises.{AreCounted, IsOldTree}
use Rattle.commit_plan.proofs.PlanLemmas.{plan_there, planned}
use Rattle.commit_run.specs.HeldFrom.{kinds_from}
use Rattle.commit_run.specs.Preparing.{FitsTrees}
use Rattle.commit_run.specs.declared.prepared.Prepared.{Prepared}
use Rattle.commit_run.proofs.HeldLemmas.{kinds_are}
use Rattle.commit_states.specs.declared.held.Held.{Held}
use Rattle.commit_states.specs.Fits.{Fits}
use Rattle.commit_states.specs.Interrupted.{IsWritten, max_journal_bytes}
use Rattle.commit_steps.specs.declared.step.Step.{Step}
use Rattle.commit_steps.specs.Steps.{HasPaths}
use Rattle.edit_check.specs.declared.checked.Checked.{Checked}
use Rattle.edit_check.specs.StandFor.{CanBeMadeWhereItStands, IsChecked, ListedWhereItStands, changes_in, confirmed_in, found_in}
use Rattle.edit_rules.specs.Plans.{victims_of}
use Rattle.edit_words.specs.declared.row.Row.{Row}
use Rattle.edit_words.specs.Edited.{asked_fresh, edited}
use Rattle.edit_words.specs.Rows.{rows}
use Rattle.edit_words.specs.Sight.{sight_of}
use Rattle.plan_fits.specs.HeldKinds.{held_of, numbered}
use Rattle.plan_fits.specs.Laws.{AreBelow, HasText, made_for}
use Rattle.plan_fits.proofs.FitLemmas.{plan_fits}
use Rattle.plan_fits.proofs.MadeLemmas.{made_as_asked}
use Rattle.plan_journals.proofs.Fits.{fits}
use Rattle.plan_journals.proofs.Spelled.{spelled}
use Rattle.plan_laws.specs.Laws.{HaveNames}
use Rattle.plan_moves.specs.Plan.{IsPlan}
use Rattle.plan_orders.proofs.FitLemmas.{orders_fit}
use Rattle.plan_orders.proofs.OnceLemmas.{plan_once}
use Rattle.plan_orders.proofs.SpellLemmas.{all_from, orders_can_be_spelled}
use Rattle.step_layers.specs.Order.{KeepsOrder}
use Rattle.tree_core.specs.declared.changes.Fresh.{Fresh}
use Rattle.tree_core.specs.FileTree.{FileTree}

-- ---- the journal

short_enough : (n : ℕ) → n ≤ 1_073_741_824 → n ≤ max_journal_bytes
unfolding max_journal_bytes
short_enough n h = h

-- ---- in a tree

module _ (checked : Checked) (can : CanBeMadeWhereItStands checked) (listed : ListedWhereItStands checked) (is : IsChecked checked) (steps sorted : List Step)
    (plan : IsPlan (found_in checked) (rows (changes_in checked)) steps) (keeps : KeepsOrder steps sorted) where
  abbrev rs : List Row
  rs = rows (changes_in checked)

  written : (journal : List ℕ) → IsJournalOf Two sorted journal → journal ≡ journal_text Two sorted → IsWritten sorted journal
  written journal spelled text = record {
    journal = spelled;
    short = short_enough (length journal) (subst (λ (b : List ℕ). length b ≤ 1_073_741_824) (sym text) (orders_can_be_spelled checked steps sorted is plan keeps).1);
  }

  -- a journal of the steps as they were planned
  planned_journal : AllByRecursion HasPaths sorted → IsWritten steps (journal_text Two steps)
  planned_journal paths =
      let spell = spelled checked steps is plan in
      record {
        journal = journal_spells Two steps (record { few = spell.few; lawful = spell.lawful; paths = all_from HasPaths steps sorted keeps paths; within = spell.within });
        short = short_enough (length (journal_text Two steps)) (fits (found_in checked) (confirmed_in checked) (changes_in checked) steps is.asked is.taken plan).short;
      }

  held_there : (t : FileTree) → IsOldTree checked t → numbered 0 (kinds_from (victims_of (found_in checked) rs) rs) ≡ held_of (sight_of t) rs
  held_there t old =
      ap (λ (vs : List (ℕ × Names)). numbered 0 (kinds_from vs rs)) (listed t old.found).victims
      ∙ ap (λ (l : List (Names × Bool)). numbered 0 l) (kinds_are (sight_of t) rs is.asked.lines)

  pub fits_there : (fresh : List Fresh) (journal : List ℕ) (held : List Held) → fresh ≡ asked_fresh (changes_in checked) → IsJournalOf Two sorted journal → journal ≡ journal_text Two sorted
      → held ≡ numbered 0 (kinds_from (victims_of (found_in checked) rs) rs) → HaveNames rs → AllByRecursion HasText fresh
      → (t : FileTree) (next : ℕ) → IsOldTree checked t → AreBelow t next
      → Fits sorted fresh journal held (edited t rs (made_for t (changes_in checked) next)) t next
  fits_there fresh journal held asked journal_is text put_aside names texts t next old below =
      let there = plan_there checked can listed is.asked steps plan t old.found in
      let set = planned checked can listed is.asked steps plan t old in
      let one = plan_fits t (changes_in checked) steps next set names (subst (AllByRecursion HasText) asked texts) below there
      (journal_text Two steps) (spelled checked steps is plan).few (planned_journal ((journal_spelled Two sorted journal journal_is).0).paths) in
      let made = made_as_asked t next below (changes_in checked) (next + 1) (omega arith) one.lawful in
      let once = plan_once t (changes_in checked) (made_for t (changes_in checked) next) steps set names made there in
      let in_order = orders_fit steps sorted (asked_fresh (changes_in checked)) (journal_text Two steps) journal (held_of (sight_of t) rs) (edited t rs (made_for t (changes_in checked) next)) t next
      one once keeps (written journal journal_is text) in
      let two = subst (λ (fs : List Fresh). Fits sorted fs journal (held_of (sight_of t) rs) (edited t rs (made_for t (changes_in checked) next)) t next) (sym asked) in_order in
      subst (λ (hs : List Held). Fits sorted fresh journal hs (edited t rs (made_for t (changes_in checked) next)) t next) (sym (put_aside ∙ held_there t old)) two

-- as many steps
pub counted_result : {E : Type 0} (checked : Checked) (result : Result Prepared E) (steps sorted : List Step) → AreCounted checked steps → IsPermutation steps sorted
    → IfOk result (λ p. p.steps ≡ sorted) → IfOk result (λ p. AreCounted checked p.steps)
counted_result checked (Ok p) steps sorted counted same steps_are = λ t stands. ap length steps_are ∙ length_permutation steps sorted same ∙ counted t stands
counted_result checked (Err e) steps sorted counted same steps_are = tt

-- what has these parts
pub fits_result : {E : Type 0} (checked : Checked) (result : Result Prepared E) (steps : List Step) (fresh : List Fresh) (held : List Held) (journal : List ℕ)
    → IfOk result (λ p. p.steps ≡ steps) → IfOk result (λ p. p.fresh.items ≡ fresh) → IfOk result (λ p. p.held.items ≡ held) → IfOk result (λ p. p.journal ≡ journal)
    → ((t : FileTree) (next : ℕ) → IsOldTree checked t → AreBelow t next
    → Fits steps fresh journal held (edited t (rows (changes_in checked)) (made_for t (changes_in checked) next)) t next)
    → IfOk result (λ p. FitsTrees checked p)
fits_result checked (Ok p) steps fresh held journal steps_are fresh_are held_are journal_is fit = λ t next old below.
    let new = edited t (rows (changes_in checked)) (made_for t (changes_in checked) next) in
    let one = subst (λ (x : List Step). Fits x fresh journal held new t next) (sym steps_are) (fit t next old below) in
    let two = subst (λ (x : List Fresh). Fits p.steps x journal held new t next) (sym fresh_are) one in
    let three = subst (λ (x : List Held). Fits p.steps p.fresh.items journal x new t next) (sym held_are) two in
    subst (λ (x : List ℕ). Fits p.steps p.fresh.items x p.held.items new t next) (sym journal_is) three
fits_result checked (Err e) steps fresh held journal steps_are fresh_are held_are journal_is fit = tt
