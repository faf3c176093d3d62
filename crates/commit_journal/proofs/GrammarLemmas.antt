-- The grammar, as a relation, holds of just the texts.
use Rattle.std.proofs.Common.{◌≡◌, ℕ, ◌+◌, ◌-◌, List, [], ◌∷◌, ◌++◌, length, drop, refl, sym, ap, ◌∙◌, append_assoc, arith}
use Rattle.std.specs.List.{AllByRecursion}
use Rattle.std.proofs.lemmas.List.{append-nil}
use Rattle.dired_text.specs.Paths.{Names, joined, path_bytes}
use Rattle.commit_steps.specs.declared.step.Step.{Step}
use Rattle.commit_steps.specs.declared.step.Step.TheVariants.{MakeDir, Rename, Mode}
use Rattle.commit_steps.specs.Steps.{first_path, step_bytes, all_bytes}
use Rattle.commit_journal.specs.declared.version.Version.{Version}
use Rattle.commit_journal.specs.declared.version.Version.TheVariants.{One, Two}
use Rattle.commit_journal.specs.Grammar.{two_bytes, four_bytes, magic, IsPathText, IsStepText, AreStepTexts, IsJournalOf}
use Rattle.commit_journal.specs.Sharing.{shared_bytes}
use Rattle.commit_journal.specs.Spelling.{path_text, step_text, steps_text, journal_text, CanSpell}
use Rattle.commit_journal.proofs.SharingLemmas.{shared_is, shared_one}

-- ---- paths

path_spells : (v : Version) (base : List ℕ) (p : Names) → IsPathText v base p (path_text v base p)
unfolding path_text
path_spells One base p = refl
path_spells Two base p = (shared_bytes base (joined p), shared_is base (joined p), refl)

path_spelled : (v : Version) (base : List ℕ) (p : Names) (text : List ℕ) → IsPathText v base p text → text ≡ path_text v base p
unfolding path_text
path_spelled One base p text h = h
path_spelled Two base p text h =
    h.2 ∙ ap (λ (n : ℕ). four_bytes n ++ four_bytes (path_bytes p - n) ++ drop n (joined p)) (shared_one base (joined p) h.0 (shared_bytes base (joined p)) h.1 (shared_is base (joined p)))

-- ---- steps

step_spells : (v : Version) (base : List ℕ) (step : Step) → IsStepText v base step (step_text v base step)
unfolding step_text
step_spells v base (MakeDir p) = (path_text v base p, path_spells v base p, refl)
step_spells v base (Rename from to) = (path_text v base from, path_text v (joined from) to, path_spells v base from, path_spells v (joined from) to, refl)
step_spells v base (Mode p old new) = (path_text v base p, path_spells v base p, refl)

step_spelled : (v : Version) (base : List ℕ) (step : Step) (text : List ℕ) → IsStepText v base step text → text ≡ step_text v base step
unfolding step_text
step_spelled v base (MakeDir p) text h = h.2 ∙ ap (λ (l : List ℕ). 68 ∷ l) (path_spelled v base p h.0 h.1)
step_spelled v base (Rename from to) text h =
    h.4 ∙ ap (λ (l : List ℕ). 82 ∷ l ++ h.1) (path_spelled v base from h.0 h.2)
    ∙ ap (λ (l : List ℕ). 82 ∷ path_text v base from ++ l) (path_spelled v (joined from) to h.1 h.3)
step_spelled v base (Mode p old new) text h = h.2 ∙ ap (λ (l : List ℕ). 77 ∷ l ++ two_bytes old ++ two_bytes new) (path_spelled v base p h.0 h.1)

pub steps_spell : (v : Version) (base : List ℕ) (steps : List Step) → AreStepTexts v base steps (steps_text v base steps)
unfolding steps_text
steps_spell v base [] = refl
steps_spell v base (step ∷ steps) =
    (step_text v base step, steps_text v (joined (first_path step)) steps, step_spells v base step, steps_spell v (joined (first_path step)) steps, refl)

pub steps_spelled : (v : Version) (base : List ℕ) (steps : List Step) (text : List ℕ) → AreStepTexts v base steps text → text ≡ steps_text v base steps
unfolding steps_text
steps_spelled v base [] text h = h
steps_spelled v base (step ∷ steps) text h =
    h.4 ∙ ap (λ (l : List ℕ). l ++ h.1) (step_spelled v base step h.0 h.2)
    ∙ ap (λ (l : List ℕ). step_text v base step ++ l) (steps_spelled v (joined (first_path step)) steps h.1 h.3)

-- ---- journals

pub journal_spelled : (v : Version) (steps : List Step) (bytes : List ℕ) → IsJournalOf v steps bytes → CanSpell v steps × (bytes ≡ journal_text v steps)
unfolding journal_text
journal_spelled v steps bytes h = (
  record { few = h.few; lawful = h.spelled.lawful; paths = h.spelled.paths; within = h.spelled.within },
  h.is ∙ ap (λ (l : List ℕ). magic v ++ four_bytes (length steps) ++ l) (steps_spelled v [] steps h.body h.spelled.texts),
)

pub journal_spells : (v : Version) (steps : List Step) → CanSpell v steps → IsJournalOf v steps (journal_text v steps)
unfolding journal_text
journal_spells v steps h = record {
  few = h.few;
  body = steps_text v [] steps;
  spelled = record { lawful = h.lawful; paths = h.paths; within = h.within; texts = steps_spell v [] steps };
  is = refl;
}

-- ---- one step more

abbrev pub base_after : List ℕ → List Step → List ℕ
base_after base [] = base
base_after base (step ∷ steps) = base_after (joined (first_path step)) steps

pub steps_text-push : (v : Version) (base : List ℕ) (steps : List Step) (step : Step) → steps_text v base (steps ++ step ∷ []) ≡ steps_text v base steps ++ step_text v (base_after base steps) step
unfolding steps_text
steps_text-push v base [] step = append-nil (step_text v base step)
steps_text-push v base (s ∷ steps) step =
    ap (λ (l : List ℕ). step_text v base s ++ l) (steps_text-push v (joined (first_path s)) steps step)
    ∙ sym (append_assoc (step_text v base s) (steps_text v (joined (first_path s)) steps) (step_text v (base_after (joined (first_path s)) steps) step))

pub base_after-push : (base : List ℕ) (steps : List Step) (step : Step) → base_after base (steps ++ step ∷ []) ≡ joined (first_path step)
base_after-push base [] step = refl
base_after-push base (s ∷ steps) step = base_after-push (joined (first_path s)) steps step

pub all_bytes-push : (steps : List Step) (step : Step) → all_bytes (steps ++ step ∷ []) ≡ all_bytes steps + step_bytes step
all_bytes-push [] step = omega arith
all_bytes-push (s ∷ steps) step = let behind = all_bytes-push steps step in omega arith

pub all_last : {X : Type 0} (P : X → Type 0) (xs : List X) (x : X) → AllByRecursion P (xs ++ x ∷ []) → P x
all_last P [] x all = all.0
all_last P (y ∷ xs) x all = all_last P xs x all.1
