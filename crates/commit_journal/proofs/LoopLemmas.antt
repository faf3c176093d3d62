-- Steps of a journal that are read one after the other, and what a call of `decode` answers.
use Rattle.std.proofs.Common.{◌≡◌, ℕ, suc, ◌+◌, ◌-◌, ◌<◌, ◌≤◌, true, false, eqb, List, [], ◌∷◌, ◌++◌, length, Some, None, Result, Ok, Err, refl, sym, ap, subst, ◌∙◌, arith, inl, inr}
use Rattle.std.specs.Result.{IfOk, IfErr, MatchResult}
use Rattle.std.proofs.lemmas.List.{append-nil}
use Rattle.dired_text.specs.Answers.{IsOrMemory}
use Rattle.commit_steps.specs.declared.step.Step.{Step}
use Rattle.commit_steps.specs.Steps.{step_bytes}
use Rattle.commit_journal.specs.declared.version.Version.{Version}
use Rattle.commit_journal.specs.declared.fault.JournalFault.{JournalFault}
use Rattle.commit_journal.specs.declared.fault.JournalFault.TheVariants as faults
use Rattle.commit_journal.specs.declared.fault.Refusal.{Refusal}
use Rattle.commit_journal.specs.declared.fault.Refusal.TheVariants as refusals
use Rattle.commit_journal.specs.Faults.{IsRefused}
use Rattle.commit_journal.specs.Grammar.{IsJournal, IsJournalOf, max_all_bytes}
use Rattle.commit_journal.specs.Reading.{Fails, next_at, with_front, steps_at, journal_at, StopsAt, GivesSteps, IsFaultAt}
use Rattle.commit_journal.proofs.ReadLemmas.{IsBytes}
use Rattle.commit_journal.proofs.GrammarLemmas.{journal_spelled, journal_spells}
use Rattle.commit_journal.proofs.JournalLemmas.{front_nothing, front_front, IsRead, journal_read, journal_again}

-- ---- the loop

pub starts : (v : Version) (count : ℕ) (from : List ℕ) (front : List Step) (base : List ℕ) → front ≡ [] → base ≡ []
    → with_front front (steps_at v base max_all_bytes (count - 0) from) ≡ steps_at v [] max_all_bytes count from
starts v count from front base f b =
    let all : count - 0 ≡ count = omega arith in
    rw (f, b, all) (front_nothing (steps_at v [] max_all_bytes count from))

pub goes_on : (v : Version) (front : List Step) (base : List ℕ) (left count i : ℕ) (rest : List ℕ) (step : Step) (first behind : List ℕ) (total : Result (List Step) (List ℕ)) → i < count
    → next_at v base left rest ≡ Some (step, first, behind) → with_front front (steps_at v base left (count - i) rest) ≡ total
    → with_front (front ++ step ∷ []) (steps_at v first (left - step_bytes step) (count - (i + 1)) behind) ≡ total
unfolding steps_at
goes_on v front base left count i rest step first behind total lt h so_far =
    let k : count - i ≡ suc (count - (i + 1)) = omega arith in
    let one : with_front front (steps_at v base left (count - i) rest) ≡ with_front (front ++ step ∷ []) (steps_at v first (left - step_bytes step) (count - (i + 1)) behind) =
    rw (k, h) (front_front front (step ∷ []) (steps_at v first (left - step_bytes step) (count - (i + 1)) behind)) in
    sym one ∙ so_far

pub refused_here : (bytes rest : List ℕ) (e : Refusal) (fault : JournalFault) (total : Result (List Step) (List ℕ)) → (e ≡ refusals.Unreadable → total ≡ Err rest) → IsFaultAt e bytes rest fault → StopsAt bytes fault total
refused_here bytes rest refusals.Memory fault total h is = subst (λ f. StopsAt bytes f total) (sym is) tt
refused_here bytes rest refusals.Unreadable fault total h is = subst (λ f. StopsAt bytes f total) (sym is.1) (rest, h refl, is.2)

stops_at : (v : Version) (front : List Step) (base : List ℕ) (left count i : ℕ) (rest : List ℕ) (total : Result (List Step) (List ℕ)) → i < count → next_at v base left rest ≡ None
    → with_front front (steps_at v base left (count - i) rest) ≡ total → total ≡ Err rest
unfolding steps_at
stops_at v front base left count i rest total lt h so_far =
    let k : count - i ≡ suc (count - (i + 1)) = omega arith in
    let one : with_front front (steps_at v base left (count - i) rest) ≡ Err rest = rw (k, h) refl in
    sym so_far ∙ one

pub stops : (v : Version) (front : List Step) (base : List ℕ) (left count i : ℕ) (bytes rest : List ℕ) (e : Refusal) (fault : JournalFault) (total : Result (List Step) (List ℕ)) → i < count → Fails e (next_at v base left rest)
    → with_front front (steps_at v base left (count - i) rest) ≡ total → IsFaultAt e bytes rest fault → StopsAt bytes fault total
stops v front base left count i bytes rest refusals.Memory fault total lt h so_far is = refused_here bytes rest refusals.Memory fault total (λ e. cc) is
stops v front base left count i bytes rest refusals.Unreadable fault total lt h so_far is =
    refused_here bytes rest refusals.Unreadable fault total (λ e. stops_at v front base left count i rest total lt h so_far) is

pub more_stands : (v : Version) (front : List Step) (base : List ℕ) (left count i : ℕ) (bytes rest : List ℕ) (fault : JournalFault) (total : Result (List Step) (List ℕ)) → count ≤ i → eqb (length rest) 0 ≡ false
    → with_front front (steps_at v base left (count - i) rest) ≡ total → IsFaultAt refusals.Unreadable bytes rest fault → StopsAt bytes fault total
unfolding steps_at
more_stands v front base left count i bytes rest fault total le some so_far is =
    let k : count - i ≡ 0 = omega arith in
    let one : with_front front (steps_at v base left (count - i) rest) ≡ Err rest = rw (k, some) refl in
    refused_here bytes rest refusals.Unreadable fault total (λ e. sym so_far ∙ one) is

pub is_done : (v : Version) (front : List Step) (base : List ℕ) (left count i : ℕ) (rest : List ℕ) (total : Result (List Step) (List ℕ)) → count ≤ i → eqb (length rest) 0 ≡ true
    → with_front front (steps_at v base left (count - i) rest) ≡ total → total ≡ Ok front
unfolding steps_at
is_done v front base left count i rest total le none so_far =
    let k : count - i ≡ 0 = omega arith in
    let one : with_front front (steps_at v base left (count - i) rest) ≡ Ok front = rw (k, none) (ap (λ (l : List Step). Ok l) (append-nil front)) in
    sym so_far ∙ one

-- ---- answers

pub found : (bytes : List ℕ) (r : Result (List Step) JournalFault) → IsBytes bytes → GivesSteps bytes r (journal_at bytes) → IfOk r (λ s. IsJournal s bytes)
found bytes (Ok s) fit given =
    let read = subst (IsRead bytes) given (journal_read bytes fit) in
    record { version = read.0; journal = subst (λ (l : List ℕ). IsJournalOf read.0 s l) (sym read.2) (journal_spells read.0 s read.1) }
found bytes (Err e) fit given = tt

err_ok : (rest : List ℕ) (s : List Step) → ◌≡◌ {A = Result (List Step) (List ℕ)} (Err rest) (Ok s) → ⊥
err_ok rest s e = subst (λ (r : Result (List Step) (List ℕ)). MatchResult r (λ _. ⊥) (λ _. Unit {0})) e tt

again : (bytes : List ℕ) (s : List Step) → IsJournal s bytes → journal_at bytes ≡ Ok s
again bytes s h =
    let spelled = journal_spelled h.version s bytes h.journal in
    ap journal_at spelled.1 ∙ journal_again h.version s spelled.0

pub only : (bytes : List ℕ) (r : Result (List Step) JournalFault) → GivesSteps bytes r (journal_at bytes) → (s : List Step) → IsJournal s bytes → IsOrMemory faults.Memory (Ok s) r
only bytes (Ok t) given s h =
    let both : ◌≡◌ {A = Result (List Step) (List ℕ)} (Ok t) (Ok s) = sym given ∙ again bytes s h in
    let same : t ≡ s = cc in
    inr (ap (λ (l : List Step). Ok l) same)
only bytes (Err faults.Memory) given s h = inl refl
only bytes (Err (faults.BadJournal offset)) given s h =
    let both : ◌≡◌ {A = Result (List Step) (List ℕ)} (Err given.0) (Ok s) = sym given.1 ∙ again bytes s h in
    absurd (err_ok given.0 s both)

pub refused : (bytes : List ℕ) (r : Result (List Step) JournalFault) → IsBytes bytes → GivesSteps bytes r (journal_at bytes) → IfErr r (λ e. IsRefused bytes e)
refused bytes (Ok s) fit given = tt
refused bytes (Err faults.Memory) fit given = tt
refused bytes (Err (faults.BadJournal offset)) fit given =
    let before = subst (IsRead bytes) given.1 (journal_read bytes fit) in
    (before offset given.2, λ s h. err_ok given.0 s (sym given.1 ∙ again bytes s h))
