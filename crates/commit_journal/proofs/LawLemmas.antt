-- Laws of journals and of faults.
use Rattle.std.proofs.Common.{◌≡◌, ℕ, List, ◌++◌, length, Some, Result, Ok, Err, sym, ap, ◌∙◌, append_assoc, arith}
use Rattle.std.proofs.lemmas.Option.{some_pair_parts}
use Rattle.commit_steps.specs.declared.step.Step.{Step}
use Rattle.commit_journal.specs.declared.version.Version.{Version}
use Rattle.commit_journal.specs.Faults.{IsFault}
use Rattle.commit_journal.specs.Grammar.{magic, four_bytes, IsJournalOf}
use Rattle.commit_journal.specs.Reading.{magic_at, journal_at}
use Rattle.commit_journal.proofs.ReadLemmas.{IsBytes}
use Rattle.commit_journal.proofs.GrammarLemmas.{journal_spelled}
use Rattle.commit_journal.proofs.JournalLemmas.{magic_again, journal_again, fault_stops}

read_as : (v : Version) (s : List Step) (bytes : List ℕ) → IsJournalOf v s bytes → journal_at bytes ≡ Ok s
read_as v s bytes h = let spelled = journal_spelled v s bytes h in ap journal_at spelled.1 ∙ journal_again v s spelled.0

ok_same : (s t : List Step) → ◌≡◌ {A = Result (List Step) (List ℕ)} (Ok s) (Ok t) → s ≡ t
ok_same s t e = cc

err_same : (s t : List ℕ) → ◌≡◌ {A = Result (List Step) (List ℕ)} (Err s) (Err t) → s ≡ t
err_same s t e = cc

pub one_list : (v w : Version) (s t : List Step) (bytes : List ℕ) → IsJournalOf v s bytes → IsJournalOf w t bytes → s ≡ t
one_list v w s t bytes a b = ok_same s t (sym (read_as v s bytes a) ∙ read_as w t bytes b)

named : (v : Version) (s : List Step) (bytes : List ℕ) (h : IsJournalOf v s bytes) → magic_at bytes ≡ Some (v, four_bytes (length s) ++ h.body)
named v s bytes h = ap magic_at (h.is ∙ append_assoc (magic v) (four_bytes (length s)) h.body) ∙ magic_again v (four_bytes (length s) ++ h.body)

pub one_version : (v w : Version) (s t : List Step) (bytes : List ℕ) → IsJournalOf v s bytes → IsJournalOf w t bytes → v ≡ w
one_version v w s t bytes a b =
    (some_pair_parts v w (four_bytes (length s) ++ a.body) (four_bytes (length t) ++ b.body) (sym (named v s bytes a) ∙ named w t bytes b)).0

pub one_place : (bytes : List ℕ) (first second : ℕ) → IsBytes bytes → IsFault bytes first → IsFault bytes second → first ≡ second
one_place bytes first second fit a b =
    let x = fault_stops bytes first fit a in
    let y = fault_stops bytes second fit b in
    let rest = ap (λ (l : List ℕ). length l) (err_same x.rest y.rest (sym x.is ∙ y.is)) in
    let one = x.place in
    let two = y.place in
    omega arith
