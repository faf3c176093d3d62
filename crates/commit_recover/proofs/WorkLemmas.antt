-- What a recovery may take with it, by what was found.
use Rattle.std.proofs.Common.{◌≡◌, ℕ, ◌≤◌, nat_lt, false, length, Some, None, sym, ◌∙◌, ap, arith}
use Rattle.std.specs.List.{AllByRecursion}
use Rattle.std.proofs.lemmas.Bool.Decides.{nat_tests}
use Rattle.recovery_calls.specs.Underway.{AreOnce, NamesAmong}
use Rattle.recovery_start.specs.declared.leftovers.Leftovers.{Leftovers}
use Rattle.recovery_start.specs.Start.{IsSortedOut}
use Rattle.staging_names.specs.declared.staged_name.Journal.TheVariants.{Plan}
use Rattle.staging_names.specs.declared.staged_name.Marker as marker
use Rattle.staging_names.specs.declared.standing.Standing.{Standing}
use Rattle.staging_names.specs.Tests.{counts_more}
use Rattle.staging_names.proofs.OrderLemmas.{counted, in_order}
use Rattle.commit_recover.proofs.EntryLemmas.{entries_once, steps_among}

not_less : (m n : ℕ) → nat_lt n m ≡ false → m ≤ n
not_less m n e = grind (arith, nat_tests)

module _ (l : Leftovers) (sorted : IsSortedOut l) where
  -- the marker counts no more steps than there are
  pub marker_within : (m : marker.Marker) → l.standing ≡ record { journal = Some Plan; marker = Some m } → m.number ≤ length l.steps
  marker_within m is =
      not_less m.number (length l.steps) (sym (ap (λ (s : Standing). counts_more s.marker (length l.steps)) (sym sorted.standing ∙ is)) ∙ counted l.found.items (length l.steps) sorted.counted)

  -- `plan` doesn't stand without one
  pub plan_marked : l.standing.journal ≡ Some Plan → l.standing.marker ≡ None → ⊥
  plan_marked plan none =
      (in_order l.found.items sorted.in_order).marked (sym (ap (λ (s : Standing). s.journal) sorted.standing) ∙ plan) (sym (ap (λ (s : Standing). s.marker) sorted.standing) ∙ none)

  -- the entries come once each, and the steps name no others
  pub once : AreOnce l.entries.items
  once = entries_once l.found.items l.names.items sorted.named l.steps sorted.steps l.entries.items sorted.entries

  pub among : AllByRecursion (NamesAmong l.entries.items) l.steps
  among = steps_among l.found.items l.names.items sorted.named l.steps sorted.steps l.entries.items sorted.entries
