-- What a changing call leaves of what is told.
use Rattle.std.proofs.Common.{◌≡◌, ◌⊎◌, inl, inr, ⊎_elim, ℕ, ◌+◌, ◌≤◌, Bool, true, false, refl, sym, ◌∙◌, ap, subst, arith, Option, Some, None, not, is_some, IsTrue, if◌then◌else◌}
use Rattle.std.specs.Option.{unwrap_or}
use Rattle.dired_text.specs.Counts.{raised, Rose}
use Rattle.tree_core.specs.declared.node.Change.{Change}
use Rattle.tree_core.specs.declared.node.CallName.{CallName}
use Rattle.tree_core.specs.declared.faults.Faults.{Faults}
use Rattle.tree_core.specs.Faults.{with_fault}
use Rattle.tree_core.specs.FileTree.{FileTree}
use Rattle.tree_core.specs.History.{History, Then, current_tree, next_number}
use Rattle.mem_tree.specs.Records.{NeedsMore}
use Rattle.mem_tree.specs.MemHistory.{Told, IsFate, RanShort, RanOut, WentAsTold, ChangeMade, next_fate, noted}

module _ (fate : Option Bool) (ok d : Bool) (change : Change) (old new : History) (ok_is : ok ≡ not (is_some fate)) (d_is : d ≡ unwrap_or fate true) (is : new ≡ (if d then Then old change else old)) where
  as_done : (b : Bool) → d ≡ b → new ≡ (if b then Then old change else old)
  as_done b e = is ∙ ap (λ x. if x then Then old change else old) e

  pub fate-ok : ok ≡ true → IsFate fate change old new false
  fate-ok held = by_fate fate ok_is d_is
    where
      by_fate : (f : Option Bool) → ok ≡ not (is_some f) → d ≡ unwrap_or f true → IsFate f change old new false
      by_fate None o e = (refl, as_done true e)
      by_fate (Some b) o e = let both : true ≡ false = sym held ∙ o in cc

  pub fate-failed : ok ≡ false → IsFate fate change old new true
  fate-failed failed = by_fate fate ok_is d_is
    where
      by_fate : (f : Option Bool) → ok ≡ not (is_some f) → d ≡ unwrap_or f true → IsFate f change old new true
      by_fate None o e = let both : false ≡ true = sym failed ∙ o in cc
      by_fate (Some b) o e = (refl, as_done b e)

-- what is told behind a call, by what is told once it counts as made
module _ (call : CallName) (old mid : Told) (h : History) (before : FileTree) (counted : mid ≡ record old { changes_made = raised old.changes_made }) where
  abbrev short_as : ℕ → Told → Told
  short_as n t = record t { history = h; short = n; changes_made = raised old.changes_made }

  same_short : mid.short ≡ old.short
  same_short = ap (λ (t : Told). t.short) counted

  pub rest-ok : before ≡ mid.before_failed → record mid { history = h; before_failed = before } ≡ short_as mid.short old
  rest-ok same = ap (λ b. record mid { history = h; before_failed = b }) same ∙ ap (λ (t : Told). record t { history = h }) counted ∙ ap (λ n. short_as n old) (sym same_short)

  pub rest-failed : (faults : Faults) → before ≡ current_tree old.history → faults ≡ with_fault call mid.faults → record mid { history = h; before_failed = before; faults = faults } ≡ short_as mid.short (noted call true old)
  rest-failed faults same is =
      ap (λ b. record mid { history = h; before_failed = b; faults = faults }) same
      ∙ ap (λ f. record mid { history = h; before_failed = current_tree old.history; faults = f }) (is ∙ ap (λ (t : Told). with_fault call t.faults) counted)
      ∙ ap (λ (t : Told). record t { history = h; before_failed = current_tree old.history; faults = with_fault call old.faults }) counted
      ∙ ap (λ n. short_as n (noted call true old)) (sym same_short)

-- what the relation gives

module _ (call : CallName) (change : Change) (old new : Told) where
  held : (f : Option Bool) → IsFate f change old.history new.history false → new.history ≡ Then old.history change
  held None is = is.1
  held (Some d) is = let both : false ≡ true = is.0 in cc

  either : (f : Option Bool) → IsFate f change old.history new.history true → (new.history ≡ old.history) ⊎ (new.history ≡ Then old.history change)
  either None is = let both : true ≡ false = is.0 in cc
  either (Some true) is = inr is.1
  either (Some false) is = inl is.1

  pub performs-ok : ChangeMade call change false old new → new.history ≡ Then old.history change
  performs-ok made = ⊎_elim (λ (k : RanShort false old new). let both : false ≡ true = k.fails in cc)
      (λ other. ⊎_elim (λ (k : RanOut change false old new). let both : false ≡ true = k.fails in cc) (λ (k : WentAsTold change false old new). held (next_fate old) k.fate) other) made.fate

  pub performs-err : ChangeMade call change true old new → (new.history ≡ old.history) ⊎ (new.history ≡ Then old.history change)
  performs-err made = ⊎_elim (λ (k : RanShort true old new). inl k.undone)
      (λ other. ⊎_elim (λ (k : RanOut change true old new). inl k.undone) (λ (k : WentAsTold change true old new). either (next_fate old) k.fate) other) made.fate

  noted_times : (failed : Bool) → (noted call failed old).times ≡ old.times
  noted_times true = refl
  noted_times false = refl

  pub times-made : (failed : Bool) → ChangeMade call change failed old new → new.times ≡ old.times
  times-made failed made = ap (λ (t : Told). t.times) made.rest ∙ noted_times failed

  named : (f : Option Bool) → IsFate f change old.history new.history true → IsTrue (is_some f)
  named None is = let both : true ≡ false = is.0 in cc
  named (Some d) is = refl

  abbrev Reason : Type 0
  Reason = (IsTrue (is_some (next_fate old)) ⊎ Rose old.short new.short) ⊎ NeedsMore change (next_number old.history)

  rose : new.short ≡ raised old.short → Rose old.short new.short
  rose is = omega arith

  pub reason-made : ChangeMade call change true old new → Reason
  reason-made made = ⊎_elim (λ (k : RanShort true old new). inl (inr (rose k.short)))
      (λ other. ⊎_elim (λ (k : RanOut change true old new). inr k.ends) (λ (k : WentAsTold change true old new). inl (inl (named (next_fate old) k.fate))) other) made.fate
