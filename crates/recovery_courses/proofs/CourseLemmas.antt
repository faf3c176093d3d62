-- Courses that find nothing strange and are safe, one behind another.
use Rattle.std.proofs.Common.{◌≡◌, ℕ, List, [], ◌++◌, refl, sym, ap, subst, Option, None}
use Rattle.tree_core.specs.declared.node.Change.{Change}
use Rattle.tree_core.specs.FileTree.{FileTree}
use Rattle.tree_core.specs.History.{History}
use Rattle.tree_core.specs.Runs.{then_all}
use Rattle.tree_core.proofs.Runs.{IsSafe, safe_append, then_all-append}
use Rattle.recovery_courses.specs.Course.{Course, these, going_on, and_then}

-- From h on the course finds nothing strange; a crash at any moment leaves a tree that has P; and behind it Q holds.
pub record Goes (o : History) (P : FileTree → Type 0) (Q : History → Type 0) (h : History) (course : Course) : Type 0 where
  pub lawful : course.strange ≡ None
  pub safe : IsSafe o P h course.calls
  pub reaches : Q (then_all h course.calls)

goes_none : (calls : List Change) (strange : Option ℕ) (next : Course) → strange ≡ None → going_on calls strange next ≡ record { calls = calls ++ next.calls; strange = next.strange }
goes_none calls strange next none = ap (λ o. going_on calls o next) none

module _ (o : History) (P : FileTree → Type 0) where
  pub goes_these : (Q : History → Type 0) (h : History) (calls : List Change) → IsSafe o P h calls → Q (then_all h calls) → Goes o P Q h (these calls)
  goes_these Q h calls safe reaches = record { lawful = refl; safe = safe; reaches = reaches }

  -- calls that looks told, and those behind them
  pub goes_told : (Q : History → Type 0) (h : History) (calls : List Change) (strange : Option ℕ) (more : List Change) → strange ≡ None
      → IsSafe o P h (calls ++ more) → Q (then_all h (calls ++ more)) → Goes o P Q h (going_on calls strange (these more))
  goes_told Q h calls strange more none safe reaches = subst (Goes o P Q h) (sym (goes_none calls strange (these more) none)) record { lawful = refl; safe = safe; reaches = reaches }

  -- nothing was strange
  pub goes_looked : (Q : History → Type 0) (h : History) (strange : Option ℕ) (next : Course) → strange ≡ None → Goes o P Q h next → Goes o P Q h (going_on [] strange next)
  goes_looked Q h strange next none more = subst (Goes o P Q h) (sym (goes_none [] strange next none)) record { lawful = more.lawful; safe = more.safe; reaches = more.reaches }

  pub goes_then : (Q R : History → Type 0) (h : History) (course : Course) (next : History → Course) → Goes o P Q h course
      → (Q (then_all h course.calls) → Goes o P R (then_all h course.calls) (next (then_all h course.calls))) → Goes o P R h (and_then course h next)
  goes_then Q R h course next first more =
      let mid = then_all h course.calls in
      let later = more first.reaches in
      subst (Goes o P R h) (sym (goes_none course.calls course.strange (next mid) first.lawful)) record {
        lawful = later.lawful;
        safe = safe_append o P h course.calls (next mid).calls first.safe later.safe;
        reaches = subst R (sym (then_all-append h course.calls (next mid).calls)) later.reaches;
      }
