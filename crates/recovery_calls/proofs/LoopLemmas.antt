-- Part after part, forward and back.
use Rattle.std.proofs.Common.{◌≡◌, ℕ, ◌+◌, ◌≤◌, ◌<◌, List, [], length, take, drop, sym, ◌∙◌, ap, arith, Option, None, Ok}
use Rattle.std.proofs.lemmas.List.{drop_all, drop_more, take_all}
use Rattle.commit_calls.specs.Cuts.{group_at}
use Rattle.commit_steps.specs.declared.step.Step.{Step}
use Rattle.recovery_calls.specs.Works.{place_of}
use Rattle.recovery_calls.proofs.BackLemmas.{undone_more}
use Rattle.recovery_calls.proofs.CourseLemmas.{OnCourse, course_all, course_as, followed}
use Rattle.recovery_calls.proofs.WayLemmas.{place_more}
use Rattle.recovery_courses.specs.Course.{Course, Follows, and_then, these}
use Rattle.recovery_courses.specs.Parts.{redone_part, redone_parts, undone_part, undone_parts}
use Rattle.tree_core.specs.FileTree.{FileTree}
use Rattle.tree_core.specs.History.{History}

pub redo_first : (base : ℕ) (gs : List (List Step)) (h : History) → OnCourse (redone_parts base gs h) h h (redone_parts (place_of base gs 0) (drop 0 gs) h)
redo_first base gs h =
    let place : base ≡ place_of base gs 0 = omega arith in
    course_as (redone_parts base gs h) h h (redone_parts base gs h) (redone_parts (place_of base gs 0) gs h) (course_all (redone_parts base gs h) h) (ap (λ n. redone_parts n gs h) place)

module _ (base : ℕ) (gs : List (List Step)) (k : ℕ) (whole : Course) (began now : History) where
  pub redo_on : k < length gs → OnCourse whole began now (redone_parts (place_of base gs k) (drop k gs) now)
      → OnCourse whole began now (and_then (redone_part (place_of base gs k) (group_at k gs) now) now (redone_parts (place_of base gs k + length (group_at k gs)) (drop (k + 1) gs)))
  redo_on lt on =
      course_as whole began now (redone_parts (place_of base gs k) (drop k gs) now)
      (and_then (redone_part (place_of base gs k) (group_at k gs) now) now (redone_parts (place_of base gs k + length (group_at k gs)) (drop (k + 1) gs))) on
      (ap (λ (l : List (List Step)). redone_parts (place_of base gs k) l now) (drop_more gs k [] lt))

  pub redo_next : (new : History) (first middle behind : FileTree) → k < length gs → OnCourse whole began now (redone_parts (place_of base gs k) (drop k gs) now) → middle ≡ first
      → (s : Option ℕ) → s ≡ None → Follows (redone_part (place_of base gs k) (group_at k gs) now) now new middle behind (Ok s)
      → OnCourse whole began new (redone_parts (place_of base gs (k + 1)) (drop (k + 1) gs) new)
  redo_next new first middle behind lt on same s none f =
      course_as whole began new (redone_parts (place_of base gs k + length (group_at k gs)) (drop (k + 1) gs) new) (redone_parts (place_of base gs (k + 1)) (drop (k + 1) gs) new)
      (followed whole began now new first middle behind (redone_part (place_of base gs k) (group_at k gs) now) (redone_parts (place_of base gs k + length (group_at k gs)) (drop (k + 1) gs)) (redo_on lt on) same s none f)
      (ap (λ n. redone_parts n (drop (k + 1) gs) new) (sym (place_more base gs k lt)))

  pub redo_last : length gs ≤ k → OnCourse whole began now (redone_parts (place_of base gs k) (drop k gs) now) → OnCourse whole began now (these [])
  redo_last long on =
      course_as whole began now (redone_parts (place_of base gs k) (drop k gs) now) (these []) on (ap (λ (l : List (List Step)). redone_parts (place_of base gs k) l now) (drop_all k gs long))

pub undo_first : (gs : List (List Step)) (n : ℕ) (h : History) → n ≡ length gs → OnCourse (undone_parts 0 gs h) h h (undone_parts 0 (take n gs) h)
undo_first gs n h is =
    course_as (undone_parts 0 gs h) h h (undone_parts 0 gs h) (undone_parts 0 (take n gs) h) (course_all (undone_parts 0 gs h) h)
    (ap (λ (l : List (List Step)). undone_parts 0 l h) (sym (take_all n gs (omega arith))))

pub undo_on : (gs : List (List Step)) (k i : ℕ) (whole : Course) (began now : History) → k ≡ i + 1 → i < length gs → OnCourse whole began now (undone_parts 0 (take k gs) now)
    → OnCourse whole began now (and_then (undone_part (place_of 0 gs i) (group_at i gs) now) now (undone_parts 0 (take i gs)))
undo_on gs k i whole began now is lt on =
    course_as whole began now (undone_parts 0 (take k gs) now) (and_then (undone_part (place_of 0 gs i) (group_at i gs) now) now (undone_parts 0 (take i gs))) on
    (ap (λ n. undone_parts 0 (take n gs) now) is ∙ undone_more gs i now lt)

pub undo_last : (gs : List (List Step)) (k : ℕ) (whole : Course) (began now : History) → k ≡ 0 → OnCourse whole began now (undone_parts 0 (take k gs) now) → OnCourse whole began now (these [])
undo_last gs k whole began now is on = course_as whole began now (undone_parts 0 (take k gs) now) (these []) on (ap (λ n. undone_parts 0 (take n gs) now) is)
