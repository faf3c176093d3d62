-- The turn of the marker.
use Rattle.std.proofs.Common.{◌≡◌, inl, ℕ, ◌+◌, ◌-◌, ◌≤◌, ◌<◌, ◌^◌, nat_lt, Bool, true, false, List, [], ◌∷◌, ◌++◌, length, take, drop, refl, sym, ◌∙◌, ap, arith, Option, Some, None, Result, Ok, Err}
use Rattle.std.proofs.lemmas.Bool.{cond-true, cond-false, ltb-false}
use Rattle.std.proofs.Math.Seq.{take-append_seam}
use Rattle.commit_states.specs.Calls.{turn_calls}
use Rattle.commit_steps.specs.declared.step.Step.{Step}
use Rattle.commit_steps.specs.Staging.{at_marker, back_marker, plan}
use Rattle.recovery_calls.specs.declared.turning.Looked.TheVariants.{Strange, NoneDone, SomeDone}
use Rattle.recovery_calls.specs.Looked.{looked_by, looked_of}
use Rattle.recovery_calls.specs.Underway.{IsUnderway}
use Rattle.recovery_calls.proofs.BackLemmas.{undone_is}
use Rattle.recovery_calls.proofs.CourseLemmas.{OnCourse, course_all, course_as, course_ended, course_next, follows_ended, follows_strange}
use Rattle.recovery_calls.proofs.CutLemmas.{joined_ahead}
use Rattle.recovery_calls.proofs.KeepLemmas.{can_move, moved_marker}
use Rattle.recovery_calls.proofs.MarkerLemmas.{at_plan, back_at, back_named, back_plan}
use Rattle.recovery_calls.specs.Works.{parts_before}
use Rattle.recovery_courses.specs.Course.{Course, Follows}
use Rattle.recovery_courses.specs.Parts.{parts_behind, turned_at, turned_from, turning_place, undone_from, undone_parts}
use Rattle.staging_names.specs.declared.entry_name.EntryName.{EntryName}
use Rattle.step_looks.specs.Strictly.{strange_look}
use Rattle.step_looks.specs.Undoing.{any_goes_back}
use Rattle.step_trees.specs.Groups.{groups, joined, to_next_cut, whole_behind}
use Rattle.step_trees.proofs.CutLemmas.{joined_groups}
use Rattle.step_trees.proofs.NameLemmas.{own-back}
use Rattle.step_trees.proofs.PlaceLemmas.{to_next_cut-end}
use Rattle.tree_core.specs.declared.node.CallName.{CallName}
use Rattle.tree_core.specs.FileTree.{FileTree}
use Rattle.tree_core.specs.History.{History, IsSound, current_tree}
use Rattle.tree_core.specs.Runs.{CanAll, FailedIn, then_all}

-- ---- what looks told

strange_told : (o : Option ℕ) (b : Bool) (k : ℕ) → looked_by o b ≡ Strange k → o ≡ Some k
strange_told (Some j) b k e = let same : j ≡ k = cc in ap (λ n. Some n) same
strange_told None true k e = cc
strange_told None false k e = cc

none_told : (o : Option ℕ) (b : Bool) → looked_by o b ≡ NoneDone → (o ≡ None) × (b ≡ false)
none_told (Some j) b e = cc
none_told None true e = cc
none_told None false e = (refl, refl)

some_told : (o : Option ℕ) (b : Bool) → looked_by o b ≡ SomeDone → (o ≡ None) × (b ≡ true)
some_told (Some j) b e = cc
some_told None true e = (refl, refl)
some_told None false e = cc

module _ (steps : List Step) (m : ℕ) (began now : History) (same : now ≡ began) where
  abbrev part : List Step
  part = to_next_cut m (groups steps)

  abbrev whole : Course
  whole = turned_from steps m began

  abbrev next : Course
  next = turned_at steps m (turning_place steps m (current_tree began)) began

  pub turn_strange : (k : ℕ) → looked_of m part (current_tree began) ≡ Strange k → (new : History) (first behind : FileTree) → new ≡ began → behind ≡ first → Follows (turned_from steps m began) began new first behind (Ok (Some k))
  turn_strange k told new first behind is tree =
      follows_strange whole began began new [] (strange_look m part (current_tree began)) next (course_all whole began) k
      (strange_told (strange_look m part (current_tree began)) (any_goes_back part (current_tree began)) k told) is first behind tree

  on_turn : (j : ℕ) → strange_look m part (current_tree began) ≡ None → turning_place steps m (current_tree began) ≡ j → OnCourse (turned_from steps m began) began now (turned_at steps m j now)
  on_turn j none place =
      course_as whole began now next (turned_at steps m j now)
      (course_next whole began began now [] (strange_look m part (current_tree began)) next (course_all whole began) none same)
      (ap (λ n. turned_at steps m n began) place ∙ ap (λ (h : History). turned_at steps m j h) (sym same))

  pub turn_here : looked_of m part (current_tree began) ≡ NoneDone → OnCourse (turned_from steps m began) began now (turned_at steps m m now)
  turn_here told =
      let both = none_told (strange_look m part (current_tree began)) (any_goes_back part (current_tree began)) told in
      on_turn m both.0 (cond-false (any_goes_back part (current_tree began)) (m + length part) m both.1)

  pub turn_next : looked_of m part (current_tree began) ≡ SomeDone → (j : ℕ) → j ≡ m + length (to_next_cut m (groups steps)) → OnCourse (turned_from steps m began) began now (turned_at steps m j now)
  turn_next told j is =
      let both = some_told (strange_look m part (current_tree began)) (any_goes_back part (current_tree began)) told in
      on_turn j both.0 (cond-true (any_goes_back part (current_tree began)) (m + length part) m both.1 ∙ sym is)

-- the steps to the next cut, as a slice
pub turn_part : (steps : List Step) (m j : ℕ) → m ≤ length steps → j ≡ m + length (to_next_cut m (groups steps)) → take (j - m) (drop m steps) ≡ to_next_cut m (groups steps)
turn_part steps m j le is =
    let count : j - m ≡ length (to_next_cut m (groups steps)) = omega arith in
    ap (λ n. take n (drop m steps)) count ∙ by_place (nat_lt m (length steps)) refl
  where
    by_place : (b : Bool) → nat_lt m (length steps) ≡ b → take (length (to_next_cut m (groups steps))) (drop m steps) ≡ to_next_cut m (groups steps)
    by_place true is =
        let parts : joined (parts_behind steps m) ≡ to_next_cut m (groups steps) ++ joined (whole_behind m (groups steps)) =
        ap joined (cond-true (nat_lt m (length steps)) (to_next_cut m (groups steps) ∷ whole_behind m (groups steps)) [] is) in
        ap (take (length (to_next_cut m (groups steps)))) (sym (joined_ahead steps m le) ∙ parts) ∙ take-append_seam (to_next_cut m (groups steps)) (joined (whole_behind m (groups steps)))
    by_place false is =
        let past : length steps ≤ m = ltb-false m (length steps) is in
        let all : length (joined (groups steps)) ≡ length steps = ap length (joined_groups steps) in
        let none : to_next_cut m (groups steps) ≡ [] = to_next_cut-end (groups steps) m (omega arith) in
        ap (λ (l : List Step). take (length l) (drop m steps)) none ∙ sym none

-- ---- the rename, and the way back

module _ (steps : List Step) (m j : ℕ) (began : History) where
  abbrev turn_whole : Course
  turn_whole = turned_at steps m j began

  abbrev way_left : Course
  way_left = undone_from steps j (then_all began (turn_calls m j))

  pub turn_failed : (new : History) (first behind : FileTree) (result : Result (Option ℕ) CallName) (c : CallName) → result ≡ Err c → FailedIn (turn_calls m j) began new behind c → Follows (turned_at steps m j began) began new first behind result
  turn_failed new first behind result c is failed =
      follows_ended turn_whole began new first behind result c is (course_ended turn_whole began began (turn_calls m j) None way_left (course_all turn_whole began) new behind c (inl failed))

  pub turn_goes_on : j ≤ length steps → (now : History) → now ≡ then_all began (turn_calls m j) → OnCourse (turned_at steps m j began) began now (undone_parts 0 (parts_before steps j) now)
  turn_goes_on le now is =
      course_as turn_whole began now way_left (undone_parts 0 (parts_before steps j) now)
      (course_next turn_whole began began now (turn_calls m j) None way_left (course_all turn_whole began) refl is)
      (ap (undone_from steps j) (sym is) ∙ undone_is steps j now le)

module _ (es : List EntryName) (m j : ℕ) (small : j < 2 ^ 64) (h : History) (u : IsUnderway plan (at_marker m) es (current_tree h)) where
  pub can_turn : CanAll (turn_calls m j) h
  can_turn = (can_move plan (at_marker m) (back_marker j) es (current_tree h) (own-back j) (back_plan j) (back_at j m) u (back_named j small), (tt, tt))

  pub turned_there : IsSound h → IsUnderway plan (back_marker j) es (current_tree (then_all h (turn_calls m j)))
  turned_there sound = moved_marker plan (at_marker m) (back_marker j) es (current_tree h) (own-back j) (back_plan j) (back_at j m) u sound.tree (λ is. at_plan m (sym is))
