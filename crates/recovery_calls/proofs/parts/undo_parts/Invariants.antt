use Rattle.std.proofs.Common.{◌≡◌, ◌≤◌, take, length}
use Rattle.commit_steps.specs.Staging.{back_marker}
use Rattle.recovery_calls.specs.Works.{IsMarked, parts_left, place_of}
use Rattle.recovery_calls.proofs.CourseLemmas.{OnCourse}
use Rattle.recovery_courses.specs.Parts.{undone_parts}
use Rattle.recovery_calls.proofs.parts.undo_parts.Given as goal

abbrev pub invariant-loop-k : goal.invariant-loop-k
invariant-loop-k g l =
    let T = g.T.Tree in
    let gs = parts_left l.work l.way in record {
      course : T.Tells → OnCourse (undone_parts 0 gs (T.history l.fn.tree)) (T.history l.fn.tree) (T.history l.tree) (undone_parts 0 (take l.k gs) (T.history l.tree));
      marked : T.Tells → IsMarked (back_marker (place_of 0 gs l.k)) l.work (T.history l.tree);
      within : l.k ≤ length gs;
      before : T.Tells → T.before_failed l.tree ≡ T.before_failed l.fn.tree;
      faults : T.faults l.tree ≡ T.faults l.fn.tree;
    }
