use Rattle.std.proofs.Common.{◌≡◌, ◌≤◌, drop, length}
use Rattle.commit_steps.specs.Staging.{at_marker}
use Rattle.recovery_calls.specs.Works.{IsMarked, parts_ahead, place_of}
use Rattle.recovery_calls.proofs.CourseLemmas.{OnCourse}
use Rattle.recovery_courses.specs.Parts.{redone_parts}
use Rattle.recovery_calls.proofs.parts.redo_parts.Given as goal

abbrev pub invariant-loop-k : goal.invariant-loop-k
invariant-loop-k g l =
    let T = g.T.Tree in
    let gs = parts_ahead l.work l.way in record {
      course : T.Tells → OnCourse (redone_parts l.way.from gs (T.history l.fn.tree)) (T.history l.fn.tree) (T.history l.tree) (redone_parts (place_of l.way.from gs l.k) (drop l.k gs) (T.history l.tree));
      marked : T.Tells → IsMarked (at_marker (place_of l.way.from gs l.k)) l.work (T.history l.tree);
      within : l.k ≤ length gs;
      before : T.Tells → T.before_failed l.tree ≡ T.before_failed l.fn.tree;
      faults : T.faults l.tree ≡ T.faults l.fn.tree;
    }
