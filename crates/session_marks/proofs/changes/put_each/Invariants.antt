use Rattle.std.proofs.Common.{◌≡◌, drop}
use Rattle.mark_table.specs.PathMarks.{with_each}
use Rattle.mark_table.specs.Tables.{with_marks}
use Rattle.session_marks.specs.Keeping.{marks_back, paths_of}
use Rattle.session_marks.proofs.changes.put_each.Given as goal

abbrev pub invariant-loop-path : goal.invariant-loop-path
invariant-loop-path l =
    (with_marks l.marks (with_each (λ _. l.mark) (paths_of (drop l.path-index l.pairs)) l.marks.marks)
    ≡ with_marks l.initial.marks (with_each (λ _. l.mark) (paths_of l.pairs) l.initial.marks.marks))
    × (with_marks l.marks (marks_back l.pairs l.marks.marks) ≡ with_marks l.initial.marks (marks_back l.pairs l.initial.marks.marks))
