use Rattle.std.proofs.Common.{◌≡◌, drop}
use Rattle.mark_table.specs.Tables.{with_marks}
use Rattle.session_marks.specs.Keeping.{marks_back}
use Rattle.session_marks.proofs.changes.put_back.Given as goal

abbrev pub invariant-loop-path : goal.invariant-loop-path
invariant-loop-path l =
    (with_marks l.marks (marks_back (drop l.path-index l.pairs) l.marks.marks)
    ≡ with_marks l.initial.marks (marks_back l.pairs l.initial.marks.marks))
    × (with_marks l.marks (marks_back l.pairs l.marks.marks) ≡ with_marks l.initial.marks (marks_back l.pairs l.initial.marks.marks))
