use Rattle.std.proofs.Common.{◌≡◌, ◌++◌, drop}
use Rattle.session_marks.specs.Keeping.{differing, had}
use Rattle.session_marks.proofs.changes.others.Given as goal

abbrev pub invariant-loop-path : goal.invariant-loop-path
invariant-loop-path l =
    l.others.items ++ had l.marks.marks (differing l.marks.marks l.mark (drop l.path-index l.paths))
    ≡ had l.marks.marks (differing l.marks.marks l.mark l.paths)
