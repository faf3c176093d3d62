use Rattle.std.proofs.Common.{◌≡◌, take}
use Rattle.commit_calls.specs.Paths.{back_marker_paths}
use Rattle.commit_calls.proofs.paths.back_markers.Given as goal

abbrev pub invariant-loop-cut : goal.invariant-loop-cut
invariant-loop-cut l = record { made : l.paths.items ≡ back_marker_paths (take l.cut-index l.cuts) }
