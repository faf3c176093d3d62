use Rattle.std.proofs.Common.{◌≡◌, take}
use Rattle.edit_check.proofs.verdict.copy_confirmed.Given as goal

abbrev pub invariant-loop-path : goal.invariant-loop-path
invariant-loop-path l = l.paths.items ≡ take l.path-index l.path-items
