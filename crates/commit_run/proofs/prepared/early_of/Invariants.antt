use Rattle.std.proofs.Common.{◌≡◌, ◌++◌, ◌∷◌, drop}
use Rattle.commit_run.proofs.prepared.early_of.Given as goal

abbrev pub invariant-loop-path : goal.invariant-loop-path
invariant-loop-path l = l.early.items ++ drop l.path-index l.fresh ≡ l.marker ∷ l.fresh
