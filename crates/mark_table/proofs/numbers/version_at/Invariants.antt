use Rattle.std.proofs.Common.{◌≡◌, take, drop}
use Rattle.mark_table.specs.Versions.{version_in}
use Rattle.mark_table.proofs.NumberLemmas.{behind}
use Rattle.mark_table.proofs.numbers.version_at.Given as goal

abbrev pub invariant-loop-at : goal.invariant-loop-at
invariant-loop-at l = version_in l.text ≡ behind (take l.at l.text) (version_in (drop l.at l.text))
