use Rattle.std.proofs.Common.{◌≡◌, ◌≤◌, ◌*◌, ℕ, length}
use Rattle.dired_text.specs.Paths.{Names}
use Rattle.drill_tree.specs.Drill.{entries_of}
use Rattle.drill_run.specs.Counts.{cycle_count}
use Rattle.drill_run.proofs.counting.entries_and_cycles.Given as goal

abbrev pub invariant-loop-number : goal.invariant-loop-number
invariant-loop-number l = record {
  made : (numbers : Names → ℕ) → l.entries ≡ length (entries_of numbers l.number);
  turned : l.cycles ≡ cycle_count l.number;
  few : l.entries ≤ 8 * l.number;
  fewer : l.cycles ≤ l.number;
}
