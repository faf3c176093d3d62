use Rattle.std.proofs.Common.{◌≡◌}
use Rattle.section_buffer.specs.Held.{steps_undone}
use Rattle.section_buffer.proofs.taking.undo_kill.Given as goal

abbrev pub invariant-loop : goal.invariant-loop
invariant-loop l = record {
  built : l.rows.built ≡ 0;
  undone : l.rows ≡ steps_undone l.counter l.fn.rows;
}
