use Rattle.std.proofs.Common.{◌≡◌, ◌++◌, ◌+◌, length}
use Rattle.drill_tree.specs.Drill.{numbered}
use Rattle.drill_tree.proofs.edits.numbered.Given as goal

abbrev pub invariant-loop-one : goal.invariant-loop-one
invariant-loop-one l = record {
  made : l.edits.items ++ numbered (length l.edits.items + 1) l.one-iterator.rest.items ≡ numbered 1 l.fn.moves.items;
  count : length l.edits.items + length l.one-iterator.rest.items ≡ length l.fn.moves.items;
}
