use Rattle.std.proofs.Common.{◌≡◌, ◌++◌, ◌+◌, length}
use Rattle.drill_memory.specs.Numbered.{numbered}
use Rattle.drill_memory.proofs.making.entries_from.Given as goal

abbrev pub invariant-loop-one : goal.invariant-loop-one
invariant-loop-one l = record {
  made : l.entries.items ++ numbered (length l.entries.items) l.one-iterator.rest.items ≡ numbered 0 l.fn.held.items;
  count : length l.entries.items + length l.one-iterator.rest.items ≡ length l.fn.held.items;
}
