use Rattle.std.proofs.Common.{◌≡◌, take}
use Rattle.std.specs.List.{AllByRecursion}
use Rattle.recovery_calls.specs.Works.{HasPath, names_of}
use Rattle.recovery_calls.proofs.entries.entries_of.Given as goal

abbrev pub invariant-loop-name : goal.invariant-loop-name
invariant-loop-name l = record { names : names_of l.entries.items ≡ take l.name-index l.names; paths : AllByRecursion HasPath l.entries.items }
