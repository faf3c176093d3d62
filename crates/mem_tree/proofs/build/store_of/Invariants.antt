use Rattle.mem_tree.proofs.BuiltLemmas.{Builds}
use Rattle.mem_tree.proofs.build.store_of.Given as goal

abbrev pub invariant-loop-index : goal.invariant-loop-index
invariant-loop-index l = Builds l.entries l.store.slots l.store.files l.next l.index
