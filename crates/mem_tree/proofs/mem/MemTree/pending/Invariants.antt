use Rattle.std.proofs.Common.{◌≡◌, take}
use Rattle.tree_core.specs.SubLists.{pending_calls}
use Rattle.mem_tree.specs.Records.{history_of}
use Rattle.mem_tree.proofs.mem.MemTree.pending.Given as goal

abbrev pub invariant-loop-attempt : goal.invariant-loop-attempt
invariant-loop-attempt l = l.calls.items ≡ pending_calls (history_of l.self.began l.self.first_number (take l.attempt-index l.self.attempts.items))
