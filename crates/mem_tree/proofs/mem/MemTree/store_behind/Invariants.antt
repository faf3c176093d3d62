use Rattle.std.proofs.Common.{◌≡◌, take}
use Rattle.mem_tree.specs.Stores.{times_of}
use Rattle.mem_tree.specs.Records.{history_of}
use Rattle.mem_tree.specs.Images.{stand_in, stand_of}
use Rattle.mem_tree.proofs.mem.MemTree.store_behind.Given as goal

abbrev pub invariant-loop-attempt : goal.invariant-loop-attempt
invariant-loop-attempt l = stand_in l.store ≡ stand_of (history_of l.self.began l.self.first_number (take l.attempt-index l.self.attempts.items)) (times_of l.self.began)
