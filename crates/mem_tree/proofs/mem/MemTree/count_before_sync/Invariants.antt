use Rattle.std.proofs.Common.{◌≡◌, ◌≤◌, take}
use Rattle.mem_tree.specs.Records.{history_of}
use Rattle.mem_tree.specs.Images.{synced_history}
use Rattle.mem_tree.proofs.mem.MemTree.count_before_sync.Given as goal

abbrev pub invariant-loop-place : goal.invariant-loop-place
invariant-loop-place l = record {
  within : l.count ≤ l.place;
  history : history_of l.self.began l.self.first_number (take l.count l.self.attempts.items) ≡ synced_history (history_of l.self.began l.self.first_number (take l.place l.self.attempts.items));
}
