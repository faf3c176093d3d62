use Rattle.std.proofs.Common.{◌≡◌, [], All, length}
use Rattle.commit_plan.proofs.board.no_lists.Given as goal

abbrev pub invariant-loop : goal.invariant-loop
invariant-loop l = record {
  sized : length l.lists.items ≡ l.counter;
  empty : All (λ v. v.items ≡ []) l.lists.items;
}
