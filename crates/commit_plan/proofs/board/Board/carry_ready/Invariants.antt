use Rattle.std.proofs.Common.{[]}
use Rattle.commit_plan.specs.Stands.{turns}
use Rattle.commit_plan.specs.Boards.{HaveTurns, IsRun, IsSound}
use Rattle.commit_plan.proofs.RunLemmas.{IsRound, rounds}
use Rattle.commit_plan.proofs.board.Board.carry_ready.Given as goal

abbrev pub invariant-loop-alloc : goal.invariant-loop-alloc
invariant-loop-alloc l = record {
  sound : IsSound l.self;
  have : HaveTurns l.self [];
  run : IsRun l.fn.self.changes.items l.self.changes.items l.fn.steps.items l.steps.items;
}

abbrev pub decreases-loop-alloc : goal.decreases-loop-alloc
decreases-loop-alloc l = rounds l.self

abbrev pub invariant-loop-i : goal.invariant-loop-i
invariant-loop-i l = IsRound l.fn.self.changes.items l.fn.steps.items (turns l.initial.self.changes.items) l.self l.i-iterator.rest.items l.steps.items
