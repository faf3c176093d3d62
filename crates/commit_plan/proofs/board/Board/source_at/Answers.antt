use Rattle.std.proofs.Common.{List, sym, subst}
use Rattle.commit_plan.specs.declared.changes.Change.{Change}
use Rattle.commit_plan.specs.Boards.{HasKeepers, NoneAtSource}
use Rattle.std.specs.Prelude.{IfNone}
use Rattle.commit_plan.proofs.board.Board.source_at.Goals as goal

pub source_at-requires : goal.source_at-requires
source_at-requires c = subst (λ (l : List Change). HasKeepers l c.args.self.now.keepers) (sym c.deref.ensures.value) c.requires.keepers

pub returns-clause-none : goal.returns-clause-none
returns-clause-none c = subst (λ (l : List Change). IfNone c.source_at.result (NoneAtSource l c.args.path.now)) c.deref.ensures.value c.source_at.ensures.none
