use Rattle.mem_tree.specs.MemHistory.{before_failed_told, history_told}
use Rattle.dired_run.proofs.DrillLemmas.{counted}
use Rattle.dired_run.proofs.drilling.counts.Goals as goal

pub returns-in-Ok : goal.returns-in-Ok
returns-in-Ok c = counted c.args.groups (history_told c.in_ok-tree.tree) (history_told c.drill_commit.new.tree) (before_failed_told c.drill_commit.new.tree) _ c.in_ok-tree.ensures.tree c.in_ok-tree.ensures.numbers c.in-Ok.ensures.drilled
