use Rattle.std.proofs.Common.{List, subst}
use Rattle.recovery_calls.proofs.ClosingLemmas.{clears_as}
use Rattle.tree_core.specs.declared.node.Change.{Change}
use Rattle.tree_core.specs.Runs.{Ran}
use Rattle.recovery_calls.proofs.closing.clear.Goals as goal

pub returns-clause-course : goal.returns-clause-course
returns-clause-course g c tells names those = let T = g.T.Tree in
    subst (λ (cs : List Change). Ran cs (T.history c.args.tree.now) (T.history c.unstage.new.tree) (T.before_failed c.args.tree.now) (T.before_failed c.unstage.new.tree) c.unstage.result)
    (clears_as names c.args.entries.now c.args.directory.now those) (c.unstage.ensures.ran tells)
