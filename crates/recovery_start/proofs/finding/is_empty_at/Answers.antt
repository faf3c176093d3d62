use Rattle.std.proofs.Common.{rules, ◌↔◌}
use Rattle.std.specs.Prelude.{IsTrue}
use Rattle.tree_core.specs.FileTree.{IsEmptyAt}
use Rattle.tree_core.specs.History.{current_tree}
use Rattle.recovery_start.proofs.StartLemmas.{empty_is}
use Rattle.recovery_start.proofs.finding.is_empty_at.Goals as goal

pub returns-in-Ok-clause-empty : goal.returns-in-Ok-clause-empty
returns-in-Ok-clause-empty g c tells =
    let T = g.T.Tree in
    let t = current_tree (T.history c.args.tree.now) in
    let empty : IsTrue c.in-Ok.empty ↔ IsEmptyAt t c.args.path.now = search rules in
    empty_is t c.args.path.now c.in-Ok.empty empty
