use Rattle.std.proofs.Common.{◌↔◌, rules, IsTrue}
use Rattle.recovery_calls.proofs.EndingLemmas.{empty_told}
use Rattle.tree_core.specs.FileTree.{IsEmptyAt}
use Rattle.tree_core.specs.History.{current_tree}
use Rattle.recovery_calls.proofs.ending.is_empty.Goals as goal

pub returns-in-Ok-clause-empty : goal.returns-in-Ok-clause-empty
returns-in-Ok-clause-empty g c tells = let t = current_tree (g.T.Tree.history c.args.tree.now) in
    let told : IsTrue c.in-Ok.empty ↔ IsEmptyAt (current_tree (g.T.Tree.history c.args.tree.now)) c.args.path.now = search rules in
    empty_told t c.args.path.now c.in-Ok.empty told
