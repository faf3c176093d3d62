use Rattle.std.proofs.Common.{◌≡◌, true, sym, subst, rules}
use Rattle.dired_text.specs.Paths.{Names}
use Rattle.recovery_calls.specs.Endings.{goes}
use Rattle.recovery_calls.proofs.EndingLemmas.{may_remove}
use Rattle.tree_core.specs.FileTree.{IsDir, IsEmptyAt}
use Rattle.tree_core.specs.History.{current_tree}
use Rattle.recovery_calls.proofs.ending.remove_if_gone.Goals as goal

pub remove_at-requires-clause-empty : goal.remove_at-requires-clause-empty
remove_at-requires-clause-empty g c tells dir = let t = current_tree (g.T.Tree.history c.args.tree.now) in
    let e = c.args.entry.now.name in
    let is : goes c.args.ending c.args.entry.now.name.role ≡ true = search rules in
    subst (λ (p : Names). IsEmptyAt t p) (sym c.requires.path) (may_remove c.args.ending t e (c.requires.may tells) is (subst (λ (p : Names). IsDir t p) c.requires.path dir))
