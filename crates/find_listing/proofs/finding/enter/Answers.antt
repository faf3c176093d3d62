use Rattle.std.proofs.Common.{◌≡◌, ◌++◌, List, [], ℕ, false, arith, rules, sym, ap, refl}
use Rattle.std.specs.FinMap.{get}
use Rattle.std.specs.List.Sorted.{IsStrictlySortedBy}
use Rattle.tree_core.specs.FileTree.{is_dir_node}
use Rattle.tree_core.specs.Fields.{names_in}
use Rattle.tree_core.specs.History.{current_tree}
use Rattle.find_listing.specs.Walks.{children, pending}
use Rattle.find_listing.proofs.KeyLemmas.{none_in}
use Rattle.find_listing.proofs.WalkLemmas.{other_by_kind}
use Rattle.find_listing.proofs.finding.enter.Goals as goal

pub returns-then-ne-clause-names : goal.returns-then-ne-clause-names
returns-then-ne-clause-names g c = λ tells.
    let t = current_tree (g.T.Tree.history c.args.tree.now) in
    let other : is_dir_node (get t c.args.path) ≡ false = other_by_kind (get t c.args.path) c.args.kind (c.requires.kind tells) (λ same. search (rules, same)) in
    let none : names_in t c.args.path ≡ [] = none_in t c.args.path (g.met.T.Tree.is_sound c.args.tree.now tells).tree other in
    sym (ap (λ (ns : List (List ℕ)). children c.args.path ns ++ pending c.args.walk.now) none)

pub returns-then-ne-clause-entered : goal.returns-then-ne-clause-entered
unfolding IsStrictlySortedBy
returns-then-ne-clause-entered g c = ([], tt, omega arith, refl)
