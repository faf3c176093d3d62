use Rattle.std.proofs.Common.{◌≡◌, ℕ, sym, ◌∙◌, ap, subst, lit≤, refl, Option, Some, None}
use Rattle.std.specs.Option.{option_map, unwrap_or}
use Rattle.std.specs.FinMap.{get}
use Rattle.dired_text.specs.Paths.{Names}
use Rattle.tree_core.specs.declared.node.Node.{Node}
use Rattle.tree_core.specs.declared.node.Node.TheVariants.{Dir, Link, File}
use Rattle.tree_core.specs.FileTree.{FileTree, IsTree, IsLawful, IsMode, mode_of}
use Rattle.mem_tree.specs.Stores.{tree_of}
use Rattle.mem_tree.proofs.mem.MemTreeTree.mode.Goals as goal

of_lawful : (node : Node) → IsLawful node → IsMode (mode_of node)
of_lawful (Dir mode) is = is
of_lawful (Link target) is = lit≤ tt
of_lawful (File number bytes mode) is = is

of_found : (o : Option Node) → ((node : Node) → o ≡ Some node → IsLawful node) → IsMode (unwrap_or (option_map mode_of o) 0)
of_found None lawful = lit≤ tt
of_found (Some node) lawful = of_lawful node (lawful node refl)

lawful : (t : FileTree) (q : Names) (mode : ℕ) (found : Option ℕ) → IsTree t → found ≡ option_map mode_of (get t q) → mode ≡ unwrap_or found 0 → IsMode mode
lawful t q mode found tree is out = subst IsMode (sym (out ∙ ap (λ o. unwrap_or o 0) is)) (of_found (get t q) (λ node at. tree.lawful q node at))

pub returns-clause-lawful : goal.returns-clause-lawful
returns-clause-lawful c =
    let m = c.look_fails.new.self in
    lawful (tree_of m.store) c.args.path.now _ c.mode.result (subst IsTree (sym m.reads) m.sound.tree) c.mode.ensures c.unwrap_or.ensures
