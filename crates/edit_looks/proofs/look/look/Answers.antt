use Rattle.std.proofs.Common.{◌≡◌, ◌∙◌, ap, rules, Some, option_map}
use Rattle.std.specs.FinMap.{get}
use Rattle.dired_text.specs.Paths.{Names}
use Rattle.tree_core.specs.declared.meta.Meta.{Meta}
use Rattle.tree_core.specs.History.{current_tree}
use Rattle.tree_core.specs.FileTree.{kind_of}
use Rattle.edit_looks.proofs.LookLemmas.{kind_shown, seen_shown}
use Rattle.edit_looks.proofs.look.look.Goals as goal

pub returns-then-ne-clause-agrees : goal.returns-then-ne-clause-agrees
returns-then-ne-clause-agrees g c tells =
    let T = g.T.Tree in
    let path : Names = c.args.path.now in
    let kind_is : Some c.in-Some.kind ≡ option_map kind_of (get (current_tree (T.history c.args.tree.now)) path) = search rules in
    let meta_is : c.in-Ok-meta.meta ≡ T.fields c.args.tree.now path = c.in-Ok-meta.ensures.meta tells ∙ ap (λ (f : Names → Meta). f path) (c.in-Ok.ensures.fields tells) in
    let same = kind_shown path c.in-Ok-meta.meta c.in-Some.kind (g.met.T.Tree.fields_show c.args.tree.now tells) kind_is meta_is in
    search (rules, same)

pub returns-clause-found : goal.returns-clause-found
returns-clause-found g c tells =
    let T = g.T.Tree in
    let path : Names = c.args.path.now in
    let kind_is : Some c.in-Some.kind ≡ option_map kind_of (get (current_tree (T.history c.args.tree.now)) path) = search rules in
    let meta_is : c.in-Ok-meta.meta ≡ T.fields c.args.tree.now path = c.in-Ok-meta.ensures.meta tells ∙ ap (λ (f : Names → Meta). f path) (c.in-Ok.ensures.fields tells) in
    ap Some c.seen_of.ensures ∙ seen_shown path c.in-Ok-meta.meta c.in-Some.kind (g.met.T.Tree.fields_show c.args.tree.now tells) kind_is meta_is
