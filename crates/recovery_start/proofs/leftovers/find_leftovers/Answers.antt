use Rattle.std.proofs.Common.{rules, ◌≡◌, ◌∙◌, Some, sym, ap}
use Rattle.std.specs.FinMap.{get}
use Rattle.std.specs.Option.{option_map}
use Rattle.dired_text.specs.Paths.{Names}
use Rattle.tree_core.specs.declared.node.Kind.TheVariants as kind
use Rattle.tree_core.specs.FileTree.{kind_of}
use Rattle.tree_core.specs.History.{current_tree}
use Rattle.recovery_start.proofs.EndLemmas.{not_directory}
use Rattle.recovery_start.proofs.leftovers.find_leftovers.Goals as goal

pub returns-in-Some-File-clause-found : goal.returns-in-Some-File-clause-found
returns-in-Some-File-clause-found g c tells =
    let T = g.T.Tree in
    let t = current_tree (T.history c.args.tree.now) in
    let seen : c.in_ok-kind_at.field-0 ≡ Some kind.File = search rules in
    not_directory t kind.File c.no_directory.result
    (ap (λ (p : Names). option_map kind_of (get t p)) (sym c.in_ok-staging.ensures) ∙ sym (c.in_ok-kind_at.ensures.kind tells) ∙ seen) (λ e. cc) c.no_directory.ensures.foreign

pub returns-clause-found : goal.returns-clause-found
returns-clause-found g c tells =
    let T = g.T.Tree in
    let t = current_tree (T.history c.args.tree.now) in
    let seen : c.in_ok-kind_at.field-0 ≡ Some kind.Link = search rules in
    not_directory t kind.Link c.no_directory-in-Some-Link.result
    (ap (λ (p : Names). option_map kind_of (get t p)) (sym c.in_ok-staging.ensures) ∙ sym (c.in_ok-kind_at.ensures.kind tells) ∙ seen) (λ e. cc) c.no_directory-in-Some-Link.ensures.foreign
