use Rattle.std.proofs.Common.{rules, ◌≡◌, ◌↔◌, ◌∙◌, sym, Some, IsTrue}
use Rattle.tree_core.specs.FileTree.{IsEmptyAt}
use Rattle.tree_core.specs.History.{current_tree}
use Rattle.commit_steps.specs.declared.step.Step.TheVariants as step_variant
use Rattle.step_looks.specs.Looks.{look_of}
use Rattle.step_looks.specs.declared.looking.Seen.TheVariants as seen
use Rattle.step_looks.proofs.TestLemmas.{dir_back}
use Rattle.step_looks.proofs.looking.look_back_dir.Goals as goal

pub returns-in-Ok-clause-seen : goal.returns-in-Ok-clause-seen
returns-in-Ok-clause-seen g c tells =
    let T = g.T.Tree in
    let t = current_tree (T.history c.args.tree.now) in
    let after_is : c.in_ok-seen.seen ≡ Some seen.After = search rules in
    let told : look_of (step_variant.MakeDir c.args.path.now) t ≡ Some seen.After = sym (c.in_ok-seen.ensures.seen tells) ∙ after_is in
    let empty : IsTrue c.in-Ok.empty ↔ IsEmptyAt t c.args.path.now = search rules in
    c.seen_where.ensures ∙ dir_back t c.args.path.now c.in-Ok.empty told empty
