use Rattle.std.proofs.Common.{◌≤◌, length, sym, subst, rules}
use Rattle.std.specs.List.{AllByRecursion}
use Rattle.commit_run.proofs.GroupLemmas.{group_steps}
use Rattle.commit_run.proofs.MarkedLemmas.{turn_end}
use Rattle.step_trees.specs.Groups.{groups}
use Rattle.step_trees.specs.Steps.{IsStep}
use Rattle.tree_core.specs.History.{current_tree}
use Rattle.commit_run.proofs.back.turning_cut.Goals as goal

pub returns-then-cut-last_cut-clause-from : goal.returns-then-cut-last_cut-clause-from
returns-then-cut-last_cut-clause-from g c tells =
    let steps = c.args.prepared.now.steps in
    let last : length (groups steps) ≤ c.args.cut = search rules in
    turn_end steps c.args.cut (current_tree (g.T.Tree.history c.args.tree.now)) last

pub any_done-requires-clause-steps : goal.any_done-requires-clause-steps
any_done-requires-clause-steps g c = subst (AllByRecursion IsStep) (sym c.group.ensures) (group_steps c.args.prepared.now c.requires.prepared c.args.cut)
