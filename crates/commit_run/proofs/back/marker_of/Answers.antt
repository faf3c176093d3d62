use Rattle.std.proofs.Common.{◌≡◌, ◌≢◌, true, false, is_some, length, rules}
use Rattle.std.specs.FinMap.{get}
use Rattle.commit_run.specs.WayBack.{at_cut}
use Rattle.commit_run.proofs.MarkedLemmas.{marked_by, marked_end}
use Rattle.step_trees.specs.Groups.{groups}
use Rattle.tree_core.specs.History.{current_tree}
use Rattle.commit_run.proofs.back.marker_of.Goals as goal

pub returns-then-group-last_cut-clause-cut : goal.returns-then-group-last_cut-clause-cut
returns-then-group-last_cut-clause-cut g c tells =
    let steps = c.args.prepared.now.steps in
    let last : c.args.group ≡ length (groups steps) = search rules in
    marked_end steps c.args.group (current_tree (g.T.Tree.history c.args.tree.now)) last

pub returns-then-branch-clause-cut : goal.returns-then-branch-clause-cut
returns-then-branch-clause-cut g c tells =
    let steps = c.args.prepared.now.steps in
    let t = current_tree (g.T.Tree.history c.args.tree.now) in
    let other : c.args.group ≢ length (groups steps) = search rules in
    let there : is_some (get t (at_cut steps c.args.group)) ≡ true = search rules in
    marked_by steps c.args.group t true other there

pub returns-else-branch-clause-cut : goal.returns-else-branch-clause-cut
returns-else-branch-clause-cut g c tells =
    let steps = c.args.prepared.now.steps in
    let t = current_tree (g.T.Tree.history c.args.tree.now) in
    let other : c.args.group ≢ length (groups steps) = search rules in
    let none : is_some (get t (at_cut steps c.args.group)) ≡ false = search rules in
    marked_by steps c.args.group t false other none
