use Rattle.std.proofs.Common.{◌∙◌, List, ◌++◌, ap, subst, sym, Err}
use Rattle.std.proofs.lemmas.Result.{err_from_is_err_and}
use Rattle.tree_core.specs.declared.node.Change.{Change}
use Rattle.tree_core.specs.Runs.{CanAll, FailedIn}
use Rattle.tree_core.proofs.Runs.{can_first, failed_first}
use Rattle.commit_states.specs.Calls.{do_calls, marked_calls}
use Rattle.commit_calls.specs.Parts.{synced_rename_calls}
use Rattle.commit_calls.proofs.RunLemmas.{ran_failed, can_behind, ran_behind, ran_as, marked_is}
use Rattle.commit_calls.proofs.group.do_group.Goals as goal

pub do_all-requires : goal.do_all-requires
do_all-requires g c = record { can = λ tells. can_first (g.T.Tree.history c.args.tree.now) (do_calls c.args.steps.now) (synced_rename_calls c.args.marker.now c.args.next.now) (subst (λ (cs : List Change). CanAll cs (g.T.Tree.history c.args.tree.now)) (sym (marked_is c.args.steps.now c.args.marker.now c.args.next.now)) (c.requires.can tells)) }

pub returns-in_err-do_all-clause-ran : goal.returns-in_err-do_all-clause-ran
returns-in_err-do_all-clause-ran g c tells = ran_failed (marked_calls c.args.steps.now c.args.marker.now c.args.next.now) (g.T.Tree.history c.args.tree.now) (g.T.Tree.history c.do_all.new.tree) (g.T.Tree.before_failed c.args.tree.now) (g.T.Tree.before_failed c.do_all.new.tree) c.from_residual.result c.in_err-do_all.field-0.0
    (let p = err_from_is_err_and c.from_residual.result c.from_residual.ensures.1 in p.1 ∙ ap Err p.2)
    (subst (λ (cs : List Change). FailedIn cs (g.T.Tree.history c.args.tree.now) (g.T.Tree.history c.do_all.new.tree) (g.T.Tree.before_failed c.do_all.new.tree) c.in_err-do_all.field-0.0) (marked_is c.args.steps.now c.args.marker.now c.args.next.now) (failed_first (do_calls c.args.steps.now) (synced_rename_calls c.args.marker.now c.args.next.now) (g.T.Tree.history c.args.tree.now) (g.T.Tree.history c.do_all.new.tree) (g.T.Tree.before_failed c.do_all.new.tree) c.in_err-do_all.field-0.0 (c.in_err-do_all.ensures.ran tells)))

pub sync_and_rename-requires : goal.sync_and_rename-requires
sync_and_rename-requires g c = record { can = λ tells. can_behind (do_calls c.args.steps.now) (synced_rename_calls c.args.marker.now c.args.next.now) (g.T.Tree.history c.args.tree.now) (g.T.Tree.history c.do_all.new.tree) (g.T.Tree.history c.do_all.new.tree) (c.in_ok-do_all.ensures.ran tells).0 (subst (λ (cs : List Change). CanAll cs (g.T.Tree.history c.args.tree.now)) (sym (marked_is c.args.steps.now c.args.marker.now c.args.next.now)) (c.requires.can tells)) }

pub returns-clause-ran : goal.returns-clause-ran
returns-clause-ran g c tells = ran_as ((do_calls c.args.steps.now) ++ (synced_rename_calls c.args.marker.now c.args.next.now)) (marked_calls c.args.steps.now c.args.marker.now c.args.next.now) (g.T.Tree.history c.args.tree.now) (g.T.Tree.history c.sync_and_rename.new.tree) (g.T.Tree.before_failed c.args.tree.now) (g.T.Tree.before_failed c.sync_and_rename.new.tree) c.sync_and_rename.result (marked_is c.args.steps.now c.args.marker.now c.args.next.now)
    (ran_behind (do_calls c.args.steps.now) (synced_rename_calls c.args.marker.now c.args.next.now) (g.T.Tree.history c.args.tree.now) (g.T.Tree.history c.do_all.new.tree) (g.T.Tree.history c.sync_and_rename.new.tree) (c.in_ok-do_all.ensures.ran tells).0 (g.T.Tree.before_failed c.args.tree.now) (g.T.Tree.before_failed c.do_all.new.tree) (g.T.Tree.before_failed c.sync_and_rename.new.tree) c.sync_and_rename.result (c.in_ok-do_all.ensures.ran tells).1 (c.sync_and_rename.ensures.ran tells))
