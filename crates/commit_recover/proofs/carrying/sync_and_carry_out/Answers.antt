use Rattle.std.proofs.Common.{◌≡◌, sym, subst, rules, Err}
use Rattle.commit_recover.specs.Tasks.{CanCarryOut, FollowsSynced}
use Rattle.commit_recover.proofs.TaskLemmas.{sync_failed, synced_first}
use Rattle.commit_recover.proofs.carrying.sync_and_carry_out.Goals as goal

pub returns-in_err-sync-clause-follows : goal.returns-in_err-sync-clause-follows
returns-in_err-sync-clause-follows g c tells =
    let T = g.T.Tree in
    let task = c.args.task.now in
    let old = T.history c.args.tree.now in
    let new = T.history c.sync.new.tree in
    let before = T.before_failed c.args.tree.now in
    let behind = T.before_failed c.sync.new.tree in
    let e = c.in_err-sync.field-0.0 in
    let is : c.from_residual.result ≡ Err e = search rules in
    subst (FollowsSynced task old new before behind) (sym is) (sync_failed task old new before before behind e (c.in_err-sync.ensures.ran tells))

pub carry_out-requires-clause-can : goal.carry_out-requires-clause-can
carry_out-requires-clause-can g c tells = subst (CanCarryOut c.args.task.now) (sym (c.in_ok-sync.ensures.ran tells).0) (c.requires.can tells)

pub returns-clause-follows : goal.returns-clause-follows
returns-clause-follows g c tells =
    let T = g.T.Tree in
    let task = c.args.task.now in
    let old = T.history c.args.tree.now in
    let mid = T.history c.sync.new.tree in
    let new = T.history c.carry_out.new.tree in
    let before = T.before_failed c.args.tree.now in
    let between = T.before_failed c.sync.new.tree in
    let behind = T.before_failed c.carry_out.new.tree in
    let ran = c.in_ok-sync.ensures.ran tells in
    synced_first task old new before between behind c.carry_out.result mid ran.0 ran.1 (c.carry_out.ensures.follows tells)
