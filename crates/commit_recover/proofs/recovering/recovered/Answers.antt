use Rattle.commit_recover.specs.Answers.{HasFound}
use Rattle.commit_recover.proofs.StartLemmas.{worked_kept}
use Rattle.commit_recover.proofs.TaskLemmas.{task_can, task_done, task_failed}
use Rattle.commit_recover.proofs.recovering.recovered.Goals as goal

pub sync_and_carry_out-requires-clause-can : goal.sync_and_carry_out-requires-clause-can
sync_and_carry_out-requires-clause-can g c tells =
    let T = g.T.Tree in
    let h = T.history c.args.tree.now in
    let found : HasFound h c.args.left = record { sorted = c.requires.sorted_out; standing = c.requires.standing tells } in
    task_can h c.args.left found c.args.back c.in-Ok.task c.in-Ok.ensures

pub returns-in-Ok-sync_and_carry_out-clause-answers : goal.returns-in-Ok-sync_and_carry_out-clause-answers
returns-in-Ok-sync_and_carry_out-clause-answers g c tells =
    let T = g.T.Tree in
    let h = T.history c.args.tree.now in
    let found : HasFound h c.args.left = record { sorted = c.requires.sorted_out; standing = c.requires.standing tells } in
    task_done h (T.history c.sync_and_carry_out.new.tree) (T.before_failed c.args.tree.now) (T.before_failed c.sync_and_carry_out.new.tree) c.args.left found c.args.back c.in-Ok.task c.in-Ok.ensures
    c.in-Ok-sync_and_carry_out.end (c.in-Ok-sync_and_carry_out.ensures.follows tells)

pub returns-in-Ok-clause-answers : goal.returns-in-Ok-clause-answers
returns-in-Ok-clause-answers g c tells =
    let T = g.T.Tree in
    let h = T.history c.args.tree.now in
    let found : HasFound h c.args.left = record { sorted = c.requires.sorted_out; standing = c.requires.standing tells } in
    task_failed h (T.history c.sync_and_carry_out.new.tree) (T.before_failed c.args.tree.now) (T.before_failed c.sync_and_carry_out.new.tree) c.args.left found c.args.back c.in-Ok.task c.in-Ok.ensures
    c.in-Err-sync_and_carry_out.first (c.in-Err-sync_and_carry_out.ensures.follows tells)

pub returns-in-Ok-sync_and_carry_out-clause-kept : goal.returns-in-Ok-sync_and_carry_out-clause-kept
returns-in-Ok-sync_and_carry_out-clause-kept g c =
    let T = g.T.Tree in
    worked_kept (T.changes c.args.tree.now) (T.changes c.sync_and_carry_out.new.tree) c.in-Ok-sync_and_carry_out.end c.in-Ok-sync_and_carry_out.ensures.worked
