use Rattle.std.proofs.Common.{refl, ◌∙◌}
use Rattle.std.proofs.lemmas.Result.{err_from_is_err_and}
use Rattle.dired_run.specs.Reports.{decided_of, output_of}
use Rattle.dired_run.specs.Runs.{no_memory, outside}
use Rattle.run_status.specs.Statuses.{sort_of}
use Rattle.dired_run.proofs.CarryLemmas.{check_answers, check_answers_calls, check_ends, commit_answers_calls, commit_answers_kept, commit_decides, stands_behind}
use Rattle.dired_run.proofs.DecidedLemmas.{kept_same}
use Rattle.dired_run.proofs.commit.carry_out.Goals as goal

pub returns-in_err-checked-clause-decides : goal.returns-in_err-checked-clause-decides
returns-in_err-checked-clause-decides g c tells reads reads_now last last_now same =
    let before = outside (g.T.Tree.history c.args.tree.now) (g.T.Tree.fields c.args.tree.now) (g.T.Tree.faults c.args.tree.now) (g.T.Tree.changes c.args.tree.now) (g.T.Tree.before_failed c.args.tree.now) reads last in
    let now = outside (g.T.Tree.history c.check.new.tree) (g.T.Tree.fields c.check.new.tree) (g.T.Tree.faults c.check.new.tree) (g.T.Tree.changes c.check.new.tree) (g.T.Tree.before_failed c.check.new.tree) reads_now last_now in
    let p = err_from_is_err_and c.from_residual.result c.from_residual.ensures.1 in
    check_answers c.args.request c.in_err-checked.field-0.0 before now c.from_residual.result p.0 p.1 p.2 (record { looked = c.in_err-checked.ensures.looked tells; faults = c.in_err-checked.ensures.faults; looks = c.in_err-checked.ensures.looks; reads = same }) (c.in_err-checked.ensures.refused tells)

pub returns-in_err-checked-clause-calls : goal.returns-in_err-checked-clause-calls
returns-in_err-checked-clause-calls g c =
    let p = err_from_is_err_and c.from_residual.result c.from_residual.ensures.1 in
    check_answers_calls c.in_err-checked.field-0.0 _ _ c.from_residual.result p.0 p.1 p.2 c.in_err-checked.ensures.faults

pub returns-in_err-checked-clause-end : goal.returns-in_err-checked-clause-end
returns-in_err-checked-clause-end g c =
    let p = err_from_is_err_and c.from_residual.result c.from_residual.ensures.1 in
    check_ends c.in_err-checked.field-0.0 c.from_residual.result p.0 p.1 p.2

pub returns-in_default-clause-decides : goal.returns-in_default-clause-decides
returns-in_default-clause-decides g c tells reads reads_now last last_now same = no_memory refl refl (record { history = (c.check.ensures.looked tells).history; faults = c.in_ok-checked.ensures.faults })

pub commit-requires-clause-stands : goal.commit-requires-clause-stands
commit-requires-clause-stands g c tells =
    stands_behind _ _ _ _ (c.check.ensures.looked tells).history (g.met.T.Tree.is_sound c.args.tree.now tells).tree (c.in_ok-checked.ensures.stands_for tells) c.in_ok-checked.ensures.keeps.0

pub returns-clause-decides : goal.returns-clause-decides
returns-clause-decides g c tells reads reads_now last last_now same =
    let before = outside (g.T.Tree.history c.args.tree.now) (g.T.Tree.fields c.args.tree.now) (g.T.Tree.faults c.args.tree.now) (g.T.Tree.changes c.args.tree.now) (g.T.Tree.before_failed c.args.tree.now) reads last in
    let now = outside (g.T.Tree.history c.commit.new.tree) (g.T.Tree.fields c.commit.new.tree) (g.T.Tree.faults c.commit.new.tree) (g.T.Tree.changes c.commit.new.tree) (g.T.Tree.before_failed c.commit.new.tree) reads_now last_now in
    commit_decides c.args.request before now (g.T.Tree.history c.check.new.tree) (g.T.Tree.faults c.check.new.tree) _ _ _ _ c.commit.result (decided_of c.ended.result) (output_of c.ended.result)
    (g.met.T.Tree.is_sound c.args.tree.now tells).tree (c.in_ok-checked.ensures.taken tells) (c.check.ensures.looked tells).history c.in_ok-checked.ensures.keeps.0
    (c.commit.ensures.commit tells) c.in_ok-checked.ensures.faults c.commit.ensures.faults same
    (c.counts.ensures ∙ c.in_ok-checked.ensures.counts tells) c.as_slice.ensures c.in-Ok.ensures c.ended.ensures.decided c.ended.ensures.text

pub returns-clause-calls : goal.returns-clause-calls
returns-clause-calls g c = commit_answers_calls c.commit.result _ _ _ _ c.in_ok-checked.ensures.faults c.commit.ensures.faults c.ended.ensures.decided

pub returns-in_err-checked-clause-kept : goal.returns-in_err-checked-clause-kept
returns-in_err-checked-clause-kept g c =
    kept_same (sort_of (decided_of c.from_residual.result)) (g.T.Tree.changes c.args.tree.now) (g.T.Tree.changes c.check.new.tree) c.check.ensures.unchanged

pub returns-in_default-clause-kept : goal.returns-in_default-clause-kept
returns-in_default-clause-kept g c = c.check.ensures.unchanged

pub returns-clause-kept : goal.returns-clause-kept
returns-clause-kept g c = commit_answers_kept c.commit.result _ _ _ _ c.check.ensures.unchanged c.commit.ensures.kept c.ended.ensures.decided
