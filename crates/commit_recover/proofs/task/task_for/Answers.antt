use Rattle.std.proofs.Common.{◌≡◌, Some, None, rules}
use Rattle.staging_names.specs.declared.staged_name.Journal.TheVariants.{Plan}
use Rattle.commit_recover.proofs.WorkLemmas.{plan_marked}
use Rattle.commit_recover.proofs.task.task_for.Goals as goal

pub unreachable-requires : goal.unreachable-requires
unreachable-requires c =
    let plan : c.args.left.standing.journal ≡ Some Plan = search rules in
    let none : c.args.left.standing.marker ≡ None = search rules in
    plan_marked c.args.left c.requires.sorted_out plan none
