use Rattle.std.proofs.Common.{sym, subst}
use Rattle.commit_plan.specs.Promises.{IsOldTree}
use Rattle.commit_cases.proofs.committing.commit_settled.Goals as goal

pub commit-requires-clause-stands : goal.commit-requires-clause-stands
commit-requires-clause-stands g c tells = subst (IsOldTree c.args.checked) (sym (c.settle.ensures.kept tells)) (c.requires tells)

pub commit-requires-clause-durable : goal.commit-requires-clause-durable
commit-requires-clause-durable g c tells = c.settle.ensures.durable tells c.if-not-settle.false
