use Rattle.shell_subst.proofs.FillLemmas.{star-replaced, question-replaced, rest-stays}
use Rattle.shell_subst.proofs.mark_laws.marks_are_replaced.Goals as goal

pub returns-clause-star : goal.returns-clause-star
returns-clause-star c = star-replaced c.args.shown.now c.args.before.now c.args.after.now

pub returns-clause-question : goal.returns-clause-question
returns-clause-question c = question-replaced c.args.shown.now c.args.before.now c.args.after.now

pub returns-clause-rest : goal.returns-clause-rest
returns-clause-rest c = rest-stays c.args.shown.now c.args.before.now
