use Rattle.std.proofs.Common.{sym, ◌∙◌}
use Rattle.commit_steps.proofs.LawfulLemmas.{lawful_is, lawful_holds}
use Rattle.commit_steps.proofs.lawful.is_lawful.Goals as goal

pub returns-clause-lawful : goal.returns-clause-lawful
returns-clause-lawful c = (λ e. lawful_is c.args.step.now (sym c.passes.ensures ∙ e), λ h. c.passes.ensures ∙ lawful_holds c.args.step.now h)
