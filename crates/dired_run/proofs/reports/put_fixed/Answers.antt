use Rattle.run_status.specs.declared.status.Status.TheVariants.{RolledBack, Strange, TreeFault}
use Rattle.dired_run.proofs.ReportLemmas.{status_takes}
use Rattle.dired_run.proofs.reports.put_fixed.Goals as goal

pub returns-in-TreeFault-clause-taken : goal.returns-in-TreeFault-clause-taken
returns-in-TreeFault-clause-taken g c tells = status_takes _ _ (TreeFault c.in-TreeFault.first) _ _ c.in-TreeFault.is (c.put_call.ensures.taken tells)

pub returns-in-RolledBack-clause-taken : goal.returns-in-RolledBack-clause-taken
returns-in-RolledBack-clause-taken g c tells = status_takes _ _ (RolledBack c.in-RolledBack.first) _ _ c.in-RolledBack.is (c.put_call-in-RolledBack.ensures.taken tells)

pub returns-in-Strange-clause-taken : goal.returns-in-Strange-clause-taken
returns-in-Strange-clause-taken g c tells = status_takes _ _ (Strange c.in-Strange.step) _ _ c.in-Strange.is (c.put_number-in-Strange.ensures.taken tells)
