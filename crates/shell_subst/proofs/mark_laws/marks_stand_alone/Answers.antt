use Rattle.shell_subst.proofs.MarkLemmas.{all-marks, one-marks}
use Rattle.shell_subst.proofs.mark_laws.marks_stand_alone.Goals as goal

pub returns-clause-all : goal.returns-clause-all
returns-clause-all c = all-marks c.args.text.now

pub returns-clause-one : goal.returns-clause-one
returns-clause-one c = one-marks c.args.text.now
