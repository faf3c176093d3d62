use Rattle.std.proofs.Common.{inl, inr}
use Rattle.commit_recover.proofs.recovering.settled.Goals as goal

pub returns-in-Ok-clause-answers : goal.returns-in-Ok-clause-answers
returns-in-Ok-clause-answers g c tells = (c.requires.absent tells, (c.in-Ok.ensures.ran tells).0)

pub returns-in-Err-clause-answers : goal.returns-in-Err-clause-answers
returns-in-Err-clause-answers g c tells = inr (inl (c.requires.absent tells, c.in-Err.ensures.ran tells))
