use Rattle.std.specs.List.{AllWithin}
use Rattle.plan_fits.specs.Laws.{HasText}
use Rattle.commit_run.proofs.reading.read_texts.Given as goal

abbrev pub invariant-loop-what : goal.invariant-loop-what
invariant-loop-what l = AllWithin HasText l.fresh 0 l.what-index
