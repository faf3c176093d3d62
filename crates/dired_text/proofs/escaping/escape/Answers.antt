use Rattle.dired_text.proofs.EscapeLemmas.{escaped-push}
use Rattle.dired_text.proofs.escaping.escape.Goals as goal

pub loop-c-preserved : goal.loop-c-preserved
loop-c-preserved c = rw (escaped-push c.args.in_link c.loop-c.yielded c.in-Some.c, ← c.loop-c.invariant) c.in_ok-push_escaped.ensures
