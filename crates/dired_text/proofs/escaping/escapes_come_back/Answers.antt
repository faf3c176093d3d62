use Rattle.dired_text.proofs.RoundTrip.{text-back}
use Rattle.dired_text.proofs.escaping.escapes_come_back.Goals as goal

pub returns : goal.returns
returns c = text-back c.args.in_link c.args.text.now 0
