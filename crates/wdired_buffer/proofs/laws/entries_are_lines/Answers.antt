use Rattle.wdired_buffer.proofs.EntryLemmas.{entries_alike}
use Rattle.wdired_buffer.proofs.laws.entries_are_lines.Goals as goal

pub returns : goal.returns
returns c = entries_alike c.args.number c.args.dir.now c.args.text.now
