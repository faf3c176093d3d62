use Rattle.wdired_buffer.proofs.ShownLemmas.{own_lines}
use Rattle.wdired_buffer.proofs.laws.untouched_lines_ask_nothing.Goals as goal

pub returns : goal.returns
returns c = own_lines c.args.number c.args.dir.now c.args.text.now
