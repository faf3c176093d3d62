use Rattle.std.proofs.Common.{◌∙◌, arith}
use Rattle.shown_lines.proofs.NameLemmas.{last-of}
use Rattle.shown_lines.proofs.omitting.last_name.Goals as goal

pub returns-in-len1-up : goal.returns-in-len1-up
returns-in-len1-up c = c.as_str.ensures.value ∙ last-of c.args.names.now c.last-item.result (omega arith) c.last-item.is
