use Rattle.std.proofs.Common.{rules}
use Rattle.asked_changes.proofs.asked.is_edit.Goals as goal

pub returns : goal.returns
returns c mode = record {
  asks = search rules;
  to = search rules;
  target = c.has_new_target.ensures c.if-not-has_new_target.false;
  mode = c.has_new_mode.ensures mode;
}
