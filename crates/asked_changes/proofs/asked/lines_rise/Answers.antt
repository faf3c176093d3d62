use Rattle.std.proofs.Common.{◌<◌, length, rules}
use Rattle.asked_changes.proofs.AskedLemmas.{rise_more}
use Rattle.asked_changes.proofs.asked.lines_rise.Goals as goal

pub loop-row-preserved : goal.loop-row-preserved
loop-row-preserved c =
    let within : c.loop-row.row-index < length c.args.rows.now = search rules in
    rise_more c.args.rows.now c.loop-row.row-index c.row-item.result c.loop-row.least c.from-least.result within c.row-item.is c.loop-row.invariant (search rules) (search rules)
