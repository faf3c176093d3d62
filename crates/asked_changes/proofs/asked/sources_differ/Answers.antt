use Rattle.std.proofs.Common.{◌<◌, length, rules, refl}
use Rattle.asked_changes.proofs.AskedLemmas.{apart_more}
use Rattle.asked_changes.proofs.asked.sources_differ.Goals as goal

pub loop-row-preserved : goal.loop-row-preserved
loop-row-preserved c =
    let within : c.loop-row.row-index < length c.args.rows.now = search rules in
    apart_more c.args.rows.now c.loop-row.row-index c.row-item.result c.loop-row.seen c.note_source.new.seen within c.row-item.is c.loop-row.invariant
    (search rules) (search rules) (search rules)
