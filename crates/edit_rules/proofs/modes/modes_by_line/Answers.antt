use Rattle.std.proofs.Common.{rules, Contains}
use Rattle.edit_words.specs.Found.{sight_in}
use Rattle.edit_rules.proofs.BytesLemmas.{short_rows}
use Rattle.edit_rules.proofs.modes.modes_by_line.Goals as goal

pub mode_change-requires-clause-short : goal.mode_change-requires-clause-short
mode_change-requires-clause-short c =
    let rows = c.args.table.now.rows.items in
    let listed : Contains rows c.row-item.result = search rules in
    short_rows (sight_in c.args.findings.now) rows c.row-item.result c.requires.short listed
