use Rattle.std.proofs.Common.{rules, Contains}
use Rattle.edit_words.specs.Found.{sight_in}
use Rattle.edit_rules.proofs.BytesLemmas.{short_rows}
use Rattle.edit_rules.proofs.bytes.changed_bytes.Goals as goal

pub row_bytes-requires-clause-short : goal.row_bytes-requires-clause-short
row_bytes-requires-clause-short c =
    let rows = c.args.table.now.rows.items in
    let listed : Contains rows c.row-item.result = search rules in
    short_rows (sight_in c.args.findings.now) rows c.row-item.result c.requires.short listed
