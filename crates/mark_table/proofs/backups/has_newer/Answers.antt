use Rattle.std.proofs.Common.{◌∙◌}
use Rattle.mark_table.proofs.RowLemmas.{row_newer, row_newer_past}
use Rattle.mark_table.proofs.backups.has_newer.Goals as goal

pub returns-then-count-rows : goal.returns-then-count-rows
returns-then-count-rows c row is =
    c.eq.ensures ∙ row_newer c.args.rows.now c.args.at c.args.count c.index-rows-at.result c.index-rows-at-then-count-rows.result row c.requires.sorted c.requires.within c.if-count-rows.true is

pub returns-else-count-rows : goal.returns-else-count-rows
returns-else-count-rows c row is = row_newer_past c.args.rows.now c.args.at c.args.count row c.requires.sorted c.requires.within c.if-count-rows.false is
