use Rattle.std.proofs.Common.{◌∙◌}
use Rattle.mark_table.proofs.RowLemmas.{row_older, row_older_past}
use Rattle.mark_table.proofs.backups.has_older.Goals as goal

pub returns-then-count-at : goal.returns-then-count-at
returns-then-count-at c row is =
    c.eq.ensures ∙ row_older c.args.rows.now c.args.at c.args.count c.index-rows-at.result c.index-rows-at-then-count-at.result row c.requires.sorted c.requires.within c.if-count-at.true is

pub returns-else-count-at : goal.returns-else-count-at
returns-else-count-at c row is = row_older_past c.args.rows.now c.args.at c.args.count row c.requires.sorted c.requires.within c.if-count-at.false is
