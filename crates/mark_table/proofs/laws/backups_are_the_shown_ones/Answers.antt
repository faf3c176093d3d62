use Rattle.mark_table.proofs.RowLemmas.{get-backups}
use Rattle.mark_table.proofs.laws.backups_are_the_shown_ones.Goals as goal

pub returns : goal.returns
returns c v = get-backups c.args.shown.now v
