use Rattle.std.proofs.Common.{◌<◌, All, List, length, rules, subst}
use Rattle.std.proofs.lemmas.List.{take_all}
use Rattle.edit_words.specs.declared.row.Row.{Row}
use Rattle.edit_looks.specs.Looks.{IsRemovedSeen}
use Rattle.edit_words.proofs.FindingsLemmas.{grown_on}
use Rattle.edit_looks.proofs.SearchLemmas.{rows_more, removed_stays}
use Rattle.edit_looks.proofs.search.see_removed.Goals as goal

pub loop-row-preserved : goal.loop-row-preserved
loop-row-preserved g c =
    let below : c.loop-row.row-index < length c.args.rows.now = search rules in
    record {
      asked = rows_more (IsRemovedSeen c.loop-row.findings) (IsRemovedSeen c.see_removed_row.new.findings) c.args.rows.now c.loop-row.row-index c.row-item.result below c.row-item.is (removed_stays c.see_removed_row.ensures.grown c.see_removed_row.ensures.found) c.loop-row.invariant.asked c.in_ok-see_removed_row.ensures.asked;
      grown = grown_on c.loop-row.invariant.grown c.see_removed_row.ensures.grown;
      closed = search rules;
      told = search rules;
      history = search rules;
      fields = search rules;
      before = search rules;
      faults = search rules;
      changes = search rules;
    }

pub returns-clause-asked : goal.returns-clause-asked
returns-clause-asked g c = subst (λ (rs : List Row). All (IsRemovedSeen c.loop-row.findings) rs) (take_all c.loop-row.row-index c.args.rows.now c.loop-row-test.false) c.loop-row.invariant.asked
