use Rattle.std.proofs.Common.{◌<◌, All, Contains, List, length, rules, subst}
use Rattle.std.proofs.lemmas.List.{take_all}
use Rattle.std.proofs.lemmas.Result.{err_from_is_err_and}
use Rattle.edit_words.specs.declared.row.Row.{Row}
use Rattle.edit_looks.specs.Looks.{IsToSeen}
use Rattle.edit_words.proofs.FindingsLemmas.{grown_on}
use Rattle.edit_looks.proofs.SearchLemmas.{line_in, rows_more, to_stays}
use Rattle.edit_looks.proofs.search.see_new_paths.Goals as goal

pub loop-row-preserved : goal.loop-row-preserved
loop-row-preserved g c =
    let below : c.loop-row.row-index < length c.args.rows.now = search rules in
    record {
      seen = rows_more (IsToSeen c.loop-row.findings) (IsToSeen c.see_new_path.new.findings) c.args.rows.now c.loop-row.row-index c.row-item.result below c.row-item.is (to_stays c.see_new_path.ensures.grown) c.loop-row.invariant.seen c.in_ok-see_new_path.ensures.seen;
      grown = grown_on c.loop-row.invariant.grown c.see_new_path.ensures.grown;
      closed = search rules;
      told = search rules;
      history = search rules;
      fields = search rules;
      before = search rules;
      faults = search rules;
      changes = search rules;
    }

pub returns-clause-seen : goal.returns-clause-seen
returns-clause-seen g c = subst (λ (rs : List Row). All (IsToSeen c.loop-row.findings) rs) (take_all c.loop-row.row-index c.args.rows.now c.loop-row-test.false) c.loop-row.invariant.seen

pub returns-in_err-see_new_path-clause-line : goal.returns-in_err-see_new_path-clause-line
returns-in_err-see_new_path-clause-line g c =
    let listed : Contains c.args.rows.now c.row-item.result = search rules in
    let p = err_from_is_err_and c.from_residual.result c.from_residual.ensures.1 in
    rw (p.1, p.2) (line_in c.args.rows.now c.row-item.result c.in_err-see_new_path.field-0.0 listed c.in_err-see_new_path.ensures.line)
