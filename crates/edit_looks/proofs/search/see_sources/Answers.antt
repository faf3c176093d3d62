use Rattle.std.proofs.Common.{◌<◌, All, Contains, List, length, rules, subst}
use Rattle.std.proofs.lemmas.List.{take_all}
use Rattle.std.proofs.lemmas.Result.{err_from_is_err_and}
use Rattle.tree_core.specs.History.{History, current_tree}
use Rattle.edit_words.specs.declared.row.Row.{Row}
use Rattle.edit_words.specs.Sight.{sight_of}
use Rattle.edit_words.specs.Refusals.{stale}
use Rattle.edit_words.specs.Found.{IsFreeOr}
use Rattle.edit_looks.specs.Looks.{IsShownIn}
use Rattle.edit_words.proofs.FindingsLemmas.{grown_on}
use Rattle.edit_looks.proofs.SearchLemmas.{line_in, rows_more, shown_stays, stale_first}
use Rattle.edit_looks.proofs.search.see_sources.Goals as goal

pub loop-row-preserved : goal.loop-row-preserved
loop-row-preserved g c =
    let below : c.loop-row.row-index < length c.args.rows.now = search rules in
    record {
      shown = rows_more (IsShownIn c.loop-row.findings) (IsShownIn c.see_source.new.findings) c.args.rows.now c.loop-row.row-index c.row-item.result below c.row-item.is (shown_stays c.see_source.ensures.grown c.loop-row.invariant.closed c.see_source.ensures.closed) c.loop-row.invariant.shown c.in_ok-see_source.ensures.shown;
      grown = grown_on c.loop-row.invariant.grown c.see_source.ensures.grown;
      closed = search rules;
      told = search rules;
      history = search rules;
      fields = search rules;
      before = search rules;
      faults = search rules;
      changes = search rules;
    }

pub returns-clause-shown : goal.returns-clause-shown
returns-clause-shown g c = subst (λ (rs : List Row). All (IsShownIn c.loop-row.findings) rs) (take_all c.loop-row.row-index c.args.rows.now c.loop-row-test.false) c.loop-row.invariant.shown

pub returns-in_err-see_source-clause-refused : goal.returns-in_err-see_source-clause-refused
returns-in_err-see_source-clause-refused g c tells =
    let T = g.T.Tree in
    let s = sight_of (current_tree (T.history c.args.tree.now)) in
    let below : c.loop-row.row-index < length c.args.rows.now = search rules in
    let here : IsFreeOr c.in_err-see_source.field-0.0 (stale s c.row-item.result) = subst (λ (h : History). IsFreeOr c.in_err-see_source.field-0.0 (stale (sight_of (current_tree h)) c.row-item.result)) (c.loop-row.invariant.history tells) (c.in_err-see_source.ensures.refused tells) in
    let p = err_from_is_err_and c.from_residual.result c.from_residual.ensures.1 in
    rw (p.1, p.2) (stale_first c.loop-row.findings s c.args.rows.now c.loop-row.row-index c.row-item.result c.in_err-see_source.field-0.0 (c.loop-row.invariant.told tells) below c.row-item.is c.loop-row.invariant.shown here)

pub returns-in_err-see_source-clause-line : goal.returns-in_err-see_source-clause-line
returns-in_err-see_source-clause-line g c =
    let listed : Contains c.args.rows.now c.row-item.result = search rules in
    let p = err_from_is_err_and c.from_residual.result c.from_residual.ensures.1 in
    rw (p.1, p.2) (line_in c.args.rows.now c.row-item.result c.in_err-see_source.field-0.0 listed c.in_err-see_source.ensures.line)
