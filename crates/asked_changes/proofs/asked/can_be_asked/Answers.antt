use Rattle.std.proofs.Common.{◌≤◌, All, List, length, rules, subst}
use Rattle.edit_words.specs.declared.row.Row.{Row}
use Rattle.edit_words.specs.WellFormed.{IsNoRoot, LinesRise, SourcesDiffer, max_changes}
use Rattle.asked_changes.proofs.AskedLemmas.{all_asked}
use Rattle.asked_changes.proofs.asked.can_be_asked.Goals as goal

pub returns : goal.returns
returns c apart =
    let rs = c.in_ok-rows.rows.items in
    let few : length rs ≤ max_changes = search rules in
    all_asked c.args.changes.now rs c.in_ok-rows.ensures few
    (subst (λ (l : List Row). LinesRise l) c.deref.ensures.value (c.lines_rise.ensures c.if-not-lines_rise.false))
    (subst (λ (l : List Row). All IsNoRoot l) c.deref-else-not-lines_rise.ensures.value (c.none_is_root.ensures c.if-not-none_is_root.false))
    (subst (λ (l : List Row). SourcesDiffer l) c.deref-2.ensures.value (c.in_ok-differ.ensures apart))
    (c.are_lawful.ensures c.if-not-are_lawful.false)
