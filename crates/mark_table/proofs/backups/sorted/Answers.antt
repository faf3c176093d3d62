use Rattle.std.proofs.Common.{rules, ◌≡◌, ap, sym, ◌∙◌, List, ◌++◌, subst}
use Rattle.std.specs.FinMap.{entries}
use Rattle.std.specs.Map.{keys_of}
use Rattle.std.specs.List.Sorted.{IsStrictlySortedBy}
use Rattle.mark_table.specs.Excess.{backups, version_cmp}
use Rattle.mark_table.proofs.RowLemmas.{Row, in_order}
use Rattle.mark_table.proofs.backups.sorted.Goals as goal

pub loop-row-init : goal.loop-row-init
loop-row-init c =
    let given = c.into_iter-row-iterator.ensures.into_iter_gives in
    ap (λ (rs : List Row). c.in_ok-rows.rows.items ++ rs) (given.0 ∙ in_order c.in_ok-found.found (backups c.args.shown.now) c.len.ensures.ordered c.in_ok-found.ensures)
    ∙ ap (λ (rs : List Row). rs ++ entries (backups c.args.shown.now)) c.in_ok-rows.ensures.items

pub returns-clause-sorted : goal.returns-clause-sorted
returns-clause-sorted c =
    let all : c.loop-row.rows.items ≡ entries (backups c.args.shown.now) = search rules in
    subst (λ (rs : List Row). IsStrictlySortedBy version_cmp (keys_of rs))
    (in_order c.in_ok-found.found (backups c.args.shown.now) c.len.ensures.ordered c.in_ok-found.ensures ∙ sym all) c.len.ensures.ordered
