use Rattle.std.proofs.Common.{◌≡◌, ◌++◌, map, sym, ◌∙◌, ap, arith}
use Rattle.drill_tree.specs.Drill.{drill_held, entry_at, group_held}
use Rattle.drill_tree.proofs.ListLemmas.{below_more}
use Rattle.drill_tree.proofs.HeldLemmas.{entries_held}
use Rattle.drill_tree.proofs.entries.drill_entries.Goals as goal

pub loop-number-preserved : goal.loop-number-preserved
loop-number-preserved c = record {
  made = c.in_ok-add_group.ensures ∙ ap (λ l. l ++ group_held c.loop-number.number) c.loop-number.invariant.made ∙ sym (below_more group_held c.loop-number.number);
}

pub returns-clause-entries : goal.returns-clause-entries
returns-clause-entries c =
    let all : c.loop-number.number ≡ c.args.groups = omega arith in
    λ numbers. ap (map (entry_at numbers)) (c.loop-number.invariant.made ∙ ap drill_held all) ∙ entries_held numbers c.args.groups
