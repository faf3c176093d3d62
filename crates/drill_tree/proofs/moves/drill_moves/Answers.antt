use Rattle.std.proofs.Common.{◌++◌, sym, ◌∙◌, ap}
use Rattle.drill_tree.specs.Drill.{group_moves}
use Rattle.drill_tree.proofs.ListLemmas.{below_more}
use Rattle.drill_tree.proofs.moves.drill_moves.Goals as goal

pub loop-number-preserved : goal.loop-number-preserved
loop-number-preserved c = record {
  made = c.in_ok-add_group.ensures ∙ ap (λ l. l ++ group_moves c.loop-number.number) c.loop-number.invariant.made ∙ sym (below_more group_moves c.loop-number.number);
}
