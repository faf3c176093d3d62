use Rattle.std.proofs.Common.{◌∙◌, sym, ap, subst, []}
use Rattle.std.specs.FinMap.{insert, empty}
use Rattle.mem_tree.specs.Slots.{Slots, Files, Counted, ParentsStand, tree_in, times_in}
use Rattle.mem_tree.specs.Stores.{times_of, tree_of}
use Rattle.mem_tree.proofs.StoreLemmas.{root_slot, root_counted, root_parents, root_tree_is, root_times}
use Rattle.mem_tree.proofs.store.Store.new.Goals as goal

pub invariant_of-result : goal.invariant_of-result
unfolding tree_of times_of
invariant_of-result c = record {
  counted = subst (λ (f : Files). Counted c.insert.new.self f) (sym c.new.ensures) (subst (λ (s : Slots). Counted s empty) (sym (c.in_ok-insert.ensures.ok ∙ ap (λ (m : Slots). insert m [] root_slot) c.new-slots.ensures)) root_counted);
  parents = subst ParentsStand (sym (c.in_ok-insert.ensures.ok ∙ ap (λ (m : Slots). insert m [] root_slot) c.new-slots.ensures)) root_parents;
}

pub returns-clause-tree : goal.returns-clause-tree
unfolding tree_of times_of
returns-clause-tree c = (λ i. tree_in ((c.in_ok-insert.ensures.ok ∙ ap (λ (m : Slots). insert m [] root_slot) c.new-slots.ensures) i) (c.new.ensures i)) ∙ root_tree_is

pub returns-clause-times : goal.returns-clause-times
unfolding tree_of times_of
returns-clause-times c = ap times_in (c.in_ok-insert.ensures.ok ∙ ap (λ (m : Slots). insert m [] root_slot) c.new-slots.ensures) ∙ root_times
