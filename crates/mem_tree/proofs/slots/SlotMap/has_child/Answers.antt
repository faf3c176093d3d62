use Rattle.std.proofs.Common.{refl, sym, ◌∙◌, ap}
use Rattle.std.specs.List.{list_any}
use Rattle.mem_tree.specs.Slots.{placed}
use Rattle.mem_tree.proofs.RunLemmas.{firsts, is_child, range_run}
use Rattle.mem_tree.proofs.RunLoops.{next_run, child_found, child_passed, children_end, not_missing, all_children}
use Rattle.mem_tree.proofs.slots.SlotMap.has_child.Goals as goal

pub loop-key-init : goal.loop-key-init
loop-key-init c = record {
  so_far = refl;
  run = range_run c.self.inside.slots.entries _ c.in-Some.first.now c.args.names.now c.in-Some.ensures.same_key (c.into_iter-key-iterator.ensures.into_iter_gives ∙ c.range-key-items.ensures.between tt) c.self.invariant;
}

pub loop-key-preserved : goal.loop-key-preserved
loop-key-preserved c = record {
  so_far = child_passed c.args.names.now c.loop-key.key-iterator c.next.new.self _ c.in-Some-2.ensures.steps c.loop-key.invariant.run _ c.child_name.result _ c.loop-key.invariant.so_far c.child_name.ensures c.deref.ensures.value (sym c.if-is_some.ensures);
  run = next_run c.args.names.now c.loop-key.key-iterator c.next.new.self _ c.in-Some-2.ensures.steps c.loop-key.invariant.run;
}

pub returns-then-is_some : goal.returns-then-is_some
returns-then-is_some c =
    child_found c.args.names.now c.loop-key.key-iterator c.next.new.self _ c.in-Some-2.ensures.steps c.loop-key.invariant.run _ c.child_name.result _ c.loop-key.invariant.so_far c.child_name.ensures c.deref.ensures.value (sym c.if-is_some.ensures)
    ∙ all_children c.self.inside.slots.entries _ c.in-Some.first.now c.args.names.now c.args.self.now c.in-Some.ensures.same_key (c.into_iter-key-iterator.ensures.into_iter_gives ∙ c.range-key-items.ensures.between tt) c.self.invariant c.self.view_is

pub returns-then-is_none : goal.returns-then-is_none
returns-then-is_none c =
    children_end c.args.names.now c.loop-key.key-iterator c.next.new.self _ c.in-Some-2.ensures.steps c.loop-key.invariant.run _ c.rest_below.result _ c.loop-key.invariant.so_far c.rest_below.ensures c.deref-in-loop-key.ensures.value c.if-is_none.ensures
    ∙ all_children c.self.inside.slots.entries _ c.in-Some.first.now c.args.names.now c.args.self.now c.in-Some.ensures.same_key (c.into_iter-key-iterator.ensures.into_iter_gives ∙ c.range-key-items.ensures.between tt) c.self.invariant c.self.view_is

pub returns-in-None : goal.returns-in-None
returns-in-None c =
    sym (ap (λ l. list_any (is_child c.args.names.now) (firsts (placed l))) c.in-None.ensures.steps.0) ∙ c.loop-key.invariant.so_far
    ∙ all_children c.self.inside.slots.entries _ c.in-Some.first.now c.args.names.now c.args.self.now c.in-Some.ensures.same_key (c.into_iter-key-iterator.ensures.into_iter_gives ∙ c.range-key-items.ensures.between tt) c.self.invariant c.self.view_is

pub returns-in_default : goal.returns-in_default
returns-in_default c = absurd (not_missing c.self.inside.slots c.args.names.now c.args.self.now c.self.view_is c.in_default.ensures.value c.requires)
