use Rattle.std.proofs.Common.{◌∙◌, ap, ◌++◌, map}
use Rattle.std.specs.Vec.{vec_items}
use Rattle.std.specs.List.{filter}
use Rattle.dired_text.specs.Paths.{is_below}
use Rattle.mem_tree.specs.Slots.{placed}
use Rattle.mem_tree.proofs.RunLemmas.{firsts, range_run}
use Rattle.mem_tree.proofs.RunLoops.{next_run, below_more, below_ends, not_missing, all_below, nothing_left}
use Rattle.mem_tree.proofs.slots.SlotMap.below.Goals.{in-Some+in-None, in-Some+in-Some-2+then-is_none, in_default}
use Rattle.mem_tree.proofs.slots.SlotMap.below.Goals as goal

pub loop-key-init : goal.loop-key-init
loop-key-init c = record {
  so_far = ap (λ l. map (λ k. k.now) l ++ filter (is_below c.args.names.now) (firsts (placed c.into_iter-key-iterator.result))) c.new-found.ensures.items;
  run = range_run c.self.inside.slots.entries _ c.in-Some.first.now c.args.names.now c.in-Some.ensures.same_key (c.into_iter-key-iterator.ensures.into_iter_gives ∙ c.range-key-items.ensures.between tt) c.self.invariant;
}

pub loop-key-preserved : goal.loop-key-preserved
loop-key-preserved c = record {
  so_far = below_more c.args.names.now c.loop-key.key-iterator c.next.new.self _ c.in-Some-2.ensures.steps c.loop-key.invariant.run c.loop-key.found.items c.push.new.self.items c.as_slice.result _ c.rest_below.result _
      c.loop-key.invariant.so_far c.in_ok-push.ensures.items c.as_slice.ensures.value c.rest_below.ensures c.deref.ensures.value c.if-is_none.ensures;
  run = next_run c.args.names.now c.loop-key.key-iterator c.next.new.self _ c.in-Some-2.ensures.steps c.loop-key.invariant.run;
}

pub returns : goal.returns
returns c = elim c.match-get_key_value.branch [
  | in-Some+in-None w ↦
      ap (λ v. map (λ k. k.now) v) (ap vec_items w.found-is)
      ∙ nothing_left _ _ _ (ap (λ l. filter (is_below c.args.names.now) (firsts (placed l))) w.in-None.ensures.steps.0) w.loop-key.invariant.so_far
      ∙ all_below c.self.inside.slots.entries _ w.in-Some.first.now c.args.names.now c.args.self.now w.in-Some.ensures.same_key (w.into_iter-key-iterator.ensures.into_iter_gives ∙ w.range-key-items.ensures.between tt) c.self.invariant c.self.view_is
  | in-Some+in-Some-2+then-is_none w ↦
      ap (λ v. map (λ k. k.now) v) (ap vec_items w.found-is)
      ∙ below_ends c.args.names.now w.loop-key.key-iterator w.next.new.self _ w.in-Some-2.ensures.steps w.loop-key.invariant.run w.loop-key.found.items _ w.rest_below.result _
      w.loop-key.invariant.so_far w.rest_below.ensures w.deref.ensures.value w.if-is_none.ensures
      ∙ all_below c.self.inside.slots.entries _ w.in-Some.first.now c.args.names.now c.args.self.now w.in-Some.ensures.same_key (w.into_iter-key-iterator.ensures.into_iter_gives ∙ w.range-key-items.ensures.between tt) c.self.invariant c.self.view_is
  | in_default w ↦ absurd (not_missing c.self.inside.slots c.args.names.now c.args.self.now c.self.view_is w.in_default.ensures.value c.requires)
]
