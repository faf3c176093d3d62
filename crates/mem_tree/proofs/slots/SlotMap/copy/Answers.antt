use Rattle.mem_tree.proofs.KeptMaps.{slot_copied, slots_copied}
use Rattle.mem_tree.proofs.slots.SlotMap.copy.Goals as goal

pub loop-names-preserved : goal.loop-names-preserved
loop-names-preserved c =
    slot_copied c.self.inside.slots c.loop-names.yielded (c.in-Some.names, c.in-Some.slot) _ _ _ _ _ c.deref.result.now c.in_ok-copy.field-0 c.self.invariant c.into_iter-names-iterator.ensures.into_iter_gives.0 c.loop-names.yielded_by
    c.in-Some.ensures.steps c.loop-names.invariant c.in_ok-insert.ensures.ok c.deref.ensures.value c.in_ok-copy.ensures

pub returns : goal.returns
returns c = slots_copied c.self.inside.slots c.loop-names.yielded _ _ _ _ c.into_iter-names-iterator.ensures.into_iter_gives.0 c.loop-names.yielded_by c.in-None.ensures.steps.0 c.loop-names.invariant c.self.view_is
