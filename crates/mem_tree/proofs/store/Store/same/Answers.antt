use Rattle.std.proofs.Common.{◌≡◌, true, false, ◌∙◌, ap, sym, refl}
use Rattle.mem_tree.specs.Slots.{placed}
use Rattle.mem_tree.specs.Stores.{times_of, tree_of}
use Rattle.mem_tree.proofs.TreeOf.{shown_nodes, same_path_decides}
use Rattle.mem_tree.proofs.StoreLooks.{heads_same, heads_differ, ends_before, end_told, never_same, turned_not}
use Rattle.mem_tree.proofs.store.Store.same.Goals.{then-not-is_same-via-then-not-is_same, then-not-is_same-via-else-not-is_same+then-not-shows_same}
use Rattle.mem_tree.proofs.store.Store.same.Goals as goal

clash : false ≡ true → ⊥
clash e = cc

pub loop-names-init : goal.loop-names-init
unfolding tree_of times_of
loop-names-init c =
    let one = ap (shown_nodes c.args.self.now.files) (ap placed c.into_iter-names-iterator.ensures.into_iter_gives ∙ c.iter-names-items.ensures) in
    let two = ap (shown_nodes c.args.other.now.files) c.iter-others.ensures in
    (λ same. sym one ∙ same ∙ two, λ same. one ∙ same ∙ sym two)

pub loop-names-preserved : goal.loop-names-preserved
unfolding tree_of times_of
loop-names-preserved c =
    heads_same c.args.self.now.files c.args.other.now.files _ _ (c.in-Some.names.now.items, c.in-Some.slot.now) _ _ (c.in-Some-next.other_names.now.items, c.in-Some-next.other_slot.now) _
    (ap placed c.in-Some.ensures.steps) (ap placed c.in-Some-next.ensures.steps)
    (sym c.deref.ensures.value ∙ (same_path_decides c.deref.result.now c.deref-in-loop-names.result.now).0 (sym c.if-not-is_same.ensures) ∙ c.deref-in-loop-names.ensures.value)
    (c.if-not-shows_same.ensures.0 refl) c.loop-names.invariant

pub returns-in_default : goal.returns-in_default
unfolding tree_of times_of
returns-in_default c = never_same c.args.self.now.slots c.args.other.now.slots c.args.self.now.files c.args.other.now.files
    (ends_before c.args.self.now.files c.args.other.now.files _ _ (c.in-Some.names.now.items, c.in-Some.slot.now) _ _ (ap placed c.in-Some.ensures.steps) (ap placed c.in_default.ensures.steps.0) c.loop-names.invariant)

pub returns-then-not-is_same : goal.returns-then-not-is_same
unfolding tree_of times_of
returns-then-not-is_same c = never_same c.args.self.now.slots c.args.other.now.slots c.args.self.now.files c.args.other.now.files
    (heads_differ c.args.self.now.files c.args.other.now.files _ _ (c.in-Some.names.now.items, c.in-Some.slot.now) _ _ (c.in-Some-next.other_names.now.items, c.in-Some-next.other_slot.now) _
    (ap placed c.in-Some.ensures.steps) (ap placed c.in-Some-next.ensures.steps)
    (elim c.then-not-is_same.branch [
      | then-not-is_same-via-then-not-is_same w ↦ λ names nodes. clash (w.if-not-is_same.ensures ∙ (same_path_decides c.deref.result.now c.deref-in-loop-names.result.now).1 (c.deref.ensures.value ∙ names ∙ sym c.deref-in-loop-names.ensures.value))
      | then-not-is_same-via-else-not-is_same+then-not-shows_same w ↦ λ names nodes. clash (w.if-not-shows_same.ensures.1 nodes)
    ])
    c.loop-names.invariant)

pub returns : goal.returns
unfolding tree_of times_of
returns c = end_told c.args.self.now.files c.args.other.now.files c.args.self.now.slots c.args.other.now.slots (placed c.loop-names.names-iterator) c.loop-names.others _ c.next-2.result c.is_none.result
    (ap placed c.in-None.ensures.steps.0) c.next-2.ensures.steps (turned_not c.next-2.result c.is_none.result c.is_none.ensures) c.loop-names.invariant
