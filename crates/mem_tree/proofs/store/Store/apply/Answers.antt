use Rattle.std.proofs.Common.{subst, sym}
use Rattle.mem_tree.specs.Slots.{Slots, Files, Counted, ParentsStand}
use Rattle.mem_tree.specs.Stores.{times_of, tree_of}
use Rattle.mem_tree.proofs.StoreLemmas.{either, parents_after}
use Rattle.mem_tree.proofs.store.Store.apply.Goals as goal

pub invariant_of-self : goal.invariant_of-self
unfolding tree_of times_of
invariant_of-self c = either c.apply.result c.apply.ensures.ok c.apply.ensures.err
    (λ keep. record { counted = keep.counted; parents = parents_after c.args.change.now c.args.next _ c.apply.new.slots c.apply.new.files c.requires.tree c.requires.new c.requires.can keep.tree })
    (λ same. record {
      counted = subst (λ (s : Slots). Counted s c.apply.new.files) (sym same.0) (subst (λ (f : Files). Counted c.args.self.now.slots f) (sym same.1) c.args.self.now.counted);
      parents = subst ParentsStand (sym same.0) c.args.self.now.parents;
    })
