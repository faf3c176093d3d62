use Rattle.std.proofs.Common.{subst, sym}
use Rattle.dired_text.specs.Paths.{Names, parent}
use Rattle.tree_core.specs.FileTree.{IsAbsent, IsDir}
use Rattle.mem_tree.specs.Slots.{Slots, Files, Counted, ParentsStand, tree_in}
use Rattle.mem_tree.specs.Stores.{times_of, tree_of}
use Rattle.mem_tree.proofs.TreeOf.{slot_absent}
use Rattle.mem_tree.proofs.StoreLemmas.{either, parents_added}
use Rattle.mem_tree.proofs.store.Store.add.Goals as goal

pub put_node-requires-clause-absent : goal.put_node-requires-clause-absent
unfolding tree_of times_of
put_node-requires-clause-absent c = slot_absent c.args.self.now.slots c.args.self.now.files c.names.result.now (subst (λ (p : Names). IsAbsent (tree_in c.args.self.now.slots c.args.self.now.files) p) (sym c.names.ensures.names) c.requires.absent)

pub invariant_of-self : goal.invariant_of-self
unfolding tree_of times_of
invariant_of-self c = either c.put_node.result c.put_node.ensures.ok c.put_node.ensures.err
    (λ keep. record {
      counted = keep.counted;
      parents = parents_added c.args.self.now.slots c.args.self.now.files c.names.result.now c.args.node.now c.put_node.new.slots c.put_node.new.files c.args.self.now.parents
          (subst (λ (p : Names). IsDir (tree_in c.args.self.now.slots c.args.self.now.files) (parent p)) (sym c.names.ensures.names) c.requires.parent) keep.tree;
    })
    (λ same. record {
      counted = subst (λ (s : Slots). Counted s c.put_node.new.files) (sym same.0) (subst (λ (f : Files). Counted c.args.self.now.slots f) (sym same.1) c.args.self.now.counted);
      parents = subst ParentsStand (sym same.0) c.args.self.now.parents;
    })
