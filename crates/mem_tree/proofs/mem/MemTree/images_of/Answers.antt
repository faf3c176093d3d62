use Rattle.std.proofs.lemmas.List.{get_or_default}
use Rattle.mem_tree.specs.Images.{stand_in}
use Rattle.mem_tree.proofs.ImageLemmas.{pairs-next, untouched-next}
use Rattle.mem_tree.proofs.mem.MemTree.images_of.Goals as goal

pub loop-choice-preserved : goal.loop-choice-preserved
loop-choice-preserved c =
    let same = get_or_default c.args.choices.now c.loop-choice.choice-index _ _ c.loop-choice-test.true in
    record {
      pairs = pairs-next c.args.whole.now (stand_in c.args.base.now) c.args.choices.now c.loop-choice.choice-index _ c.loop-choice-test.true same c.args.self.now.next_number c.loop-choice.images.items c.push_pair.new.images.items c.in_ok-push_pair.ensures c.loop-choice.invariant.pairs;
      untouched = untouched-next c.args.whole.now (stand_in c.args.base.now) c.args.choices.now c.loop-choice.choice-index _ c.loop-choice-test.true same c.args.self.now.next_number c.loop-choice.images.items c.push_pair.new.images.items c.in_ok-push_pair.ensures c.loop-choice.invariant.untouched;
    }
