use Rattle.std.proofs.Common.{map, take, All}
use Rattle.mem_tree.specs.Choices.{takes}
use Rattle.mem_tree.specs.Images.{picked, AreImages, stand_in}
use Rattle.mem_tree.specs.MemHistory.{stand_told, IsUntouched}
use Rattle.mem_tree.proofs.mem.MemTree.images_of.Given as goal

abbrev pub invariant-loop-choice : goal.invariant-loop-choice
invariant-loop-choice l = record {
  pairs : AreImages (map (λ c. picked (takes c) l.whole) (take l.choice-index l.choices)) (stand_in l.base) (map stand_told l.images.items);
  untouched : All (IsUntouched l.self.next_number) l.images.items;
}
