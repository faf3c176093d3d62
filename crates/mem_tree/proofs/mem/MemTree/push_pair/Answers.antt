use Rattle.std.proofs.Common.{◌≡◌, refl, sym, ◌∙◌, ap, subst, ◌++◌, ◌∷◌, []}
use Rattle.std.proofs.lemmas.List.{append_assoc}
use Rattle.mem_tree.specs.Stores.{tree_of}
use Rattle.mem_tree.specs.Choices.{takes}
use Rattle.mem_tree.specs.Images.{stand_in, EndsAt}
use Rattle.mem_tree.proofs.ImageLemmas.{image_sound, ends_empty, pair-of, untouched-of}
use Rattle.mem_tree.proofs.mem.MemTree.push_pair.Goals as goal

pub began-requires : goal.began-requires
began-requires c = image_sound (takes c.args.choice) c.args.self.now.next_number c.args.whole.now (stand_in c.args.base.now) (stand_in c.in_ok-replay.field-0) record { can = c.requires.whole.can; ends = c.requires.whole.ends } c.in_ok-replay.ensures

pub replay-requires-2 : goal.replay-requires-2
replay-requires-2 c = (ends_empty c.args.self.now.next_number c.args.whole.now c.args.empty.now (tree_of c.args.base.now) c.requires.empty record { can = c.requires.whole.can; ends = c.requires.whole.ends }).can

pub began-requires-2 : goal.began-requires-2
began-requires-2 c =
    image_sound (takes c.args.choice) c.args.self.now.next_number c.args.empty.now (stand_in c.args.base.now) (stand_in c.in_ok-replay-2.field-0)
    (ends_empty c.args.self.now.next_number c.args.whole.now c.args.empty.now (tree_of c.args.base.now) c.requires.empty record { can = c.requires.whole.can; ends = c.requires.whole.ends }) c.in_ok-replay-2.ensures

pub returns : goal.returns
returns c = record {
  one = c.in_ok-one.one;
  other = c.in_ok-other.other;
  grown = c.in_ok-push-2.ensures.items ∙ ap (λ l. l ++ c.in_ok-other.other ∷ []) c.in_ok-push.ensures.items ∙ append_assoc c.args.images.now.items _ _;
  pair = pair-of (takes c.args.choice) c.args.whole.now c.args.empty.now (stand_in c.args.base.now) c.in_ok-one.one c.in_ok-other.other c.args.self.now.next_number c.in_ok-replay.field-0 c.in_ok-replay-2.field-0 c.requires.empty c.in_ok-one.ensures c.in_ok-other.ensures c.in_ok-replay.ensures c.in_ok-replay-2.ensures;
  one_untouched = untouched-of c.in_ok-one.one c.args.self.now.next_number c.in_ok-replay.field-0 c.in_ok-one.ensures;
  other_untouched = untouched-of c.in_ok-other.other c.args.self.now.next_number c.in_ok-replay-2.field-0 c.in_ok-other.ensures;
}
