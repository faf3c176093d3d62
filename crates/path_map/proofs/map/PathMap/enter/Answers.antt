use Rattle.std.proofs.Common.{rules, ◌≡◌, ◌<◌, ◌+◌, [], ◌∷◌, ◌++◌, Some, None, length, length-append, option_and_then, ◌∙◌, ap, arith}
use Rattle.path_map.specs.Walks.{child, value_of, walk}
use Rattle.path_map.proofs.EnterLemmas.{IsEntered, below_entered, child_beside, value_kept, walk_kept}
use Rattle.path_map.proofs.map.PathMap.enter.Goals as goal

entered : (g : _) → (c : goal.In_ok-link g) → IsEntered c.args.self.now.below.items c.link.new.self.below.items c.args.at c.args.name.now
entered g c =
    let old = c.args.self.now.below.items in
    let next = c.len-next.result in
    let pushed : c.push-2.new.self.items ≡ old ++ c.new.result ∷ [] = search rules in
    let is : next ≡ length old = search rules in
    let free : child old c.args.at c.args.name.now ≡ None = search rules in
    let made : c.args.at < length old = search rules in
    record {
      made = made;
      free = free;
      linked = c.in_ok-link.ensures.linked.linked ∙ ap Some is;
      others = λ i n other. c.in_ok-link.ensures.linked.others i n other ∙ ap (λ b. child b i n) pushed ∙ child_beside old c.new.result i n (search rules);
      longer = c.in_ok-link.ensures.linked.length ∙ ap length pushed ∙ length-append old (c.new.result ∷ []);
    }

pub returns-clause-map : goal.returns-clause-map
returns-clause-map g c = record {
  counted = counted;
  rooted = rooted;
  below = below_entered _ _ _ _ (entered g c) c.requires.map.below;
}
  where
    longer : length c.link.new.self.below.items ≡ length c.args.self.now.below.items + 1
    longer = (entered g c).longer

    old_counted : length c.args.self.now.values.items ≡ length c.args.self.now.below.items
    old_counted = c.requires.map.counted

    pushed : c.link.new.self.values.items ≡ c.args.self.now.values.items ++ None ∷ []
    pushed = search rules

    both : length (c.args.self.now.values.items ++ None ∷ []) ≡ length c.args.self.now.values.items + 1
    both = length-append c.args.self.now.values.items (None ∷ [])

    counted : length c.link.new.self.values.items ≡ length c.link.new.self.below.items
    counted = ap length pushed ∙ omega (arith, both, longer, old_counted)

    rooted : 0 < length c.link.new.self.below.items
    rooted = omega (arith, longer)

pub returns-clause-made : goal.returns-clause-made
returns-clause-made g c =
    let longer : length c.link.new.self.below.items ≡ length c.args.self.now.below.items + 1 = (entered g c).longer in
    let is : c.len-next.result ≡ length c.args.self.now.below.items = search rules in
    omega (arith, longer, is)

pub returns-clause-grown : goal.returns-clause-grown
returns-clause-grown g c p i w = walk_kept _ _ _ _ (entered g c) 0 i p w

pub returns-clause-kept : goal.returns-clause-kept
returns-clause-kept g c p =
    let pushed : c.link.new.self.values.items ≡ c.args.self.now.values.items ++ None ∷ [] = search rules in
    ap (λ v. option_and_then (value_of v) (walk c.link.new.self.below.items 0 p)) pushed
    ∙ value_kept _ _ _ _ c.args.self.now.values.items p (entered g c) c.requires.map.counted
