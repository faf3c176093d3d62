use Rattle.std.proofs.Common.{ℕ, ◌++◌, ◌∷◌, [], sym, ◌∙◌, ap, map, append_assoc}
use Rattle.drill_tree.specs.Drill.{held_in}
use Rattle.drill_tree.specs.Groups.{Held, below, cycle_name, file, one}
use Rattle.drill_tree.proofs.ListLemmas.{map_more}
use Rattle.drill_tree.proofs.entries.add_cycle.Goals as goal

pub loop-number-preserved : goal.loop-number-preserved
loop-number-preserved c =
    let turn : ℕ → Held = λ i. file (one (cycle_name i)) in
    let so_far = map (held_in c.args.dir.now) (map turn (below c.loop-number.number)) in
    record {
      made =
          c.in_ok-add_numbered.ensures
          ∙ ap (λ l. l ++ held_in c.args.dir.now (turn c.loop-number.number) ∷ []) c.loop-number.invariant.made
          ∙ append_assoc c.args.entries.now.items so_far (held_in c.args.dir.now (turn c.loop-number.number) ∷ [])
          ∙ ap (λ l. c.args.entries.now.items ++ l) (sym (map_more (held_in c.args.dir.now) turn c.loop-number.number));
    }
