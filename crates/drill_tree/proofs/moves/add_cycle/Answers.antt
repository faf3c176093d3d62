use Rattle.std.proofs.Common.{ℕ, ◌+◌, ◌%◌, ◌++◌, ◌∷◌, [], sym, ◌∙◌, ap, map, append_assoc}
use Rattle.drill_tree.specs.Drill.{in_dir}
use Rattle.drill_tree.specs.Groups.{below, cycle_name, moves_file, one}
use Rattle.drill_tree.specs.declared.moves.Move.{Move}
use Rattle.drill_tree.proofs.ListLemmas.{map_more}
use Rattle.drill_tree.proofs.moves.add_cycle.Goals as goal

pub loop-number-preserved : goal.loop-number-preserved
loop-number-preserved c =
    let turn : ℕ → Move = λ i. moves_file (one (cycle_name i)) (one (cycle_name ((i + 1) % c.args.len))) in
    let so_far = map (in_dir c.args.dir.now) (map turn (below c.loop-number.number)) in
    record {
      made =
          c.in_ok-add_turn.ensures
          ∙ ap (λ l. l ++ in_dir c.args.dir.now (turn c.loop-number.number) ∷ []) c.loop-number.invariant.made
          ∙ append_assoc c.args.moves.now.items so_far (in_dir c.args.dir.now (turn c.loop-number.number) ∷ [])
          ∙ ap (λ l. c.args.moves.now.items ++ l) (sym (map_more (in_dir c.args.dir.now) turn c.loop-number.number));
    }
