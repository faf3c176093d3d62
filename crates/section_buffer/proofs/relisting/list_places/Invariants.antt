use Rattle.std.proofs.Common.{◌≡◌, take}
use Rattle.tree_core.specs.History.{current_tree}
use Rattle.section_buffer.specs.Relisting.{AreListed, standing}
use Rattle.section_buffer.proofs.RelistLemmas.{ListedSoFar}
use Rattle.section_buffer.proofs.relisting.list_places.Given as goal

abbrev pub invariant-loop-place : goal.invariant-loop-place
invariant-loop-place g l =
    let T = g.T.Tree in record {
      listed : ListedSoFar (λ sections. T.Tells → AreListed l.switches (current_tree (T.history l.fn.tree)) (T.fields l.fn.tree) (standing (current_tree (T.history l.fn.tree)) (take l.place-index l.places)) sections) l.place-index l.places l.rows;
      history : T.Tells → T.history l.tree ≡ T.history l.fn.tree;
      fields : T.Tells → T.fields l.tree ≡ T.fields l.fn.tree;
      found : T.Tells → T.before_failed l.tree ≡ T.before_failed l.fn.tree;
      faults : T.faults l.tree ≡ T.faults l.fn.tree;
      changes : T.changes l.tree ≡ T.changes l.fn.tree;
    }
