use Rattle.std.proofs.Common.{◌≡◌, sym, ◌∙◌, ap, subst, arith, length}
use Rattle.tree_core.specs.declared.changes.Changes.TheVariants.{Edits}
use Rattle.edit_words.specs.WellFormed.{AreAsked}
use Rattle.drill_tree.specs.Drill.{drill_moves, numbered}
use Rattle.drill_tree.proofs.DrillLemmas.{moves_few}
use Rattle.drill_tree.proofs.MadeLemmas.{asked}
use Rattle.drill_tree.proofs.edits.drill_edits.Goals as goal

pub numbered-requires : goal.numbered-requires
numbered-requires c =
    let size : length c.in_ok-moves.moves.items ≡ length (drill_moves c.args.groups) = ap length c.in_ok-moves.ensures in
    let few = moves_few c.args.groups in
    let most = c.requires in
    omega (arith, size, few, most)

pub returns-clause-asked : goal.returns-clause-asked
returns-clause-asked c =
    let edits = ap Edits (c.from_vec.ensures ∙ c.in_ok-edits.ensures ∙ ap (numbered 1) c.in_ok-moves.ensures) in
    subst AreAsked (sym edits) (asked c.args.groups c.requires).asked
