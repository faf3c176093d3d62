use Rattle.tree_core.specs.History.{current_tree}
use Rattle.edit_looks.proofs.LookLemmas.{told_empty}
use Rattle.edit_looks.proofs.see.see_empty.Goals as goal

pub returns-in_err-note_empty-in-Ok-clause-told : goal.returns-in_err-note_empty-in-Ok-clause-told
returns-in_err-note_empty-in-Ok-clause-told g c tells =
    told_empty (current_tree (g.T.Tree.history c.args.tree.now)) c.args.path.now c.in-Ok.empty (c.requires.told tells) c.note_empty.ensures.found c.note_empty.ensures.one (c.in-Ok.ensures.empty tells)

pub returns-in_ok-note_empty-in-Ok-clause-told : goal.returns-in_ok-note_empty-in-Ok-clause-told
returns-in_ok-note_empty-in-Ok-clause-told g c tells =
    told_empty (current_tree (g.T.Tree.history c.args.tree.now)) c.args.path.now c.in-Ok.empty (c.requires.told tells) c.note_empty.ensures.found c.note_empty.ensures.one (c.in-Ok.ensures.empty tells)
