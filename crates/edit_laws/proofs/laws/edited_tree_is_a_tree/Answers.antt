use Rattle.edit_words.specs.Rows.{rows}
use Rattle.edit_laws.proofs.AskedLemmas.{rows_are, made_are}
use Rattle.edit_laws.proofs.EditedLemmas.{edited_is_tree}
use Rattle.edit_laws.proofs.laws.edited_tree_is_a_tree.Goals as goal

pub returns : goal.returns
returns c = λ t changes made tree asked fine made_for.
    edited_is_tree t (rows changes) made tree fine (rows_are t changes asked fine) (made_are t changes tree asked made made_for)
