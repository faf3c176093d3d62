use Rattle.edit_words.specs.Rows.{rows}
use Rattle.edit_words.specs.Edited.{edited}
use Rattle.edit_laws.proofs.AskedLemmas.{rows_are, made_are}
use Rattle.edit_laws.proofs.EditedLemmas.{edited-IsEdited, stands_as_edited}
use Rattle.edit_laws.proofs.laws.paths_go_to_their_places.Goals as goal

pub returns : goal.returns
returns c = λ t changes made tree asked fine made_for. let are = rows_are t changes asked fine in
    stands_as_edited t (rows changes) made tree fine are (edited t (rows changes) made) (edited-IsEdited t (rows changes) made tree fine are)
    asked.lines (made_are t changes tree asked made made_for).long
