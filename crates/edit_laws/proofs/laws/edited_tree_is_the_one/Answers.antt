use Rattle.edit_words.specs.Place.{place}
use Rattle.edit_words.specs.Rows.{rows, route_of, is_kept}
use Rattle.edit_words.specs.Edited.{added_by, with_new_mode}
use Rattle.edit_laws.proofs.PlacedLemmas.{determined}
use Rattle.edit_laws.proofs.AskedLemmas.{rows_are}
use Rattle.edit_laws.proofs.EditedLemmas.{edited-IsEdited}
use Rattle.edit_laws.proofs.laws.edited_tree_is_the_one.Goals as goal

pub returns-clause-is_edited : goal.returns-clause-is_edited
returns-clause-is_edited c = λ t changes made tree asked fine. edited-IsEdited t (rows changes) made tree fine (rows_are t changes asked fine)

pub returns-clause-no_other : goal.returns-clause-no_other
returns-clause-no_other c = λ t u v rs made is_u is_v. determined (is_kept rs) (place (route_of rs)) (with_new_mode t rs) (added_by t rs made) t u v is_u is_v
