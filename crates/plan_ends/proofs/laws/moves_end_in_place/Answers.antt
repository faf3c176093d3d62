use Rattle.edit_words.specs.Rows.{rows}
use Rattle.plan_laws.proofs.Setting.{planned_rows}
use Rattle.plan_ends.proofs.EndMoves.{end_moved}
use Rattle.plan_ends.proofs.laws.moves_end_in_place.Goals as goal

pub returns : goal.returns
returns c = λ t changes made spots now p long so_far. end_moved t (rows changes) (planned_rows t changes p) made long spots now so_far
