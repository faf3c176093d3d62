use Rattle.edit_words.specs.Rows.{rows}
use Rattle.plan_moves.proofs.StepCount.{steps_counted, given_up_have_sources}
use Rattle.plan_moves.proofs.laws.plans_have_the_number_of_steps.Goals as goal

pub returns : goal.returns
returns c = λ sight changes steps asked plan. steps_counted sight (rows changes) steps asked.lines (given_up_have_sources changes) plan
