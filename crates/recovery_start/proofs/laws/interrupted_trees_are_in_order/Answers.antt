use Rattle.commit_states.specs.Interrupted.{IsOfKind}
use Rattle.recovery_start.proofs.RowLaws.{early_shows, planned_shows, sealed_shows, undone_shows}
use Rattle.recovery_start.proofs.laws.interrupted_trees_are_in_order.Goals as goal

pub returns-clause-early : goal.returns-clause-early
returns-clause-early c = early_shows

pub returns-clause-planned : goal.returns-clause-planned
returns-clause-planned c = λ kind steps. planned_shows (IsOfKind kind steps)

pub returns-clause-sealed : goal.returns-clause-sealed
returns-clause-sealed c = λ kind steps. sealed_shows (IsOfKind kind steps)

pub returns-clause-undone : goal.returns-clause-undone
returns-clause-undone c = λ kind steps. undone_shows (IsOfKind kind steps)
