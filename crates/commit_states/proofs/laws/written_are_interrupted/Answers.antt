use Rattle.commit_states.specs.Interrupted.{IsWritten, IsJournalText}
use Rattle.commit_states.proofs.TextLemmas.{interrupted_more, written_are}
use Rattle.commit_states.proofs.laws.written_are_interrupted.Goals as goal

pub returns : goal.returns
returns c = λ steps. interrupted_more (IsWritten steps) (IsJournalText steps) (written_are steps) steps
