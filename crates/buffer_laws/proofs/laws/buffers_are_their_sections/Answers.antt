use Rattle.buffer_laws.proofs.ReadingLemmas.{read-buffers}
use Rattle.buffer_laws.proofs.WritingLemmas.{buffers-read}
use Rattle.buffer_laws.proofs.laws.buffers_are_their_sections.Goals as goal

pub returns-clause-read : goal.returns-clause-read
returns-clause-read c = buffers-read

pub returns-clause-only : goal.returns-clause-only
returns-clause-only c = read-buffers
