use Rattle.buffer_laws.proofs.TextLemmas.{texts-alike}
use Rattle.buffer_laws.proofs.WritingLemmas.{sections-one}
use Rattle.buffer_laws.specs.Buffers.{ended, buffer_texts}
use Rattle.buffer_laws.proofs.laws.sections_and_texts_are_one.Goals as goal

pub returns-clause-sections : goal.returns-clause-sections
returns-clause-sections c = sections-one

pub returns-clause-texts : goal.returns-clause-texts
returns-clause-texts c = λ text other sections is also. texts-alike text other (ended (buffer_texts sections)) is.is also.is
