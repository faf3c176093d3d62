use Rattle.std.proofs.Common.{subst, List, ℕ}
use Rattle.find_words.specs.Refusals.{StopsAt}
use Rattle.find_words.specs.WordReading.{as_words}
use Rattle.find_words.proofs.EndLemmas.{refused}
use Rattle.find_words.proofs.reading.read_words.Goals as goal

pub returns-in-Err : goal.returns-in-Err
returns-in-Err c =
    refused c.in-Err.fault (as_words c.args.words.now) (subst (λ (l : List (List ℕ)). StopsAt c.in-Err.fault l) c.deref.ensures.value c.in-Err.ensures)
