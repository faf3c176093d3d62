use Rattle.clap.specs.Words.{app_of}
use Rattle.command_words.proofs.WordLemmas.{simple}
use Rattle.command_words.proofs.matching.matched.Goals as goal

pub returns-in-Ok-clause-rows : goal.returns-in-Ok-clause-rows
returns-in-Ok-clause-rows c = (c.in-Ok.ensures.kinds c.requires.simple, (c.in-Ok.ensures.matches (simple (app_of c.args.command) c.requires.simple)).0)
