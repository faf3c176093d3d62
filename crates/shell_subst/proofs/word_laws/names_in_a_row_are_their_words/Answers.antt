use Rattle.shell_subst.proofs.WordLemmas.{row-words}
use Rattle.shell_subst.proofs.word_laws.names_in_a_row_are_their_words.Goals as goal

pub returns : goal.returns
returns c = row-words c.args.names.now
