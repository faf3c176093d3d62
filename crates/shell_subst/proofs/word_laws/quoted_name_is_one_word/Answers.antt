use Rattle.shell_subst.proofs.WordLemmas.{one-word}
use Rattle.shell_subst.proofs.word_laws.quoted_name_is_one_word.Goals as goal

pub returns : goal.returns
returns c = one-word c.args.name.now
