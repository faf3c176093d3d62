use Rattle.shell_subst.proofs.WordLemmas.{word-first, word-behind}
use Rattle.shell_subst.proofs.word_laws.quoted_name_leaves_other_words.Goals as goal

pub returns-clause-first : goal.returns-clause-first
returns-clause-first c = word-first c.args.name.now c.args.after.now

pub returns-clause-behind : goal.returns-clause-behind
returns-clause-behind c gap before = word-behind c.args.front.now c.args.name.now c.args.after.now gap before
