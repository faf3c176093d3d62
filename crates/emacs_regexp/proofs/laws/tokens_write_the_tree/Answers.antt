use Rattle.emacs_regexp.proofs.FollowLemmas.{regexp-iff}
use Rattle.emacs_regexp.proofs.laws.tokens_write_the_tree.Goals as goal

pub returns : goal.returns
returns c = λ tree. regexp-iff c.args.text.now tree
