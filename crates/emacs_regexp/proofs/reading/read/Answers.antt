use Rattle.emacs_regexp.proofs.FollowLemmas.{read-writes}
use Rattle.emacs_regexp.proofs.reading.read.Goals as goal

pub of_tokens-requires : goal.of_tokens-requires
of_tokens-requires c = read-writes c.deref.result.now _ c.in-Ok.ensures
