use Rattle.std.proofs.Common.{rules}
use Rattle.dired_text.proofs.ResolveLemmas.{is_name-component}
use Rattle.dired_text.proofs.resolving.enter.Goals as goal

pub push_name-requires : goal.push_name-requires
push_name-requires c = search (rules, is_name-component)
