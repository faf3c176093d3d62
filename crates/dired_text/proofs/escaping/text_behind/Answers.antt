use Rattle.dired_text.proofs.UnescapeLemmas.{cut_behind}
use Rattle.dired_text.proofs.escaping.text_behind.Goals as goal

pub range_from-requires : goal.range_from-requires
range_from-requires c = λ _. cut_behind c.args.text.now c.args.count c.utf8.text c.requires.some c.requires.within c.requires.ascii
