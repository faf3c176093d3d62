use Rattle.mark_table.proofs.StemLemmas.{stem_is, stem_exact}
use Rattle.mark_table.proofs.laws.stem_tells_directory_and_base.Goals as goal

pub returns : goal.returns
returns c = record {
  stem = λ d base low high. stem_is d base c.args.number low high;
  apart = λ d e b f hd he same. stem_exact d e b f hd he same;
}
