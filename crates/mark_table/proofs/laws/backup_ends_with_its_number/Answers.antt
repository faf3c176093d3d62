use Rattle.std.proofs.Common.{ap, ◌∙◌}
use Rattle.mark_table.specs.Versions.{version_in}
use Rattle.mark_table.proofs.TextLemmas.{read, written}
use Rattle.mark_table.proofs.laws.backup_ends_with_its_number.Goals as goal

pub returns : goal.returns
returns c = record {
  read = λ s n found. let r = read c.args.text.now s n found in (r.text, r.low, r.high);
  written = λ s n low high is. ap version_in is ∙ written s n low high;
}
