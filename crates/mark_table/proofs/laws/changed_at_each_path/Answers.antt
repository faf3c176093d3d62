use Rattle.std.proofs.Common.{refl}
use Rattle.mark_table.specs.PathMarks.{other_than, with_new}
use Rattle.mark_table.proofs.MarkLemmas.{get-changed_all}
use Rattle.mark_table.proofs.laws.changed_at_each_path.Goals as goal

pub returns : goal.returns
returns c = record {
  clear_mark = λ p. get-changed_all (other_than c.args.old) refl c.args.marks.now.marks p;
  replace = λ p. get-changed_all (with_new c.args.old c.args.new) refl c.args.marks.now.marks p;
}
