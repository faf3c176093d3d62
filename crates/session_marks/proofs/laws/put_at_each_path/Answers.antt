use Rattle.mark_table.proofs.MarkLemmas.{get-with_each}
use Rattle.session_marks.proofs.laws.put_at_each_path.Goals as goal

pub returns : goal.returns
returns c = λ mark p. get-with_each (λ _. mark) c.args.paths.now c.args.marks.now.marks p
