use Rattle.std.proofs.Common.{sym, ap, ◌∙◌}
use Rattle.std.specs.FinMap as fin
use Rattle.mark_table.specs.PathMarks.{PathMarks}
use Rattle.mark_table.proofs.MarkLemmas.{get-seen}
use Rattle.mark_table.proofs.mark_map.MarkMap.get.Goals as goal

pub returns-clause-value : goal.returns-clause-value
returns-clause-value c = c.copied.ensures ∙ c.get.ensures.value ∙ sym (get-seen c.self.inside.marks c.args.path.now) ∙ ap (λ (m : PathMarks). fin.get m c.args.path.now) c.self.view_is
