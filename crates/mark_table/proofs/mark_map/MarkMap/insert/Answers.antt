use Rattle.std.proofs.Common.{ap, ◌∙◌, Some}
use Rattle.dired_text.specs.Paths.{path_cmp}
use Rattle.std.proofs.lemmas.Map.Views.{All-values-insert_entry}
use Rattle.mark_table.specs.PathMarks.{PathMarks, IsMark, marked}
use Rattle.mark_table.proofs.MarkLemmas.{updated}
use Rattle.mark_table.proofs.mark_map.MarkMap.insert.Goals as goal

pub invariant_of-self-2 : goal.invariant_of-self-2
invariant_of-self-2 c = rw c.in_ok-insert.ensures.entries (All-values-insert_entry path_cmp c.args.path c.args.mark IsMark _ c.self.invariant c.requires)

pub returns-clause-ok : goal.returns-clause-ok
returns-clause-ok c = updated c.self.inside.marks c.insert.new.self c.args.path (Some c.args.mark) c.in_ok-insert.ensures.updates ∙ ap (λ (m : PathMarks). marked m c.args.path (Some c.args.mark)) c.self.view_is
