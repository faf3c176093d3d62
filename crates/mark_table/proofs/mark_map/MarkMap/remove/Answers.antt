use Rattle.std.proofs.Common.{ap, ◌∙◌, None, ℕ}
use Rattle.std.proofs.lemmas.Map.Views.{All-map-remove_entry}
use Rattle.std.specs.BTreeMap.{is_at}
use Rattle.dired_text.specs.Paths.{Names, path_cmp}
use Rattle.mark_table.specs.PathMarks.{PathMarks, IsMark, marked}
use Rattle.mark_table.proofs.MarkLemmas.{updated}
use Rattle.mark_table.proofs.mark_map.MarkMap.remove.Goals as goal

pub invariant_of-self : goal.invariant_of-self
invariant_of-self c = rw c.remove.ensures.entries (All-map-remove_entry (is_at (path_cmp c.args.path.now)) (λ (e : Names × ℕ). e.1) IsMark _ c.self.invariant)

pub returns : goal.returns
returns c = updated c.self.inside.marks c.remove.new.self c.args.path.now None c.remove.ensures.updates ∙ ap (λ (m : PathMarks). marked m c.args.path.now None) c.self.view_is
