use Rattle.std.proofs.Common.{rules, ◌≡◌, sym, ap, ◌∙◌, ◌==◌, count_by, map}
use Rattle.std.specs.FinMap as fin
use Rattle.std.specs.BTreeMap as tree
use Rattle.mark_table.specs.PathMarks.{PathMarks}
use Rattle.mark_table.proofs.MarkLemmas.{Entries, entries-seen}
use Rattle.mark_table.proofs.mark_map.MarkMap.count.Goals as goal

pub returns : goal.returns
returns c =
    let counted : c.count.result ≡ count_by (λ b. b == c.args.mark) (tree.values c.self.inside.marks) = search rules in
    counted
    ∙ ap (λ (es : Entries). count_by (λ b. b == c.args.mark) (map (λ e. e.1) es)) (sym (entries-seen c.self.inside.marks c.values.ensures.ordered))
    ∙ ap (λ (m : PathMarks). count_by (λ b. b == c.args.mark) (fin.values m)) c.self.view_is
