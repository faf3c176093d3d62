use Rattle.std.proofs.Common.{◌≡◌, ◌++◌, sym, ap, ◌∙◌, List, map}
use Rattle.std.specs.FinMap as fin
use Rattle.std.specs.BTreeMap as tree
use Rattle.dired_text.specs.Paths.{Names}
use Rattle.mark_table.specs.PathMarks.{PathMarks}
use Rattle.mark_table.proofs.MarkLemmas.{Entries, entries-seen}
use Rattle.mark_table.proofs.mark_map.MarkMap.paths.Goals as goal

pub loop-path-init : goal.loop-path-init
loop-path-init c =
    let listed : tree.keys c.self.inside.marks ≡ fin.keys c.args.self.now = ap (λ (es : Entries). map (λ e. e.0) es) (sym (entries-seen c.self.inside.marks c.keys-path-items.ensures.ordered)) ∙ ap (λ (m : PathMarks). fin.keys m) c.self.view_is in
    let given = c.into_iter-path-iterator.ensures.into_iter_gives in
    ap (λ (ps : List Names). c.in_ok-paths.paths.items ++ ps) (given ∙ c.keys-path-items.ensures.rest ∙ listed) ∙ ap (λ (ps : List Names). ps ++ fin.keys c.args.self.now) c.in_ok-paths.ensures.items
