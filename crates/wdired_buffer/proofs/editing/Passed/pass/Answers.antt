use Rattle.std.proofs.Common.{◌∙◌, sym, ap, cond, true, ◌||◌}
use Rattle.std.specs.BTreeSet.{contains}
use Rattle.std.specs.Ordering.{is_eq}
use Rattle.dired_text.specs.Paths.{path_cmp}
use Rattle.wdired_buffer.specs.Edits.{shows}
use Rattle.wdired_buffer.proofs.EditLemmas.{added}
use Rattle.wdired_buffer.proofs.editing.Passed.pass.Goals as goal

pub returns-else-not-branch-clause-shown : goal.returns-else-not-branch-clause-shown
returns-else-not-branch-clause-shown c q =
    let before = contains path_cmp c.args.self.now.shown q in
    c.in_ok-insert-in-Entry.ensures.updates.0 q
    ∙ ap (λ p. cond (is_eq (path_cmp p q)) true before) c.in_ok-copy-in-Entry.ensures
    ∙ added c.in-Entry.source q before
    ∙ ap (λ l. before || shows q l) (sym c.in-Entry.is)
