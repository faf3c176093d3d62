use Rattle.std.proofs.Common.{◌∙◌, ap, sym, map, reverse}
use Rattle.mark_table.specs.PathMarks.{toggled}
use Rattle.mark_table.specs.Tables.{MarkTable, with_marks}
use Rattle.mark_table.proofs.ToggleLemmas.{all_toggled, taken_back}
use Rattle.mark_table.proofs.table.Marks.toggle.Goals as goal

pub returns-in-Err-clause-err : goal.returns-in-Err-clause-err
returns-in-Err-clause-err c =
    let before : MarkTable = record { marks = c.self.inside.marks; kept = reverse c.self.inside.kept.items } in
    ap (with_marks before) (taken_back c.args.shown.now _ _ c.self.inside.marks c.insert_each.new.self c.remove_each.new.self (ap (map (λ p. p.now)) c.deref.ensures.value ∙ c.in_ok-bare.ensures) (ap (map (λ p. p.now)) (c.deref-in-Err.ensures.value ∙ sym c.deref.ensures.value)) c.in-Err.ensures.err c.remove_each.ensures)
    ∙ c.self.view_is

pub returns-clause-ok : goal.returns-clause-ok
returns-clause-ok c =
    let before : MarkTable = record { marks = c.self.inside.marks; kept = reverse c.self.inside.kept.items } in
    ap (with_marks before) (all_toggled c.args.shown.now _ _ c.self.inside.marks c.insert_each.new.self c.remove_each-2.new.self (ap (map (λ p. p.now)) c.deref.ensures.value ∙ c.in_ok-bare.ensures) (ap (map (λ p. p.now)) c.deref-2.ensures.value ∙ c.in_ok-starred.ensures) c.in_default.ensures.ok c.remove_each-2.ensures)
    ∙ ap (λ (t : MarkTable). with_marks t (toggled c.args.shown.now t.marks)) c.self.view_is
