use Rattle.std.proofs.Common.{◌≡◌, ◌∙◌, ◌++◌, ap}
use Rattle.dired_session.specs.Desks.{Desk}
use Rattle.dired_session.proofs.SessionLemmas.{part_printed, printed_is}
use Rattle.dired_session.proofs.session.Session.print.Goals as goal

pub returns-in-Ok-print-clause-taken : goal.returns-in-Ok-print-clause-taken
returns-in-Ok-print-clause-taken g c tells =
    let marks = ap (λ (d : Desk). d.views.view.marks) c.self.view_is in
    let sections = ap (λ (d : Desk). d.views.view.sections) c.self.view_is in
    c.in-Ok-print.ensures.taken tells ∙ ap (λ text. g.W.Sink.taken c.args.sink.now ++ text)
    (printed_is c.args.self.now _ _ _ _ _ _ _ (c.marks.ensures ∙ marks) (c.marks-2.ensures ∙ marks) (c.buffer.ensures.sections ∙ sections) (c.buffer-2.ensures.sections ∙ sections) c.deref.ensures.value c.omitting.ensures c.in-Ok.ensures.printed)

pub returns-in-Err-Failed-clause-taken : goal.returns-in-Err-Failed-clause-taken
returns-in-Err-Failed-clause-taken g c tells =
    let marks = ap (λ (d : Desk). d.views.view.marks) c.self.view_is in
    let sections = ap (λ (d : Desk). d.views.view.sections) c.self.view_is in
    part_printed c.in-Err-Failed.field-0 _ _ _ _ c.in-Err-Failed.field-0-is
    (printed_is c.args.self.now _ _ _ _ _ _ _ (c.marks.ensures ∙ marks) (c.marks-2.ensures ∙ marks) (c.buffer.ensures.sections ∙ sections) (c.buffer-2.ensures.sections ∙ sections) c.deref.ensures.value c.omitting.ensures c.in-Ok.ensures.printed)
    (c.in-Err-Failed.ensures.taken tells)
