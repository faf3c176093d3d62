use Rattle.std.proofs.Common.{ap, ◌∙◌, inr, ◌++◌, ◌∷◌, [], List}
use Rattle.std.proofs.lemmas.Result.{on_ok_weaker, on_err_weaker}
use Rattle.mark_table.specs.PathMarks.{with_each}
use Rattle.session_marks.specs.declared.kept.Kept.{Kept}
use Rattle.session_marks.specs.declared.kept.Kept.TheVariants.{Differences}
use Rattle.session_marks.specs.Histories.{MarkHistory, gains}
use Rattle.session_marks.proofs.BackLemmas.{put_gains, put_refused}
use Rattle.session_marks.proofs.undo_marks.UndoMarks.put.Goals as goal

pub returns-clause-ok : goal.returns-clause-ok
returns-clause-ok c =
    on_ok_weaker c.put_each-answer.result (λ done.
    put_gains c.self.inside.marks c.put_each-answer.new.marks c.args.mark c.args.paths.now c.in_ok-pairs.pairs c.deref.result.now c.self.inside.kept.items c.keep.new.kept.items
    c.in_ok-pairs.ensures c.deref.ensures.value (c.keep.ensures ∙ ap (λ (l : List Kept). l ++ Differences c.in_ok-pairs.pairs ∷ []) c.in_ok-reserve.ensures.items) done
    ∙ ap (λ (h : MarkHistory). gains (with_each (λ _. c.args.mark) c.args.paths.now h.marks) h) c.self.view_is) c.put_each-answer.ensures.ok

pub returns-clause-err : goal.returns-clause-err
returns-clause-err c =
    on_err_weaker c.put_each-answer.result (λ same. inr (
    put_refused c.self.inside.marks c.put_each-answer.new.marks c.args.mark c.args.paths.now c.in_ok-pairs.pairs c.deref.result.now c.self.inside.kept.items c.keep.new.kept.items
    c.in_ok-pairs.ensures c.deref.ensures.value (c.keep.ensures ∙ ap (λ (l : List Kept). l ++ Differences c.in_ok-pairs.pairs ∷ []) c.in_ok-reserve.ensures.items) same
    ∙ c.self.view_is)) c.put_each-answer.ensures.err
