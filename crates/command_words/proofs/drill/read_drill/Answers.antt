use Rattle.std.proofs.Common.{◌∙◌, inl, inr, ap, sym, Err}
use Rattle.std.proofs.lemmas.Result.{err_from_is_err_and}
use Rattle.command_words.specs.Commands.{drill_by}
use Rattle.command_words.proofs.WordLemmas.{asked_taken, asked_refused}
use Rattle.command_words.proofs.drill.read_drill.Goals as goal

pub returns-in_err-matches : goal.returns-in_err-matches
returns-in_err-matches c =
    let p = err_from_is_err_and c.from_residual-in_err-matches.result c.from_residual-in_err-matches.ensures.1 in
    rw (p.1, p.2) (elim c.in_err-matches.ensures.refused [
      | inl full ↦ inl (ap Err full)
      | inr fault ↦ inr (ap Err fault.0 ∙ sym (asked_refused _ _ drill_by _ c.in_ok-definition.ensures fault.1))
    ])

pub returns : goal.returns
returns c =
    let m = c.in_ok-matches.ensures.rows in
    let is = asked_taken _ _ drill_by _ _ c.in_ok-definition.ensures m.0 m.1 in
    inr (c.drill_by.ensures ∙ sym is)
