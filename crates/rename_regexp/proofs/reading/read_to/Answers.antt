use Rattle.std.proofs.Common.{◌+◌, ◌-◌, length, ap, sym, ◌∙◌, arith, rules, inr, Ok}
use Rattle.std.specs.Str.{chars}
use Rattle.rename_regexp.specs.Templates.{pieces_from, Cuts}
use Rattle.rename_regexp.proofs.TemplateLemmas.{behind_pieces, behind_one, read-all}
use Rattle.rename_regexp.proofs.reading.read_to.Goals as goal

pub loop-pieces-preserved : goal.loop-pieces-preserved
loop-pieces-preserved c =
    let cut : Cuts c.args.groups c.loop-pieces.at c.loop-pieces.rest.now c.in-Some.piece c.in-Some.later.now = rw c.in-Some.is at c.in_ok-piece.ensures in
    let later = pieces_from c.args.groups (c.loop-pieces.at + (length c.loop-pieces.rest.now - length c.in-Some.later.now)) (chars c.in-Some.later.now) in (
      search rules,
      omega (arith, cut.1, c.loop-pieces.invariant.1),
      c.loop-pieces.invariant.2
          ∙ ap (behind_pieces c.loop-pieces.pieces.items) cut.0
          ∙ behind_one c.loop-pieces.pieces.items c.in-Some.piece later
          ∙ ap (λ l. behind_pieces l later) (sym c.in_ok-push.ensures.items),
    )

pub returns : goal.returns
returns c =
    inr (ap Ok c.of_pieces.ensures ∙ sym (read-all c.args.groups c.loop-pieces.at c.loop-pieces.rest.now c.loop-pieces.pieces.items _ (rw c.in_default.is at c.in_ok-piece.ensures) c.loop-pieces.invariant.2))
