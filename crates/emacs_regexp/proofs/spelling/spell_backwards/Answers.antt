use Rattle.std.proofs.Common.{◌∷◌, [], ap, sym, ◌∙◌}
use Rattle.emacs_regexp.specs.Backwards.{state_of}
use Rattle.emacs_regexp.proofs.SpellLemmas.{all_spelled, all_spelled-append, text-spelled}
use Rattle.emacs_regexp.proofs.spelling.spell_backwards.Goals as goal

pub loop-token-preserved : goal.loop-token-preserved
loop-token-preserved c =
    let before = c.in-Some.before.now in
    let old = state_of c.loop-token.spelled in
    ap (all_spelled before) c.in_ok-put.ensures
    ∙ sym (all_spelled-append before (c.in-Some.token.now ∷ []) old)
    ∙ ap (λ l. all_spelled l old) (sym c.in-Some.ensures.cases.0)
    ∙ c.loop-token.invariant

pub returns : goal.returns
returns c = λ tree w. text-spelled c.loop-token.rest.now c.args.tokens.now (state_of c.loop-token.spelled) tree c.in_default.ensures.cases c.loop-token.invariant w
