use Rattle.std.proofs.Common.{◌≡◌, ◌≤◌, ◌+◌, ◌-◌, Ok, length, ap, sym, ◌∙◌, arith, length-drop}
use Rattle.emacs_regexp.specs.Reading.{nesting_behind}
use Rattle.emacs_regexp.specs.Tokens.{token_of}
use Rattle.emacs_regexp.proofs.ReadLemmas.{behind-next, wanted}
use Rattle.emacs_regexp.proofs.reading.read_tokens.Goals as goal

pub loop-c-preserved : goal.loop-c-preserved
loop-c-preserved c =
    let rest = c.loop-c.rest.now in
    let cs = c.in-Some.later.now in
    let more = c.in-Ok.read.1 in
    let at = length c.args.text.now - length rest in
    let is = c.in-Some.ensures.cases.0 in
    let read : token_of c.loop-c.before at c.in-Some.c.now cs ≡ Ok c.in-Ok.read = wanted _ _ _ c.in-Ok.ensures.token in
    let nested : nesting_behind at c.in-Ok.read.0 c.loop-c.nesting ≡ Ok c.in_ok-nesting.nesting = sym c.behind.ensures.nesting ∙ c.in_ok-nesting.was in
    let within : more ≤ length cs = c.in-Ok.ensures.within in
    let left : length c.behind-rest.result.now + (more + 1) ≡ length rest = omega (arith, ap length is, ap length c.behind-rest.ensures, length-drop more cs) in
    let place : at + 1 + more ≡ length c.args.text.now - length c.behind-rest.result.now = omega arith in (
      omega (arith, c.in_ok-nesting.ensures.depth),
      c.loop-c.invariant.1
          ∙ behind-next c.loop-c.nesting c.in_ok-nesting.nesting c.loop-c.before at c.in-Some.c.now cs rest c.loop-c.tokens.items c.in-Ok.read.0 more is read nested within
          ∙ cc (place, c.behind-rest.ensures, c.in_ok-push.ensures.items, c.before_behind-before.ensures),
    )
