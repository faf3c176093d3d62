use Rattle.std.proofs.Common.{◌∙◌}
use Rattle.omit_rules.proofs.RuleLemmas.{rules-more}
use Rattle.omit_rules.proofs.rules.build_guesses.Goals as goal

pub loop-guess-preserved : goal.loop-guess-preserved
loop-guess-preserved g c = (
  rw c.in_ok-push_rule.ensures.pushed (rules-more c.args.guesses.now c.loop-guess.guess-index c.guess-item.result c.loop-guess.rules.items c.in_ok-rule.rule c.loop-guess-test.true c.loop-guess.invariant.0 c.guess-item.is c.in_ok-rule.ensures.rule),
  c.in_ok-rule.ensures.count ∙ c.loop-guess.invariant.1,
)
