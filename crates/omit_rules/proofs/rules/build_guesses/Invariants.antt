use Rattle.std.proofs.Common.{◌≡◌, take}
use Rattle.omit_rules.specs.Rules.{AreRulesFor}
use Rattle.omit_rules.proofs.rules.build_guesses.Given as goal

abbrev pub invariant-loop-guess : goal.invariant-loop-guess
invariant-loop-guess g l =
    AreRulesFor (take l.guess-index l.guesses) l.rules.items × (g.P.Patterns.refusals l.patterns ≡ g.P.Patterns.refusals l.fn.patterns)
