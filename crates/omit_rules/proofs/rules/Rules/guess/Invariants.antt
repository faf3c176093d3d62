use Rattle.std.proofs.Common.{◌≡◌, drop}
use Rattle.std.specs.List.{find}
use Rattle.omit_rules.specs.Rules.{matches_all}
use Rattle.omit_rules.proofs.rules.Rules.guess.Given as goal

abbrev pub invariant-loop-guess : goal.invariant-loop-guess
invariant-loop-guess l = find (matches_all l.names) l.self.guesses.items ≡ find (matches_all l.names) (drop l.guess-index l.self.guesses.items)
