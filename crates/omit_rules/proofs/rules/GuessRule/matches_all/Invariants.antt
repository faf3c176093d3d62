use Rattle.std.proofs.Common.{◌≡◌, drop}
use Rattle.std.specs.List.{list_all}
use Rattle.regex.specs.Strings.{matcher_pattern, regex_pattern}
use Rattle.omit_rules.specs.Rules.{matches}
use Rattle.omit_rules.proofs.rules.GuessRule.matches_all.Given as goal

abbrev pub invariant-loop-name : goal.invariant-loop-name
invariant-loop-name l =
    (matcher_pattern l.matcher ≡ regex_pattern l.self.regexp)
    × (list_all (matches l.self.regexp) l.names ≡ list_all (matches l.self.regexp) (drop l.name-index l.names))
