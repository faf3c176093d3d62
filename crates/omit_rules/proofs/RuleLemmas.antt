-- Rules in a row.
use Rattle.std.proofs.Common.{◌≡◌, ℕ, ◌+◌, ◌<◌, List, [], ◌∷◌, ◌++◌, length, get_or, take, subst}
use Rattle.std.proofs.lemmas.List.{take_more}
use Rattle.omit_rules.specs.Rules.{AreRulesFor, IsRuleOf}
use Rattle.omit_rules.specs.declared.rules.GuessRule.{GuessRule}
use Rattle.omit_rules.specs.declared.settings.Guess.{Guess}

rules-last : (guesses : List Guess) (rules : List GuessRule) (guess : Guess) (rule : GuessRule) → AreRulesFor guesses rules → IsRuleOf guess rule
    → AreRulesFor (guesses ++ guess ∷ []) (rules ++ rule ∷ [])
rules-last [] [] guess rule all last = (last, tt)
rules-last (g ∷ guesses) (r ∷ rules) guess rule all last = (all.0, rules-last guesses rules guess rule all.1 last)
rules-last [] (r ∷ rules) guess rule all last = absurd all
rules-last (g ∷ guesses) [] guess rule all last = absurd all

-- one guess more, with its rule
pub rules-more : (guesses : List Guess) (i : ℕ) (guess : Guess) (rules : List GuessRule) (rule : GuessRule) → i < length guesses
    → AreRulesFor (take i guesses) rules → guess ≡ get_or guesses i guess → IsRuleOf guess rule → AreRulesFor (take (i + 1) guesses) (rules ++ rule ∷ [])
rules-more guesses i guess rules rule within all is last =
    rw (take_more guesses i guess within) (rules-last (take i guesses) rules (get_or guesses i guess) rule all (subst (λ g. IsRuleOf g rule) is last))
