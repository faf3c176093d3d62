-- Which names are omitted, and which command is guessed.
use Rattle.std.specs.Prelude.{◌≡◌, ℕ, Bool, false, ◌==◌, ◌&&◌, ◌||◌, not, is_some, nat_eq, List, [], ◌∷◌, length, encode_utf8_all, Option, Some, None, option_map}
use Rattle.std.specs.List.{list_any, list_all, ends_with, find}
use Rattle.regex.specs.Patterns.{find_str}
use Rattle.regex.specs.Strings.{regex_pattern}
use Rattle.regex.specs.declared.string.regex.Regex.{Regex}
use Rattle.dired_text.specs.Patterns.{IsPatternOf}
use Rattle.emacs_regexp.specs.Spelling.{spelled}
use Rattle.emacs_regexp.specs.Trees.{Tree}
use Rattle.omit_rules.specs.declared.rules.GuessRule.{GuessRule}
use Rattle.omit_rules.specs.declared.rules.Rules.{Rules}
use Rattle.omit_rules.specs.declared.settings.Guess.{Guess}
use Rattle.omit_rules.specs.Values.{Values}

-- ---- names

-- the pattern matches somewhere in a name
abbrev pub matches : Regex → List ℕ → Bool
matches regex name = is_some (find_str (regex_pattern regex) name 0)

abbrev pub matches_any : Option Regex → List ℕ → Bool
matches_any None name = false
matches_any (Some regex) name = matches regex name

-- a name ends with an extension. The empty extension omits nothing.
abbrev pub has_extension : List ℕ → List ℕ → Bool
has_extension name extension = not (length extension == 0) && ends_with nat_eq name extension

-- a name is omitted where no mark stands before it, and it matches the regexp or ends with one of the extensions
abbrev pub is_omitted : Rules → List ℕ → Bool → Bool
is_omitted rules name is_marked =
    not is_marked && (matches_any rules.omit_regexp name || list_any (has_extension name) rules.omit_extensions.items)

-- ---- guesses

abbrev pub matches_all : List (List ℕ) → GuessRule → Bool
matches_all names guess = list_all (matches guess.regexp) names

-- the command of the first guess whose regexp matches every name
abbrev pub guess_for : Rules → List (List ℕ) → Option (List ℕ)
guess_for rules names = option_map (λ guess. guess.command) (find (matches_all names) rules.guesses.items)

-- ---- rules of settings

-- the pattern that `regex` reads from the spelling of a regexp
abbrev pub IsPatternFor : Tree → Regex → Type 0
IsPatternFor tree regex = IsPatternOf (encode_utf8_all (spelled tree)) regex

abbrev pub IsPatternForAny : Option Tree → Option Regex → Type 0
IsPatternForAny None None = Unit {0}
IsPatternForAny (Some tree) (Some regex) = IsPatternFor tree regex
IsPatternForAny None (Some regex) = ⊥
IsPatternForAny (Some tree) None = ⊥

pub record IsRuleOf (guess : Guess) (rule : GuessRule) : Type 0 where
  pub regexp : IsPatternFor guess.regexp rule.regexp
  pub command : rule.command ≡ guess.command

-- one rule for each guess, in their order
abbrev pub AreRulesFor : List Guess → List GuessRule → Type 0
AreRulesFor [] [] = Unit {0}
AreRulesFor (guess ∷ guesses) (rule ∷ rules) = IsRuleOf guess rule × AreRulesFor guesses rules
AreRulesFor [] (rule ∷ rules) = ⊥
AreRulesFor (guess ∷ guesses) [] = ⊥

pub record AreRulesOf (values : Values) (rules : Rules) : Type 0 where
  pub omit_regexp : IsPatternForAny values.omit_regexp rules.omit_regexp
  pub omit_extensions : rules.omit_extensions.items ≡ values.omit_extensions
  pub guesses : AreRulesFor values.guesses rules.guesses.items
