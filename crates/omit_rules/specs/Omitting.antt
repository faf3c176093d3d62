-- What tells of many names whether they are omitted.
use Rattle.std.specs.Prelude.{◌≡◌, ℕ, Bool, false, is_some, List, Option, Some, None}
use Rattle.regex.specs.Patterns.{find_str}
use Rattle.regex.specs.Strings.{matcher_pattern}
use Rattle.regex.specs.declared.string.matcher.Matcher.{Matcher}
use Rattle.regex.specs.declared.string.regex.Regex.{Regex}
use Rattle.omit_rules.specs.Rules.{matches_any}

abbrev pub is_found : Option Matcher → List ℕ → Bool
is_found None name = false
is_found (Some matcher) name = is_some (find_str (matcher_pattern matcher) name 0)

-- a search finds just what a regexp matches
abbrev pub Searches : Option Matcher → Option Regex → Type 0
Searches matcher regexp = (name : List ℕ) → is_found matcher name ≡ matches_any regexp name
