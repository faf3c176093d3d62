-- What is looked for in many texts.
use Rattle.regex.specs.Patterns.{Re}
use Rattle.regex.specs.Strings.{matcher_pattern}
use Rattle.emacs_regexp.specs.declared.matching.Finder.{Finder}

abbrev pub pattern_of : Finder → Re
pattern_of finder = matcher_pattern finder.matcher
