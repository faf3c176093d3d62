-- What is looked for in many names, and what it is replaced by.
use Rattle.std.specs.Prelude.{List}
use Rattle.regex.specs.Patterns.{Re}
use Rattle.regex.specs.Strings.{matcher_pattern}
use Rattle.rename_regexp.specs.declared.replacing.Renamer.{Renamer}
use Rattle.rename_regexp.specs.declared.template.Piece.{Piece}

abbrev pub pattern_of : Renamer → Re
pattern_of renamer = matcher_pattern renamer.matcher

abbrev pub pieces_of : Renamer → List Piece
pieces_of renamer = renamer.template.now
