-- What is said of a command of a script that can't be carried out.
use Rattle.std.specs.Prelude.{ℕ, List, ◌++◌, codes, decimal}
use Rattle.emacs_regexp.specs.declared.fault.RegexpFault.{RegexpFault}
use Rattle.emacs_regexp.specs.declared.fault.RegexpFault.TheVariants as regexp
use Rattle.find_words.specs.declared.fault.FindFault.{FindFault}
use Rattle.find_words.specs.declared.fault.FindFault.TheVariants as find
use Rattle.rename_regexp.specs.declared.fault.ToFault.{ToFault}
use Rattle.rename_regexp.specs.declared.fault.ToFault.TheVariants as to
use Rattle.script_words.specs.declared.fault.ScriptCause.{ScriptCause}
use Rattle.script_words.specs.declared.fault.ScriptCause.TheVariants as script

-- why a text is no regexp: the name of the fault, and the byte that it carries
abbrev pub regexp_text : RegexpFault → List ℕ
regexp_text (regexp.Unclosed at) = codes "Unclosed " ++ decimal at
regexp_text (regexp.Unopened at) = codes "Unopened " ++ decimal at
regexp_text (regexp.BadInterval at) = codes "BadInterval " ++ decimal at
regexp_text (regexp.BadClass at) = codes "BadClass " ++ decimal at
regexp_text regexp.TrailingBackslash = codes "TrailingBackslash"
regexp_text (regexp.NotInProfile at) = codes "NotInProfile " ++ decimal at
regexp_text regexp.Memory = codes "Memory"

-- why a text is no replacement: the same
abbrev pub to_text : ToFault → List ℕ
to_text (to.BadBackslash at) = codes "BadBackslash " ++ decimal at
to_text (to.NoGroup at) = codes "NoGroup " ++ decimal at
to_text to.Memory = codes "Memory"

-- why a text is no predicate on files: the name of the fault, and the word that it carries
abbrev pub find_text : FindFault → List ℕ
find_text (find.Bad word) = codes "Bad " ++ decimal word
find_text find.Memory = codes "Memory"

-- what is said of a cause: its name, and the fault that it carries
abbrev pub script_text : ScriptCause → List ℕ
script_text script.UnknownCommand = codes "UnknownCommand"
script_text script.MissingArgument = codes "MissingArgument"
script_text script.BadArgument = codes "BadArgument"
script_text script.NoLine = codes "NoLine"
script_text script.NoFiles = codes "NoFiles"
script_text (script.BadRegexp fault) = codes "BadRegexp " ++ regexp_text fault
script_text (script.BadTo fault) = codes "BadTo " ++ to_text fault
script_text (script.BadFind fault) = codes "BadFind " ++ find_text fault
script_text script.BothMarks = codes "BothMarks"
script_text script.EmptyCommand = codes "EmptyCommand"
script_text script.NoSuchDir = codes "NoSuchDir"
script_text script.NotDirectory = codes "NotDirectory"
script_text script.AlreadyThere = codes "AlreadyThere"
script_text script.NotThere = codes "NotThere"
script_text script.NothingToUndo = codes "NothingToUndo"
script_text script.BadName = codes "BadName"
script_text script.NotUtf8 = codes "NotUtf8"

-- what is said of a line of a script
abbrev pub script_line_text : ℕ → List ℕ → List ℕ
script_line_text line said = codes "dired: script line " ++ decimal line ++ codes ": " ++ said ++ codes "\n"
