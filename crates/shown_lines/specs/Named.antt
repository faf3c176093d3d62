-- Tests by a table of the paths that pass.
use Rattle.std.specs.Prelude.{ℕ, Bool, not, ◌&&◌, nat_eq, List, [], Option}
use Rattle.std.specs.List.{ends_with}
use Rattle.regex.specs.Patterns.{Re}
use Rattle.dired_text.specs.Paths.{Names}
use Rattle.script_words.specs.declared.command.Test.{Test}
use Rattle.script_words.specs.declared.command.Test.TheVariants.{IsDirectory, IsLink, IsExecutable, InSection, EndsWith, IsBackup, IsAutoSave, IsExcess, NameMatches}
use Rattle.shown_lines.specs.declared.entry.Entry.{Entry}
use Rattle.shown_lines.specs.Shown.{last_name}
use Rattle.shown_lines.specs.Tests.{finds, has_x, is_auto_save, is_backup, is_dir, is_file, is_link}

-- the paths that pass because they are among these
abbrev pub named : List Names → List Names → Test → List Names
named section excess IsDirectory = []
named section excess IsLink = []
named section excess IsExecutable = []
named section excess InSection = section
named section excess (EndsWith text) = []
named section excess IsBackup = []
named section excess IsAutoSave = []
named section excess IsExcess = excess
named section excess NameMatches = []

abbrev pub passes_by : Option Re → (Names → Bool) → Test → Entry → Bool
passes_by pattern is_named IsDirectory e = is_dir e.kind
passes_by pattern is_named IsLink e = is_link e.kind
passes_by pattern is_named IsExecutable e = is_file e.kind && has_x e.mode
passes_by pattern is_named InSection e = is_named e.path
passes_by pattern is_named (EndsWith text) e = ends_with nat_eq (last_name e.path) text
passes_by pattern is_named IsBackup e = not (is_dir e.kind) && is_backup (last_name e.path)
passes_by pattern is_named IsAutoSave e = not (is_dir e.kind) && is_auto_save (last_name e.path)
passes_by pattern is_named IsExcess e = is_named e.path
passes_by pattern is_named NameMatches e = finds pattern (last_name e.path)
