-- What the tests of commands say of shown lines (GNU Emacs Manual, "Marks vs Flags", "Flagging Many Files").
use Rattle.std.specs.Prelude.{ℕ, Bool, true, false, not, ◌&&◌, nat_eq, nat_le, List, [], ◌∷◌, length, map, filter, codes, is_some, Option, Some, None}
use Rattle.std.specs.List.{ends_with, starts_with}
use Rattle.regex.specs.Patterns.{Re, find_str}
use Rattle.dired_text.specs.Modes.{has}
use Rattle.dired_text.specs.Paths.{Names}
use Rattle.mark_table.specs.PathMarks.{is_among}
use Rattle.script_words.specs.declared.command.Test.{Test}
use Rattle.script_words.specs.declared.command.Test.TheVariants.{IsDirectory, IsLink, IsExecutable, InSection, EndsWith, IsBackup, IsAutoSave, IsExcess, NameMatches}
use Rattle.tree_core.specs.declared.node.Kind.{Kind}
use Rattle.tree_core.specs.declared.node.Kind.TheVariants.{File, Dir, Link}
use Rattle.shown_lines.specs.declared.entry.Entry.{Entry}
use Rattle.shown_lines.specs.Shown.{last_name}

abbrev pub is_file : Kind → Bool
is_file File = true
is_file Dir = false
is_file Link = false

abbrev pub is_dir : Kind → Bool
is_dir File = false
is_dir Dir = true
is_dir Link = false

abbrev pub is_link : Kind → Bool
is_link File = false
is_link Dir = false
is_link Link = true

-- someone may execute it
abbrev pub has_x : ℕ → Bool
has_x mode = has mode 0o111

abbrev pub is_backup : List ℕ → Bool
is_backup name = ends_with nat_eq name (codes "~")

abbrev pub is_auto_save : List ℕ → Bool
is_auto_save name = nat_le 2 (length name) && starts_with nat_eq name (codes "#") && ends_with nat_eq name (codes "#")

-- a pattern matches somewhere in a text
abbrev pub finds : Option Re → List ℕ → Bool
finds None text = false
finds (Some re) text = is_some (find_str re text 0)

abbrev pub paths : List Entry → List Names
paths entries = map (λ (e : Entry). e.path) entries

-- These paths are in the section, and these are backups in excess.
abbrev pub passes : Option Re → List Names → List Names → Test → Entry → Bool
passes pattern section excess IsDirectory e = is_dir e.kind
passes pattern section excess IsLink e = is_link e.kind
passes pattern section excess IsExecutable e = is_file e.kind && has_x e.mode
passes pattern section excess InSection e = is_among e.path section
passes pattern section excess (EndsWith text) e = ends_with nat_eq (last_name e.path) text
passes pattern section excess IsBackup e = not (is_dir e.kind) && is_backup (last_name e.path)
passes pattern section excess IsAutoSave e = not (is_dir e.kind) && is_auto_save (last_name e.path)
passes pattern section excess IsExcess e = is_among e.path excess
passes pattern section excess NameMatches e = finds pattern (last_name e.path)

-- the paths of those that pass
abbrev pub passing_of : Option Re → List Names → List Names → Test → List Entry → List Names
passing_of pattern section excess test entries = paths (filter (passes pattern section excess test) entries)
