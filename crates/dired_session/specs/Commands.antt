-- What each command does to a session, at the line of a script where it stands.
use Rattle.std.specs.Prelude.{ℕ, ◌+◌, Bool, true, false, not, List, [], ◌∷◌, Option, Some, None, if◌then◌else◌, ◌&&◌, Result, Ok, Err}
use Rattle.std.specs.FinMap.{empty}
use Rattle.dired_text.specs.Paths.{Names}
use Rattle.mark_table.specs.Excess.{excess}
use Rattle.mark_table.specs.PathMarks.{PathMarks, cleared, replaced, toggled, with_each}
use Rattle.run_status.specs.declared.status.Status.{Status}
use Rattle.run_status.specs.declared.status.Status.TheVariants.{BadScript}
use Rattle.script_words.specs.declared.command.Remark.{Remark}
use Rattle.script_words.specs.declared.command.Remark.TheVariants.{Toggle, Clear, ClearMark, Replace}
use Rattle.script_words.specs.declared.command.Test.{Test}
use Rattle.script_words.specs.declared.command.Test.TheVariants.{NameMatches}
use Rattle.script_words.specs.declared.fault.ScriptCause.{ScriptCause}
use Rattle.script_words.specs.declared.fault.ScriptCause.TheVariants as cause
use Rattle.session_sections.specs.History.{is_root}
use Rattle.session_sections.specs.Sections.{is_section, turned, without_lines, without_section}
use Rattle.session_view.specs.Views.{View, omitting_turned, viewing}
use Rattle.shown_lines.specs.Chosen.{has_path}
use Rattle.shown_lines.specs.Sections.{current_paths}
use Rattle.shown_lines.specs.Tests.{passing_of, paths}
use Rattle.dired_session.specs.Desks.{Desk, marking, sectioning, shown_on, starred_on, with_current, with_views}

-- a refusal at a line of the script
abbrev pub bad : {A : Type 0} → ℕ → ScriptCause → Result A Status
bad line cause = Err (BadScript line cause)

-- this where it may be, and else a refusal
abbrev pub only_if : {A : Type 0} → Bool → ℕ → ScriptCause → A → Result A Status
only_if may line cause a = if may then Ok a else bad line cause

abbrev pub is_shown : Names → Desk → Bool
is_shown p d = has_path p (shown_on d)

-- ---- the current file

-- `at`
abbrev pub go_to : ℕ → Names → Desk → Result Desk Status
go_to at p d = only_if (is_shown p d) (at + 1) cause.NoLine (with_current p d)

-- `m`, `d` and `u`
abbrev pub put_on : ℕ → Option ℕ → Option Names → Desk → Result Desk Status
put_on at mark None d = bad at cause.NoLine
put_on at mark (Some p) d = only_if (is_shown p d) at cause.NoLine (marking (with_each (λ q. mark) (p ∷ []) d.views.view.marks) d)

abbrev pub put : ℕ → Option ℕ → Desk → Result Desk Status
put at mark d = put_on at mark d.current d

-- ---- all marks, and the marks of the lines that pass a test

abbrev pub remarked : Remark → List Names → PathMarks → PathMarks
remarked Toggle shown marks = toggled shown marks
remarked Clear shown marks = empty
remarked (ClearMark mark) shown marks = cleared mark marks
remarked (Replace old new) shown marks = replaced old new marks

-- `t`, `U`, `* ?` and `* c`
abbrev pub remark : Remark → Desk → Desk
remark change d = marking (remarked change (paths (shown_on d)) d.views.view.marks) d

-- the paths of the shown lines that pass a test
abbrev pub that_pass : Test → Desk → List Names
that_pass test d =
    passing_of None (current_paths d.current d.views.view.sections) (excess d.kept.oldest d.kept.newest (paths (shown_on d))) test (shown_on d)

-- whether a test is one by a pattern, which no command does yet
abbrev pub needs_pattern : Test → Bool
needs_pattern NameMatches = true
needs_pattern other = false

-- `* /` and those like it
abbrev pub mark_where : ℕ → ℕ → Test → Desk → Result Desk Status
mark_where at mark test d =
    only_if (not (needs_pattern test)) at cause.UnknownCommand (marking (with_each (λ p. Some mark) (that_pass test d) d.views.view.marks) d)

-- ---- sections

-- `kill-section`
abbrev pub take_out : ℕ → Names → Desk → Result Desk Status
take_out at dir d =
    only_if (not (is_root dir) && is_section dir d.views.view.sections) (at + 1) cause.NotThere
    (sectioning (without_section dir d.views.view.sections) d)

-- `$`
abbrev pub turn : ℕ → Names → Desk → Result Desk Status
turn at dir d =
    only_if (is_section dir d.views.view.sections) (at + 1) cause.NotThere
    (sectioning (turned dir d.views.view.sections) d)

-- `k`
abbrev pub kill : Desk → Desk
kill d = sectioning (without_lines (paths (starred_on d)) d.views.view.sections) d

-- ---- `omit` and `undo`

abbrev pub omit : Desk → Desk
omit d = with_views (viewing (omitting_turned d.views.view) d.views) d

-- what stood before the last command that may be undone
abbrev pub undo_to : ℕ → List View → Desk → Result Desk Status
undo_to at [] d = bad at cause.NothingToUndo
undo_to at (v ∷ older) d = Ok (with_views (record { switches = d.views.switches; view = v; earlier = older }) d)

abbrev pub undo : ℕ → Desk → Result Desk Status
undo at d = undo_to at d.views.earlier d
