-- What a session keeps, and what it sees of the tree.
use Rattle.std.specs.Prelude.{Bool, true, false, List, Option, Some, None, refl}
use Rattle.std.specs.Coded.{Coded, code_by, coded×, coded_ℕ, coded_list, coded_option}
use Rattle.dired_text.specs.Paths.{Names}
use Rattle.listing_text.specs.declared.switches.Switches.{Switches}
use Rattle.mark_table.specs.PathMarks.{PathMarks}
use Rattle.omit_rules.specs.declared.rules.Rules.{Rules}
use Rattle.section_buffer.specs.declared.section.Section.{Section}
use Rattle.session_view.specs.Views.{View, ViewHistory, view_history_code, viewing, with_marks, with_sections}
use Rattle.shown_lines.specs.Chosen.{starred}
use Rattle.shown_lines.specs.Shown.{shown}
use Rattle.shown_lines.specs.declared.entry.Entry.{Entry}
use Rattle.shown_lines.specs.declared.testing.KeptVersions.{KeptVersions}
use Rattle.tree_core.specs.FileTree.{FileTree}
use Rattle.tree_core.specs.History.{History, current_tree}
use Rattle.tree_core.specs.declared.meta.Meta.{Meta}

-- A session, as its commands see it: what a person sees, with what stood before; the current file; the rules for omitting; and how many
-- versions of a file are kept.
pub record Desk : Type 0 where
  pub views : ViewHistory
  pub current : Option Names
  pub rules : Rules
  pub kept : KeptVersions

-- What can be seen of a tree: its entries, and the fields that it shows.
pub record Seen : Type 0 where
  pub tree : FileTree
  pub fields : Names → Meta

-- what is seen of a tree with this history and these fields
abbrev pub seen : History → (Names → Meta) → Seen
seen history fields = record { tree = current_tree history; fields = fields }

-- ---- one part changed

abbrev pub with_views : ViewHistory → Desk → Desk
with_views views d = record { views = views; current = d.current; rules = d.rules; kept = d.kept }

abbrev pub with_current : Names → Desk → Desk
with_current p d = record { views = d.views; current = Some p; rules = d.rules; kept = d.kept }

-- with other marks or other sections, behind a command that may be undone
abbrev pub marking : PathMarks → Desk → Desk
marking marks d = with_views (viewing (with_marks marks d.views.view) d.views) d

abbrev pub sectioning : List Section → Desk → Desk
sectioning sections d = with_views (viewing (with_sections sections d.views.view) d.views) d

-- ---- the shown lines

abbrev pub rules_if : Bool → Rules → Option Rules
rules_if true rules = Some rules
rules_if false rules = None

-- the rules by which lines are omitted, where they are
abbrev pub omitting_by : Desk → Option Rules
omitting_by d = rules_if d.views.view.omitting d.rules

abbrev pub shown_on : Desk → List Entry
shown_on d = shown (omitting_by d) d.views.view.marks d.views.view.sections

-- those that are marked `*`
abbrev pub starred_on : Desk → List Entry
starred_on d = starred d.views.view.marks (shown_on d)

-- ---- the code of a session, from those of its parts

abbrev pub desk_code : Coded Switches → Coded Section → Coded Rules → Coded KeptVersions → Coded Desk
desk_code switches section rules kept =
    code_by (ViewHistory × (Option Names × (Rules × KeptVersions)))
    (coded× (view_history_code switches section) (coded× (coded_option (coded_list (coded_list coded_ℕ))) (coded× rules kept)))
    (λ d. (d.views, (d.current, (d.rules, d.kept)))) (λ p. record { views = p.0; current = p.1.0; rules = p.1.1.0; kept = p.1.1.1 }) (λ _. refl)
