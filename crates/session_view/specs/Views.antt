-- What a person sees of a tree, with one undo list.
use Rattle.std.specs.Prelude.{◌≡◌, Bool, true, false, not, List, [], ◌∷◌, Result, Ok, Err, refl}
use Rattle.std.specs.Coded.{Coded, code_by, coded×, coded_bool, coded_list}
use Rattle.std.specs.FinMap.{empty}
use Rattle.dired_text.specs.Paths.{Names}
use Rattle.listing_text.specs.declared.line.Line.{Line}
use Rattle.listing_text.specs.declared.switches.Switches.{Switches}
use Rattle.mark_table.specs.PathMarks.{PathMarks}
use Rattle.mark_table.specs.Tables.{path_marks_code}
use Rattle.subdir_list.specs.Listings.{IsListed}
use Rattle.tree_core.specs.FileTree.{FileTree}
use Rattle.tree_core.specs.declared.meta.Meta.{Meta}
use Rattle.section_buffer.specs.declared.section.Section.{Section}
use Rattle.section_buffer.specs.declared.ends.BufferEnd.{BufferEnd}
use Rattle.section_buffer.specs.declared.ends.BufferEnd.TheVariants.{NoSuchDir, NotDirectory, AlreadyThere, NotThere, TreeFault, Memory}

-- all that `undo` gives back: the sections of the buffer, the marks, and whether lines are omitted
pub record View : Type 0 where
  pub sections : List Section
  pub marks : PathMarks
  pub omitting : Bool

-- the view, and what stood before each command that may be undone, the last first
pub record ViewHistory : Type 0 where
  pub switches : Switches
  pub view : View
  pub earlier : List View

-- ---- views that a command leads to

abbrev pub with_sections : List Section → View → View
with_sections sections v = record { sections = sections; marks = v.marks; omitting = v.omitting }

abbrev pub with_marks : PathMarks → View → View
with_marks m v = record { sections = v.sections; marks = m; omitting = v.omitting }

-- lines are omitted where they weren't, and the other way round
abbrev pub omitting_turned : View → View
omitting_turned v = record { sections = v.sections; marks = v.marks; omitting = not v.omitting }

-- ---- histories

-- the root's section, shown, with these lines, no marks, no lines omitted, and nothing before it
abbrev pub first_view : Switches → List Line → ViewHistory
first_view switches lines = record {
  switches = switches;
  view = record { sections = record { dir = []; hidden = false; lines = lines } ∷ []; marks = empty; omitting = false };
  earlier = [];
}

-- the same with the lines that a tree gives of the root
abbrev pub IsNew : Switches → FileTree → (Names → Meta) → ViewHistory → Type 0
IsNew switches t fields h = (lines : List Line) × IsListed switches t fields [] lines × (h ≡ first_view switches lines)

-- behind a command that may be undone
abbrev pub viewing : View → ViewHistory → ViewHistory
viewing v h = record { switches = h.switches; view = v; earlier = h.view ∷ h.earlier }

-- the last of these views in the place of what is seen, or what is seen where there is none
abbrev pub back_to : List View → ViewHistory → ViewHistory
back_to [] h = h
back_to (v ∷ older) h = record { switches = h.switches; view = v; earlier = older }

-- as before the last command that may be undone
abbrev pub taken_back : ViewHistory → ViewHistory
taken_back h = back_to h.earlier h

abbrev pub is_any : List View → Bool
is_any [] = false
is_any (v ∷ older) = true

abbrev pub can_undo : ViewHistory → Bool
can_undo h = is_any h.earlier

-- ---- how calls end

-- A change of a section that has to be there leads to this view; it is refused where the section isn't there, and exactly
-- there, or for want of memory. A refusal changes nothing.
abbrev pub Changes : Bool → View → Result (Unit {0}) BufferEnd → ViewHistory → ViewHistory → Type 0
Changes is_there v (Ok done) old new = (is_there ≡ true) × (new ≡ viewing v old)
Changes is_there v (Err NotThere) old new = (is_there ≡ false) × (new ≡ old)
Changes is_there v (Err Memory) old new = new ≡ old
Changes is_there v (Err NoSuchDir) old new = ⊥
Changes is_there v (Err NotDirectory) old new = ⊥
Changes is_there v (Err AlreadyThere) old new = ⊥
Changes is_there v (Err (TreeFault call)) old new = ⊥

-- ---- their codes, from those of their parts

abbrev pub view_code : Coded Section → Coded View
view_code section = code_by (List Section × (PathMarks × Bool)) (coded× (coded_list section) (coded× path_marks_code coded_bool))
    (λ v. (v.sections, (v.marks, v.omitting))) (λ p. record { sections = p.0; marks = p.1.0; omitting = p.1.1 }) (λ _. refl)

abbrev pub view_history_code : Coded Switches → Coded Section → Coded ViewHistory
view_history_code switches section = code_by (Switches × (View × List View)) (coded× switches (coded× (view_code section) (coded_list (view_code section))))
    (λ h. (h.switches, (h.view, h.earlier))) (λ p. record { switches = p.0; view = p.1.0; earlier = p.1.1 }) (λ _. refl)
