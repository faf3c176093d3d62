-- One undo list over the marks' own and the sections' own.
use Rattle.std.specs.Prelude.{Bool, List, [], ◌∷◌}
use Rattle.mark_table.specs.PathMarks.{PathMarks}
use Rattle.section_buffer.specs.declared.section.Section.{Section}
use Rattle.session_marks.specs.Histories.{MarkHistory}
use Rattle.session_sections.specs.History.{SectionHistory}
use Rattle.session_view.specs.declared.part.Part.{Part}
use Rattle.session_view.specs.declared.part.Part.TheVariants.{Marks, Sections, Omitting}
use Rattle.session_view.specs.Views.{View, ViewHistory, omitting_turned, with_marks, with_sections}

-- The views from before, the last first, by which part each command changed: that part is as its own undo list has it.
-- They end where that list does.
abbrev pub earlier_of : View → List Part → List PathMarks → List (List Section) → List View
earlier_of v [] ms ss = []
earlier_of v (Marks ∷ parts) [] ss = []
earlier_of v (Marks ∷ parts) (m ∷ ms) ss = with_marks m v ∷ earlier_of (with_marks m v) parts ms ss
earlier_of v (Sections ∷ parts) ms [] = []
earlier_of v (Sections ∷ parts) ms (s ∷ ss) = with_sections s v ∷ earlier_of (with_sections s v) parts ms ss
earlier_of v (Omitting ∷ parts) ms ss = omitting_turned v ∷ earlier_of (omitting_turned v) parts ms ss

abbrev pub view_of : SectionHistory → MarkHistory → Bool → View
view_of buffer marks omitting = record { sections = buffer.sections; marks = marks.marks; omitting = omitting }

-- what is seen of a buffer and marks, with these parts changed, the last first
abbrev pub seen_as : SectionHistory → MarkHistory → Bool → List Part → ViewHistory
seen_as buffer marks omitting parts = record {
  switches = buffer.switches;
  view = view_of buffer marks omitting;
  earlier = earlier_of (view_of buffer marks omitting) parts marks.earlier buffer.earlier;
}
