-- What a recovery does with what it found, and how it ends then.
use Rattle.std.specs.Prelude.{ℕ, Bool, true, false, [], Option, Some, None}
use Rattle.commit_recover.specs.declared.end.RecoverEnd.{RecoverEnd}
use Rattle.commit_recover.specs.declared.end.RecoverEnd.TheVariants as end
use Rattle.commit_recover.specs.Items.{other_items}
use Rattle.commit_steps.specs.Staging.{sealed, undone}
use Rattle.recovery_courses.specs.Course.{Course, these}
use Rattle.recovery_courses.specs.Ends.{forward_from, back_from, turned_back_from, closing, clearing}
use Rattle.recovery_start.specs.declared.leftovers.Leftovers.{Leftovers}
use Rattle.staging_names.specs.declared.staged_name.Journal as journal
use Rattle.staging_names.specs.declared.staged_name.Journal.TheVariants.{Plan, Done, Undone}
use Rattle.staging_names.specs.declared.staged_name.Marker as marker
use Rattle.staging_names.specs.declared.staged_name.Side.{Side}
use Rattle.staging_names.specs.declared.staged_name.Side.TheVariants.{At, Back}
use Rattle.tree_core.specs.History.{History}

-- with `plan` and a marker; `true` is the way back
abbrev pub planned_course : Side → ℕ → Leftovers → Bool → History → Course
planned_course At m l false h = forward_from l.steps m l.entries.items h
planned_course At m l true h = turned_back_from l.steps m l.entries.items h
planned_course Back m l way h = back_from l.steps m l.entries.items h

abbrev pub marked_course : Option marker.Marker → Leftovers → Bool → History → Course
marked_course None l way h = these []
marked_course (Some m) l way h = planned_course m.side m.number l way h

abbrev pub course_with : Option journal.Journal → Leftovers → Bool → History → Course
course_with None l way h = clearing l.names.items
course_with (Some Plan) l way h = marked_course l.standing.marker l way h
course_with (Some Done) l way h = closing sealed (other_items l)
course_with (Some Undone) l way h = closing undone (other_items l)

-- by the journal and the marker that stand
abbrev pub course_of : Leftovers → Bool → History → Course
course_of l way h = course_with l.standing.journal l way h

-- ---- the end

abbrev pub planned_end : Side → Bool → RecoverEnd
planned_end At false = end.Edited
planned_end At true = end.Old
planned_end Back way = end.Old

abbrev pub marked_end : Option marker.Marker → Bool → RecoverEnd
marked_end None way = end.Cleared
marked_end (Some m) way = planned_end m.side way

abbrev pub end_with : Option journal.Journal → Leftovers → Bool → RecoverEnd
end_with None l way = end.Cleared
end_with (Some Plan) l way = marked_end l.standing.marker way
end_with (Some Done) l way = end.Edited
end_with (Some Undone) l way = end.Old

abbrev pub end_of : Leftovers → Bool → RecoverEnd
end_of l way = end_with l.standing.journal l way

-- this end, unless something strange was found
abbrev pub unless_strange : Option ℕ → RecoverEnd → RecoverEnd
unless_strange None ended = ended
unless_strange (Some step) ended = end.Strange step
