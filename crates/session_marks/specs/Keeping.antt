-- How the marks from before come back from what is kept of each change.
use Rattle.std.specs.Prelude.{ℕ, List, [], ◌∷◌, map, filter, not, reverse, Option}
use Rattle.std.specs.FinMap.{get}
use Rattle.dired_text.specs.Paths.{Names}
use Rattle.mark_table.specs.PathMarks.{PathMarks, has_mark, marked}
use Rattle.mark_table.specs.Tables.{MarkTable, undone, with_marks}
use Rattle.session_marks.specs.declared.kept.Kept.{Kept}
use Rattle.session_marks.specs.declared.kept.Kept.TheVariants as kept
use Rattle.session_marks.specs.Histories.{MarkHistory}

-- paths, each with a mark or none
abbrev pub MarkPairs : Type 0
MarkPairs = List (Names × Option ℕ)

abbrev pub paths_of : MarkPairs → List Names
paths_of es = map (λ e. e.0) es

-- those of these paths that have another mark
abbrev pub differing : PathMarks → Option ℕ → List Names → List Names
differing m mark ps = filter (λ p. not (has_mark m mark p)) ps

-- what these paths have
abbrev pub had : PathMarks → List Names → MarkPairs
had m ps = map (λ p. (p, get m p)) ps

-- each path has what stands beside it
abbrev pub marks_back : MarkPairs → PathMarks → PathMarks
marks_back [] m = m
marks_back (e ∷ es) m = marks_back es (marked m e.0 e.1)

-- the table before a change of which this is kept
abbrev pub back : Kept → MarkTable → MarkTable
back (kept.Differences pairs) t = with_marks t (marks_back pairs.items t.marks)
back kept.Copy t = undone t

-- the marks from before each change, by what is kept of them, the last first
abbrev pub earlier_of : MarkTable → List Kept → List PathMarks
earlier_of t [] = []
earlier_of t (k ∷ ks) = (back k t).marks ∷ earlier_of (back k t) ks

-- the last change is kept at the end
abbrev pub history_of : MarkTable → List Kept → MarkHistory
history_of t ks = record { marks = t.marks; earlier = earlier_of t (reverse ks) }
