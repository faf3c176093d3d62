-- Marks with an undo list (GNU Emacs Manual, "Undo in Dired").
use Rattle.std.specs.Prelude.{◌≡◌, ◌⊎◌, Bool, true, false, List, [], ◌∷◌, refl}
use Rattle.std.specs.FinMap.{empty}
use Rattle.std.specs.Coded.{Coded, code_by, coded×, coded_list}
use Rattle.mark_table.specs.PathMarks.{PathMarks}
use Rattle.mark_table.specs.Tables.{path_marks_code}

-- the marks, and those that stood before each change that can be undone, the last first
pub record MarkHistory : Type 0 where
  pub marks : PathMarks
  pub earlier : List PathMarks

abbrev pub mark_history_code : Coded MarkHistory
mark_history_code =
    code_by (PathMarks × List PathMarks) (coded× path_marks_code (coded_list path_marks_code))
    (λ h. (h.marks, h.earlier)) (λ p. record { marks = p.0; earlier = p.1 }) (λ _. refl)

abbrev pub no_history : MarkHistory
no_history = record { marks = empty; earlier = [] }

-- other marks, and those from before can be undone to
abbrev pub gains : PathMarks → MarkHistory → MarkHistory
gains m h = record { marks = m; earlier = h.marks ∷ h.earlier }

-- the marks from before the last change, which is in the undo list no longer, or these marks where it has none
abbrev pub back_to : List PathMarks → PathMarks → MarkHistory
back_to [] m = record { marks = m; earlier = [] }
back_to (before ∷ older) m = record { marks = before; earlier = older }

abbrev pub taken_back : MarkHistory → MarkHistory
taken_back h = back_to h.earlier h.marks

abbrev pub is_any : List PathMarks → Bool
is_any [] = false
is_any (m ∷ older) = true

abbrev pub can_undo : MarkHistory → Bool
can_undo h = is_any h.earlier

-- the same marks, and nothing can be undone
abbrev pub forgotten : MarkHistory → MarkHistory
forgotten h = record { marks = h.marks; earlier = [] }

-- nothing has changed, or one undo leads back
abbrev pub IsOldOrLeadsBack : MarkHistory → MarkHistory → Type 0
IsOldOrLeadsBack before now = (now ≡ before) ⊎ (taken_back now ≡ before)
