-- The marks with the copies of them that are kept.
use Rattle.std.specs.Prelude.{Bool, List, [], ◌∷◌, Option, Some, None, if◌then◌else◌, is_some, Result, Ok, Err, refl}
use Rattle.std.specs.FinMap as map
use Rattle.std.specs.Option.{unwrap_or}
use Rattle.std.specs.Coded.{Coded, code_by, coded×, coded_ℕ, coded_list}
use Rattle.mark_table.specs.PathMarks.{PathMarks}

abbrev pub path_marks_code : Coded PathMarks
path_marks_code = map.code (coded_list (coded_list coded_ℕ)) coded_ℕ

-- the last copy first
pub record MarkTable : Type 0 where
  pub marks : PathMarks
  pub kept : List PathMarks

abbrev pub mark_table_code : Coded MarkTable
mark_table_code =
    code_by (PathMarks × List PathMarks) (coded× path_marks_code (coded_list path_marks_code))
    (λ t. (t.marks, t.kept)) (λ p. record { marks = p.0; kept = p.1 }) (λ _. refl)

abbrev pub no_marks : MarkTable
no_marks = record { marks = map.empty; kept = [] }

-- other marks, with the same copies
abbrev pub with_marks : MarkTable → PathMarks → MarkTable
with_marks t m = record { marks = m; kept = t.kept }

-- with a copy of the marks kept
abbrev pub saved : MarkTable → MarkTable
saved t = record { marks = t.marks; kept = t.marks ∷ t.kept }

-- the same marks, with no copy kept
abbrev pub forgotten : MarkTable → MarkTable
forgotten t = record { marks = t.marks; kept = [] }

-- the marks of the last copy, which is kept no longer
abbrev pub from_kept : List PathMarks → Option MarkTable
from_kept [] = None
from_kept (m ∷ older) = Some (record { marks = m; kept = older })

-- and as they are where there is none
abbrev pub undone : MarkTable → MarkTable
undone t = unwrap_or (from_kept t.kept) t

abbrev pub can_undo : MarkTable → Bool
can_undo t = is_some (from_kept t.kept)

-- Ok exactly where this is true
abbrev pub ok_if : {E : Type 0} → Bool → E → Result (Unit {0}) E
ok_if b fault = if b then Ok tt else Err fault
