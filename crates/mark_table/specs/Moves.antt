-- Marks that go with their files to other paths.
use Rattle.std.specs.Prelude.{ℕ, List, [], ◌∷◌, ◌++◌, map, Option, Some, None, if◌then◌else◌}
use Rattle.std.specs.FinMap.{get}
use Rattle.std.specs.Option.{option_or}
use Rattle.std.specs.Ordering.{eq_by_cmp}
use Rattle.dired_text.specs.Paths.{Names, path_cmp}
use Rattle.mark_table.specs.PathMarks.{PathMarks, is_among, with_each}

-- each pair is where a file stood, and where it stands now
abbrev pub Moves : Type 0
Moves = List (Names × Names)

abbrev pub sources : Moves → List Names
sources moves = map (λ e. e.0) moves

abbrev pub destinations : Moves → List Names
destinations moves = map (λ e. e.1) moves

-- where the file that stands now at q stood, if it moved. Of several moves to q the last counts.
abbrev pub source_of : Moves → Names → Option Names
source_of [] q = None
source_of (e ∷ es) q = option_or (source_of es q) (if eq_by_cmp path_cmp q e.1 then Some e.0 else None)

-- what the source has, or without one this mark
abbrev pub mark_from : PathMarks → Option Names → Option ℕ → Option ℕ
mark_from m None stays = stays
mark_from m (Some p) stays = get m p

-- the mark of q after the moves: a destination has the mark that its source had, any other source has none, and what
-- is neither keeps its mark
abbrev pub mark_after : Moves → PathMarks → Names → Option ℕ
mark_after moves m q = mark_from m (source_of moves q) (if is_among q (sources moves) then None else get m q)

abbrev pub moved_marks : Moves → PathMarks → PathMarks
moved_marks moves m = with_each (mark_after moves m) (sources moves ++ destinations moves) m
