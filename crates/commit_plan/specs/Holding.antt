-- What a plan puts aside, as its victims come with their lines, and the entries that it asks for.
use Rattle.std.specs.Prelude.{ℕ, ◌==◌, List, [], ◌∷◌, ◌++◌, Option, if◌then◌else◌}
use Rattle.std.specs.Option.{option_map}
use Rattle.dired_text.specs.Paths.{Names}
use Rattle.tree_core.specs.declared.edit.Edit.{Edit}
use Rattle.tree_core.specs.declared.changes.Fresh.{Fresh}
use Rattle.tree_core.specs.declared.changes.Fresh.TheVariants as fresh
use Rattle.tree_core.specs.declared.changes.Creation.{Creation}
use Rattle.edit_words.specs.declared.row.Row.{Row}
use Rattle.plan_moves.specs.Plan.{is_given_up, listed}

-- the most paths that are put aside: two for each change
abbrev pub max_held : ℕ
max_held = 524288

-- the victim of this line, if it is the first, and those behind it
abbrev pub victims_at : ℕ → List (ℕ × Names) → List Names
victims_at line [] = []
victims_at line (v ∷ vs) = if v.0 == line then v.1 ∷ [] else []

abbrev pub victims_past : ℕ → List (ℕ × Names) → List (ℕ × Names)
victims_past line [] = []
victims_past line (v ∷ vs) = if v.0 == line then vs else v ∷ vs

-- what is put aside, as the victims come
abbrev pub held_from : List (ℕ × Names) → List Row → List Names
held_from vs [] = []
held_from vs (r ∷ rs) = victims_at r.line vs ++ (if is_given_up r then listed r.source else []) ++ held_from (victims_past r.line vs) rs

abbrev pub link_of : Edit → Option Fresh
link_of e = option_map fresh.Link e.target

abbrev pub what_of : Creation → Fresh
what_of c = c.what
