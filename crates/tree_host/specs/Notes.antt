-- What was touched since the last sync: some paths, or all.
use Rattle.std.specs.Prelude.{◌≡◌, ℕ, true, ◌||◌}
use Rattle.std.specs.BTreeSet.{contains}
use Rattle.dired_text.specs.Paths.{Names, path_cmp}
use Rattle.tree_host.specs.declared.touched.Touched.{Touched}

-- how many paths are noted at most
abbrev pub most_notes : ℕ
most_notes = 64

-- the path is noted, or all are
abbrev pub IsNoted : Touched → Names → Type 0
IsNoted t p = (t.all || contains path_cmp t.paths p) ≡ true

-- what was noted still is
abbrev pub KeepsNotes : Touched → Touched → Type 0
KeepsNotes old new = ((p : Names) → IsNoted old p → IsNoted new p) × (old.all ≡ true → new.all ≡ true)
