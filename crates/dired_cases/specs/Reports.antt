-- What is printed of a run.
use Rattle.std.specs.Prelude.{ℕ, ◌==◌, List, [], ◌∷◌, ◌++◌, codes, decimal, flat_map, if◌then◌else◌}
use Rattle.case_tables.specs.Fields.{field_byte}

-- a byte of the output, in which each newline begins a line behind `|`
abbrev pub line_byte : ℕ → List ℕ
line_byte byte = if byte == 10 then codes "\n|" else (if byte == 32 then 32 ∷ [] else field_byte byte)

-- the number of the status, and behind it the bytes that were written
abbrev pub report_text : ℕ → List ℕ → List ℕ
report_text number written = codes "status " ++ decimal number ++ codes "\n|" ++ flat_map line_byte written ++ codes "\n"

abbrev pub held_text : ℕ → List ℕ
held_text held = codes "held " ++ decimal held ++ codes "\n"
