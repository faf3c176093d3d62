-- What is written of a listing is read back.
use Rattle.std.specs.Prelude.{◌≡◌, ◌≢◌, ◌≤◌, ℕ, true, List, [], ◌∷◌, ◌++◌, Ok, All, IsUtf8}
use Rattle.dired_text.specs.Paths.{Names, is_name, joined, path_bytes, max_path_bytes}
use Rattle.dired_text.specs.Resolve.{resolved}
use Rattle.listing_text.specs.declared.line.Line.{Line}
use Rattle.listing_text.specs.declared.line.Widths.{Widths}
use Rattle.listing_text.specs.Grammar.{IsLawful}
use Rattle.listing_text.specs.Listed.{line_text_of, header_text_of, total_text_of}
use Rattle.wdired_buffer.specs.declared.due.Due.TheVariants as due
use Rattle.wdired_buffer.specs.declared.line.BufferLine.TheVariants.{Header, Entry}
use Rattle.wdired_buffer.specs.Headers.{is_total}
use Rattle.wdired_buffer.specs.Buffer.{entry_of, header_of}

-- a name names itself from every directory
abbrev pub NamesResolve : Type 0
NamesResolve = (dir : Names) (n : List ℕ) → is_name n ≡ true → path_bytes (dir ++ n ∷ []) ≤ max_path_bytes → resolved dir n ≡ Ok (dir ++ n ∷ [])

-- the line of a file is read as the entry of that file
abbrev pub EntriesComeBack : Type 0
EntriesComeBack = (number : ℕ) (dir : Names) (mark : ℕ) (line : Line) (widths : Widths) → 32 ≤ mark → mark ≤ 126 → IsLawful line → is_name line.name ≡ true
    → path_bytes (dir ++ line.name ∷ []) ≤ max_path_bytes
    → (name_at : ℕ) × (entry_of number dir (line_text_of mark line widths)
    ≡ Ok (Entry (line_text_of mark line widths) name_at (dir ++ line.name ∷ []) (record { kind = line.kind; mode = line.mode; target = line.target })))

-- a total is read as one
abbrev pub TotalsComeBack : Type 0
TotalsComeBack = (n : ℕ) → n ≤ 400_000 → is_total (total_text_of n) ≡ true

-- the text of a path names that path from the root
abbrev pub PathsResolve : Type 0
PathsResolve = (p : Names) → p ≢ [] → All (λ n. is_name n ≡ true) p → path_bytes p ≤ max_path_bytes → resolved [] (joined p) ≡ Ok p

-- the header of a directory is read as the header of that directory
abbrev pub HeadersComeBack : Type 0
HeadersComeBack = (number : ℕ) (dir : Names) → All (λ n. (is_name n ≡ true) × IsUtf8 n) dir → path_bytes dir ≤ max_path_bytes
    → header_of number (header_text_of dir) ≡ Ok (Header (header_text_of dir) dir, due.Total dir)
