-- Printed listings are read back.
use Rattle.std.specs.Prelude.{◌≡◌, ℕ, ◌≤◌, List, [], ◌∷◌, ◌++◌, length, map, flat_map, All, Ok}
use Rattle.dired_text.specs.Paths.{Names, AreNames, path_bytes, max_path_bytes}
use Rattle.tree_core.specs.declared.edit.Shown.{Shown}
use Rattle.tree_core.specs.declared.meta.Meta.{Meta}
use Rattle.tree_core.specs.FileTree.{FileTree, AreTexts}
use Rattle.tree_core.specs.Fields.{AreFields}
use Rattle.listing_text.specs.declared.line.Line.{Line}
use Rattle.listing_text.specs.declared.switches.Switches.{Switches}
use Rattle.wdired_buffer.specs.declared.line.BufferLine.{BufferLine}
use Rattle.wdired_buffer.specs.declared.line.BufferLine.TheVariants.{Fixed, Header, Entry}
use Rattle.wdired_buffer.specs.Lines.{lines}
use Rattle.wdired_buffer.specs.Buffer.{buffer_of, max_lines}
use Rattle.subdir_list.specs.Listings.{IsListing, IsListed, listed_paths}

-- a path as a `Path` holds it
abbrev pub IsHeldPath : Names → Type 0
IsHeldPath p = AreNames p × (path_bytes p ≤ max_path_bytes)

-- a directory with its lines
abbrev pub Section : Type 0
Section = Names × List Line

-- the lines of each of these directories
abbrev pub AreListed : Switches → FileTree → (Names → Meta) → List Names → List Section → Type 0
AreListed switches t fields [] [] = Unit {0}
AreListed switches t fields (p ∷ paths) (s ∷ sections) = (s.0 ≡ p) × IsListed switches t fields p s.1 × AreListed switches t fields paths sections
AreListed switches t fields [] (s ∷ sections) = ⊥
AreListed switches t fields (p ∷ paths) [] = ⊥

-- a path and what a buffer's line shows of it
abbrev pub Listed : Type 0
Listed = Names × Shown

abbrev pub shown_line : Names → Line → Listed
shown_line dir line = (dir ++ line.name ∷ [], record { kind = line.kind; mode = line.mode; target = line.target })

abbrev pub shown_in : Section → List Listed
shown_in s = map (shown_line s.0) s.1

-- the entries of a buffer
abbrev pub entry_in : BufferLine → List Listed
entry_in (Fixed text) = []
entry_in (Header text dir) = []
entry_in (Entry text name_at source was) = (source, was) ∷ []

abbrev pub entries_in : List BufferLine → List Listed
entries_in lines = flat_map entry_in lines

-- A listing of a tree, of at most as many lines as a buffer may have, is read, and its entries are the listed paths. Every tree
-- that tells has such fields and texts.
abbrev pub PrintedIsRead : Type 0
PrintedIsRead =
    (t : FileTree) (fields : Names → Meta) (switches : Switches) (dirs : List Names) (text : List ℕ)
    → AreFields t fields → AreTexts t → All IsHeldPath dirs → IsListing switches t fields dirs text → length (lines text) ≤ max_lines
    → (sections : List Section) × (buffer : List BufferLine)
    × AreListed switches t fields (listed_paths dirs) sections × (buffer_of text ≡ Ok buffer) × (entries_in buffer ≡ flat_map shown_in sections)
