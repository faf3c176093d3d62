-- Sections, with what they were before each change that may be undone.
use Rattle.std.specs.Prelude.{◌≡◌, Bool, true, false, List, [], ◌∷◌, Result, Ok, Err}
use Rattle.dired_text.specs.Paths.{Names}
use Rattle.listing_text.specs.declared.line.Line.{Line}
use Rattle.listing_text.specs.declared.switches.Switches.{Switches}
use Rattle.section_buffer.specs.declared.section.Section.{Section}
use Rattle.section_buffer.specs.declared.ends.BufferEnd.{BufferEnd}
use Rattle.section_buffer.specs.declared.ends.BufferEnd.TheVariants.{NoSuchDir, NotDirectory, AlreadyThere, NotThere, TreeFault, Memory}
use Rattle.subdir_list.specs.Listings.{IsListed}
use Rattle.tree_core.specs.FileTree.{FileTree}
use Rattle.tree_core.specs.declared.meta.Meta.{Meta}

-- The last of the earlier sections comes first.
pub record SectionHistory : Type 0 where
  pub switches : Switches
  pub sections : List Section
  pub earlier : List (List Section)

-- the section of the root, shown, with these lines, and nothing before it
abbrev pub of_root : Switches → List Line → SectionHistory
of_root switches lines = record { switches = switches; sections = record { dir = []; hidden = false; lines = lines } ∷ []; earlier = [] }

-- the same with the lines that a tree gives of the root
abbrev pub IsNew : Switches → FileTree → (Names → Meta) → SectionHistory → Type 0
IsNew switches t fields h = (lines : List Line) × IsListed switches t fields [] lines × (h ≡ of_root switches lines)

-- other sections, which may be undone
abbrev pub gains : List Section → SectionHistory → SectionHistory
gains sections h = record { switches = h.switches; sections = sections; earlier = h.sections ∷ h.earlier }

abbrev pub is_root : Names → Bool
is_root [] = true
is_root (name ∷ dir) = false

-- A change of a section that has to be there leads to these sections; it is refused where the section isn't there, and exactly there,
-- or for want of memory. A refusal changes nothing.
abbrev pub Changes : Bool → List Section → Result (Unit {0}) BufferEnd → SectionHistory → SectionHistory → Type 0
Changes is_there sections (Ok done) old new = (is_there ≡ true) × (new ≡ gains sections old)
Changes is_there sections (Err NotThere) old new = (is_there ≡ false) × (new ≡ old)
Changes is_there sections (Err Memory) old new = new ≡ old
Changes is_there sections (Err NoSuchDir) old new = ⊥
Changes is_there sections (Err NotDirectory) old new = ⊥
Changes is_there sections (Err AlreadyThere) old new = ⊥
Changes is_there sections (Err (TreeFault call)) old new = ⊥

-- The last earlier sections come back, and what was before them; or nothing is left to be undone.
abbrev pub Undoes : List (List Section) → Result (Unit {0}) BufferEnd → SectionHistory → SectionHistory → Type 0
Undoes [] result old new = (result ≡ Err NotThere) × (new ≡ old)
Undoes (sections ∷ earlier) result old new =
    (result ≡ Ok tt) × (new ≡ record { switches = old.switches; sections = sections; earlier = earlier })
