-- Buffers as a tree gives them.
use Rattle.std.specs.Prelude.{◌≡◌, Bool, false, List, [], Option, Some, None, Result, Ok, Err, if◌then◌else◌}
use Rattle.std.specs.List.{list_any}
use Rattle.dired_text.specs.Paths.{Names}
use Rattle.listing_text.specs.declared.line.Line.{Line}
use Rattle.listing_text.specs.declared.switches.Switches.{Switches}
use Rattle.subdir_list.specs.Listings.{IsListed}
use Rattle.tree_core.specs.FileTree.{FileTree}
use Rattle.tree_core.specs.declared.node.Node.{Node}
use Rattle.tree_core.specs.declared.node.Node.TheVariants.{Dir, Link, File}
use Rattle.tree_core.specs.declared.meta.Meta.{Meta}
use Rattle.tree_core.specs.declared.node.CallName.{CallName}
use Rattle.section_buffer.specs.declared.ends.BufferEnd.{BufferEnd}
use Rattle.section_buffer.specs.declared.ends.BufferEnd.TheVariants.{NoSuchDir, NotDirectory, AlreadyThere, NotThere, TreeFault, Memory}
use Rattle.section_buffer.specs.declared.section.Section.{Section}
use Rattle.section_buffer.specs.Buffers.{BufferState, inserted, of_root}
use Rattle.section_buffer.specs.Places.{same_names}

-- a buffer of the root's section, shown, with the lines that the tree gives of the root
abbrev pub IsNew : Switches → FileTree → (Names → Meta) → BufferState → Type 0
IsNew switches t fields b = (lines : List Line) × IsListed switches t fields [] lines × (b ≡ of_root switches lines)

-- a buffer of the root's section, shown, with lines of any kind
abbrev pub IsOfRoot : Switches → BufferState → Type 0
IsOfRoot switches b = (lines : List Line) × (b ≡ of_root switches lines)

-- the failed call of the tree that an end names
abbrev pub failed_call : BufferEnd → Option CallName
failed_call NoSuchDir = None
failed_call NotDirectory = None
failed_call AlreadyThere = None
failed_call NotThere = None
failed_call (TreeFault call) = Some call
failed_call Memory = None

-- a call of the tree failed, or an allocation was refused
abbrev pub IsFaultOrMemory : BufferEnd → Type 0
IsFaultOrMemory NoSuchDir = ⊥
IsFaultOrMemory NotDirectory = ⊥
IsFaultOrMemory AlreadyThere = ⊥
IsFaultOrMemory NotThere = ⊥
IsFaultOrMemory (TreeFault call) = Unit {0}
IsFaultOrMemory Memory = Unit {0}

-- ---- a section that is put in

-- whether one of these sections is of this directory
abbrev pub is_among_sections : Names → List Section → Bool
is_among_sections dir sections = list_any (λ (section : Section). same_names section.dir dir) sections

-- why no section is put in, by what stands at its directory and whether it is there already, or None
abbrev pub insert_refusal : Option Node → Bool → Option BufferEnd
insert_refusal None there = Some NoSuchDir
insert_refusal (Some (Link target)) there = Some NotDirectory
insert_refusal (Some (File number bytes mode)) there = Some NotDirectory
insert_refusal (Some (Dir mode)) there = if there then Some AlreadyThere else None

-- A call is refused so where there is a refusal, but that a call of the tree may fail first; else it is done, or memory is
-- wanted.
abbrev pub EndsAs : Option BufferEnd → Result (Unit {0}) BufferEnd → Type 0
EndsAs refusal (Ok done) = refusal ≡ None
EndsAs refusal (Err NoSuchDir) = refusal ≡ Some NoSuchDir
EndsAs refusal (Err NotDirectory) = refusal ≡ Some NotDirectory
EndsAs refusal (Err AlreadyThere) = refusal ≡ Some AlreadyThere
EndsAs refusal (Err NotThere) = ⊥
EndsAs refusal (Err (TreeFault call)) = Unit {0}
EndsAs refusal (Err Memory) = refusal ≡ None

-- The section of this directory wasn't there and was put in, shown, with lines as they are to be.
pub record IsPutIn (Are : List Line → Type 0) (dir : Names) (old new : BufferState) : Type 0 where
  pub lines : List Line
  pub are : Are lines
  pub was_not_there : is_among_sections dir old.sections ≡ false
  pub is : new ≡ inserted dir lines old
