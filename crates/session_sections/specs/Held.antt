-- How a buffer, and what is kept of each change, hold sections and what they were before.
use Rattle.std.specs.Prelude.{◌≡◌, ℕ, zero, suc, ◌+◌, Bool, false, not, List, [], ◌∷◌, length, Option, Some, None}
use Rattle.dired_text.specs.Paths.{Names}
use Rattle.section_buffer.specs.declared.section.Section.{Section}
use Rattle.section_buffer.specs.Buffers.{Asked, BufferState, all_killed, turned, unkilled}
use Rattle.section_buffer.specs.Rows.{rows_of}
use Rattle.section_buffer.specs.Sections.{hidden_at}
use Rattle.session_sections.specs.declared.kept.Kept.{Kept}
use Rattle.session_sections.specs.declared.kept.Kept.TheVariants.{Kills, Turning}
use Rattle.session_sections.specs.Sections.{is_section}
use Rattle.session_sections.specs.History.{SectionHistory}

-- the section of this directory hidden where it was shown, and shown where it was hidden, or None where there is none
abbrev pub flipped_by : Names → Option Bool → BufferState → Option BufferState
flipped_by dir None b = None
flipped_by dir (Some hidden) b = turned dir (not hidden) b

abbrev pub flipped : Names → BufferState → Option BufferState
flipped dir b = flipped_by dir (hidden_at dir b.sections) b

-- the wanted buffer, or the old one where there is none
abbrev pub or_same : Option BufferState → BufferState → BufferState
or_same None b = b
or_same (Some c) b = c

-- behind so many unkills
abbrev pub unkilled_times : ℕ → BufferState → BufferState
unkilled_times zero b = b
unkilled_times (suc n) b = let c = unkilled_times n b in or_same (unkilled c) c

-- with a change that was kept taken back
abbrev pub back : Kept → BufferState → BufferState
back (Kills n) b = unkilled_times n b
back (Turning dir) b = or_same (flipped dir b) b

abbrev pub earlier_of : BufferState → List Kept → List (List Section)
earlier_of b [] = []
earlier_of b (k ∷ ks) = (back k b).sections ∷ earlier_of (back k b) ks

abbrev pub seen_as : BufferState → List Kept → SectionHistory
seen_as b ks = record { switches = b.switches; sections = b.sections; earlier = earlier_of b ks }

-- no two sections of one directory
abbrev pub AreOnce : List Section → Type 0
AreOnce [] = Unit {0}
AreOnce (section ∷ sections) = (is_section section.dir sections ≡ false) × AreOnce sections

-- nor in any buffer from before
abbrev pub IsHeld : BufferState → List Kept → Type 0
IsHeld b [] = AreOnce b.sections
IsHeld b (k ∷ ks) = AreOnce b.sections × IsHeld (back k b) ks

-- Kills lead from one buffer to the other, each of one row.
pub record LinesKilled (old new : BufferState) : Type 0 where
  pub kills : List Asked
  pub lead : all_killed kills old ≡ Some new
  pub fewer : length (rows_of old.sections) ≡ length kills + length (rows_of new.sections)
  pub switches : new.switches ≡ old.switches
