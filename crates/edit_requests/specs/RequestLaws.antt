-- What an edited buffer asks for can be asked.
use Rattle.std.specs.Prelude.{◌≡◌, ◌≢◌, ℕ, ◌≤◌, List, [], length, Ok, All, Contains}
use Rattle.dired_text.specs.Paths.{Names}
use Rattle.tree_core.specs.declared.edit.Shown.{Shown}
use Rattle.tree_core.specs.declared.changes.Changes.TheVariants.{Edits}
use Rattle.wdired_buffer.specs.declared.line.BufferLine.{BufferLine}
use Rattle.wdired_buffer.specs.declared.line.BufferLine.TheVariants.{Entry}
use Rattle.wdired_buffer.specs.Buffer.{buffer_of}
use Rattle.wdired_buffer.specs.Edits.{Asks, edits_of}
use Rattle.edit_words.specs.WellFormed.{AreAsked, max_changes}

-- the edits that an edited text of a buffer's lines asks for, where they aren't too many
abbrev pub EditsCanBeAsked : Type 0
EditsCanBeAsked = (bytes after : List ℕ) (before : List BufferLine) (asks : Asks) → buffer_of bytes ≡ Ok before → edits_of before after ≡ Ok asks
    → length asks.edits ≤ max_changes → AreAsked (Edits asks.edits)

-- the path isn't the root, and an entry's line shows it
abbrev pub IsOfLine : List BufferLine → Names → Type 0
IsOfLine before path = (path ≢ []) × ((text : List ℕ) × (name_at : ℕ) × (was : Shown) × Contains before (Entry text name_at path was))

-- the paths whose names were emptied
abbrev pub EmptiedAreOfLines : Type 0
EmptiedAreOfLines = (bytes after : List ℕ) (before : List BufferLine) (asks : Asks) → buffer_of bytes ≡ Ok before → edits_of before after ≡ Ok asks
    → All (IsOfLine before) asks.emptied
