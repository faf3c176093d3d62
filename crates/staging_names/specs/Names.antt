-- What names in the staging directory stand for.
use Rattle.std.specs.Prelude.{◌≡◌, ℕ, ◌<◌, ◌-◌, ◌^◌, nat_le, List, length, take, drop, codes, Option, Some, None, if◌then◌else◌}
use Rattle.std.specs.Str.{bytes_eq}
use Rattle.commit_steps.specs.Staging.{temporary, held, fresh_name, at_marker, back_marker, new_journal, plan, sealed, undone as undone_journal}
use Rattle.staging_names.specs.declared.entry_name.EntryName.{EntryName}
use Rattle.staging_names.specs.declared.entry_name.Role.{Role}
use Rattle.staging_names.specs.declared.entry_name.Role.TheVariants.{Fresh, Held, Temporary}
use Rattle.staging_names.specs.declared.staged_name.Journal as journal
use Rattle.staging_names.specs.declared.staged_name.Journal.TheVariants.{Plan, Done, Undone}
use Rattle.staging_names.specs.declared.staged_name.Side.{Side}
use Rattle.staging_names.specs.declared.staged_name.Side.TheVariants.{At, Back}
use Rattle.staging_names.specs.declared.staged_name.Marker as marker
use Rattle.staging_names.specs.declared.staged_name.StagedName.{StagedName}
use Rattle.staging_names.specs.declared.staged_name.StagedName.TheVariants.{New, Journal, Marker, Entry, Other}
use Rattle.staging_names.specs.Numbers.{number_read}

-- ---- how names are spelled

abbrev pub spelled : Role → ℕ → List ℕ
spelled Fresh n = fresh_name n
spelled Held n = held n
spelled Temporary n = temporary n

abbrev pub name_of : EntryName → List ℕ
name_of e = spelled e.role e.number

abbrev pub marker_name : Side → ℕ → List ℕ
marker_name At m = at_marker m
marker_name Back m = back_marker m

abbrev pub journal_name : journal.Journal → List ℕ
journal_name Plan = plan
journal_name Done = sealed
journal_name Undone = undone_journal

-- The name is spelled so.
abbrev pub IsSpelled : List ℕ → StagedName → Type 0
IsSpelled name New = name ≡ new_journal
IsSpelled name (Journal j) = name ≡ journal_name j
IsSpelled name (Marker m) = name ≡ marker_name m.side m.number
IsSpelled name (Entry e) = (name ≡ name_of e) × (e.number < 2 ^ 32)
IsSpelled name Other = ⊥

-- ---- how they are read

-- what is left of a text behind its front
abbrev pub rest_behind : List ℕ → List ℕ → Option (List ℕ)
rest_behind front text = if bytes_eq (take (length front) text) front then Some (drop (length front) text) else None

abbrev pub journal_named : List ℕ → Option journal.Journal
journal_named name =
    if bytes_eq name plan then Some Plan
    else if bytes_eq name sealed then Some Done
    else if bytes_eq name undone_journal then Some Undone
    else None

abbrev pub marker_numbered : Side → Option ℕ → StagedName
marker_numbered side None = Other
marker_numbered side (Some n) = Marker (record { side = side; number = n })

abbrev pub marker_of : Side → List ℕ → StagedName
marker_of side ds = marker_numbered side (number_read ds)

-- the number of an entry has 32 bits
abbrev pub entry_numbered : Role → Option ℕ → StagedName
entry_numbered role None = Other
entry_numbered role (Some n) = if nat_le n 4_294_967_295 then Entry (record { role = role; number = n }) else Other

abbrev pub entry_of : Role → List ℕ → StagedName
entry_of role ds = entry_numbered role (number_read ds)

-- what this reads of the digits, where there are some, and else the other
abbrev pub read_of : Option (List ℕ) → (List ℕ → StagedName) → StagedName → StagedName
read_of None read next = next
read_of (Some ds) read next = read ds

-- a letter or a word, and a number
abbrev pub numbered_read : List ℕ → StagedName
numbered_read name =
    read_of (rest_behind (codes "at-") name) (marker_of At)
    (read_of (rest_behind (codes "back-") name) (marker_of Back)
    (read_of (rest_behind (codes "t") name) (entry_of Temporary)
    (read_of (rest_behind (codes "h") name) (entry_of Held)
    (read_of (rest_behind (codes "f") name) (entry_of Fresh) Other))))

abbrev pub journal_or : Option journal.Journal → StagedName → StagedName
journal_or None next = next
journal_or (Some j) next = Journal j

-- what a name stands for
unfoldable pub name_read : List ℕ → StagedName
name_read name = if bytes_eq name new_journal then New else journal_or (journal_named name) (numbered_read name)
