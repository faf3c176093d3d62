-- A buffer's entries and a listing's lines are read alike.
use Rattle.std.proofs.Common.{◌≡◌, ◌⊎◌, inl, inr, ℕ, ◌+◌, ◌-◌, List, [], length, take, drop, refl, Option, Some, None, Result, Ok, Err}
use Rattle.dired_text.specs.Paths.{Names}
use Rattle.dired_text.specs.Resolve.{resolved}
use Rattle.dired_text.specs.declared.resolving.NameError.{NameError}
use Rattle.tree_core.specs.declared.node.Kind.{Kind}
use Rattle.tree_core.specs.declared.node.Kind.TheVariants.{File, Dir, Link}
use Rattle.listing_text.specs.declared.faults.Field.TheVariants as field
use Rattle.listing_text.specs.declared.faults.LineFault.{LineFault}
use Rattle.listing_text.specs.declared.faults.LineFault.TheVariants as line_fault
use Rattle.listing_text.specs.declared.line.Line.{Line}
use Rattle.listing_text.specs.Fields.{name_of, target_of, arrow_place}
use Rattle.listing_text.specs.Reading.{Front, ◌>>=◌, front_of, behind_space, line_of, names_in, link_names, or_bad as or_bad_field}
use Rattle.wdired_buffer.specs.declared.faults.BufferCause.TheVariants as cause
use Rattle.wdired_buffer.specs.declared.faults.BufferFault.{BufferFault}
use Rattle.wdired_buffer.specs.declared.faults.BufferFault.TheVariants as fault
use Rattle.wdired_buffer.specs.declared.line.BufferLine.{BufferLine}
use Rattle.wdired_buffer.specs.declared.line.BufferLine.TheVariants.{Entry}
use Rattle.wdired_buffer.specs.Headers.{named, if_resolved}
use Rattle.wdired_buffer.specs.Buffer.{or_bad, at_line, shown, link_shown, entry_of}
use Rattle.wdired_buffer.specs.EntryLaws.{IsReadAs}

-- the same of name and target alone
abbrev IsPathOf : ℕ → List ℕ → Result Names NameError → Result (Names × List ℕ) BufferFault → Type 0
IsPathOf number target (Ok path) read = read ≡ Ok (path, target)
IsPathOf number target (Err e) read = read ≡ Err (fault.Bad number (cause.Line field.Name))

abbrev IsShownAs : ℕ → Names → Result (List ℕ × List ℕ) LineFault → Result (Names × List ℕ) BufferFault → Type 0
IsShownAs number dir (Ok names) read = IsPathOf number names.1 (resolved dir names.0) read
IsShownAs number dir (Err (line_fault.Bad bad place)) read =
    (read ≡ Err (fault.Bad number (cause.Line bad))) ⊎ ((bad ≡ field.Target) × (read ≡ Err (fault.Bad number (cause.Line field.Name))))
IsShownAs number dir (Err line_fault.Memory) read = read ≡ Err fault.Memory

-- a name without a target
path_alone : (number : ℕ) (found : Result Names NameError) → IsPathOf number [] found (or_bad number (cause.Line field.Name) (if_resolved found) >>= λ path. Ok (path, []))
path_alone number (Ok path) = refl
path_alone number (Err e) = refl

plain_shown : (number : ℕ) (dir : Names) (bytes : ℕ) (rest : List ℕ) (name : Option (List ℕ)) → name_of rest ≡ name → IsShownAs number dir (or_bad_field field.Name bytes rest (name_of rest) >>= λ name. Ok (name, [])) (or_bad number (cause.Line field.Name) (named dir rest) >>= λ path. Ok (path, []))
unfolding named
plain_shown number dir bytes rest None is = rw is (inl refl)
plain_shown number dir bytes rest (Some name) is = rw is (path_alone number (resolved dir name))

-- a name, and a target that is good or bad
path_and : (number : ℕ) (target : List ℕ) (found : Result Names NameError) → IsPathOf number target found (or_bad number (cause.Line field.Name) (if_resolved found) >>= λ path. Ok (path, target))
path_and number target (Ok path) = refl
path_and number target (Err e) = refl

path_before_bad : (number : ℕ) (dir : Names) (place : ℕ) (found : Result Names NameError) → IsShownAs number dir (Err (line_fault.Bad field.Target place)) (or_bad number (cause.Line field.Name) (if_resolved found) >>= λ path. Err (fault.Bad number (cause.Line field.Target)))
path_before_bad number dir place (Ok path) = inl refl
path_before_bad number dir place (Err e) = inr (refl, refl)

link_is : (number : ℕ) (dir : Names) (bytes : ℕ) (rest : List ℕ) (place : ℕ) (name target : Option (List ℕ)) → name_of (take place rest) ≡ name → target_of (drop (place + 4) rest) ≡ target → IsShownAs number dir (link_names bytes rest (Some place)) (link_shown number dir rest (Some place))
unfolding link_names link_shown named
link_is number dir bytes rest place None target is tells = rw is (inl refl)
link_is number dir bytes rest place (Some name) None is tells = rw (is, tells) (path_before_bad number dir (bytes - length (drop (place + 4) rest)) (resolved dir name))
link_is number dir bytes rest place (Some name) (Some target) is tells = rw (is, tells) (path_and number target (resolved dir name))

link_any : (number : ℕ) (dir : Names) (bytes : ℕ) (rest : List ℕ) (place : Option ℕ) → IsShownAs number dir (link_names bytes rest place) (link_shown number dir rest place)
unfolding link_names link_shown
link_any number dir bytes rest None = inl refl
link_any number dir bytes rest (Some place) = link_is number dir bytes rest place (name_of (take place rest)) (target_of (drop (place + 4) rest)) refl refl

names_alike : (number : ℕ) (dir : Names) (kind : Kind) (bytes : ℕ) (rest : List ℕ) → IsShownAs number dir (names_in kind bytes rest) (shown number dir kind rest)
unfolding names_in shown
names_alike number dir File bytes rest = plain_shown number dir bytes rest (name_of rest) refl
names_alike number dir Dir bytes rest = plain_shown number dir bytes rest (name_of rest) refl
names_alike number dir Link bytes rest = link_any number dir bytes rest (arrow_place rest)

-- a whole line, by its fields before the name
abbrev listed : Front → Result (List ℕ × List ℕ) LineFault → Result (ℕ × Line) LineFault
listed front names = names >>= λ names. Ok (front.mark, record { kind = front.kind; mode = front.mode; links = front.links; owner = front.owner; group = front.group; size = front.size; minute = front.minute; name = names.0; target = names.1 })

abbrev entry : List ℕ → ℕ → Front → Result (Names × List ℕ) BufferFault → Result BufferLine BufferFault
entry text place front names = names >>= λ names. Ok (Entry text place names.0 (record { kind = front.kind; mode = front.mode; target = names.1 }))

entry_found : (number : ℕ) (dir : Names) (text : List ℕ) (place : ℕ) (front : Front) (name target : List ℕ) (found : Result Names NameError) (read : Result (Names × List ℕ) BufferFault) → resolved dir name ≡ found → IsPathOf number target found read → IsReadAs number dir text (listed front (Ok (name, target))) (entry text place front read)
entry_found number dir text place front name target (Ok path) read is reads = rw (is, reads) (place, refl)
entry_found number dir text place front name target (Err e) read is reads = rw (is, reads) refl

line_alike : (number : ℕ) (dir : Names) (text : List ℕ) (place : ℕ) (front : Front) (names : Result (List ℕ × List ℕ) LineFault) (read : Result (Names × List ℕ) BufferFault) → IsShownAs number dir names read → IsReadAs number dir text (listed front names) (entry text place front read)
line_alike number dir text place front (Ok names) read alike = entry_found number dir text place front names.0 names.1 (resolved dir names.0) read refl alike
line_alike number dir text place front (Err (line_fault.Bad bad at)) read (inl same) = rw same (inl refl)
line_alike number dir text place front (Err (line_fault.Bad bad at)) read (inr other) = rw other.1 (inr (other.0, refl))
line_alike number dir text place front (Err line_fault.Memory) read alike = rw alike refl

behind_alike : (number : ℕ) (dir : Names) (text : List ℕ) (front : Front) (rest : Option (List ℕ)) → IsReadAs number dir text (or_bad_field field.Name (length text) front.rest rest >>= λ rest. listed front (names_in front.kind (length text) rest)) (or_bad number (cause.Line field.Name) rest >>= λ rest. entry text (length text - length rest) front (shown number dir front.kind rest))
behind_alike number dir text front None = inl refl
behind_alike number dir text front (Some rest) = line_alike number dir text (length text - length rest) front (names_in front.kind (length text) rest) (shown number dir front.kind rest) (names_alike number dir front.kind (length text) rest)

fronts_alike : (number : ℕ) (dir : Names) (text : List ℕ) (fronts : Result Front LineFault) → IsReadAs number dir text (fronts >>= λ front. or_bad_field field.Name (length text) front.rest (behind_space front.rest) >>= λ rest. listed front (names_in front.kind (length text) rest)) (at_line number fronts >>= λ front. or_bad number (cause.Line field.Name) (behind_space front.rest) >>= λ rest. entry text (length text - length rest) front (shown number dir front.kind rest))
fronts_alike number dir text (Ok front) = behind_alike number dir text front (behind_space front.rest)
fronts_alike number dir text (Err (line_fault.Bad bad place)) = inl refl
fronts_alike number dir text (Err line_fault.Memory) = refl

pub entries_alike : (number : ℕ) (dir : Names) (text : List ℕ) → IsReadAs number dir text (line_of text) (entry_of number dir text)
unfolding line_of entry_of
entries_alike number dir text = fronts_alike number dir text (front_of text)
