-- Which changes are refused, and by which fault: the first of the list below, at its least line.
use Rattle.std.specs.Prelude.{ℕ, ◌==◌, ◌+◌, nat_lt, Bool, true, false, List, [], ◌∷◌, filter, Option, Some, None, if◌then◌else◌, is_some, not, ◌&&◌, ◌||◌, codes}
use Rattle.std.specs.List.{list_any, find}
use Rattle.std.specs.Option.{option_map, option_or}
use Rattle.std.specs.Str.{bytes_eq}
use Rattle.dired_text.specs.Paths.{Names, is_below, path_bytes, max_path_bytes}
use Rattle.tree_core.specs.declared.node.Kind.{Kind}
use Rattle.tree_core.specs.declared.node.Kind.TheVariants as kind
use Rattle.tree_core.specs.declared.edit.Shown.{Shown}
use Rattle.tree_core.specs.declared.changes.Confirmed.{Confirmed}
use Rattle.edit_words.specs.declared.row.Row.{Row}
use Rattle.edit_words.specs.declared.seen.Seen.{Seen}
use Rattle.edit_words.specs.declared.seen.Seen.TheVariants.{Dir, Link, File}
use Rattle.edit_words.specs.declared.fault.CheckFault.{CheckFault}
use Rattle.edit_words.specs.declared.fault.CheckFault.TheVariants.{Pending, Stale, Reserved, TwoToOne, ModeClash, ParentNotDirectory, MovedParent, ParentTaken, PathTooLong, TargetIsDirectory, NotEmpty, Unconfirmed, PathBytes}
use Rattle.edit_words.specs.Place.{place, is_above, ancestors}
use Rattle.edit_words.specs.Rows.{is_same_path, is_source, written, is_elsewhere, route_of, line_where}
use Rattle.edit_words.specs.Sight.{Sight, is_dir, is_other, number_at}

-- the staging directory of a commit
abbrev pub staging : Names
staging = codes ".wdired-commit" ∷ []

-- the most bytes that the paths of changes may have
abbrev pub max_changed_bytes : ℕ
max_changed_bytes = 67108864

-- the fault of the first row that a rule refuses
abbrev pub first_fault : (Row → Option CheckFault) → List Row → Option CheckFault
first_fault rule [] = None
first_fault rule (r ∷ rs) = option_or (rule r) (first_fault rule rs)

abbrev pub fault_if : Bool → CheckFault → Option CheckFault
fault_if b fault = if b then Some fault else None

-- ---- A line shows what doesn't stand there.

abbrev pub is_dir_shown : Kind → Bool
is_dir_shown kind.Dir = true
is_dir_shown kind.File = false
is_dir_shown kind.Link = false

abbrev pub is_link_shown : Kind → Bool
is_link_shown kind.Link = true
is_link_shown kind.File = false
is_link_shown kind.Dir = false

abbrev pub is_file_shown : Kind → Bool
is_file_shown kind.File = true
is_file_shown kind.Dir = false
is_file_shown kind.Link = false

-- of the same kind, as a link with the same target, else of the same mode
abbrev pub is_as_shown : Shown → Option Seen → Bool
is_as_shown was None = false
is_as_shown was (Some (Dir mode)) = is_dir_shown was.kind && mode == was.mode
is_as_shown was (Some (Link target)) = is_link_shown was.kind && bytes_eq target was.target
is_as_shown was (Some (File number mode)) = is_file_shown was.kind && mode == was.mode

abbrev pub is_stale_at : Sight → Option Names → Option Shown → Bool
is_stale_at sight None was = false
is_stale_at sight (Some source) None = false
is_stale_at sight (Some source) (Some was) = not (is_as_shown was (sight.at source))

abbrev pub stale : Sight → Row → Option CheckFault
stale sight r = fault_if (is_stale_at sight r.source r.was) (Stale r.line)

-- ---- Lines that can't stand together.

abbrev pub is_staged_at : Option Names → Bool
is_staged_at None = false
is_staged_at (Some p) = is_below staging p

-- a path of the staging directory
abbrev pub reserved : Row → Option CheckFault
reserved r = fault_if (is_staged_at r.source || is_staged_at r.to) (Reserved r.line)

-- another line with the same written path
abbrev pub two_to_one : List Row → Row → Option CheckFault
two_to_one rs r = option_map (TwoToOne r.line) (line_where (λ (o : Row). not (o.line == r.line) && is_same_path (written r) (written o)) rs)

abbrev pub are_same : Option ℕ → Option ℕ → Bool
are_same None n = false
are_same (Some m) None = false
are_same (Some m) (Some n) = m == n

abbrev pub differ : Option ℕ → Option ℕ → Bool
differ None n = false
differ (Some m) None = false
differ (Some m) (Some n) = not (m == n)

-- another line with another mode for the same file
abbrev pub mode_clash : Sight → List Row → Row → Option CheckFault
mode_clash sight rs r = option_map (ModeClash r.line) (line_where (λ (o : Row). are_same (number_at sight r.source) (number_at sight o.source) && differ r.mode o.mode) rs)

-- something above the written path that isn't a directory
abbrev pub parent_not_directory : Sight → Row → Option CheckFault
parent_not_directory sight r = option_map (ParentNotDirectory r.line) (find (λ (p : Names). is_other (sight.at p)) (ancestors (written r)))

abbrev pub is_mover_above : Names → Option Names → Option Names → Bool
is_mover_above w None to = false
is_mover_above w (Some source) None = false
is_mover_above w (Some source) (Some to) = is_above source w

-- a line, maybe this one, that moves a directory above the written path
abbrev pub moved_parent : List Row → Row → Option CheckFault
moved_parent rs r = option_map (MovedParent r.line) (line_where (λ (o : Row). is_mover_above (written r) o.source o.to) rs)

-- a line that writes a missing directory above the written path
abbrev pub parent_taken : Sight → List Row → Row → Option CheckFault
parent_taken sight rs r = option_map (ParentTaken r.line) (line_where (λ (o : Row). is_above (written o) (written r) && not (is_some (sight.at (written o)))) rs)

abbrev pub is_too_long_at : List Row → Option Names → Bool
is_too_long_at rs None = false
is_too_long_at rs (Some source) = nat_lt max_path_bytes (path_bytes (place (route_of rs) source))

-- a new place of more than 4,095 bytes
abbrev pub path_too_long : List Row → Row → Option CheckFault
path_too_long rs r = fault_if (is_too_long_at rs r.source) (PathTooLong r.line)

-- of what stands above an elsewhere written path
abbrev pub parents : Sight → List Row → Row → Option CheckFault
parents sight rs r =
    if is_elsewhere r then option_or (parent_not_directory sight r) (option_or (moved_parent rs r) (parent_taken sight rs r))
    else None

-- the lowest of these faults
abbrev pub across : Sight → List Row → Row → Option CheckFault
across sight rs r = option_or (reserved r) (option_or (two_to_one rs r) (option_or (mode_clash sight rs r) (option_or (parents sight rs r) (path_too_long rs r))))

-- ---- What would be replaced or removed.

-- the victim of a new path: what stands there, where it is the source of no change
abbrev pub victim_at : Sight → List Row → Option Names → Option Names
victim_at sight rs None = None
victim_at sight rs (Some p) = if is_some (sight.at p) && not (is_source rs p) then Some p else None

abbrev pub victim_of : Sight → List Row → Row → Option Names
victim_of sight rs r = victim_at sight rs r.to

abbrev pub if_dir : Sight → Names → Option Names
if_dir sight p = if is_dir (sight.at p) then Some p else None

abbrev pub then_at : {A B : Type 0} → Option A → (A → Option B) → Option B
then_at None f = None
then_at (Some a) f = f a

abbrev pub directory_replaced : Sight → List Row → Row → Option CheckFault
directory_replaced sight rs r = option_map (TargetIsDirectory r.line) (then_at (victim_of sight rs r) (if_dir sight))

abbrev pub if_full : Sight → Names → Option Names
if_full sight p = if is_dir (sight.at p) && not (sight.is_empty p) then Some p else None

abbrev pub not_empty : Sight → Row → Option CheckFault
not_empty sight r = if r.removes then option_map (NotEmpty r.line) (then_at r.source (if_full sight)) else None

abbrev pub is_confirmed : Confirmed → Names → Bool
is_confirmed confirmed p = confirmed.all || list_any (is_same_path p) confirmed.paths

abbrev pub if_unconfirmed : Confirmed → Names → Option Names
if_unconfirmed confirmed p = if is_confirmed confirmed p then None else Some p

abbrev pub unconfirmed : Sight → Confirmed → List Row → Row → Option CheckFault
unconfirmed sight confirmed rs r = option_map (Unconfirmed r.line) (then_at (victim_of sight rs r) (if_unconfirmed confirmed))

-- ---- The bytes of the paths.

abbrev pub total : {A : Type 0} → (A → ℕ) → List A → ℕ
total f [] = 0
total f (x ∷ xs) = f x + total f xs

-- the directories that have to be made for a row
abbrev pub missing_above : Sight → Row → List Names
missing_above sight r = if is_elsewhere r then filter (λ (p : Names). not (is_some (sight.at p))) (ancestors (written r)) else []

-- source, written path and new place of an edit; the one path of a removal or a creation
abbrev pub own_bytes_by : List Row → Names → Bool → Option Names → ℕ
own_bytes_by rs w true source = path_bytes w
own_bytes_by rs w false None = path_bytes w
own_bytes_by rs w false (Some source) = path_bytes source + path_bytes w + path_bytes (place (route_of rs) source)

abbrev pub own_bytes : List Row → Row → ℕ
own_bytes rs r = own_bytes_by rs (written r) r.removes r.source

abbrev pub row_bytes : Sight → List Row → Row → ℕ
row_bytes sight rs r = own_bytes rs r + total path_bytes (missing_above sight r)

abbrev pub changed_bytes : Sight → List Row → ℕ
changed_bytes sight rs = total (row_bytes sight rs) rs

abbrev pub too_many_bytes : ℕ → Option CheckFault
too_many_bytes bytes = fault_if (nat_lt max_changed_bytes bytes) (PathBytes bytes)

-- ---- The whole.

-- the faults that no confirmation changes
abbrev pub ill_formed : Sight → List Row → Option CheckFault
ill_formed sight rs =
    option_or (fault_if (is_some (sight.at staging)) Pending)
    (option_or (first_fault (stale sight) rs)
    (option_or (first_fault (across sight rs) rs)
    (option_or (first_fault (directory_replaced sight rs) rs)
    (first_fault (not_empty sight) rs))))

abbrev pub refusal : Sight → Confirmed → List Row → Option CheckFault
refusal sight confirmed rs =
    option_or (ill_formed sight rs)
    (option_or (first_fault (unconfirmed sight confirmed rs) rs)
    (too_many_bytes (changed_bytes sight rs)))
