-- The numeric backups to remove when some of the oldest and some of the newest are kept (GNU Emacs Manual, "Deletion of
-- Backups").
use Rattle.std.specs.Prelude.{ℕ, Bool, false, ◌&&◌, ◌==◌, if◌then◌else◌, nat_le, nat_lt, List, [], ◌∷◌, length, map, filter, Option, Some, None}
use Rattle.std.specs.FinMap.{FinMap, empty, insert, entries, keys}
use Rattle.std.specs.Option.{option_or}
use Rattle.std.specs.Ordering.{nat_cmp, ordering_then}
use Rattle.std.specs.declared.cmp.Ordering.{Ordering}
use Rattle.std.specs.Cmp.Lexicographic.{slice_cmp}
use Rattle.std.specs.Str.{bytes_eq}
use Rattle.dired_text.specs.Paths.{Names, joined}
use Rattle.mark_table.specs.declared.version.Version.{Version}
use Rattle.mark_table.specs.Versions.{version_in}

-- by stem, and then by number
abbrev pub version_cmp : Version → Version → Ordering
version_cmp u v = ordering_then (slice_cmp nat_cmp u.stem v.stem) (nat_cmp u.number v.number)

-- the paths of numeric backups, by version
abbrev pub Versions : Type 0
Versions = FinMap version_cmp Names

abbrev pub with_backup : Option (List ℕ × ℕ) → Names → Versions → Versions
with_backup None p vs = vs
with_backup (Some v) p vs = insert vs (record { stem = v.0; number = v.1 }) p

-- with those among these paths. As a name has no `/`, the bytes before `.~N~` tell the directory and BASE.
abbrev pub with_backups : List Names → Versions → Versions
with_backups [] vs = vs
with_backups (p ∷ ps) vs = with_backups ps (with_backup (version_in (joined p)) p vs)

abbrev pub backups : List Names → Versions
backups shown = with_backups shown empty

-- how many of these versions are of the same file and older, by their number
abbrev pub older : List Version → Version → ℕ
older vs v = length (filter (λ (u : Version). bytes_eq u.stem v.stem && nat_lt u.number v.number) vs)

-- and newer
abbrev pub newer : List Version → Version → ℕ
newer vs v = length (filter (λ (u : Version). bytes_eq u.stem v.stem && nat_lt v.number u.number) vs)

-- whether it is neither among the first kept_old nor among the last kept_new of its file
abbrev pub is_excess : ℕ → ℕ → List Version → Version → Bool
is_excess kept_old kept_new vs v = nat_le kept_old (older vs v) && nat_le kept_new (newer vs v)

-- the paths of the excess backups, by directory with BASE, and then by number
abbrev pub excess : ℕ → ℕ → List Names → List Names
excess kept_old kept_new shown =
    let vs = backups shown in
    map (λ e. e.1) (filter (λ e. is_excess kept_old kept_new (keys vs) e.0) (entries vs))

-- whether a text, as it is read, is of this version
abbrev pub is_of : Version → Option (List ℕ × ℕ) → Bool
is_of v None = false
is_of v (Some w) = bytes_eq v.stem w.0 && v.number == w.1

-- the last of these paths that is of this version
abbrev pub path_of : List Names → Version → Option Names
path_of [] v = None
path_of (p ∷ ps) v = option_or (path_of ps v) (if is_of v (version_in (joined p)) then Some p else None)
