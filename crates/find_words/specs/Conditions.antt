-- The conditions that a predicate is made of (POSIX, "find").
use Rattle.std.specs.Prelude.{ℕ, ◌==◌, Bool, true, false, nat_lt, List, ℤ, pos, ◌-ℤ◌, int_lt}
use Rattle.std.specs.Int.{w64, saturate_signed, int_div_euclid, div_ceil}
use Rattle.std.specs.Int.Bits.{bit_and}
use Rattle.std.specs.Ordering.{int_eq}
use Rattle.tree_core.specs.declared.node.Kind.{Kind}
use Rattle.tree_core.specs.declared.node.Kind.TheVariants as kind
use Rattle.tree_core.specs.declared.meta.Meta.{Meta}
use Rattle.find_words.specs.declared.conditions.Bound.{Bound}
use Rattle.find_words.specs.declared.conditions.Bound.TheVariants.{Exactly, MoreThan, LessThan}
use Rattle.find_words.specs.declared.conditions.Condition.{Condition}
use Rattle.find_words.specs.declared.conditions.Condition.TheVariants.{Name, OfKind, Blocks, Bytes, Days, ModeIs, ModeHas, Links}
use Rattle.name_patterns.specs.Patterns.{matches}

abbrev pub is_kind : Kind → Kind → Bool
is_kind kind.File kind.File = true
is_kind kind.File kind.Dir = false
is_kind kind.File kind.Link = false
is_kind kind.Dir kind.File = false
is_kind kind.Dir kind.Dir = true
is_kind kind.Dir kind.Link = false
is_kind kind.Link kind.File = false
is_kind kind.Link kind.Dir = false
is_kind kind.Link kind.Link = true

abbrev pub meets : Bound → ℕ → Bool
meets (Exactly n) number = number == n
meets (MoreThan n) number = nat_lt n number
meets (LessThan n) number = nat_lt number n

-- the whole days between two moments, rounded down; the difference in seconds stops at the ends of 64 bits
abbrev pub days_since : ℤ → ℤ → ℤ
days_since now mtime = int_div_euclid (saturate_signed w64 (now -ℤ mtime)) (pos 86_400)

abbrev pub days_meet : Bound → ℤ → Bool
days_meet (Exactly n) days = int_eq days (pos n)
days_meet (MoreThan n) days = int_lt (pos n) days
days_meet (LessThan n) days = int_lt days (pos n)

-- whether a condition holds of a file of this last name and these fields at a moment in seconds since 1970
abbrev pub holds : ℤ → List ℕ → Meta → Condition → Bool
holds now name meta (Name pattern) = matches pattern name
holds now name meta (OfKind own) = is_kind meta.kind own
holds now name meta (Blocks bound) = meets bound (div_ceil meta.size 512)
holds now name meta (Bytes bound) = meets bound meta.size
holds now name meta (Days bound) = days_meet bound (days_since now meta.mtime)
holds now name meta (ModeIs bits) = meta.mode == bits
holds now name meta (ModeHas bits) = bit_and meta.mode bits == bits
holds now name meta (Links bound) = meets bound meta.links
