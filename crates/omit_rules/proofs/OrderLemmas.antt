-- The order of keys, as maps and as tables have it.
use Rattle.std.proofs.Common.{◌≡◌, List, [], ◌∷◌, Less, String, Global, string_bytes, nat_cmp}
use Rattle.std.specs.Cmp.Lexicographic.{slice_cmp}
use Rattle.std.specs.List.{AllByRecursion}
use Rattle.std.specs.List.Sorted.{IsStrictlySortedBy}
use Rattle.std.specs.Map.{keys_of as map_keys}
use Rattle.std.specs.String.{string_cmp}
use Rattle.toml.specs.View.{members_view}
use Rattle.toml.specs.declared.value.Value.{Value}
use Rattle.omit_rules.specs.Tables.{keys_of}

abbrev Entry : Type 0
Entry = String Global × Value

below : (key : String Global) (es : List Entry) → AllByRecursion (λ other. string_cmp key other ≡ Less) (map_keys es)
    → AllByRecursion (λ other. slice_cmp nat_cmp (string_bytes key) other ≡ Less) (keys_of (members_view es))
below key [] all = tt
below key (e ∷ es) all = (all.0, below key es all.1)

-- keys that ascend in a map ascend in the table that it stands for
pub keys-ascend : (es : List Entry) → IsStrictlySortedBy string_cmp (map_keys es) → IsStrictlySortedBy (slice_cmp nat_cmp) (keys_of (members_view es))
unfolding IsStrictlySortedBy
keys-ascend [] all = tt
keys-ascend (e ∷ es) all = (below e.0 es all.0, keys-ascend es all.1)
