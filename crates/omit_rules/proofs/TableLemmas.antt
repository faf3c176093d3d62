-- Tables and arrays, as code and as definitions hold them.
use Rattle.std.proofs.Common.{◌≡◌, ◌&&◌, List, [], ◌∷◌, map, refl, ap, String, Global, string_bytes}
use Rattle.std.specs.List.{list_all}
use Rattle.toml.specs.Data.{Data}
use Rattle.toml.specs.View.{view, items_view, members_view, items_of as items_from}
use Rattle.toml.specs.declared.value.Value.{Value}
use Rattle.omit_rules.specs.Faults.{is_text}
use Rattle.omit_rules.specs.Tables.{keys_of, items_list}

-- the keys of a table as its map holds them
pub keys-seen : (es : List (String Global × Value)) → keys_of (members_view es) ≡ map string_bytes (map (λ e. e.0) es)
keys-seen [] = refl
keys-seen (e ∷ es) = ap (λ ks. string_bytes e.0 ∷ ks) (keys-seen es)

-- the items of an array as its list holds them
pub items-seen : (ds : List Data) → items_list (items_from ds) ≡ ds
items-seen [] = refl
items-seen (d ∷ ds) = ap (λ es. d ∷ es) (items-seen ds)

-- whether the items of an array are texts
pub texts-seen : (vs : List Value) → list_all (λ v. is_text (view v)) vs ≡ list_all is_text (items_list (items_view vs))
texts-seen [] = refl
texts-seen (v ∷ vs) = ap (λ b. is_text (view v) && b) (texts-seen vs)
