-- Values in a row.
use Rattle.std.proofs.Common.{◌≡◌, ℕ, ◌+◌, ◌<◌, List, [], ◌∷◌, ◌++◌, length, get_or, take, map, Option, Some, None, option_to_list, refl, sym, ◌∙◌, ap}
use Rattle.std.proofs.lemmas.List.{take_more, map-append}
use Rattle.std.proofs.lemmas.List.Elements.{filter_map-append}
use Rattle.std.specs.List.{filter_map, cons_option}
use Rattle.toml.specs.Data.{as_str}
use Rattle.toml.specs.View.{view}
use Rattle.toml.specs.declared.value.Value.{Value}

abbrev texts_of : List Value → List (List ℕ)
texts_of xs = filter_map as_str (map view xs)

one-text : (o : Option (List ℕ)) → cons_option o [] ≡ option_to_list o
one-text None = refl
one-text (Some t) = refl

texts-next : (xs : List Value) (i : ℕ) (d : Value) → i < length xs → texts_of (take (i + 1) xs) ≡ texts_of (take i xs) ++ option_to_list (as_str (view (get_or xs i d)))
texts-next xs i d h =
    ap texts_of (take_more xs i d h)
    ∙ ap (filter_map as_str) (map-append view (take i xs) (get_or xs i d ∷ []))
    ∙ filter_map-append as_str (map view (take i xs)) (view (get_or xs i d) ∷ [])
    ∙ ap (λ l. texts_of (take i xs) ++ l) (one-text (as_str (view (get_or xs i d))))

-- the texts among values, and one value more
pub texts-more : (xs : List Value) (i : ℕ) (d : Value) (texts : List (List ℕ)) (o : Option (List ℕ)) → i < length xs
    → texts ≡ filter_map as_str (map view (take i xs)) → d ≡ get_or xs i d → o ≡ as_str (view d)
    → texts ++ option_to_list o ≡ filter_map as_str (map view (take (i + 1) xs))
texts-more xs i d texts o h e is found =
    ap (λ t. t ++ option_to_list o) e
    ∙ ap (λ p. texts_of (take i xs) ++ option_to_list p) (found ∙ ap (λ x. as_str (view x)) is)
    ∙ sym (texts-next xs i d h)
