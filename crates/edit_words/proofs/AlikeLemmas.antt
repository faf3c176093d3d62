-- What is made of a list by functions that are alike at each of its elements.
use Rattle.std.proofs.Common.{◌≡◌, ℕ, ◌+◌, Bool, cond, List, [], ◌∷◌, ◌++◌, filter, refl, ◌∙◌, ap, Option, Some, Contains, option_map}
use Rattle.std.specs.List.{find, flat_map}
use Rattle.std.specs.Option.{option_or}
use Rattle.edit_words.specs.declared.row.Row.{Row}
use Rattle.edit_words.specs.declared.fault.CheckFault.{CheckFault}
use Rattle.edit_words.specs.Rows.{line_where}
use Rattle.edit_words.specs.Refusals.{first_fault, total}
use Rattle.edit_words.proofs.FindLemmas.{contains_head, contains_tail}

pub find_alike : {X : Type 0} (f g : X → Bool) (xs : List X) → ((x : X) → Contains xs x → f x ≡ g x) → find f xs ≡ find g xs
find_alike f g [] same = refl
find_alike f g (x ∷ xs) same =
    ap (λ b. cond b (Some x) (find f xs)) (same x (contains_head x xs))
    ∙ ap (λ o. cond (g x) (Some x) o) (find_alike f g xs (λ y c. same y (contains_tail x y xs c)))

pub line_where_alike : (f g : Row → Bool) (rs : List Row) → ((r : Row) → Contains rs r → f r ≡ g r) → line_where f rs ≡ line_where g rs
line_where_alike f g rs same = ap (option_map (λ (r : Row). r.line)) (find_alike f g rs same)

pub filter_alike : {X : Type 0} (f g : X → Bool) (xs : List X) → ((x : X) → Contains xs x → f x ≡ g x) → filter f xs ≡ filter g xs
filter_alike f g [] same = refl
filter_alike f g (x ∷ xs) same =
    ap (λ b. cond b (x ∷ filter f xs) (filter f xs)) (same x (contains_head x xs))
    ∙ ap (λ ys. cond (g x) (x ∷ ys) ys) (filter_alike f g xs (λ y c. same y (contains_tail x y xs c)))

pub flat_map_alike : {X Y : Type 0} (f g : X → List Y) (xs : List X) → ((x : X) → Contains xs x → f x ≡ g x) → flat_map f xs ≡ flat_map g xs
flat_map_alike f g [] same = refl
flat_map_alike f g (x ∷ xs) same =
    ap (λ ys. ys ++ flat_map f xs) (same x (contains_head x xs))
    ∙ ap (λ ys. g x ++ ys) (flat_map_alike f g xs (λ y c. same y (contains_tail x y xs c)))

pub total_alike : {X : Type 0} (f g : X → ℕ) (xs : List X) → ((x : X) → Contains xs x → f x ≡ g x) → total f xs ≡ total g xs
total_alike f g [] same = refl
total_alike f g (x ∷ xs) same =
    ap (λ n. n + total f xs) (same x (contains_head x xs))
    ∙ ap (λ n. g x + n) (total_alike f g xs (λ y c. same y (contains_tail x y xs c)))

pub fault_alike : (f g : Row → Option CheckFault) (rs : List Row) → ((r : Row) → Contains rs r → f r ≡ g r) → first_fault f rs ≡ first_fault g rs
fault_alike f g [] same = refl
fault_alike f g (r ∷ rs) same =
    ap (λ o. option_or o (first_fault f rs)) (same r (contains_head r rs))
    ∙ ap (λ o. option_or (g r) o) (fault_alike f g rs (λ y c. same y (contains_tail r y rs c)))
