-- Digits, and the places of a text where `.~N~` may stand.
use Rattle.std.proofs.Common.{◌≡◌, ℕ, zero, suc, ◌+◌, ◌-◌, ◌^◌, ◌<◌, ◌≤◌, Bool, true, false, ◌&&◌, List, [], ◌∷◌, ◌++◌, length, take, drop, get_or, refl, sym, ◌∙◌, ap, Option, Some, None, arith, append_assoc, lit<, add-one, length-drop}
use Rattle.std.specs.List.{list_all}
use Rattle.std.specs.Option.{option_map}
use Rattle.std.specs.Char.{digit_value}
use Rattle.std.specs.Str.Parse.{digits_value, AllDigits}
use Rattle.std.proofs.lemmas.Bool.Decides.{nat_tests}
use Rattle.std.proofs.lemmas.Int.Digits.{digits_value-lt}
use Rattle.std.proofs.lemmas.List.{length-take-le, append-nil, take_more, take_all}
use Rattle.std.proofs.Math.Seq.{drop-cons}
use Rattle.std.proofs.Math.Nat.{pow-le-pow_right}
use Rattle.mark_table.specs.Versions.{is_digit, number_in, found, version_in}

pub and_both : (a b : Bool) → (a && b) ≡ true → (a ≡ true) × (b ≡ true)
and_both true b e = (refl, e)
and_both false b e = cc

digit_bounds : (c : ℕ) → is_digit c ≡ true → (48 ≤ c) × (c ≤ 57)
digit_bounds c e = grind (arith, nat_tests)

digit_is : (c : ℕ) → 48 ≤ c → c ≤ 57 → digit_value c ≡ c - 48
digit_is c low high = grind (arith, nat_tests)

pub digit_at : (ds : List ℕ) (i : ℕ) → list_all is_digit ds ≡ true → i < length ds → (48 ≤ get_or ds i 0) × (get_or ds i 0 ≤ 57)
digit_at [] i all within = absurd (omega arith)
digit_at (d ∷ ds) zero all within = digit_bounds d (and_both (is_digit d) _ all).0
digit_at (d ∷ ds) (suc i) all within = digit_at ds i (and_both (is_digit d) _ all).1 (omega arith)

pub digit_value_at : (ds : List ℕ) (i : ℕ) → list_all is_digit ds ≡ true → i < length ds → digit_value (get_or ds i 0) ≡ get_or ds i 0 - 48
digit_value_at ds i all within = let b = digit_at ds i all within in digit_is _ b.0 b.1

pub all_digits : (ds : List ℕ) → list_all is_digit ds ≡ true → AllDigits 10 ds
all_digits [] all = tt
all_digits (d ∷ ds) all =
    let parts = and_both (is_digit d) (list_all is_digit ds) all in
    let b = digit_bounds d parts.0 in
    let v : digit_value d ≡ d - 48 = digit_is d b.0 b.1 in
    (omega (arith, v, b.0, b.1), all_digits ds parts.1)

all_digits-take : (i : ℕ) (ds : List ℕ) → AllDigits 10 ds → AllDigits 10 (take i ds)
all_digits-take zero ds all = tt
all_digits-take (suc i) [] all = tt
all_digits-take (suc i) (d ∷ ds) all = (all.0, all_digits-take i ds all.1)

-- what is read of at most 18 digits before the last is small
pub value_small : (ds : List ℕ) (i : ℕ) → list_all is_digit ds ≡ true → length ds ≤ 18 → i < length ds → digits_value 10 (take i ds) < 100_000_000_000_000_000
value_small ds i all short within =
    let below : digits_value 10 (take i ds) < 10 ^ length (take i ds) = digits_value-lt 10 (take i ds) (all_digits-take i ds (all_digits ds all)) in
    let len : length (take i ds) ≡ i = length-take-le i ds (omega arith) in
    let most : 10 ^ length (take i ds) ≤ 10 ^ 17 = pow-le-pow_right {n = 10} (lit< tt) {i = length (take i ds)} {j = 17} (omega arith) in
    omega arith

-- ---- the scan

rest_at : (t : List ℕ) (i : ℕ) → i < length t → drop i t ≡ get_or t i 0 ∷ drop (i + 1) t
rest_at t i within = drop-cons t i 0 within ∙ ap (λ (n : ℕ). get_or t i 0 ∷ drop n t) (sym (add-one i))

abbrev pub behind : List ℕ → Option (List ℕ × ℕ) → Option (List ℕ × ℕ)
behind front o = option_map (λ v. (front ++ v.0, v.1)) o

behind_nothing : (o : Option (List ℕ × ℕ)) → behind [] o ≡ o
behind_nothing None = refl
behind_nothing (Some v) = refl

behind_more : (front : List ℕ) (b : ℕ) (o : Option (List ℕ × ℕ)) → behind front (option_map (λ v. (b ∷ v.0, v.1)) o) ≡ behind (front ++ b ∷ []) o
behind_more front b None = refl
behind_more front b (Some v) = ap (λ (s : List ℕ). Some (s, v.1)) (sym (append_assoc front (b ∷ []) v.0))

pub scan_goes_on : (t : List ℕ) (at : ℕ) → at < length t → version_in t ≡ behind (take at t) (version_in (drop at t)) → number_in (drop at t) ≡ None
    → version_in t ≡ behind (take (at + 1) t) (version_in (drop (at + 1) t))
scan_goes_on t at within so_far none =
    let b = get_or t at 0 in
    let rest : drop at t ≡ b ∷ drop (at + 1) t = rest_at t at within in
    let next : version_in (drop at t) ≡ option_map (λ v. (b ∷ v.0, v.1)) (version_in (drop (at + 1) t)) =
    ap version_in rest ∙ ap (λ o. found o b (version_in (drop (at + 1) t))) (sym (ap number_in rest) ∙ none) in
    so_far ∙ ap (behind (take at t)) next ∙ behind_more (take at t) b (version_in (drop (at + 1) t))
    ∙ ap (λ (f : List ℕ). behind f (version_in (drop (at + 1) t))) (sym (take_more t at 0 within))

pub scan_finds : (t : List ℕ) (at n : ℕ) → at < length t → version_in t ≡ behind (take at t) (version_in (drop at t)) → number_in (drop at t) ≡ Some n
    → version_in t ≡ Some (take at t, n)
scan_finds t at n within so_far some =
    let b = get_or t at 0 in
    let rest : drop at t ≡ b ∷ drop (at + 1) t = rest_at t at within in
    let here : version_in (drop at t) ≡ Some ([], n) =
    ap version_in rest ∙ ap (λ o. found o b (version_in (drop (at + 1) t))) (sym (ap number_in rest) ∙ some) in
    so_far ∙ ap (behind (take at t)) here ∙ ap (λ (s : List ℕ). Some (s, n)) (append-nil (take at t))

pub to_the_end : (t : List ℕ) (at : ℕ) → take (length t - at) (drop at t) ≡ drop at t
to_the_end t at = take_all (length t - at) (drop at t) (let e : length (drop at t) ≡ length t - at = length-drop at t in omega arith)
