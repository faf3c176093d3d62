-- Places in lists.
use Rattle.std.proofs.Common.{◌≡◌, ℕ, ◌+◌, ◌-◌, ◌<◌, Bool, true, false, not, ◌&&◌, List, [], ◌∷◌, zero, suc, length, get_or, take, drop, cond, nat_lt, Option, Some, None, is_some, refl, sym, ◌∙◌, ap, arith, length-drop}
use Rattle.std.specs.Prelude.{is_none}
use Rattle.std.specs.List.{find, position, position_or_len, slice_get}
use Rattle.std.specs.Option.{option_map, option_or}
use Rattle.std.proofs.lemmas.Bool.Decides.{nat_tests}
use Rattle.std.proofs.lemmas.List.Folds.{find_at}
use Rattle.std.proofs.lemmas.List.Quantifiers.{position-Some}
use Rattle.staging_names.specs.declared.standing.Found as found
use Rattle.staging_names.specs.declared.staged_name.StagedName.TheVariants.{Other}
use Rattle.staging_names.specs.Tests.{behind_place, fits, foreign_place, is_journal, is_marker, journal_of, of_two_journals, second_marker, second_position, unfit, unmarked, marker_of, wants_marker}

some_same : (m n : ℕ) → Some m ≡ Some n → m ≡ n
some_same m n e = cc

lt_is : (m n : ℕ) → nat_lt m n ≡ true → m < n
lt_is m n e = grind (arith, nat_tests)

-- ---- what stands at the first place

get_is : {X : Type 0} (xs : List X) (i : ℕ) (d : X) → i < length xs → slice_get xs i ≡ Some (get_or xs i d)
get_is [] i d lt = absurd (omega arith)
get_is (x ∷ xs) zero d lt = refl
get_is (x ∷ xs) (suc i) d lt = get_is xs i d (omega arith)

placed_by : {X : Type 0} (p : X → Bool) (xs : List X) (d : X) (i : ℕ) (b : Bool) → nat_lt (position_or_len p xs) (length xs) ≡ b → cond b (Some (position_or_len p xs)) None ≡ Some i → find p xs ≡ Some (get_or xs i d)
placed_by p xs d i true lt e =
    let same : position_or_len p xs ≡ i = some_same (position_or_len p xs) i e in
    let within : position_or_len p xs < length xs = lt_is (position_or_len p xs) (length xs) lt in
    find_at p xs ∙ ap (slice_get xs) same ∙ get_is xs i d (omega arith)
placed_by p xs d i false lt e = cc

pub placed : {X : Type 0} (p : X → Bool) (xs : List X) (d : X) (i : ℕ) → position p xs ≡ Some i → find p xs ≡ Some (get_or xs i d)
placed p xs d i e = placed_by p xs d i (nat_lt (position_or_len p xs) (length xs)) refl e

-- ---- the second place

pub no_first_place : {X : Type 0} (p : X → Bool) (xs : List X) → position p xs ≡ None → second_position p xs ≡ None
no_first_place p xs e = ap (behind_place p xs) e

pub no_second_place : {X : Type 0} (p : X → Bool) (xs : List X) (i : ℕ) → position p xs ≡ Some i → position p (drop (i + 1) xs) ≡ None → second_position p xs ≡ None
no_second_place p xs i first none = ap (behind_place p xs) first ∙ ap (option_map (λ (j : ℕ). i + 1 + j)) none

pub second_place : {X : Type 0} (p : X → Bool) (xs : List X) (i j : ℕ) → position p xs ≡ Some i → position p (drop (i + 1) xs) ≡ Some j → second_position p xs ≡ Some (i + 1 + j)
second_place p xs i j first second = ap (behind_place p xs) first ∙ ap (option_map (λ (k : ℕ). i + 1 + k)) second

-- ---- places are within the list

pub position_within : {X : Type 0} (p : X → Bool) (xs : List X) (d : X) (i : ℕ) → position p xs ≡ Some i → i < length xs
position_within p xs d i e = (position-Some p xs i d e).0

second_within : {X : Type 0} (p : X → Bool) (xs : List X) (d : X) (i : ℕ) (o : Option ℕ) → behind_place p xs o ≡ Some i → i < length xs
second_within p xs d i None e = cc
second_within p xs d i (Some first) e = by_second (position p (drop (first + 1) xs)) refl e
  where
    by_second : (o : Option ℕ) → position p (drop (first + 1) xs) ≡ o → option_map (λ (j : ℕ). first + 1 + j) o ≡ Some i → i < length xs
    by_second None place is = cc
    by_second (Some j) place is =
        let same : first + 1 + j ≡ i = some_same (first + 1 + j) i is in
        let within : j < length (drop (first + 1) xs) = position_within p (drop (first + 1) xs) d j place in
        let rest : length (drop (first + 1) xs) ≡ length xs - (first + 1) = length-drop (first + 1) xs in
        omega arith

option_either : (P : ℕ → Type 0) (a b : Option ℕ) (i : ℕ) → (a ≡ Some i → P i) → (b ≡ Some i → P i) → option_or a b ≡ Some i → P i
option_either P None b i left right e = right e
option_either P (Some n) b i left right e = left e

where_some : (P : ℕ → Type 0) (b : Bool) (o : Option ℕ) (i : ℕ) → (o ≡ Some i → P i) → cond b o None ≡ Some i → P i
where_some P true o i h e = h e
where_some P false o i h e = cc

pub foreign_within : (fs : List found.Found) (i : ℕ) → foreign_place fs ≡ Some i → i < length fs
unfolding foreign_place
foreign_within fs i e =
    let d : found.Found = record { name = Other; kind = None; is_empty = false } in
    let P : ℕ → Type 0 = λ k. k < length fs in
    option_either P (of_two_journals fs) (option_or (unfit fs) (option_or (second_marker fs) (unmarked fs))) i
    (where_some P (is_some (second_position is_journal fs)) (position is_journal fs) i (position_within is_journal fs d i))
    (option_either P (unfit fs) (option_or (second_marker fs) (unmarked fs)) i
    (position_within (λ f. not (fits (journal_of fs) f)) fs d i)
    (option_either P (second_marker fs) (unmarked fs) i
    (second_within is_marker fs d i (position is_marker fs))
    (where_some P (wants_marker (journal_of fs) && is_none (marker_of fs)) (position is_journal fs) i (position_within is_journal fs d i)))) e

-- ---- a list from a place on, as a slice shows it

all_taken : {X : Type 0} (xs : List X) → take (length xs) xs ≡ xs
all_taken [] = refl
all_taken (x ∷ xs) = ap (λ l. x ∷ l) (all_taken xs)

pub whole_rest : {X : Type 0} (xs : List X) (k : ℕ) → take (length xs - k) (drop k xs) ≡ drop k xs
whole_rest xs k = ap (λ (n : ℕ). take n (drop k xs)) (sym (length-drop k xs)) ∙ all_taken (drop k xs)
