-- The bytes and names of paths.
use Rattle.std.proofs.Common.{◌≡◌, ◌≤◌, ◌+◌, Bool, List, [], ◌∷◌, ◌++◌, filter, length, arith, length-append, None, Contains}
use Rattle.std.proofs.lemmas.List.Sums.{length-filter, count_by-le-length}
use Rattle.std.specs.List.{count_by}
use Rattle.dired_text.specs.Paths.{Names, slashed, path_bytes}
use Rattle.edit_words.specs.declared.row.Row.{Row}
use Rattle.edit_words.specs.Place.{ancestors}
use Rattle.edit_words.specs.Sight.{Sight}
use Rattle.edit_words.specs.Refusals.{first_fault, reserved, two_to_one, mode_clash, parents, path_too_long, across}
use Rattle.edit_words.proofs.FindLemmas.{or_none, fault_none}
use Rattle.edit_words.proofs.AncestorLemmas.{ancestors_counted}

slashed_counted : (p : Names) → length p ≤ length (slashed p)
slashed_counted [] = omega arith
slashed_counted (n ∷ p) =
    let rest : length p ≤ length (slashed p) = slashed_counted p in
    let both : length (n ++ slashed p) ≡ length n + length (slashed p) = length-append n (slashed p) in
    omega (arith, rest, both)

-- a path has at most one name more than bytes
pub names_counted : (p : Names) → length p ≤ path_bytes p + 1
names_counted [] = omega arith
names_counted (n ∷ p) =
    let rest : length p ≤ length (slashed p) = slashed_counted p in
    let both : length (n ++ slashed p) ≡ length n + length (slashed p) = length-append n (slashed p) in
    omega (arith, rest, both)

pub filtered_counted : {X : Type 0} (test : X → Bool) (xs : List X) → length (filter test xs) ≤ length xs
filtered_counted test xs =
    let kept : length (filter test xs) ≡ count_by test xs = length-filter test xs in
    let most : count_by test xs ≤ length xs = count_by-le-length test xs in
    omega (arith, kept, most)

-- at most 4,096 paths are above a path
pub few_above : (test : Names → Bool) (p : Names) → path_bytes p ≤ 4095 → length (filter test (ancestors p)) ≤ 4096
few_above test p short =
    let kept : length (filter test (ancestors p)) ≤ length (ancestors p) = filtered_counted test (ancestors p) in
    let all : length (ancestors p) ≡ length p = ancestors_counted p in
    let names : length p ≤ path_bytes p + 1 = names_counted p in
    omega (arith, kept, all, names, short)

-- no new place is too long where rows have no fault
pub short_rows : (sight : Sight) (rs : List Row) (r : Row) → first_fault (across sight rs) rs ≡ None → Contains rs r → path_too_long rs r ≡ None
short_rows sight rs r none listed =
    let whole : across sight rs r ≡ None = (fault_none (across sight rs) rs).0 none r listed in
    let modes = (or_none (reserved r) _).0 whole in
    let parent = (or_none (two_to_one rs r) _).0 modes.1 in
    let long = (or_none (mode_clash sight rs r) _).0 parent.1 in
    ((or_none (parents sight rs r) (path_too_long rs r)).0 long.1).1
