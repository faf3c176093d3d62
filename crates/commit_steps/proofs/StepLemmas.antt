-- The bytes of names, and where paths stand.
use Rattle.std.proofs.Common.{◌≡◌, ℕ, ◌+◌, ◌<◌, ◌≤◌, List, length, get_or, drop, ap, arith, length-append}
use Rattle.std.proofs.lemmas.List.{at_drop_more, at_drop_all}
use Rattle.dired_text.specs.Paths.{Names, slashed}

-- one name more, behind a slash
pub slashed-at : (names : Names) (i : ℕ) (n : List ℕ) → i < length names → n ≡ get_or names i n → length (slashed (drop i names)) ≡ 1 + length n + length (slashed (drop (i + 1) names))
slashed-at names i n within is =
    let here = at_drop_more (λ (p : Names). length (slashed p)) names i n within in
    let len = ap (λ (m : List ℕ). length m) is in
    let parts = length-append (get_or names i n) (slashed (drop (i + 1) names)) in
    omega arith

pub slashed-all : (names : Names) (i : ℕ) → length names ≤ i → length (slashed (drop i names)) ≡ 0
slashed-all names i past = at_drop_all (λ (p : Names). length (slashed p)) names i past
