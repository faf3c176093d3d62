-- Paths of few names are not too long.
use Rattle.std.proofs.Common.{ℕ, ◌≤◌, nat_le, List, [], ◌∷◌, length, arith, IsTrue, not, ◌&&◌, length-append}
use Rattle.std.specs.List.{list_all}
use Rattle.std.proofs.lemmas.Bool.{and_parts, leb-true}
use Rattle.dired_text.specs.Paths.{is_dots, is_name, is_name_byte, path_bytes, slashed}

pub name_few : (n : List ℕ) → IsTrue (is_name n) → length n ≤ 255
name_few n is =
    let b = and_parts (nat_le 1 (length n) && nat_le (length n) 255 && list_all is_name_byte n) (not (is_dots n)) is in
    let c = and_parts (nat_le 1 (length n) && nat_le (length n) 255) (list_all is_name_byte n) b.0 in
    let d = and_parts (nat_le 1 (length n)) (nat_le (length n) 255) c.0 in
    leb-true (length n) 255 d.1

pub two_few : (a b : List ℕ) → IsTrue (is_name a) → IsTrue (is_name b) → path_bytes (a ∷ b ∷ []) ≤ 4095
two_few a b is_a is_b =
    let x = name_few a is_a in
    let y = name_few b is_b in
    let e = length-append a (slashed (b ∷ [])) in
    let f = length-append b [] in
    omega (arith, x, y, e, f)

pub three_few : (a b c : List ℕ) → IsTrue (is_name a) → IsTrue (is_name b) → IsTrue (is_name c) → path_bytes (a ∷ b ∷ c ∷ []) ≤ 4095
three_few a b c is_a is_b is_c =
    let x = name_few a is_a in
    let y = name_few b is_b in
    let z = name_few c is_c in
    let e = length-append a (slashed (b ∷ c ∷ [])) in
    let f = length-append b (slashed (c ∷ [])) in
    let g = length-append c [] in
    omega (arith, x, y, z, e, f, g)
