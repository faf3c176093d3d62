-- Numbers as owners.
use Rattle.std.proofs.Common.{◌≤◌, ◌<◌, ◌^◌, ℕ, List, [], ◌∷◌, arith}
use Rattle.std.specs.List.{All}
use Rattle.std.specs.Fmt.{decimal}
use Rattle.std.specs.Str.Parse.{AllDigits}
use Rattle.std.proofs.lemmas.List.Elements.{All-nil, All-cons}
use Rattle.std.proofs.lemmas.Str.Parse.{digit_from_value}
use Rattle.std.proofs.lemmas.Fmt.{decimal_nonempty, decimal_is_IsNumeral, length-decimal-le}
use Rattle.tree_core.specs.Fields.{IsOwner}

digits_shown : (ds : List ℕ) → AllDigits 10 ds → All (λ b. (33 ≤ b) × (b ≤ 126)) ds
digits_shown [] d = All-nil (λ b. (33 ≤ b) × (b ≤ 126))
digits_shown (c ∷ cs) d =
    let digit = digit_from_value c d.0 in
    All-cons (λ b. (33 ≤ b) × (b ≤ 126)) c cs (omega arith, omega arith) (digits_shown cs d.1)

pub decimal_is_owner : (n : ℕ) → n < 2 ^ 32 → IsOwner (decimal n)
decimal_is_owner n fits =
    let small : n < 2 ^ 64 = omega arith in
    let short = length-decimal-le 10 n (omega arith) (omega arith) small in
    (omega (arith, decimal_nonempty n small), omega (arith, short), digits_shown (decimal n) (decimal_is_IsNumeral n small).0.1)
