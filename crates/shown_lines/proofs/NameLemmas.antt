-- The last name of a path.
use Rattle.std.proofs.Common.{◌≡◌, ◌≤◌, ◌-◌, ℕ, suc, List, [], ◌∷◌, length, get_or, ap, sym, ◌∙◌, arith}
use Rattle.dired_text.specs.Paths.{Names}
use Rattle.shown_lines.specs.Shown.{last_name}

pub last-of : (names : Names) (last : List ℕ) → 1 ≤ length names → last ≡ get_or names (length names - 1) last → last ≡ last_name names
last-of [] last some e = absurd (omega arith)
last-of (n ∷ []) last some e =
    let place : length (n ∷ []) - 1 ≡ 0 = omega arith in
    e ∙ ap (λ i. get_or (n ∷ []) i last) place
last-of (n ∷ m ∷ p) last some e =
    let place : length (n ∷ m ∷ p) - 1 ≡ suc (length (m ∷ p) - 1) = omega arith in
    last-of (m ∷ p) last (omega arith) (e ∙ ap (λ i. get_or (n ∷ m ∷ p) i last) place)
