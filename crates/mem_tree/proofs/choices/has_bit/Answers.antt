use Rattle.std.proofs.Common.{◌≡◌, ℕ, ◌<◌, ◌≤◌, ◌/◌, ◌%◌, ◌^◌, ap, sym, ◌∙◌, arith, false, ◌==◌, ltb}
use Rattle.std.proofs.Math.Nat.{div-eq_of_lt}
use Rattle.std.proofs.Math.Pow.{pow_mono}
use Rattle.mem_tree.specs.Choices.{has_bit}
use Rattle.mem_tree.proofs.choices.has_bit.Goals as goal

above : (number place : ℕ) → number < 2 ^ 64 → 64 ≤ place → has_bit number place ≡ false
above number place fits high =
    let more : 2 ^ 64 ≤ 2 ^ place = pow_mono high in
    let none : number / 2 ^ place ≡ 0 = div-eq_of_lt (omega arith) in
    ap (λ n. n % 2 == 1) none

outside : (place : ℕ) → 64 ≤ place → ltb place 64 ≡ false
outside place high = grind arith

pub returns-else-place-lt64 : goal.returns-else-place-lt64
returns-else-place-lt64 c = outside c.args.place (omega arith) ∙ sym (above c.args.number c.args.place (omega arith) (omega arith))
