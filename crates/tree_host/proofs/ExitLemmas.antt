-- The number that a program exited with is a byte.
use Rattle.std.proofs.Common.{◌≡◌, inl, inr, ℕ, ◌/◌, ◌%◌, ◌<◌, ◌==◌, true, false, ℤ, pos, Option, Some, None, sym, arith}
use Rattle.std.proofs.lemmas.Bool.{cases_Bool}
use Rattle.std.proofs.lemmas.Nat.{mod_below}
use Rattle.std.proofs.lemmas.Option.{same_Some}
use Rattle.std.specs.Process.{exit_code, status_bits}
use Rattle.std.specs.declared.process.status.ExitStatus.{ExitStatus}

pub code_is_byte : (s : ExitStatus) (c : ℤ) → exit_code s ≡ Some c → (n : ℕ) × (c ≡ pos n) × (n < 256)
code_is_byte s c e = elim (cases_Bool (status_bits s % 128 == 0)) [
  | inl is ↦ let at : Some (pos (status_bits s / 256 % 256)) ≡ Some c = rw is at e in
      (status_bits s / 256 % 256, sym (same_Some (pos (status_bits s / 256 % 256)) c at), mod_below (status_bits s / 256) 256 (omega arith))
  | inr isnt ↦ let none : None ≡ Some c = rw isnt at e in cc
]
