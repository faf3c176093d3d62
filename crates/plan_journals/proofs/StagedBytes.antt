-- The bytes of paths in the staging directory.
use Rattle.std.proofs.Common.{◌≡◌, ℕ, ◌+◌, ◌<◌, ◌≤◌, ◌^◌, ◌==◌, Bool, true, false, cond, List, [], ◌∷◌, length, refl, arith, length-append}
use Rattle.std.specs.Prelude.{decimal}
use Rattle.dired_text.specs.Paths.{Names, path_bytes}
use Rattle.commit_steps.specs.Numbers.{is_decimal}
use Rattle.commit_steps.specs.Staging.{staging_name, staged, temporary, held, fresh_name}
use Rattle.commit_steps.proofs.NumberLemmas.{decimal_is, number_holds, and_both}
use Rattle.edit_words.specs.declared.row.Row.{Row}
use Rattle.edit_words.specs.Edited.{is_fresh}
use Rattle.plan_moves.specs.Moves.{Spots, fresh_spots, with_spot}

-- a number of 32 bits has at most 10 digits
ten_digits : (m : ℕ) → m < 2 ^ 32 → length (decimal m) ≤ 10
ten_digits m small = (decimal_is (decimal m) (and_both (is_decimal (decimal m)) _ (number_holds (decimal m) record { number = m; small = small; is = refl })).0).short

-- the directory's name has 14 bytes
staged_bytes : (name : List ℕ) → path_bytes (staged name) ≡ length name + 15
unfolding staging_name
staged_bytes name = let e = length-append name [] in omega arith

pub temporary_bytes : (m : ℕ) → m < 2 ^ 32 → path_bytes (staged (temporary m)) ≤ 26
unfolding temporary
temporary_bytes m small = let d = ten_digits m small in let e = staged_bytes (temporary m) in omega arith

pub held_bytes : (m : ℕ) → m < 2 ^ 32 → path_bytes (staged (held m)) ≤ 26
unfolding held
held_bytes m small = let d = ten_digits m small in let e = staged_bytes (held m) in omega arith

fresh_bytes : (m : ℕ) → m < 2 ^ 32 → path_bytes (staged (fresh_name m)) ≤ 26
unfolding fresh_name
fresh_bytes m small = let d = ten_digits m small in let e = staged_bytes (fresh_name m) in omega arith

-- each spot is at most as long
abbrev pub AreShort : Spots → Type 0
AreShort spots = (line : ℕ) → path_bytes (spots line) ≤ 26

short_of : (b : Bool) (p q : Names) → path_bytes p ≤ 26 → path_bytes q ≤ 26 → path_bytes (cond b p q) ≤ 26
short_of true p q a b = a
short_of false p q a b = b

pub short_at_first : (n : ℕ) (rs : List Row) → n + length rs ≤ 2 ^ 32 → AreShort (fresh_spots n rs)
short_at_first n [] few line = omega arith
short_at_first n (r ∷ rs) few line =
    short_of (is_fresh r) (cond (r.line == line) (staged (fresh_name n)) (fresh_spots (n + 1) rs line)) (fresh_spots n rs line)
    (short_of (r.line == line) (staged (fresh_name n)) (fresh_spots (n + 1) rs line) (fresh_bytes n (omega arith)) (short_at_first (n + 1) rs (omega arith) line))
    (short_at_first n rs (omega arith) line)

pub short_with : (spots : Spots) (line : ℕ) (p : Names) → AreShort spots → path_bytes p ≤ 26 → AreShort (with_spot spots line p)
short_with spots line p short own other = short_of (other == line) p (spots other) own (short other)
