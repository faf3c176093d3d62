-- The letters of a mode and the mode of letters undo each other.
use Rattle.std.proofs.Common.{◌≡◌, inl, inr, ℕ, zero, suc, ◌+◌, ◌*◌, ◌^◌, ◌/◌, ◌%◌, ◌<◌, ◌≤◌, Bool, true, false, not, ◌==◌, cond, List, [], ◌∷◌, refl, sym, ◌∙◌, ap, subst, arith, Option, Some, None, bit_and}
use Rattle.std.proofs.lemmas.Bool.{cases_Bool, eqb-true}
use Rattle.std.proofs.lemmas.Bool.Decides.{nat_tests}
use Rattle.std.proofs.lemmas.Nat.{shr_high, pow_pos}
use Rattle.std.proofs.lemmas.Nat.Bits.{and_pow}
use Rattle.std.proofs.lemmas.Option.{same_Some}
use Rattle.dired_text.specs.Modes.{has, mode_letters, letter_bit, third_bits, both, class_bits, read_letters}

-- 1 where a bit is on
abbrev pub digit : Bool → ℕ
digit f = cond f 1 0

pub digit-lt : (f : Bool) → digit f < 2
digit-lt true = omega arith
digit-lt false = omega arith

alone : (f : Bool) (p : ℕ) → 0 < p → not (digit f * p == 0) ≡ f
alone true p h = grind (arith, nat_tests)
alone false p h = grind (arith, nat_tests)

-- a bit stands alone between the lower and the higher ones
pub has_between : (k low high : ℕ) (f : Bool) (m : ℕ) → low < 2 ^ k → m ≡ (high * 2 + digit f) * 2 ^ k + low → has m (2 ^ k) ≡ f
has_between k low high f m below e =
    let quotient : m / 2 ^ k ≡ high * 2 + digit f = ap (λ n. n / 2 ^ k) e ∙ shr_high (high * 2 + digit f) k low below in
    let small : digit f < 2 = digit-lt f in
    let bit : m / 2 ^ k % 2 ≡ digit f = omega arith in
    let masked : bit_and m (2 ^ k) ≡ digit f * 2 ^ k = and_pow m k ∙ ap (λ n. n * 2 ^ k) bit in
    rw masked (alone f (2 ^ k) (pow_pos k))

-- the twelve bits of a mode
pub record Bits : Type 0 where
  pub user : Bool
  pub group : Bool
  pub sticky : Bool
  pub ur : Bool
  pub uw : Bool
  pub ux : Bool
  pub gr : Bool
  pub gw : Bool
  pub gx : Bool
  pub or : Bool
  pub ow : Bool
  pub ox : Bool

abbrev pub class_sum : ℕ → ℕ → Bool → Bool → Bool → Bool → ℕ
class_sum unit special s r w x = digit r * (4 * unit) + digit w * (2 * unit) + (digit x * unit + digit s * special)

abbrev pub sum_of : Bits → ℕ
sum_of b = class_sum 0o100 0o4000 b.user b.ur b.uw b.ux + class_sum 0o10 0o2000 b.group b.gr b.gw b.gx + class_sum 1 0o1000 b.sticky b.or b.ow b.ox

abbrev pub class_shown : ℕ → ℕ → Bool → Bool → Bool → Bool → List ℕ → List ℕ
class_shown small capital s r w x rest = cond r 114 45 ∷ cond w 119 45 ∷ cond s (cond x small capital) (cond x 120 45) ∷ rest

abbrev pub shown : Bits → List ℕ
shown b = class_shown 115 83 b.user b.ur b.uw b.ux (class_shown 115 83 b.group b.gr b.gw b.gx (class_shown 116 84 b.sticky b.or b.ow b.ox []))

low : (b : Bits) → (m : ℕ) → m ≡ sum_of b → (has m 0o1 ≡ b.ox) × (has m 0o2 ≡ b.ow) × (has m 0o4 ≡ b.or) × (has m 0o10 ≡ b.gx) × (has m 0o20 ≡ b.gw) × (has m 0o40 ≡ b.gr)
low b m e =
    let d0 : digit b.ox < 2 = digit-lt b.ox in
    let d1 : digit b.ow < 2 = digit-lt b.ow in
    let d2 : digit b.or < 2 = digit-lt b.or in
    let d3 : digit b.gx < 2 = digit-lt b.gx in
    let d4 : digit b.gw < 2 = digit-lt b.gw in
    let d5 : digit b.gr < 2 = digit-lt b.gr in
    let d6 : digit b.ux < 2 = digit-lt b.ux in
    let d7 : digit b.uw < 2 = digit-lt b.uw in
    let d8 : digit b.ur < 2 = digit-lt b.ur in
    let d9 : digit b.sticky < 2 = digit-lt b.sticky in
    let d10 : digit b.group < 2 = digit-lt b.group in
    let d11 : digit b.user < 2 = digit-lt b.user in (
      has_between 0 (0) (digit b.ow * 1 + digit b.or * 2 + digit b.gx * 4 + digit b.gw * 8 + digit b.gr * 16 + digit b.ux * 32 + digit b.uw * 64 + digit b.ur * 128 + digit b.sticky * 256 + digit b.group * 512 + digit b.user * 1024) b.ox m (omega arith) (omega arith),
      has_between 1 (digit b.ox * 1) (digit b.or * 1 + digit b.gx * 2 + digit b.gw * 4 + digit b.gr * 8 + digit b.ux * 16 + digit b.uw * 32 + digit b.ur * 64 + digit b.sticky * 128 + digit b.group * 256 + digit b.user * 512) b.ow m (omega arith) (omega arith),
      has_between 2 (digit b.ox * 1 + digit b.ow * 2) (digit b.gx * 1 + digit b.gw * 2 + digit b.gr * 4 + digit b.ux * 8 + digit b.uw * 16 + digit b.ur * 32 + digit b.sticky * 64 + digit b.group * 128 + digit b.user * 256) b.or m (omega arith) (omega arith),
      has_between 3 (digit b.ox * 1 + digit b.ow * 2 + digit b.or * 4) (digit b.gw * 1 + digit b.gr * 2 + digit b.ux * 4 + digit b.uw * 8 + digit b.ur * 16 + digit b.sticky * 32 + digit b.group * 64 + digit b.user * 128) b.gx m (omega arith) (omega arith),
      has_between 4 (digit b.ox * 1 + digit b.ow * 2 + digit b.or * 4 + digit b.gx * 8) (digit b.gr * 1 + digit b.ux * 2 + digit b.uw * 4 + digit b.ur * 8 + digit b.sticky * 16 + digit b.group * 32 + digit b.user * 64) b.gw m (omega arith) (omega arith),
      has_between 5 (digit b.ox * 1 + digit b.ow * 2 + digit b.or * 4 + digit b.gx * 8 + digit b.gw * 16) (digit b.ux * 1 + digit b.uw * 2 + digit b.ur * 4 + digit b.sticky * 8 + digit b.group * 16 + digit b.user * 32) b.gr m (omega arith) (omega arith),
    )

high : (b : Bits) → (m : ℕ) → m ≡ sum_of b → (has m 0o100 ≡ b.ux) × (has m 0o200 ≡ b.uw) × (has m 0o400 ≡ b.ur) × (has m 0o1000 ≡ b.sticky) × (has m 0o2000 ≡ b.group) × (has m 0o4000 ≡ b.user)
high b m e =
    let d0 : digit b.ox < 2 = digit-lt b.ox in
    let d1 : digit b.ow < 2 = digit-lt b.ow in
    let d2 : digit b.or < 2 = digit-lt b.or in
    let d3 : digit b.gx < 2 = digit-lt b.gx in
    let d4 : digit b.gw < 2 = digit-lt b.gw in
    let d5 : digit b.gr < 2 = digit-lt b.gr in
    let d6 : digit b.ux < 2 = digit-lt b.ux in
    let d7 : digit b.uw < 2 = digit-lt b.uw in
    let d8 : digit b.ur < 2 = digit-lt b.ur in
    let d9 : digit b.sticky < 2 = digit-lt b.sticky in
    let d10 : digit b.group < 2 = digit-lt b.group in
    let d11 : digit b.user < 2 = digit-lt b.user in (
      has_between 6 (digit b.ox * 1 + digit b.ow * 2 + digit b.or * 4 + digit b.gx * 8 + digit b.gw * 16 + digit b.gr * 32) (digit b.uw * 1 + digit b.ur * 2 + digit b.sticky * 4 + digit b.group * 8 + digit b.user * 16) b.ux m (omega arith) (omega arith),
      has_between 7 (digit b.ox * 1 + digit b.ow * 2 + digit b.or * 4 + digit b.gx * 8 + digit b.gw * 16 + digit b.gr * 32 + digit b.ux * 64) (digit b.ur * 1 + digit b.sticky * 2 + digit b.group * 4 + digit b.user * 8) b.uw m (omega arith) (omega arith),
      has_between 8 (digit b.ox * 1 + digit b.ow * 2 + digit b.or * 4 + digit b.gx * 8 + digit b.gw * 16 + digit b.gr * 32 + digit b.ux * 64 + digit b.uw * 128) (digit b.sticky * 1 + digit b.group * 2 + digit b.user * 4) b.ur m (omega arith) (omega arith),
      has_between 9 (digit b.ox * 1 + digit b.ow * 2 + digit b.or * 4 + digit b.gx * 8 + digit b.gw * 16 + digit b.gr * 32 + digit b.ux * 64 + digit b.uw * 128 + digit b.ur * 256) (digit b.group * 1 + digit b.user * 2) b.sticky m (omega arith) (omega arith),
      has_between 10 (digit b.ox * 1 + digit b.ow * 2 + digit b.or * 4 + digit b.gx * 8 + digit b.gw * 16 + digit b.gr * 32 + digit b.ux * 64 + digit b.uw * 128 + digit b.ur * 256 + digit b.sticky * 512) (digit b.user * 1) b.group m (omega arith) (omega arith),
      has_between 11 (digit b.ox * 1 + digit b.ow * 2 + digit b.or * 4 + digit b.gx * 8 + digit b.gw * 16 + digit b.gr * 32 + digit b.ux * 64 + digit b.uw * 128 + digit b.ur * 256 + digit b.sticky * 512 + digit b.group * 1024) (0) b.user m (omega arith) (omega arith),
    )

pub letters_of : (b : Bits) (m : ℕ) → m ≡ sum_of b → mode_letters m ≡ shown b
letters_of b m e =
    let l = low b m e in
    let h = high b m e in
    rw (l.0, l.1, l.2, l.3, l.4, l.5, h.0, h.1, h.2, h.3, h.4, h.5) refl

-- what one letter shows
from_letter : (bit shown b v : ℕ) → letter_bit bit shown b ≡ Some v → (f : Bool) × (v ≡ digit f * bit) × (b ≡ cond f shown 45)
from_letter bit shown b v e = elim (cases_Bool (b == shown)) [
  | inl is ↦ let s : Some bit ≡ Some v = rw is at e in
      (true, omega (arith, same_Some bit v s), eqb-true b shown is)
  | inr not_shown ↦ let rest : cond (b == 45) (Some 0) None ≡ Some v = rw not_shown at e in
      elim (cases_Bool (b == 45)) [
        | inl dash ↦ let s : Some 0 ≡ Some v = rw dash at rest in (false, omega (arith, same_Some 0 v s), eqb-true b 45 dash)
        | inr other ↦ let s : None ≡ Some v = rw other at rest in cc
      ]
]

from_third : (bit special small capital b v : ℕ) → third_bits bit special small capital b ≡ Some v → (s x : Bool) × (v ≡ digit x * bit + digit s * special) × (b ≡ cond s (cond x small capital) (cond x 120 45))
from_third bit special small capital b v e = elim (cases_Bool (b == small)) [
  | inl is ↦ let s : Some (bit + special) ≡ Some v = rw is at e in
      (true, true, omega (arith, same_Some (bit + special) v s), eqb-true b small is)
  | inr not_small ↦ let rest : cond (b == capital) (Some special) (letter_bit bit 120 b) ≡ Some v = rw not_small at e in
      elim (cases_Bool (b == capital)) [
        | inl is ↦ let s : Some special ≡ Some v = rw is at rest in (true, false, omega (arith, same_Some special v s), eqb-true b capital is)
        | inr not_capital ↦ let plain : letter_bit bit 120 b ≡ Some v = rw not_capital at rest in
            let found = from_letter bit 120 b v plain in
            (false, found.0, omega (arith, found.1), found.2)
      ]
]

from_both : (x y : Option ℕ) (m : ℕ) → both x y ≡ Some m → (i j : ℕ) × (x ≡ Some i) × (y ≡ Some j) × (m ≡ i + j)
from_both (Some i) (Some j) m e = (i, j, refl, refl, sym (same_Some (i + j) m e))
from_both (Some i) None m e = cc
from_both None y m e = cc

added : (v a t r w r' w' t' : ℕ) → v ≡ a + t → a ≡ r + w → r ≡ r' → w ≡ w' → t ≡ t' → v ≡ r' + w' + t'
added v a t r w r' w' t' sum inner er ew et = cc

from_class : (unit special small capital r w x v : ℕ) → class_bits unit special small capital r w x ≡ Some v → (fs fr fw fx : Bool) × (v ≡ class_sum unit special fs fr fw fx) × (r ≡ cond fr 114 45) × (w ≡ cond fw 119 45) × (x ≡ cond fs (cond fx small capital) (cond fx 120 45))
from_class unit special small capital r w x v e =
    let outer = from_both (both (letter_bit (4 * unit) 114 r) (letter_bit (2 * unit) 119 w)) (third_bits unit special small capital x) v e in
    let inner = from_both (letter_bit (4 * unit) 114 r) (letter_bit (2 * unit) 119 w) outer.0 outer.2 in
    let read = from_letter (4 * unit) 114 r inner.0 inner.2 in
    let write = from_letter (2 * unit) 119 w inner.1 inner.3 in
    let third = from_third unit special small capital x outer.1 outer.3 in
    (third.0, read.0, write.0, third.1, added v _ _ _ _ _ _ _ outer.4 inner.4 read.1 write.1 third.2, read.2, write.2, third.3)

nine : (a b c d e f g h i a' b' c' d' e' f' g' h' i' : ℕ) → a ≡ a' → b ≡ b' → c ≡ c' → d ≡ d' → e ≡ e' → f ≡ f' → g ≡ g' → h ≡ h' → i ≡ i' → a' ∷ b' ∷ c' ∷ d' ∷ e' ∷ f' ∷ g' ∷ h' ∷ i' ∷ [] ≡ a ∷ b ∷ c ∷ d ∷ e ∷ f ∷ g ∷ h ∷ i ∷ []
nine a b c d e f g h i a' b' c' d' e' f' g' h' i' ea eb ec ed ee ef eg eh ei = cc

sum_of-le : (b : Bits) → sum_of b ≤ 0o7777
sum_of-le b =
    let d0 : digit b.ox < 2 = digit-lt b.ox in
    let d1 : digit b.ow < 2 = digit-lt b.ow in
    let d2 : digit b.or < 2 = digit-lt b.or in
    let d3 : digit b.gx < 2 = digit-lt b.gx in
    let d4 : digit b.gw < 2 = digit-lt b.gw in
    let d5 : digit b.gr < 2 = digit-lt b.gr in
    let d6 : digit b.ux < 2 = digit-lt b.ux in
    let d7 : digit b.uw < 2 = digit-lt b.uw in
    let d8 : digit b.ur < 2 = digit-lt b.ur in
    let d9 : digit b.sticky < 2 = digit-lt b.sticky in
    let d10 : digit b.group < 2 = digit-lt b.group in
    let d11 : digit b.user < 2 = digit-lt b.user in
    omega arith

-- the letters of the mode that was read are the text
pub mode_of_text : (text : List ℕ) (m : ℕ) → read_letters text ≡ Some m → (m ≤ 0o7777) × (mode_letters m ≡ text)
mode_of_text (ur ∷ uw ∷ ux ∷ gr ∷ gw ∷ gx ∷ or ∷ ow ∷ ox ∷ []) m e =
    let user_read = class_bits 0o100 0o4000 115 83 ur uw ux in
    let group_read = class_bits 0o10 0o2000 115 83 gr gw gx in
    let others_read = class_bits 0o1 0o1000 116 84 or ow ox in
    let outer = from_both (both user_read group_read) others_read m e in
    let inner = from_both user_read group_read outer.0 outer.2 in
    let u = from_class 0o100 0o4000 115 83 ur uw ux inner.0 inner.2 in
    let g = from_class 0o10 0o2000 115 83 gr gw gx inner.1 inner.3 in
    let o = from_class 0o1 0o1000 116 84 or ow ox outer.1 outer.3 in
    let b : Bits = record { user = u.0; ur = u.1; uw = u.2; ux = u.3; group = g.0; gr = g.1; gw = g.2; gx = g.3; sticky = o.0; or = o.1; ow = o.2; ox = o.3 } in
    let sum : m ≡ sum_of b = added m outer.0 outer.1 inner.0 inner.1 _ _ _ outer.4 inner.4 u.4 g.4 o.4 in
    let P : ℕ → Type 0 = λ n. n ≤ 0o7777 in
    (subst P (sym sum) (sum_of-le b), letters_of b m sum ∙ nine ur uw ux gr gw gx or ow ox _ _ _ _ _ _ _ _ _ u.5 u.6 u.7 g.5 g.6 g.7 o.5 o.6 o.7)
mode_of_text text m e = cc

read_bit : (bit : ℕ) (f : Bool) → letter_bit bit 114 (cond f 114 45) ≡ Some (digit f * bit)
read_bit bit true = ap Some (omega arith)
read_bit bit false = ap Some (omega arith)

write_bit : (bit : ℕ) (f : Bool) → letter_bit bit 119 (cond f 119 45) ≡ Some (digit f * bit)
write_bit bit true = ap Some (omega arith)
write_bit bit false = ap Some (omega arith)

set_id : (bit special : ℕ) (s f : Bool) → third_bits bit special 115 83 (cond s (cond f 115 83) (cond f 120 45)) ≡ Some (digit f * bit + digit s * special)
set_id bit special true true = ap Some (omega arith)
set_id bit special true false = ap Some (omega arith)
set_id bit special false true = ap Some (omega arith)
set_id bit special false false = ap Some (omega arith)

sticky_bit : (bit special : ℕ) (s f : Bool) → third_bits bit special 116 84 (cond s (cond f 116 84) (cond f 120 45)) ≡ Some (digit f * bit + digit s * special)
sticky_bit bit special true true = ap Some (omega arith)
sticky_bit bit special true false = ap Some (omega arith)
sticky_bit bit special false true = ap Some (omega arith)
sticky_bit bit special false false = ap Some (omega arith)

both_of : (x y : Option ℕ) (i j : ℕ) → x ≡ Some i → y ≡ Some j → both x y ≡ Some (i + j)
both_of x y i j ex ey = rw (ex, ey) refl

set_id_class : (unit special : ℕ) (s r w x : Bool) → class_bits unit special 115 83 (cond r 114 45) (cond w 119 45) (cond s (cond x 115 83) (cond x 120 45)) ≡ Some (class_sum unit special s r w x)
set_id_class unit special s r w x = both_of _ _ _ _ (both_of _ _ _ _ (read_bit (4 * unit) r) (write_bit (2 * unit) w)) (set_id unit special s x)

sticky_class : (unit special : ℕ) (s r w x : Bool) → class_bits unit special 116 84 (cond r 114 45) (cond w 119 45) (cond s (cond x 116 84) (cond x 120 45)) ≡ Some (class_sum unit special s r w x)
sticky_class unit special s r w x = both_of _ _ _ _ (both_of _ _ _ _ (read_bit (4 * unit) r) (write_bit (2 * unit) w)) (sticky_bit unit special s x)

read_shown : (b : Bits) → read_letters (shown b) ≡ Some (sum_of b)
read_shown b =
    both_of _ _ _ _ (both_of _ _ _ _ (set_id_class 0o100 0o4000 b.user b.ur b.uw b.ux) (set_id_class 0o10 0o2000 b.group b.gr b.gw b.gx))
    (sticky_class 1 0o1000 b.sticky b.or b.ow b.ox)

bits_of : ℕ → Bits
bits_of m = record {
  user = has m 0o4000;
  group = has m 0o2000;
  sticky = has m 0o1000;
  ur = has m 0o400;
  uw = has m 0o200;
  ux = has m 0o100;
  gr = has m 0o40;
  gw = has m 0o20;
  gx = has m 0o10;
  or = has m 0o4;
  ow = has m 0o2;
  ox = has m 0o1;
}

masked : (n d p : ℕ) → n ≡ d * p → d < 2 → 0 < p → digit (not (n == 0)) ≡ d
masked n zero p e small positive = let none : n ≡ 0 = omega arith in rw none refl
masked n (suc zero) p e small positive = let some : 0 < n = omega arith in grind (arith, nat_tests)
masked n (suc (suc d)) p e small positive = absurd (omega arith)

-- a bit of a mode, as a number
weight : (m k : ℕ) → digit (has m (2 ^ k)) ≡ m / 2 ^ k % 2
weight m k = masked (bit_and m (2 ^ k)) (m / 2 ^ k % 2) (2 ^ k) (and_pow m k) (omega arith) (pow_pos k)

-- a mode is the sum of its bits
sum_of_bits : (m : ℕ) → m ≤ 0o7777 → sum_of (bits_of m) ≡ m
unfolding bits_of
sum_of_bits m bound =
    let w0 : digit (has m 1) ≡ m / 1 % 2 = weight m 0 in
    let h0 : m / 1 ≡ 2 * (m / 2) + m / 1 % 2 = omega arith in
    let w1 : digit (has m 2) ≡ m / 2 % 2 = weight m 1 in
    let h1 : m / 2 ≡ 2 * (m / 4) + m / 2 % 2 = omega arith in
    let w2 : digit (has m 4) ≡ m / 4 % 2 = weight m 2 in
    let h2 : m / 4 ≡ 2 * (m / 8) + m / 4 % 2 = omega arith in
    let w3 : digit (has m 8) ≡ m / 8 % 2 = weight m 3 in
    let h3 : m / 8 ≡ 2 * (m / 16) + m / 8 % 2 = omega arith in
    let w4 : digit (has m 16) ≡ m / 16 % 2 = weight m 4 in
    let h4 : m / 16 ≡ 2 * (m / 32) + m / 16 % 2 = omega arith in
    let w5 : digit (has m 32) ≡ m / 32 % 2 = weight m 5 in
    let h5 : m / 32 ≡ 2 * (m / 64) + m / 32 % 2 = omega arith in
    let w6 : digit (has m 64) ≡ m / 64 % 2 = weight m 6 in
    let h6 : m / 64 ≡ 2 * (m / 128) + m / 64 % 2 = omega arith in
    let w7 : digit (has m 128) ≡ m / 128 % 2 = weight m 7 in
    let h7 : m / 128 ≡ 2 * (m / 256) + m / 128 % 2 = omega arith in
    let w8 : digit (has m 256) ≡ m / 256 % 2 = weight m 8 in
    let h8 : m / 256 ≡ 2 * (m / 512) + m / 256 % 2 = omega arith in
    let w9 : digit (has m 512) ≡ m / 512 % 2 = weight m 9 in
    let h9 : m / 512 ≡ 2 * (m / 1024) + m / 512 % 2 = omega arith in
    let w10 : digit (has m 1024) ≡ m / 1024 % 2 = weight m 10 in
    let h10 : m / 1024 ≡ 2 * (m / 2048) + m / 1024 % 2 = omega arith in
    let w11 : digit (has m 2048) ≡ m / 2048 % 2 = weight m 11 in
    let h11 : m / 2048 ≡ 2 * (m / 4096) + m / 2048 % 2 = omega arith in
    omega arith

-- the mode of the letters of a mode is that mode
pub text_of_mode : (m : ℕ) → m ≤ 0o7777 → read_letters (mode_letters m) ≡ Some m
unfolding bits_of
text_of_mode m bound = read_shown (bits_of m) ∙ ap Some (sum_of_bits m bound)
