-- The text of a numeric backup, as it is read and as it is written.
use Rattle.std.proofs.Common.{◌≡◌, ℕ, zero, suc, min, ◌+◌, ◌-◌, ◌^◌, ◌<◌, ◌≤◌, ◌==◌, Bool, true, false, cond, ◌&&◌, not, nat_le, List, [], ◌∷◌, ◌++◌, length, take, drop, get_or, refl, sym, ◌∙◌, ap, subst, Option, Some, None, arith, lit<, length-append, length-drop}
use Rattle.std.specs.List.{list_all}
use Rattle.std.specs.Option.{option_map}
use Rattle.std.specs.Char.{digit_value}
use Rattle.std.specs.Fmt.{decimal}
use Rattle.std.specs.Str.Parse.{digits_value, AllDigits}
use Rattle.std.proofs.lemmas.Bool.Decides.{nat_tests}
use Rattle.std.proofs.lemmas.Option.{same_Some}
use Rattle.std.proofs.lemmas.Fmt.{decimal_is_IsNumeral, decimal_digit, decimal_nonempty, first_decimal, length-decimal-le, decimal-digits_value}
use Rattle.std.proofs.lemmas.Int.Digits.{digits_value-lt}
use Rattle.std.proofs.lemmas.Str.Parse.{IsNumeralModel}
use Rattle.std.proofs.lemmas.List.{length-take, take_more, take_all, take_at, get_or-take, get_or-drop, get_or-append-add}
use Rattle.std.proofs.Math.Seq.{get_or-append_seam}
use Rattle.std.proofs.Math.Nat.{pow-le-pow_right}
use Rattle.mark_table.specs.Versions.{is_digit, is_number, between, is_version_text, number_in, found, version_in, version_text}
use Rattle.mark_table.proofs.NumberLemmas.{and_both, all_digits, digit_at}

pub and_make : (a b : Bool) → a ≡ true → b ≡ true → (a && b) ≡ true
and_make a b p q = cc

not_true : (b : Bool) → (b ≡ true → ⊥) → b ≡ false
not_true true h = absurd (h refl)
not_true false h = refl

le_is : (m n : ℕ) → nat_le m n ≡ true → m ≤ n
le_is m n e = grind (arith, nat_tests)

le_holds : (m n : ℕ) → m ≤ n → nat_le m n ≡ true
le_holds m n h = grind (arith, nat_tests)

eq_is : (m n : ℕ) → (m == n) ≡ true → m ≡ n
eq_is m n e = grind (arith, nat_tests)

eq_holds : (m n : ℕ) → m ≡ n → (m == n) ≡ true
eq_holds m n h = grind (arith, nat_tests)

not_eq : (m n : ℕ) → not (m == n) ≡ true → m ≡ n → ⊥
not_eq m n e h = let t = eq_holds m n h in let clash : false ≡ true = sym (ap not t) ∙ e in cc

not_eq_holds : (m n : ℕ) → n < m → not (m == n) ≡ true
not_eq_holds m n h = grind (arith, nat_tests)

digit_holds : (c : ℕ) → digit_value c < 10 → is_digit c ≡ true
digit_holds c h = grind (arith, nat_tests)

model : IsNumeralModel (AllDigits 10) (digits_value 10)
model = record { to = λ ds p. p; from = λ ds p. p; same = λ ds p. refl }

-- ---- a number, as digits

pub record Number (ds : List ℕ) : Type 0 where
  pub some : 1 ≤ length ds
  pub short : length ds ≤ 18
  pub first : get_or ds 0 0 ≡ 48 → ⊥
  pub digits : list_all is_digit ds ≡ true

number_is : (ds : List ℕ) → is_number ds ≡ true → Number ds
number_is ds e =
    let p = and_both (nat_le 1 (length ds) && nat_le (length ds) 18 && not (get_or ds 0 0 == 48)) (list_all is_digit ds) e in
    let q = and_both (nat_le 1 (length ds) && nat_le (length ds) 18) (not (get_or ds 0 0 == 48)) p.0 in
    let r = and_both (nat_le 1 (length ds)) (nat_le (length ds) 18) q.0 in
    record { some = le_is 1 (length ds) r.0; short = le_is (length ds) 18 r.1; first = not_eq (get_or ds 0 0) 48 q.1; digits = p.1 }

value_bound : (ds : List ℕ) → Number ds → digits_value 10 ds < 10 ^ 18
value_bound ds n =
    let below : digits_value 10 ds < 10 ^ length ds = digits_value-lt 10 ds (all_digits ds n.digits) in
    let most : 10 ^ length ds ≤ 10 ^ 18 = pow-le-pow_right {n = 10} (lit< tt) {i = length ds} {j = 18} n.short in
    omega arith

decimal_back : (ds : List ℕ) → Number ds → decimal (digits_value 10 ds) ≡ ds
decimal_back ds n = let bound = value_bound ds n in decimal-digits_value model ds (all_digits ds n.digits) n.some (λ e. absurd (n.first e)) (omega arith)

value_some : (ds : List ℕ) → Number ds → 1 ≤ digits_value 10 ds
value_some ds n = by_value (digits_value 10 ds) refl
  where
    by_value : (v : ℕ) → digits_value 10 ds ≡ v → 1 ≤ v
    by_value zero e = absurd (n.first (ap (λ (l : List ℕ). get_or l 0 0) (sym (decimal_back ds n) ∙ ap decimal e ∙ decimal_digit 0 (lit< tt))))
    by_value (suc v) e = omega arith

digits_hold : (ds : List ℕ) → AllDigits 10 ds → list_all is_digit ds ≡ true
digits_hold [] all = refl
digits_hold (d ∷ ds) all = and_make (is_digit d) (list_all is_digit ds) (digit_holds d all.0) (digits_hold ds all.1)

decimal_number : (n : ℕ) → 1 ≤ n → n < 10 ^ 18 → is_number (decimal n) ≡ true
decimal_number n low high =
    let fits : n < 2 ^ 64 = omega arith in
    let first : 48 < get_or (decimal n) 0 0 = first_decimal n (omega arith) fits in
    and_make (nat_le 1 (length (decimal n)) && nat_le (length (decimal n)) 18 && not (get_or (decimal n) 0 0 == 48)) _
    (and_make (nat_le 1 (length (decimal n)) && nat_le (length (decimal n)) 18) _
    (and_make (nat_le 1 (length (decimal n))) _ (le_holds 1 _ (let some = decimal_nonempty n fits in omega arith)) (le_holds _ 18 (length-decimal-le 18 n (lit< tt) high fits)))
    (not_eq_holds (get_or (decimal n) 0 0) 48 first))
    (digits_hold (decimal n) (decimal_is_IsNumeral n fits).0.1)

-- ---- `.~N~`

pub record Ending (t : List ℕ) : Type 0 where
  pub long : 4 ≤ length t
  pub dot : get_or t 0 0 ≡ 46
  pub tilde : get_or t 1 0 ≡ 126
  pub last : get_or t (length t - 1) 0 ≡ 126
  pub number : is_number (between t) ≡ true

ending_is : (t : List ℕ) → is_version_text t ≡ true → Ending t
ending_is t e =
    let p = and_both (nat_le 4 (length t) && get_or t 0 0 == 46 && get_or t 1 0 == 126 && get_or t (length t - 1) 0 == 126) (is_number (between t)) e in
    let q = and_both (nat_le 4 (length t) && get_or t 0 0 == 46 && get_or t 1 0 == 126) (get_or t (length t - 1) 0 == 126) p.0 in
    let r = and_both (nat_le 4 (length t) && get_or t 0 0 == 46) (get_or t 1 0 == 126) q.0 in
    let s = and_both (nat_le 4 (length t)) (get_or t 0 0 == 46) r.0 in
    record { long = le_is 4 (length t) s.0; dot = eq_is (get_or t 0 0) 46 s.1; tilde = eq_is (get_or t 1 0) 126 r.1; last = eq_is (get_or t (length t - 1) 0) 126 q.1; number = p.1 }

ending_holds : (t : List ℕ) → Ending t → is_version_text t ≡ true
ending_holds t h =
    and_make (nat_le 4 (length t) && get_or t 0 0 == 46 && get_or t 1 0 == 126 && get_or t (length t - 1) 0 == 126) _
    (and_make (nat_le 4 (length t) && get_or t 0 0 == 46 && get_or t 1 0 == 126) _
    (and_make (nat_le 4 (length t) && get_or t 0 0 == 46) _
    (and_make (nat_le 4 (length t)) _ (le_holds 4 (length t) h.long) (eq_holds _ 46 h.dot))
    (eq_holds _ 126 h.tilde))
    (eq_holds _ 126 h.last))
    h.number

spelled : (t : List ℕ) → Ending t → t ≡ 46 ∷ 126 ∷ (between t ++ 126 ∷ [])
spelled [] h = absurd (let l = h.long in omega arith)
spelled (x ∷ []) h = absurd (let l = h.long in omega arith)
spelled (x ∷ y ∷ r) h =
    let long = h.long in
    let index : suc (suc (length r - 1)) ≡ length (x ∷ y ∷ r) - 1 = omega arith in
    let size : length (x ∷ y ∷ r) - 3 ≡ length r - 1 = omega arith in
    let last : get_or r (length r - 1) 0 ≡ 126 = ap (λ (i : ℕ). get_or (x ∷ y ∷ r) i 0) index ∙ h.last in
    let cut : take (length r - 1) r ++ get_or r (length r - 1) 0 ∷ [] ≡ r = sym (take_more r (length r - 1) 0 (omega arith)) ∙ take_all (length r - 1 + 1) r (omega arith) in
    let rest : take (length (x ∷ y ∷ r) - 3) r ++ 126 ∷ [] ≡ r = ap (λ (i : ℕ). take i r ++ 126 ∷ []) size ∙ ap (λ (b : ℕ). take (length r - 1) r ++ b ∷ []) (sym last) ∙ cut in
    ap (λ (a : ℕ). a ∷ y ∷ r) h.dot ∙ ap (λ (b : ℕ). 46 ∷ b ∷ r) h.tilde ∙ ap (λ (l : List ℕ). 46 ∷ 126 ∷ l) (sym rest)

pub record Reads (t s : List ℕ) (n : ℕ) : Type 0 where
  pub text : t ≡ s ++ version_text n
  pub low : 1 ≤ n
  pub high : n < 10 ^ 18

read_here : (t : List ℕ) (n : ℕ) (b : Bool) → is_version_text t ≡ b → cond b (Some (digits_value 10 (between t))) None ≡ Some n → Reads t [] n
read_here t n true h e =
    let ending = ending_is t h in
    let number = number_is (between t) ending.number in
    let is : digits_value 10 (between t) ≡ n = cc in
    record {
      text = spelled t ending ∙ ap (λ (ds : List ℕ). 46 ∷ 126 ∷ (ds ++ 126 ∷ [])) (sym (decimal_back (between t) number) ∙ ap decimal is);
      low = subst (λ (m : ℕ). 1 ≤ m) is (value_some (between t) number);
      high = subst (λ (m : ℕ). m < 10 ^ 18) is (value_bound (between t) number);
    }
read_here t n false h e = cc

read_on : (b : ℕ) (t : List ℕ) (o : Option (List ℕ × ℕ)) → ((s : List ℕ) (n : ℕ) → o ≡ Some (s, n) → Reads t s n) → (s : List ℕ) (n : ℕ) → found None b o ≡ Some (s, n) → Reads (b ∷ t) s n
read_on b t None reads s n e = cc
read_on b t (Some v) reads s n e =
    let rest = reads v.0 v.1 refl in
    let same : ◌≡◌ {A = List ℕ × ℕ} (b ∷ v.0, v.1) (s, n) = same_Some _ _ e in
    let front : b ∷ v.0 ≡ s = ap (λ (p : List ℕ × ℕ). p.0) same in
    let number : v.1 ≡ n = ap (λ (p : List ℕ × ℕ). p.1) same in
    subst (λ (l : List ℕ). Reads (b ∷ t) l n) front (subst (λ (m : ℕ). Reads (b ∷ t) (b ∷ v.0) m) number (record { text = ap (λ (l : List ℕ). b ∷ l) rest.text; low = rest.low; high = rest.high }))

by_found : (b : ℕ) (t : List ℕ) (o : Option ℕ) (more : Option (List ℕ × ℕ)) → ((n : ℕ) → o ≡ Some n → Reads (b ∷ t) [] n) → ((s : List ℕ) (n : ℕ) → more ≡ Some (s, n) → Reads t s n)
    → (s : List ℕ) (n : ℕ) → found o b more ≡ Some (s, n) → Reads (b ∷ t) s n
by_found b t (Some m) more here later s n e =
    let same : ◌≡◌ {A = List ℕ × ℕ} ([], m) (s, n) = same_Some _ _ e in
    let front : [] ≡ s = ap (λ (p : List ℕ × ℕ). p.0) same in
    let number : m ≡ n = ap (λ (p : List ℕ × ℕ). p.1) same in
    subst (λ (l : List ℕ). Reads (b ∷ t) l n) front (here n (ap (λ (k : ℕ). Some k) number))
by_found b t None more here later s n e = read_on b t more later s n e

pub read : (t s : List ℕ) (n : ℕ) → version_in t ≡ Some (s, n) → Reads t s n
read [] s n e = cc
read (b ∷ t) s n e = by_found b t (number_in (b ∷ t)) (version_in t) (λ m h. read_here (b ∷ t) m (is_version_text (b ∷ t)) refl h) (λ r m h. read t r m h) s n e

-- ---- the other way

between_text : (n : ℕ) → between (version_text n) ≡ decimal n
between_text n = take_at (decimal n) (126 ∷ []) (length (version_text n) - 3) (let l = length-append (decimal n) (126 ∷ []) in omega arith)

written_here : (n : ℕ) → 1 ≤ n → n < 10 ^ 18 → number_in (version_text n) ≡ Some n
written_here n low high =
    let fits : n < 2 ^ 64 = omega arith in
    let len : length (decimal n ++ 126 ∷ []) ≡ length (decimal n) + 1 = length-append (decimal n) (126 ∷ []) in
    let some : 0 < length (decimal n) = decimal_nonempty n fits in
    let place : length (version_text n) - 1 ≡ length (46 ∷ 126 ∷ decimal n) = omega arith in
    let last : get_or (version_text n) (length (version_text n) - 1) 0 ≡ 126 =
    ap (λ (i : ℕ). get_or (version_text n) i 0) place ∙ get_or-append_seam (46 ∷ 126 ∷ decimal n) 126 [] 0 in
    let test : is_version_text (version_text n) ≡ true = ending_holds (version_text n) (record {
      long = omega arith;
      dot = refl;
      tilde = refl;
      last = last;
      number = ap is_number (between_text n) ∙ decimal_number n low high;
    }) in
    ap (λ (b : Bool). cond b (Some (digits_value 10 (between (version_text n)))) None) test
    ∙ ap (λ (ds : List ℕ). Some (digits_value 10 ds)) (between_text n)
    ∙ ap (λ (m : ℕ). Some m) (decimal_is_IsNumeral n fits).1

-- a `~` among what would be digits
not_before : (b : ℕ) (s : List ℕ) (n : ℕ) → 1 ≤ n → n < 10 ^ 18 → number_in ((b ∷ s) ++ version_text n) ≡ None
not_before b s n low high =
    let len : length ((b ∷ s) ++ version_text n) ≡ suc (length s) + length (version_text n) = length-append (b ∷ s) (version_text n) in
    let more : length (decimal n ++ 126 ∷ []) ≡ length (decimal n) + 1 = length-append (decimal n) (126 ∷ []) in
    let some : 0 < length (decimal n) = decimal_nonempty n (omega arith) in
    let place : 2 + length s ≡ length (b ∷ s) + 1 = omega arith in
    let tilde : get_or ((b ∷ s) ++ version_text n) (2 + length s) 0 ≡ 126 =
    ap (λ (i : ℕ). get_or ((b ∷ s) ++ version_text n) i 0) place ∙ get_or-append-add (b ∷ s) (version_text n) 1 0 in
    let inside : get_or (between ((b ∷ s) ++ version_text n)) (length s) 0 ≡ 126 =
    get_or-take (length ((b ∷ s) ++ version_text n) - 3) (drop 2 ((b ∷ s) ++ version_text n)) (length s) 0 (omega arith)
    ∙ get_or-drop 2 ((b ∷ s) ++ version_text n) (length s) 0 ∙ tilde in
    let no_text : is_version_text ((b ∷ s) ++ version_text n) ≡ false = not_true _ (λ h.
    let number = number_is (between ((b ∷ s) ++ version_text n)) (ending_is ((b ∷ s) ++ version_text n) h).number in
    let size : length (between ((b ∷ s) ++ version_text n)) ≡ min (length ((b ∷ s) ++ version_text n) - 3) (length (drop 2 ((b ∷ s) ++ version_text n))) = length-take _ _ in
    let behind : length (drop 2 ((b ∷ s) ++ version_text n)) ≡ length ((b ∷ s) ++ version_text n) - 2 = length-drop 2 ((b ∷ s) ++ version_text n) in
    let digit = digit_at (between ((b ∷ s) ++ version_text n)) (length s) number.digits (omega arith) in
    omega (arith, digit.1, inside)) in
    ap (λ (c : Bool). cond c (Some (digits_value 10 (between ((b ∷ s) ++ version_text n)))) None) no_text

-- as the text after its first byte is scanned
first_found : (t : List ℕ) (n : ℕ) → 1 ≤ length t → number_in t ≡ Some n → version_in t ≡ Some ([], n)
first_found [] n some e = absurd (omega arith)
first_found (b ∷ t) n some e = ap (λ (o : Option ℕ). found o b (version_in t)) e

pub written : (s : List ℕ) (n : ℕ) → 1 ≤ n → n < 10 ^ 18 → version_in (s ++ version_text n) ≡ Some (s, n)
written [] n low high = first_found (version_text n) n (omega arith) (written_here n low high)
written (b ∷ s) n low high =
    ap (λ (o : Option ℕ). found o b (version_in (s ++ version_text n))) (not_before b s n low high)
    ∙ ap (option_map (λ v. (b ∷ v.0, v.1))) (written s n low high)
