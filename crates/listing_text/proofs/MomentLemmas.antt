-- The text of a minute and the minute of a text undo each other.
use Rattle.std.proofs.Common.{◌≡◌, inl, inr, ℕ, zero, suc, ◌+◌, ◌-◌, ◌*◌, ◌/◌, ◌%◌, ◌<◌, ◌≤◌, true, List, [], ◌∷◌, ◌++◌, length, refl, sym, ◌∙◌, ap, subst, arith, Some, None, ℤ, pos, neg_ℤ, ◌+ℤ◌, ◌*ℤ◌, ◌≤ℤ◌, ◌<ℤ◌, unsigned_abs, nat_le, ◌&&◌, ◌==◌}
use Rattle.std.proofs.lemmas.Bool.{cases_Bool, cases_order, and_parts, leb-true, le-leb, eqb-true, ne_eqb}
use Rattle.std.proofs.lemmas.Int.{ints, clamps, by_lt_z}
use Rattle.std.proofs.lemmas.Option.{option_and_then_some, same_Some, cond_some}
use Rattle.std.specs.Int.{int_div_euclid, int_rem_euclid}
use Rattle.jiff_core.specs.Calendar.{days_from_civil, days_in_month, IsCivilDate}
use Rattle.jiff_core.proofs.CalendarLemmas.{days_from_civil-day_count, day_count-day, day_count-next_month, day_count-next_year, day_count-last_of_year}
use Rattle.jiff_core.proofs.SignedLemmas.{signed_arith, int_div_euclid-parts, int_rem_euclid-parts, unsigned_abs-parts}
use Rattle.listing_text.specs.Numbers.{is_digit}
use Rattle.listing_text.specs.Dates.{minute_of, latest, stamp, stamp_of, shown_minute, first_minute, last_minute, minute_text, is_moment, moment_of, minute_at, two_of, four_of}
use Rattle.listing_text.proofs.DateLemmas.{stamp_of-civil, shown-bounds, moment-parts, day-bounds, le_test, lt_test, first_day, end_day, days-few}
use Rattle.listing_text.specs.Fields.{is_space}
use Rattle.listing_text.proofs.RunLemmas.{Stops}
use borrow.Author.Differences.{up, down}

digit-bounds : (b : ℕ) → is_digit b ≡ true → (48 ≤ b) × (b ≤ 57)
digit-bounds b is = let parts = and_parts (nat_le 48 b) (nat_le b 57) is in (leb-true 48 b parts.0, leb-true b 57 parts.1)

digit-is : (n : ℕ) → n < 10 → is_digit (48 + n) ≡ true
digit-is n low = rw (le-leb 48 (48 + n) (omega arith), le-leb (48 + n) 57 (omega arith)) refl

-- two digits and four
two_of-digits : (n : ℕ) → n < 100 → two_of (48 + n / 10) (48 + n % 10) ≡ Some n
unfolding two_of
two_of-digits n low = rw (digit-is (n / 10) (omega arith), digit-is (n % 10) (omega arith)) (ap Some (omega arith))

two_of-from : (a b n : ℕ) → two_of a b ≡ Some n → (n < 100) × (48 + n / 10 ≡ a) × (48 + n % 10 ≡ b)
unfolding two_of
two_of-from a b n e =
    let is = cond_some (is_digit a && is_digit b) ((a - 48) * 10 + (b - 48)) n e in
    let parts = and_parts (is_digit a) (is_digit b) is.0 in
    let high = digit-bounds a parts.0 in
    let low = digit-bounds b parts.1 in
    let value : (a - 48) * 10 + (b - 48) ≡ n = is.1 in
    (omega arith, omega arith, omega arith)

four_of-digits : (n : ℕ) → n < 10000 → four_of (48 + n / 100 / 10) (48 + n / 100 % 10) (48 + n % 100 / 10) (48 + n % 100 % 10) ≡ Some n
unfolding four_of
four_of-digits n low = rw (two_of-digits (n / 100) (omega arith), two_of-digits (n % 100) (omega arith)) (ap Some (omega arith))

four_of-from : (a b c d n : ℕ) → four_of a b c d ≡ Some n → (48 + n / 100 / 10 ≡ a) × (48 + n / 100 % 10 ≡ b) × (48 + n % 100 / 10 ≡ c) × (48 + n % 100 % 10 ≡ d)
unfolding four_of
four_of-from a b c d n e =
    option_and_then_some _ (two_of a b) n e (λ high is_high r.
    option_and_then_some _ (two_of c d) n r (λ low is_low whole.
    let h = two_of-from a b high is_high in
    let l = two_of-from c d low is_low in
    let value : high * 100 + low ≡ n = same_Some (high * 100 + low) n whole in
    let front : n / 100 ≡ high = omega (arith, l.0) in
    let back : n % 100 ≡ low = omega (arith, l.0) in
    rw (front, back) (h.1, h.2, l.1, l.2)))

moment-is : (y mo d h mi : ℕ) → 1 ≤ y → y ≤ 9998 → IsCivilDate (pos y) mo d → h < 24 → mi < 60 → is_moment y mo d h mi ≡ true
moment-is y mo d h mi low high civil hour minute =
    rw (le-leb 1 y low, le-leb y 9998 high, le-leb 1 mo civil.1.0, le-leb mo 12 civil.1.1, le-leb 1 d civil.2.0, le-leb d (days_in_month (pos y) mo) civil.2.1, le-leb h 23 (omega arith), le-leb mi 59 (omega arith)) refl

moment_of-is : (y mo d h mi : ℕ) → is_moment y mo d h mi ≡ true → moment_of y mo d h mi ≡ Some (minute_at y mo d h mi)
unfolding moment_of
moment_of-is y mo d h mi is = rw is refl

moment_of-from : (y mo d h mi : ℕ) (m : ℤ) → moment_of y mo d h mi ≡ Some m → (is_moment y mo d h mi ≡ true) × (minute_at y mo d h mi ≡ m)
unfolding moment_of
moment_of-from y mo d h mi m e = cond_some (is_moment y mo d h mi) (minute_at y mo d h mi) m e

civil-from : (y mo d h mi : ℕ) → is_moment y mo d h mi ≡ true → IsCivilDate (pos y) mo d
civil-from y mo d h mi is =
    let p = moment-parts y mo d h mi is in
    ((omega (arith, signed_arith), omega (arith, signed_arith, p.1)), (p.2, p.3), (p.4, p.5))

-- the minute of a date and time is shown as that date and time
shown-between : (m : ℤ) → first_minute ≤ℤ m → m ≤ℤ last_minute → shown_minute m ≡ m
shown-between m low high = omega (arith, ints, clamps)

day-and-rest : (day : ℤ) (passed : ℕ) → passed < 1440 → (int_div_euclid (day *ℤ pos 1440 +ℤ pos passed) (pos 1440) ≡ day) × (unsigned_abs (int_rem_euclid (day *ℤ pos 1440 +ℤ pos passed) (pos 1440)) ≡ passed)
day-and-rest day passed low =
    let n : ℤ = day *ℤ pos 1440 +ℤ pos passed in
    let quotient = int_div_euclid-parts n 1440 (omega arith) in
    let rest = int_rem_euclid-parts n 1440 (omega arith) in
    let sum : up n + down day * 1440 ≡ down n + up day * 1440 + passed = omega (arith, signed_arith) in
    (omega (arith, signed_arith, quotient.0, quotient.1, sum), omega (arith, signed_arith, unsigned_abs-parts, quotient.0, quotient.1, rest.0, rest.1, rest.2, sum))

minute-in-range : (y mo d h mi : ℕ) → is_moment y mo d h mi ≡ true → shown_minute (minute_at y mo d h mi) ≡ minute_at y mo d h mi
minute-in-range y mo d h mi is =
    let p = moment-parts y mo d h mi is in
    let days = day-bounds (pos y) mo d (civil-from y mo d h mi is) (omega (arith, signed_arith, p.0)) (omega (arith, signed_arith, p.1)) in
    shown-between (minute_at y mo d h mi) (omega (arith, signed_arith, days.0)) (omega (arith, signed_arith, days.1, p.6, p.7))

pub minute_text-at : (y mo d h mi : ℕ) → is_moment y mo d h mi ≡ true → minute_text (minute_at y mo d h mi) ≡ stamp y mo d h mi
unfolding minute_text
minute_text-at y mo d h mi is =
    let p = moment-parts y mo d h mi is in
    let parts = day-and-rest (days_from_civil (pos y) mo d) (h * 60 + mi) (omega (arith, p.6, p.7)) in
    rw (minute-in-range y mo d h mi is, parts.0, parts.1) (stamp_of-civil y mo d h mi p.0 p.1 (civil-from y mo d h mi is) (omega (arith, p.7)))

-- the minute that a text shows has that text
pub minute_of-from : (text : List ℕ) (m : ℤ) → minute_of text ≡ Some m → (text ≡ minute_text m) × (shown_minute m ≡ m)
unfolding minute_of
minute_of-from ([]) m e = cc
minute_of-from (x0 ∷ []) m e = cc
minute_of-from (x0 ∷ x1 ∷ []) m e = cc
minute_of-from (x0 ∷ x1 ∷ x2 ∷ []) m e = cc
minute_of-from (x0 ∷ x1 ∷ x2 ∷ x3 ∷ []) m e = cc
minute_of-from (x0 ∷ x1 ∷ x2 ∷ x3 ∷ x4 ∷ []) m e = cc
minute_of-from (x0 ∷ x1 ∷ x2 ∷ x3 ∷ x4 ∷ x5 ∷ []) m e = cc
minute_of-from (x0 ∷ x1 ∷ x2 ∷ x3 ∷ x4 ∷ x5 ∷ x6 ∷ []) m e = cc
minute_of-from (x0 ∷ x1 ∷ x2 ∷ x3 ∷ x4 ∷ x5 ∷ x6 ∷ x7 ∷ []) m e = cc
minute_of-from (x0 ∷ x1 ∷ x2 ∷ x3 ∷ x4 ∷ x5 ∷ x6 ∷ x7 ∷ x8 ∷ []) m e = cc
minute_of-from (x0 ∷ x1 ∷ x2 ∷ x3 ∷ x4 ∷ x5 ∷ x6 ∷ x7 ∷ x8 ∷ x9 ∷ []) m e = cc
minute_of-from (x0 ∷ x1 ∷ x2 ∷ x3 ∷ x4 ∷ x5 ∷ x6 ∷ x7 ∷ x8 ∷ x9 ∷ x10 ∷ []) m e = cc
minute_of-from (x0 ∷ x1 ∷ x2 ∷ x3 ∷ x4 ∷ x5 ∷ x6 ∷ x7 ∷ x8 ∷ x9 ∷ x10 ∷ x11 ∷ []) m e = cc
minute_of-from (x0 ∷ x1 ∷ x2 ∷ x3 ∷ x4 ∷ x5 ∷ x6 ∷ x7 ∷ x8 ∷ x9 ∷ x10 ∷ x11 ∷ x12 ∷ []) m e = cc
minute_of-from (x0 ∷ x1 ∷ x2 ∷ x3 ∷ x4 ∷ x5 ∷ x6 ∷ x7 ∷ x8 ∷ x9 ∷ x10 ∷ x11 ∷ x12 ∷ x13 ∷ []) m e = cc
minute_of-from (x0 ∷ x1 ∷ x2 ∷ x3 ∷ x4 ∷ x5 ∷ x6 ∷ x7 ∷ x8 ∷ x9 ∷ x10 ∷ x11 ∷ x12 ∷ x13 ∷ x14 ∷ []) m e = cc
minute_of-from (x0 ∷ x1 ∷ x2 ∷ x3 ∷ x4 ∷ x5 ∷ x6 ∷ x7 ∷ x8 ∷ x9 ∷ x10 ∷ x11 ∷ x12 ∷ x13 ∷ x14 ∷ x15 ∷ x16 ∷ later) m e = cc
minute_of-from (x0 ∷ x1 ∷ x2 ∷ x3 ∷ x4 ∷ x5 ∷ x6 ∷ x7 ∷ x8 ∷ x9 ∷ x10 ∷ x11 ∷ x12 ∷ x13 ∷ x14 ∷ x15 ∷ []) m e = read-stamp x0 x1 x2 x3 x4 x5 x6 x7 x8 x9 x10 x11 x12 x13 x14 x15 m e
  where
    read-stamp : (a b c d dash₁ e f dash₂ g h space i j colon k l : ℕ) (m : ℤ) → minute_of (a ∷ b ∷ c ∷ d ∷ dash₁ ∷ e ∷ f ∷ dash₂ ∷ g ∷ h ∷ space ∷ i ∷ j ∷ colon ∷ k ∷ l ∷ []) ≡ Some m → ((a ∷ b ∷ c ∷ d ∷ dash₁ ∷ e ∷ f ∷ dash₂ ∷ g ∷ h ∷ space ∷ i ∷ j ∷ colon ∷ k ∷ l ∷ []) ≡ minute_text m) × (shown_minute m ≡ m)
    read-stamp a b c d dash₁ e f dash₂ g h space i j colon k l m whole = elim (cases_Bool (dash₁ == 45 && dash₂ == 45 && space == 32 && colon == 58)) [
      | inl is ↦ let chain = rw is at whole in
          let p3 = and_parts (dash₁ == 45 && dash₂ == 45 && space == 32) (colon == 58) is in
          let p2 = and_parts (dash₁ == 45 && dash₂ == 45) (space == 32) p3.0 in
          let p1 = and_parts (dash₁ == 45) (dash₂ == 45) p2.0 in
          option_and_then_some _ (four_of a b c d) m chain (λ year is_year r1.
          option_and_then_some _ (two_of e f) m r1 (λ month is_month r2.
          option_and_then_some _ (two_of g h) m r2 (λ day is_day r3.
          option_and_then_some _ (two_of i j) m r3 (λ hour is_hour r4.
          option_and_then_some _ (two_of k l) m r4 (λ minute is_minute r5.
          let moment = moment_of-from year month day hour minute m r5 in
          let y = four_of-from a b c d year is_year in
          let mo = two_of-from e f month is_month in
          let da = two_of-from g h day is_day in
          let ho = two_of-from i j hour is_hour in
          let mi = two_of-from k l minute is_minute in
          let same : stamp year month day hour minute ≡ (a ∷ b ∷ c ∷ d ∷ dash₁ ∷ e ∷ f ∷ dash₂ ∷ g ∷ h ∷ space ∷ i ∷ j ∷ colon ∷ k ∷ l ∷ []) =
          λ t. y.0 t ∷ y.1 t ∷ y.2 t ∷ y.3 t ∷ sym (eqb-true dash₁ 45 p1.0) t ∷ mo.1 t ∷ mo.2 t ∷ sym (eqb-true dash₂ 45 p1.1) t ∷ da.1 t ∷ da.2 t
          ∷ sym (eqb-true space 32 p2.1) t ∷ ho.1 t ∷ ho.2 t ∷ sym (eqb-true colon 58 p3.1) t ∷ mi.1 t ∷ mi.2 t ∷ [] in
          let text : minute_text m ≡ stamp year month day hour minute = ap minute_text (sym moment.1) ∙ minute_text-at year month day hour minute moment.0 in
          let shown : shown_minute (minute_at year month day hour minute) ≡ minute_at year month day hour minute = minute-in-range year month day hour minute moment.0 in
          (sym (text ∙ same), subst (λ z. shown_minute z ≡ z) moment.1 shown))))))
      | inr other ↦ let none : None ≡ Some m = rw other at whole in cc
    ]

-- k is the last of 1 to n that begins by the day
abbrev IsLatest : (ℕ → ℤ) → ℕ → ℤ → ℕ → Type 0
IsLatest f n day k = (1 ≤ k) × (k ≤ n) × (f k ≤ℤ day) × (k < n → day <ℤ f (k + 1))

latest-here : (f : ℕ → ℤ) (n : ℕ) (day : ℤ) → f (suc n) ≤ℤ day → latest f (suc n) day ≡ suc n
unfolding latest
latest-here f n day reached = rw (le_test (f (suc n)) day reached) refl

latest-before : (f : ℕ → ℤ) (n : ℕ) (day : ℤ) → day <ℤ f (suc n) → latest f (suc n) day ≡ latest f n day
unfolding latest
latest-before f n day before = rw (lt_test (f (suc n)) day before) refl

latest-found : (f : ℕ → ℤ) (n : ℕ) (day : ℤ) → 1 ≤ n → f 1 ≤ℤ day → IsLatest f n day (latest f n day)
latest-found f zero day some begins = absurd (omega arith)
latest-found f (suc zero) day some begins =
    subst (IsLatest f 1 day) (sym (latest-here f zero day begins)) (omega arith, omega arith, begins, λ below. absurd (omega arith))
latest-found f (suc (suc n)) day some begins =
    by_lt_z day (f (suc (suc n)))
    (λ before. let inner = latest-found f (suc n) day (omega arith) begins in
    let k = latest f (suc n) day in
    let next : day <ℤ f (k + 1) = elim (cases_order k (suc n)) [
      | inl same ↦ let e : suc (suc n) ≡ k + 1 = omega arith in subst (λ j. day <ℤ f j) e before
      | inr (inl below) ↦ inner.3 below
      | inr (inr above) ↦ absurd (omega (arith, inner.1))
    ] in
    subst (IsLatest f (suc (suc n)) day) (sym (latest-before f (suc n) day before)) (inner.0, omega (arith, inner.1), inner.2, λ below. next))
    (λ reached. subst (IsLatest f (suc (suc n)) day) (sym (latest-here f (suc n) day reached)) (omega arith, omega arith, reached, λ below. absurd (omega arith)))

-- a date of the calendar whose day this is
pub record CivilOf (day : ℤ) : Type 0 where
  pub year : ℕ
  pub month : ℕ
  pub date : ℕ
  pub first : 1 ≤ year
  pub last : year ≤ 9998
  pub civil : IsCivilDate (pos year) month date
  pub is : days_from_civil (pos year) month date ≡ day

-- in a month that has begun, and whose end has not come
in-month : (y m : ℕ) (day : ℤ) → 1 ≤ y → y ≤ 9998 → 1 ≤ m → m ≤ 12 → days_from_civil (pos y) m 1 ≤ℤ day → day <ℤ (days_from_civil (pos y) m 1 +ℤ pos (days_in_month (pos y) m)) → CivilOf day
in-month y m day low high month_low month_high begun ends =
    let start = days_from_civil (pos y) m 1 in
    let d = up day + down start + 1 - (down day + up start) in
    let within : d ≤ days_in_month (pos y) m = omega (arith, signed_arith) in
    let some : 1 ≤ d = omega (arith, signed_arith) in
    record {
      year = y;
      month = m;
      date = d;
      first = low;
      last = high;
      civil = ((omega (arith, signed_arith), omega (arith, signed_arith)), (month_low, month_high), (some, within));
      is = omega (arith, signed_arith, days_from_civil-day_count (pos y) m d, days_from_civil-day_count (pos y) m 1, day_count-day (pos y) m d 1 some (omega arith));
    }

pub civil-exists : (day : ℤ) → neg_ℤ (pos 719_162) ≤ℤ day → day ≤ℤ pos 2_932_531 → CivilOf day
civil-exists day low high =
    let years : ℕ → ℤ = λ year. days_from_civil (pos year) 1 1 in
    let found = latest-found years 9998 day (omega arith) (omega (arith, signed_arith, days_from_civil-day_count (pos 1) 1 1, first_day)) in
    let y = latest years 9998 day in
    let y_low : 1 ≤ y = found.0 in
    let y_high : y ≤ 9998 = found.1 in
    let next_year : pos (y + 1) ≡ pos y +ℤ pos 1 = refl in
    let ends : day <ℤ days_from_civil (pos (y + 1)) 1 1 = elim (cases_order y 9998) [
      | inl same ↦ let e : 9999 ≡ y + 1 = omega arith in subst (λ j. day <ℤ days_from_civil (pos j) 1 1) e (omega (arith, signed_arith, days_from_civil-day_count (pos 9999) 1 1, end_day))
      | inr (inl below) ↦ found.3 below
      | inr (inr above) ↦ absurd (omega (arith, found.1))
    ] in
    let months : ℕ → ℤ = λ month. days_from_civil (pos y) month 1 in
    let month = latest-found months 12 day (omega arith) found.2 in
    let m = latest months 12 day in
    let m_low : 1 ≤ m = month.0 in
    let m_high : m ≤ 12 = month.1 in
    let out : day <ℤ (days_from_civil (pos y) m 1 +ℤ pos (days_in_month (pos y) m)) = elim (cases_order m 12) [
      | inl same ↦ subst (λ j. day <ℤ (days_from_civil (pos y) j 1 +ℤ pos (days_in_month (pos y) j))) (sym same)
          (omega (
            arith,
            signed_arith,
            days_from_civil-day_count (pos y) 12 1,
            days_from_civil-day_count (pos (y + 1)) 1 1,
            days_from_civil-day_count (pos y) 1 1,
            day_count-next_year (pos y) (pos (y + 1)) (omega (arith, signed_arith)) next_year,
            day_count-last_of_year (pos y),
            day_count-day (pos y) 12 31 1 (omega arith) (omega arith),
          ))
      | inr (inl below) ↦ let then_ends : day <ℤ days_from_civil (pos y) (m + 1) 1 = month.3 below in
          omega (arith, signed_arith, days_from_civil-day_count (pos y) m 1, days_from_civil-day_count (pos y) (m + 1) 1, day_count-next_month (pos y) m m_low)
      | inr (inr above) ↦ absurd (omega (arith, month.1))
    ] in
    in-month y m day y_low y_high m_low m_high month.2 out

minute_of-stamp : (y mo d h mi : ℕ) → is_moment y mo d h mi ≡ true → minute_of (stamp y mo d h mi) ≡ Some (minute_at y mo d h mi)
unfolding minute_of
minute_of-stamp y mo d h mi is =
    let p = moment-parts y mo d h mi is in
    let few : days_in_month (pos y) mo ≤ 31 = days-few (pos y) mo in
    rw (four_of-digits y (omega (arith, p.1)), two_of-digits mo (omega (arith, p.3)), two_of-digits d (omega (arith, p.5)), two_of-digits h (omega (arith, p.6)), two_of-digits mi (omega (arith, p.7)))
    (moment_of-is y mo d h mi is)

-- the text of a minute shows that minute, or the end of the range that is nearest to it
pub minute_of-text : (minute : ℤ) → minute_of (minute_text minute) ≡ Some (shown_minute minute)
unfolding minute_text
minute_of-text minute =
    let n = shown_minute minute in
    let bounds = shown-bounds minute in
    let quotient = int_div_euclid-parts n 1440 (omega arith) in
    let rest = int_rem_euclid-parts n 1440 (omega arith) in
    let day : ℤ = int_div_euclid n (pos 1440) in
    let passed : ℕ = unsigned_abs (int_rem_euclid n (pos 1440)) in
    let few : passed < 1440 = omega (arith, signed_arith, unsigned_abs-parts, rest.1, rest.2) in
    let civil = civil-exists day (omega (arith, signed_arith, bounds.0, quotient.0, quotient.1)) (omega (arith, signed_arith, bounds.1, quotient.0, quotient.1)) in
    let hour = passed / 60 in
    let left = passed % 60 in
    let is = moment-is civil.year civil.month civil.date hour left civil.first civil.last civil.civil (omega arith) (omega arith) in
    let time : hour * 60 + left ≡ passed = omega arith in
    let value : minute_at civil.year civil.month civil.date hour left ≡ n =
    ap (λ z. z *ℤ pos 1440 +ℤ pos (hour * 60 + left)) civil.is ∙ omega (arith, signed_arith, unsigned_abs-parts, rest.0, rest.1, time) in
    let text : stamp_of day passed ≡ stamp civil.year civil.month civil.date hour left =
    ap (λ z. stamp_of z passed) (sym civil.is) ∙ ap (stamp_of (days_from_civil (pos civil.year) civil.month civil.date)) (sym time) ∙ stamp_of-civil civil.year civil.month civil.date hour left civil.first civil.last civil.civil (omega arith) in
    ap minute_of text ∙ minute_of-stamp civil.year civil.month civil.date hour left is ∙ ap Some value

pub minute_text-length : (minute : ℤ) → length (minute_text minute) ≡ 16
unfolding minute_text
minute_text-length minute = refl

pub minute_text-head : (minute : ℤ) (rest : List ℕ) → Stops is_space (minute_text minute ++ rest)
unfolding minute_text
minute_text-head minute rest = ne_eqb _ 32 (λ e. absurd (omega arith))

pub shown-again : (minute : ℤ) → shown_minute (shown_minute minute) ≡ shown_minute minute
shown-again minute = let bounds = shown-bounds minute in shown-between (shown_minute minute) bounds.0 bounds.1

pub minute_text-shown : (minute : ℤ) → minute_text (shown_minute minute) ≡ minute_text minute
unfolding minute_text
minute_text-shown minute = rw (shown-again minute) refl
