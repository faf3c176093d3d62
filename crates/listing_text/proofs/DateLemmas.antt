-- Dates.
use Rattle.std.proofs.Common.{◌≡◌, inl, inr, ℕ, zero, suc, ◌+◌, ◌-◌, ◌*◌, ◌/◌, ◌%◌, ◌<◌, ◌≤◌, true, false, List, [], ◌∷◌, length, refl, sym, ◌∙◌, ap, subst, arith, Some, None, ℤ, pos, negsuc, neg_ℤ, ◌+ℤ◌, ◌-ℤ◌, ◌*ℤ◌, ◌≤ℤ◌, ◌<ℤ◌, int_le, unsigned_abs, to_z, w8, w16, nat_le, ◌&&◌, Result, Ok, Err, IsOk, IfOk, int_div}
use Rattle.std.proofs.lemmas.Bool.{cases_eq, cases_Bool, and_parts, leb-true, le-leb}
use Rattle.std.proofs.lemmas.Int.{ints, clamps, by_lt_z}
use Rattle.std.specs.Int.{int_div_euclid, int_rem_euclid}
use Rattle.jiff_core.specs.declared.civil.datetime.DateTime.{DateTime}
use Rattle.jiff_core.specs.Calendar.{days_from_civil, day_count, days_in_month, IsCivilDate, IsDate}
use Rattle.jiff_core.specs.Time.{IsTime}
use Rattle.jiff_core.specs.Date.{epoch_day}
use Rattle.jiff_core.specs.DateTime.{civil_nanos}
use Rattle.jiff_core.specs.Timestamp.{IsTimestampNanos}
use Rattle.std.specs.Result.{result_unwrap_or}
use Rattle.jiff_core.proofs.CalendarLemmas.{days_from_civil-day_count, day_count-day_of_year, day_count-day, day_count-lt_year, day_count-lt_month, day_count-later_year}
use Rattle.jiff_core.proofs.DateLemmas.{civil as civil_date}
use Rattle.jiff_core.proofs.DateTimeLemmas.{civil_nanos-parts, time_nanos_bound}
use Rattle.jiff_core.proofs.MarchLemmas.{day_count-early}
use Rattle.jiff_core.proofs.SignedLemmas.{signed_arith, int_div_euclid-parts, int_rem_euclid-parts, unsigned_abs-parts}
use Rattle.listing_text.specs.Dates.{minute_of, latest, year_of, month_of, day_of, stamp, stamp_of, shown_minute, first_minute, last_minute, minute_text, is_moment, moment_of, minute_at, civil_minute}
use borrow.Author.Differences.{up, down}

pub minute_of-short : (text : List ℕ) → length text < 16 → minute_of text ≡ None
unfolding minute_of
minute_of-short ([]) short = refl
minute_of-short (x0 ∷ []) short = refl
minute_of-short (x0 ∷ x1 ∷ []) short = refl
minute_of-short (x0 ∷ x1 ∷ x2 ∷ []) short = refl
minute_of-short (x0 ∷ x1 ∷ x2 ∷ x3 ∷ []) short = refl
minute_of-short (x0 ∷ x1 ∷ x2 ∷ x3 ∷ x4 ∷ []) short = refl
minute_of-short (x0 ∷ x1 ∷ x2 ∷ x3 ∷ x4 ∷ x5 ∷ []) short = refl
minute_of-short (x0 ∷ x1 ∷ x2 ∷ x3 ∷ x4 ∷ x5 ∷ x6 ∷ []) short = refl
minute_of-short (x0 ∷ x1 ∷ x2 ∷ x3 ∷ x4 ∷ x5 ∷ x6 ∷ x7 ∷ []) short = refl
minute_of-short (x0 ∷ x1 ∷ x2 ∷ x3 ∷ x4 ∷ x5 ∷ x6 ∷ x7 ∷ x8 ∷ []) short = refl
minute_of-short (x0 ∷ x1 ∷ x2 ∷ x3 ∷ x4 ∷ x5 ∷ x6 ∷ x7 ∷ x8 ∷ x9 ∷ []) short = refl
minute_of-short (x0 ∷ x1 ∷ x2 ∷ x3 ∷ x4 ∷ x5 ∷ x6 ∷ x7 ∷ x8 ∷ x9 ∷ x10 ∷ []) short = refl
minute_of-short (x0 ∷ x1 ∷ x2 ∷ x3 ∷ x4 ∷ x5 ∷ x6 ∷ x7 ∷ x8 ∷ x9 ∷ x10 ∷ x11 ∷ []) short = refl
minute_of-short (x0 ∷ x1 ∷ x2 ∷ x3 ∷ x4 ∷ x5 ∷ x6 ∷ x7 ∷ x8 ∷ x9 ∷ x10 ∷ x11 ∷ x12 ∷ []) short = refl
minute_of-short (x0 ∷ x1 ∷ x2 ∷ x3 ∷ x4 ∷ x5 ∷ x6 ∷ x7 ∷ x8 ∷ x9 ∷ x10 ∷ x11 ∷ x12 ∷ x13 ∷ []) short = refl
minute_of-short (x0 ∷ x1 ∷ x2 ∷ x3 ∷ x4 ∷ x5 ∷ x6 ∷ x7 ∷ x8 ∷ x9 ∷ x10 ∷ x11 ∷ x12 ∷ x13 ∷ x14 ∷ []) short = refl
minute_of-short (x0 ∷ x1 ∷ x2 ∷ x3 ∷ x4 ∷ x5 ∷ x6 ∷ x7 ∷ x8 ∷ x9 ∷ x10 ∷ x11 ∷ x12 ∷ x13 ∷ x14 ∷ x15 ∷ later) short = absurd (omega arith)

pub le_test : (a b : ℤ) → a ≤ℤ b → int_le a b ≡ true
le_test a b h = grind (arith, ints)

pub lt_test : (a b : ℤ) → b <ℤ a → int_le a b ≡ false
lt_test a b h = grind (arith, ints)

-- the latest is the one that begins by the day where each later one begins behind it
pub latest-is : (first_day : ℕ → ℤ) (n k : ℕ) (day : ℤ) → 1 ≤ k → k ≤ n → first_day k ≤ℤ day → ((j : ℕ) → k < j → j ≤ n → day <ℤ first_day j) → latest first_day n day ≡ k
unfolding latest
latest-is f zero k day some low begins later = absurd (omega arith)
latest-is f (suc n) k day some low begins later =
    elim (cases_eq k (suc n)) [
      | inl same ↦ rw (le_test (f (suc n)) day (subst (λ m. f m ≤ℤ day) same begins)) (sym same)
      | inr other ↦ rw (lt_test (f (suc n)) day (later (suc n) (omega arith) (omega arith))) (latest-is f n k day some (omega arith) begins (λ j above within. later j above (omega arith)))
    ]

-- the parts of a day are the year, month and day of the calendar
pub year_of-is : (y m d : ℕ) → 1 ≤ y → y ≤ 9998 → IsCivilDate (pos y) m d → year_of (days_from_civil (pos y) m d) ≡ y
unfolding year_of
year_of-is y m d low high h =
    latest-is (λ year. days_from_civil (pos year) 1 1) 9998 y (days_from_civil (pos y) m d) low high
    (omega (arith, signed_arith, days_from_civil-day_count (pos y) m d, days_from_civil-day_count (pos y) 1 1, day_count-day_of_year (pos y) m d h.2.0, h.2.0))
    (λ j above within. let before : pos y <ℤ pos j = omega (arith, signed_arith) in
    omega (arith, signed_arith, days_from_civil-day_count (pos y) m d, days_from_civil-day_count (pos j) 1 1, day_count-lt_year (pos y) m d (pos j) 1 1 h (omega arith) before))

pub month_of-is : (y m d : ℕ) → 1 ≤ y → y ≤ 9998 → IsCivilDate (pos y) m d → month_of (days_from_civil (pos y) m d) ≡ m
unfolding month_of
month_of-is y m d low high h =
    rw (year_of-is y m d low high h) (latest-is (λ month. days_from_civil (pos y) month 1) 12 m (days_from_civil (pos y) m d) h.1.0 h.1.1
    (omega (arith, signed_arith, days_from_civil-day_count (pos y) m d, days_from_civil-day_count (pos y) m 1, day_count-day (pos y) m d 1 h.2.0 (omega arith), h.2.0))
    (λ j above within.
    omega (arith, signed_arith, days_from_civil-day_count (pos y) m d, days_from_civil-day_count (pos y) j 1, day_count-lt_month (pos y) m d j 1 h (omega arith) above)))

day-left : (first day : ℤ) (d : ℕ) → 1 ≤ d → up day + down first + 1 ≡ down day + up first + d → unsigned_abs (day -ℤ first) + 1 ≡ d
day-left first day d some e =
    let left : day -ℤ first ≡ pos (d - 1) = omega (arith, signed_arith) in
    ap (λ z. unsigned_abs z + 1) left ∙ (let back : d - 1 + 1 ≡ d = omega arith in back)

pub day_of-is : (y m d : ℕ) → 1 ≤ y → y ≤ 9998 → IsCivilDate (pos y) m d → day_of (days_from_civil (pos y) m d) ≡ d
unfolding day_of
day_of-is y m d low high h =
    rw (year_of-is y m d low high h, month_of-is y m d low high h) (day-left (days_from_civil (pos y) m 1) (days_from_civil (pos y) m d) d h.2.0
    (omega (arith, signed_arith, days_from_civil-day_count (pos y) m d, days_from_civil-day_count (pos y) m 1, day_count-day (pos y) m d 1 h.2.0 (omega arith))))

-- the text of a day of the calendar
pub stamp_of-civil : (y m d hour minute : ℕ) → 1 ≤ y → y ≤ 9998 → IsCivilDate (pos y) m d → minute < 60 → stamp_of (days_from_civil (pos y) m d) (hour * 60 + minute) ≡ stamp y m d hour minute
stamp_of-civil y m d hour minute low high h small =
    let hours : (hour * 60 + minute) / 60 ≡ hour = omega arith in
    let minutes : (hour * 60 + minute) % 60 ≡ minute = omega arith in
    rw (year_of-is y m d low high h, month_of-is y m d low high h, day_of-is y m d low high h, hours, minutes) refl

pub shown-bounds : (minute : ℤ) → (first_minute ≤ℤ shown_minute minute) × (shown_minute minute ≤ℤ last_minute)
shown-bounds minute = (omega (arith, ints, clamps), omega (arith, ints, clamps))

pub first_day : day_count (pos 1) 1 1 ≡ 3_652_791
first_day = day_count-early (pos 1) 10000 1 1 refl (omega arith) (omega arith) (omega arith)

pub end_day : day_count (pos 9999) 1 1 ≡ 7_304_485
end_day = day_count-early (pos 9999) 19998 1 1 refl (omega arith) (omega arith) (omega arith)

-- a day from 0001-01-01 to 9998-12-31 is in one of these years
pub year-bounds : (y : ℤ) (m d : ℕ) → IsCivilDate y m d → neg_ℤ (pos 719_162) ≤ℤ days_from_civil y m d → days_from_civil y m d ≤ℤ pos 2_932_531 → (pos 1 ≤ℤ y) × (y ≤ℤ pos 9998)
year-bounds y m d h low high = (
  by_lt_z y (pos 1) (λ lt. absurd (omega (arith, signed_arith, days_from_civil-day_count y m d, first_day, day_count-lt_year y m d (pos 1) 1 1 h (omega arith) lt))) (λ le. le),
  by_lt_z (pos 9998) y (λ lt. absurd (omega (arith, signed_arith, days_from_civil-day_count y m d, end_day, year-begins y m d h, year-order y lt))) (λ le. le),
)
  where
    year-begins : (y : ℤ) (m d : ℕ) → IsCivilDate y m d → day_count y 1 1 ≤ day_count y m d
    year-begins y m d h = omega (arith, day_count-day_of_year y m d h.2.0, h.2.0)

    year-order : (y : ℤ) → pos 9998 <ℤ y → day_count (pos 9999) 1 1 ≤ day_count y 1 1
    year-order y lt = by_lt_z (pos 9999) y (λ above. omega (arith, day_count-later_year (pos 9999) y (omega (arith, signed_arith)) above)) (λ le. let same : y ≡ pos 9999 = omega (arith, signed_arith) in rw same (omega arith))

not_negative : (y : ℤ) → pos 1 ≤ℤ y → y ≡ pos (unsigned_abs y)
not_negative (pos n) h = refl
not_negative (negsuc n) h = absurd (omega (arith, signed_arith))

whole_minutes : (n day : ℤ) (hour minute second fraction : ℕ) → minute < 60 → hour < 24 → second < 60 → fraction < 1_000_000_000
    → day *ℤ pos 86_400_000_000_000 +ℤ pos ((hour * 3600 + minute * 60 + second) * 1_000_000_000 + fraction) ≡ n *ℤ pos 60_000_000_000
    → (int_div_euclid n (pos 1440) ≡ day) × (unsigned_abs (int_rem_euclid n (pos 1440)) ≡ hour * 60 + minute)
whole_minutes n day hour minute second fraction m h s f e =
    let quotient = int_div_euclid-parts n 1440 (omega arith) in
    let rest = int_rem_euclid-parts n 1440 (omega arith) in
    let sum : up day * 1440 + hour * 60 + minute + down n ≡ down day * 1440 + up n = omega (arith, signed_arith) in
    (omega (arith, signed_arith, quotient.0, quotient.1, sum), omega (arith, signed_arith, unsigned_abs-parts, quotient.0, quotient.1, rest.0, rest.1, rest.2, sum))

-- what is shown of a civil datetime whose nanoseconds are those of a shown minute
pub stamp-civil : (dt : DateTime) (minute : ℤ) → civil_nanos dt ≡ shown_minute minute *ℤ pos 60_000_000_000 → stamp (unsigned_abs dt.date.year) dt.date.month dt.date.day dt.time.hour dt.time.minute ≡ minute_text minute
unfolding minute_text
stamp-civil dt minute e =
    let n = shown_minute minute in
    let bounds = shown-bounds minute in
    let whole = whole_minutes n (epoch_day dt.date) dt.time.hour dt.time.minute dt.time.second dt.time.subsec_nanosecond (omega arith) (omega arith) (omega arith) (omega arith) (sym (civil_nanos-parts dt) ∙ e) in
    let day : int_div_euclid n (pos 1440) ≡ epoch_day dt.date = whole.0 in
    let passed : unsigned_abs (int_rem_euclid n (pos 1440)) ≡ dt.time.hour * 60 + dt.time.minute = whole.1 in
    let quotient = int_div_euclid-parts n 1440 (omega arith) in
    let years = year-bounds dt.date.year dt.date.month dt.date.day (civil_date dt.date) (omega (arith, signed_arith, bounds.0, whole.0, quotient)) (omega (arith, signed_arith, bounds.1, whole.0, quotient)) in
    let k = unsigned_abs dt.date.year in
    let year : dt.date.year ≡ pos k = not_negative dt.date.year years.0 in
    let date : IsCivilDate (pos k) dt.date.month dt.date.day = subst (λ y. IsCivilDate y dt.date.month dt.date.day) year (civil_date dt.date) in
    let days : epoch_day dt.date ≡ days_from_civil (pos k) dt.date.month dt.date.day = ap (λ y. days_from_civil y dt.date.month dt.date.day) year in
    rw (day, passed, days) (sym (stamp_of-civil k dt.date.month dt.date.day dt.time.hour dt.time.minute (omega (arith, signed_arith, years.0, year)) (omega (arith, signed_arith, years.1, year)) date (omega arith)))

-- the parts of the test of a date and a time
pub moment-parts : (y mo d h mi : ℕ) → is_moment y mo d h mi ≡ true
    → (1 ≤ y) × (y ≤ 9998) × (1 ≤ mo) × (mo ≤ 12) × (1 ≤ d) × (d ≤ days_in_month (pos y) mo) × (h ≤ 23) × (mi ≤ 59)
moment-parts y mo d h mi is =
    let p7 = and_parts (nat_le 1 y && nat_le y 9998 && nat_le 1 mo && nat_le mo 12 && nat_le 1 d && nat_le d (days_in_month (pos y) mo) && nat_le h 23) (nat_le mi 59) is in
    let p6 = and_parts (nat_le 1 y && nat_le y 9998 && nat_le 1 mo && nat_le mo 12 && nat_le 1 d && nat_le d (days_in_month (pos y) mo)) (nat_le h 23) p7.0 in
    let p5 = and_parts (nat_le 1 y && nat_le y 9998 && nat_le 1 mo && nat_le mo 12 && nat_le 1 d) (nat_le d (days_in_month (pos y) mo)) p6.0 in
    let p4 = and_parts (nat_le 1 y && nat_le y 9998 && nat_le 1 mo && nat_le mo 12) (nat_le 1 d) p5.0 in
    let p3 = and_parts (nat_le 1 y && nat_le y 9998 && nat_le 1 mo) (nat_le mo 12) p4.0 in
    let p2 = and_parts (nat_le 1 y && nat_le y 9998) (nat_le 1 mo) p3.0 in
    let p1 = and_parts (nat_le 1 y) (nat_le y 9998) p2.0 in
    (leb-true 1 y p1.0, leb-true y 9998 p1.1, leb-true 1 mo p2.1, leb-true mo 12 p3.1, leb-true 1 d p4.1, leb-true d (days_in_month (pos y) mo) p5.1, leb-true h 23 p6.1, leb-true mi 59 p7.1)

pub days-few : (y : ℤ) (mo : ℕ) → days_in_month y mo ≤ 31
days-few y mo = grind arith

-- numbers that were cast to signed types are what they were
cast16 : (n : ℕ) → n ≤ 9998 → to_z w16 n ≡ pos n
cast16 n h = omega (arith, ints)

cast8 : (n : ℕ) → n ≤ 99 → to_z w8 n ≡ pos n
cast8 n h = omega (arith, ints)

IsCast : ℕ → ℕ → ℕ → ℕ → ℕ → Type 0
IsCast y mo d h mi = IsDate (to_z w16 y) (to_z w8 mo) (to_z w8 d) × IsTime (to_z w8 h) (to_z w8 mi) (pos 0) (pos 0)

cast-from-moment : (y mo d h mi : ℕ) → is_moment y mo d h mi ≡ true → IsCast y mo d h mi
unfolding IsCast
cast-from-moment y mo d h mi is =
    let p = moment-parts y mo d h mi is in
    let low : d ≤ 31 = omega (arith, p.5, days-few (pos y) mo) in
    rw (cast16 y p.1, cast8 mo (omega (arith, p.3)), cast8 d (omega arith), cast8 h (omega (arith, p.6)), cast8 mi (omega (arith, p.7))) (
      ((omega (arith, signed_arith), omega (arith, signed_arith, p.1)), (omega (arith, signed_arith, p.2), omega (arith, signed_arith, p.3)), (omega (arith, signed_arith, p.4), omega (arith, signed_arith, p.5))),
      ((omega (arith, signed_arith), omega (arith, signed_arith, p.6)), (omega (arith, signed_arith), omega (arith, signed_arith, p.7)), (omega (arith, signed_arith), omega (arith, signed_arith)), (omega (arith, signed_arith), omega (arith, signed_arith))),
    )

-- a constructor that refuses the casts, and one that takes them
pub moment-none : (y mo d h mi : ℕ) → ((IsDate (to_z w16 y) (to_z w8 mo) (to_z w8 d) × IsTime (to_z w8 h) (to_z w8 mi) (pos 0) (pos 0)) → ⊥) → moment_of y mo d h mi ≡ None
unfolding moment_of IsCast
moment-none y mo d h mi refused = elim (cases_Bool (is_moment y mo d h mi)) [
  | inl is ↦ absurd (refused (cast-from-moment y mo d h mi is))
  | inr other ↦ rw other refl
]

pub moment-some : (y mo d h mi : ℕ) → 1 ≤ y → y ≤ 9998 → mo ≤ 12 → d ≤ 31 → h ≤ 23 → mi ≤ 59
    → IsDate (to_z w16 y) (to_z w8 mo) (to_z w8 d) × IsTime (to_z w8 h) (to_z w8 mi) (pos 0) (pos 0) → moment_of y mo d h mi ≡ Some (minute_at y mo d h mi)
unfolding moment_of
moment-some y mo d h mi first last month day hour minute taken =
    let p : IsDate (pos y) (pos mo) (pos d) = rw (cast16 y last, cast8 mo (omega arith), cast8 d (omega arith)) at taken.0 in
    let month_low : 1 ≤ mo = omega (arith, signed_arith, p.1.0) in
    let day_low : 1 ≤ d = omega (arith, signed_arith, p.2.0) in
    let day_high : d ≤ days_in_month (pos y) mo = omega (arith, signed_arith, p.2.1) in
    rw (le-leb 1 y first, le-leb y 9998 last, le-leb 1 mo month_low, le-leb mo 12 month, le-leb 1 d day_low, le-leb d (days_in_month (pos y) mo) day_high, le-leb h 23 hour, le-leb mi 59 minute) refl

same_number : (m n : ℕ) → pos m ≡ pos n → m ≡ n
same_number m n e = ap unsigned_abs e

pub civil_minute-is : (dt : DateTime) (y mo d h mi : ℕ) → y ≤ 9998 → mo ≤ 12 → d ≤ 31 → h ≤ 23 → mi ≤ 59
    → dt.date.year ≡ to_z w16 y → pos dt.date.month ≡ to_z w8 mo → pos dt.date.day ≡ to_z w8 d → pos dt.time.hour ≡ to_z w8 h → pos dt.time.minute ≡ to_z w8 mi
    → civil_minute dt ≡ minute_at y mo d h mi
civil_minute-is dt y mo d h mi last month day hour minute ey emo ed eh emi =
    rw (ey ∙ cast16 y last, same_number dt.date.month mo (emo ∙ cast8 mo (omega arith)), same_number dt.date.day d (ed ∙ cast8 d (omega arith)), same_number dt.time.hour h (eh ∙ cast8 h (omega arith)), same_number dt.time.minute mi (emi ∙ cast8 mi (omega arith))) refl

-- the days of the years 1 to 9998
pub day-bounds : (y : ℤ) (m d : ℕ) → IsCivilDate y m d → pos 1 ≤ℤ y → y ≤ℤ pos 9998 → (neg_ℤ (pos 719_162) ≤ℤ days_from_civil y m d) × (days_from_civil y m d ≤ℤ pos 2_932_531)
day-bounds y m d h low high =
    let first : day_count (pos 1) 1 1 ≤ day_count y 1 1 = by_lt_z (pos 1) y (λ above. omega (arith, day_count-later_year (pos 1) y (omega (arith, signed_arith)) above)) (λ le. let same : y ≡ pos 1 = omega (arith, signed_arith) in rw same (omega arith)) in
    let last : y <ℤ pos 9999 = omega (arith, signed_arith) in (
      omega (arith, signed_arith, days_from_civil-day_count y m d, first_day, day_count-day_of_year y m d h.2.0, h.2.0, first),
      omega (arith, signed_arith, days_from_civil-day_count y m d, end_day, day_count-lt_year y m d (pos 9999) 1 1 h (omega arith) last),
    )

-- what a default replaces is no answer that is Ok
pub kept : (T E : Type 0) (P : T → Type 0) (r : Result T E) (d i : T) → IsOk r → IfOk r P → i ≡ result_unwrap_or r d → P i
kept T E P (Ok x) d i ok holds e = subst P (sym e) holds
kept T E P (Err x) d i ok holds e = let no : false ≡ true = ok in cc

quot-whole : (ns s : ℤ) → ns ≡ s *ℤ pos 1_000_000_000 → int_div ns (pos 1_000_000_000) ≡ s
quot-whole ns s e = omega (arith, signed_arith)

div-whole : (s m : ℤ) → s ≡ m *ℤ pos 60 → int_div_euclid s (pos 60) ≡ m
div-whole s m e = omega (arith, signed_arith, int_div_euclid-parts s 60)

-- the minute of an instant that falls on one
pub minute-exact : (civil : DateTime) (ns : ℤ) → civil.time.second ≡ 0 → civil.time.subsec_nanosecond ≡ 0 → ns ≡ civil_nanos civil -ℤ pos 0 → int_div_euclid (int_div ns (pos 1_000_000_000)) (pos 60) ≡ civil_minute civil
minute-exact civil ns whole exact e =
    let day = epoch_day civil.date in
    let s : ℤ = civil_minute civil *ℤ pos 60 in
    let nanos : ns ≡ s *ℤ pos 1_000_000_000 = omega (arith, signed_arith, civil_nanos-parts civil, e, whole, exact) in
    ap (λ z. int_div_euclid z (pos 60)) (quot-whole ns s nanos) ∙ div-whole s (civil_minute civil) refl

pub civil-in-range : (civil : DateTime) → pos 1 ≤ℤ civil.date.year → civil.date.year ≤ℤ pos 9998 → IsTimestampNanos (civil_nanos civil -ℤ pos 0)
civil-in-range civil low high =
    let days = day-bounds civil.date.year civil.date.month civil.date.day (civil_date civil.date) low high in
    (omega (arith, signed_arith, civil_nanos-parts civil, days.0, time_nanos_bound civil.time), omega (arith, signed_arith, civil_nanos-parts civil, days.1, time_nanos_bound civil.time))
