-- Minutes as dates of the Gregorian calendar and times of day in UTC, in the form of the style `long-iso` of GNU `ls`.
-- A minute is counted from 1970-01-01 00:00.
use Rattle.std.specs.Prelude.{ℕ, zero, suc, ◌+◌, ◌-◌, ◌*◌, ◌/◌, ◌%◌, ◌==◌, Bool, ◌&&◌, nat_le, List, [], ◌∷◌, ◌++◌, Option, Some, None, option_and_then, if◌then◌else◌, ℤ, pos, neg_ℤ, ◌+ℤ◌, ◌-ℤ◌, ◌*ℤ◌, int_le, unsigned_abs}
use Rattle.std.specs.Int.{int_max, int_min, int_div_euclid, int_rem_euclid}
use Rattle.jiff_core.specs.Calendar.{days_from_civil, days_in_month}
use Rattle.jiff_core.specs.Date.{epoch_day}
use Rattle.jiff_core.specs.declared.civil.datetime.DateTime.{DateTime}
use Rattle.listing_text.specs.Numbers.{is_digit}

-- 0001-01-01 00:00 and 9998-12-31 23:59
abbrev pub first_minute : ℤ
first_minute = neg_ℤ (pos 1_035_593_280)

abbrev pub last_minute : ℤ
last_minute = pos 4_222_846_079

-- the moment that is shown for a minute
abbrev pub shown_minute : ℤ → ℤ
shown_minute minute = int_max first_minute (int_min minute last_minute)

-- the last of the numbers from 1 to n whose first day isn't later than this day; 0 where there is none
unfoldable pub latest : (ℕ → ℤ) → ℕ → ℤ → ℕ
latest first_day zero day = 0
latest first_day (suc n) day = if int_le (first_day (suc n)) day then suc n else latest first_day n day

-- the year of a day, counted from 1970-01-01: the last of the years 1 to 9998 that begins by that day
unfoldable pub year_of : ℤ → ℕ
year_of day = latest (λ year. days_from_civil (pos year) 1 1) 9998 day

-- its month: the last of that year that begins by that day
unfoldable pub month_of : ℤ → ℕ
month_of day = latest (λ month. days_from_civil (pos (year_of day)) month 1) 12 day

-- its place in that month, from 1
unfoldable pub day_of : ℤ → ℕ
day_of day = unsigned_abs (day -ℤ days_from_civil (pos (year_of day)) (month_of day) 1) + 1

-- a number below 100 in two digits, and one below 10,000 in four
abbrev pub two_digits : ℕ → List ℕ
two_digits n = (48 + n / 10) ∷ (48 + n % 10) ∷ []

abbrev pub four_digits : ℕ → List ℕ
four_digits n = two_digits (n / 100) ++ two_digits (n % 100)

-- `2024-06-19 17:30`
abbrev pub stamp : ℕ → ℕ → ℕ → ℕ → ℕ → List ℕ
stamp year month day hour minute =
    four_digits year ++ 45 ∷ two_digits month ++ 45 ∷ two_digits day ++ 32 ∷ two_digits hour ++ 58 ∷ two_digits minute

-- the text of a day and of the minutes that have passed in it
abbrev pub stamp_of : ℤ → ℕ → List ℕ
stamp_of day passed = stamp (year_of day) (month_of day) (day_of day) (passed / 60) (passed % 60)

-- the text of a minute, a day having 1,440 of them
unfoldable pub minute_text : ℤ → List ℕ
minute_text minute =
    stamp_of (int_div_euclid (shown_minute minute) (pos 1440)) (unsigned_abs (int_rem_euclid (shown_minute minute) (pos 1440)))

-- the day is in the calendar, in one of the years 1 to 9998, and a clock shows the time
abbrev pub is_moment : ℕ → ℕ → ℕ → ℕ → ℕ → Bool
is_moment year month day hour minute =
    nat_le 1 year && nat_le year 9998 && nat_le 1 month && nat_le month 12
    && nat_le 1 day && nat_le day (days_in_month (pos year) month) && nat_le hour 23 && nat_le minute 59

-- the minute of a date and a time of day
abbrev pub minute_at : ℕ → ℕ → ℕ → ℕ → ℕ → ℤ
minute_at year month day hour minute = days_from_civil (pos year) month day *ℤ pos 1440 +ℤ pos (hour * 60 + minute)

-- the minute that a datetime of jiff's shows
abbrev pub civil_minute : DateTime → ℤ
civil_minute civil = epoch_day civil.date *ℤ pos 1440 +ℤ pos (civil.time.hour * 60 + civil.time.minute)

-- the same, where there is such a date and time
unfoldable pub moment_of : ℕ → ℕ → ℕ → ℕ → ℕ → Option ℤ
moment_of year month day hour minute = if is_moment year month day hour minute then Some (minute_at year month day hour minute) else None

infixl 10 ◌>>=◌
abbrev pub ◌>>=◌ : {A B : Type 0} → Option A → (A → Option B) → Option B
o >>= f = option_and_then f o

-- the number that two digits write, and four
unfoldable pub two_of : ℕ → ℕ → Option ℕ
two_of a b = if is_digit a && is_digit b then Some ((a - 48) * 10 + (b - 48)) else None

unfoldable pub four_of : ℕ → ℕ → ℕ → ℕ → Option ℕ
four_of a b c d = do
  high ← two_of a b
  low ← two_of c d
  Some (high * 100 + low)

-- the minute that a text of the form `2024-06-19 17:30` shows
unfoldable pub minute_of : List ℕ → Option ℤ
minute_of (a ∷ b ∷ c ∷ d ∷ dash₁ ∷ e ∷ f ∷ dash₂ ∷ g ∷ h ∷ space ∷ i ∷ j ∷ colon ∷ k ∷ l ∷ []) =
    if dash₁ == 45 && dash₂ == 45 && space == 32 && colon == 58 then
    (four_of a b c d >>= λ year. two_of e f >>= λ month. two_of g h >>= λ day. two_of i j >>= λ hour. two_of k l >>= λ minute.
    moment_of year month day hour minute)
    else None
minute_of text = None

-- the minute of a second, both counted from 1970-01-01 00:00
abbrev pub minute_of_second : ℤ → ℤ
minute_of_second second = int_div_euclid second (pos 60)
