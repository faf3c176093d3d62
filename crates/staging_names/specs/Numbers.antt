-- Numbers in decimal, without a leading zero.
use Rattle.std.specs.Prelude.{ℕ, ◌-◌, ◌^◌, ◌==◌, Bool, ◌&&◌, ◌||◌, not, nat_le, List, slice_index, length, min, Option, Some, None, if◌then◌else◌}
use Rattle.std.specs.List.{list_all}
use Rattle.std.specs.Str.Parse.{digits_value}
use Rattle.commit_steps.specs.Numbers.{is_digit}

-- one digit or more, the first of several no zero
abbrev pub is_decimal : List ℕ → Bool
is_decimal ds = nat_le 1 (length ds) && (not (slice_index ds 0 == 48) || length ds == 1) && list_all is_digit ds

-- the number that these digits write, or the greatest of 64 bits where it is greater
abbrev pub number_read : List ℕ → Option ℕ
number_read ds = if is_decimal ds then Some (min (digits_value 10 ds) (2 ^ 64 - 1)) else None
