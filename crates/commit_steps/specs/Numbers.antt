-- Numbers of 32 bits in decimal, without a leading zero.
use Rattle.std.specs.Prelude.{◌≡◌, ℕ, ◌<◌, ◌^◌, ◌==◌, Bool, ◌&&◌, ◌||◌, not, nat_le, List, slice_index, length, decimal}
use Rattle.std.specs.List.{list_all}
use Rattle.std.specs.Str.Parse.{digits_value}

pub record IsNumber (digits : List ℕ) : Type 0 where
  pub number : ℕ
  pub small : number < 2 ^ 32
  pub is : digits ≡ decimal number

-- the same as a test

abbrev pub is_digit : ℕ → Bool
is_digit b = nat_le 48 b && nat_le b 57

-- one digit or more, the first of several no zero
abbrev pub is_decimal : List ℕ → Bool
is_decimal ds = nat_le 1 (length ds) && nat_le (length ds) 10 && (not (slice_index ds 0 == 48) || length ds == 1) && list_all is_digit ds

abbrev pub is_number : List ℕ → Bool
is_number ds = is_decimal ds && nat_le (digits_value 10 ds) 4_294_967_295
