-- Numbers as decimal text.
use Rattle.std.specs.Prelude.{ℕ, ◌==◌, Bool, false, ◌&&◌, ◌||◌, not, nat_le, List, [], ◌∷◌, length, Option, Some, None, if◌then◌else◌}
use Rattle.std.specs.List.{list_all}
use Rattle.std.specs.Str.Parse.{digits_value}

abbrev pub is_digit : ℕ → Bool
is_digit b = nat_le 48 b && nat_le b 57

-- one digit or more, the first of several no zero
abbrev pub is_decimal : List ℕ → Bool
is_decimal [] = false
is_decimal (b ∷ bs) = list_all is_digit (b ∷ bs) && (not (b == 48) || length bs == 0)

-- the number that a decimal text writes, where it is at most `most`
unfoldable pub number_of : ℕ → List ℕ → Option ℕ
number_of most text = if is_decimal text && nat_le (digits_value 10 text) most then Some (digits_value 10 text) else None

-- the greatest numbers of 32 and of 64 bits
abbrev pub most_links : ℕ
most_links = 4_294_967_295

abbrev pub most_size : ℕ
most_size = 18_446_744_073_709_551_615
