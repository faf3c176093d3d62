-- Which calls of a list are in a sub-list.
use Rattle.std.specs.Prelude.{ℕ, ◌+◌, ◌^◌, ◌==◌, nat_lt, nat_le, Bool, not, List, ◌++◌, map, if◌then◌else◌}
use Rattle.std.specs.Int.{bit_at}
use Rattle.std.specs.List.{range_with_len}
use Rattle.mem_tree.specs.declared.choices.Choice.{Choice}
use Rattle.mem_tree.specs.declared.choices.Choice.TheVariants.{Bits, First, AllBut}

abbrev pub has_bit : ℕ → ℕ → Bool
has_bit number place = bit_at number place == 1

abbrev pub takes : Choice → ℕ → Bool
takes (Bits number) place = has_bit number place
takes (First count) place = nat_lt place count
takes (AllBut left_out) place = not (place == left_out)

abbrev pub by_bits : ℕ → List Choice
by_bits count = map (λ number. Bits number) (range_with_len 0 (2 ^ count))

abbrev pub by_length : ℕ → List Choice
by_length count = map (λ length. First length) (range_with_len 0 (count + 1))

abbrev pub by_omission : ℕ → List Choice
by_omission count = map (λ left_out. AllBut left_out) (range_with_len 0 count)

abbrev pub choices_of : ℕ → List Choice
choices_of count = if nat_le count 10 then by_bits count else (by_length count ++ by_omission count)
