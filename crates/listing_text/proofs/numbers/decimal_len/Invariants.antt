use Rattle.std.proofs.Common.{◌≡◌, ◌+◌, ◌<◌, ◌^◌, length, decimal}
use Rattle.listing_text.proofs.numbers.decimal_len.Given as goal

abbrev pub invariant-loop-rest : goal.invariant-loop-rest
invariant-loop-rest l = record {
  digits : length (decimal l.number) + 1 ≡ l.len + length (decimal l.rest);
  small : l.rest < 2 ^ 64;
}

abbrev pub decreases-loop-rest : goal.decreases-loop-rest
decreases-loop-rest l = l.rest
