-- The order of lines is one in which any two lines compare.
use Rattle.std.proofs.Common.{ℕ, List, ℤ, Bool, true, false, if◌then◌else◌}
use Rattle.std.specs.Cmp.{IsTotalOrder, IsStrictWeakOrder, back_total, then_total, on_total, nat_cmp_total, int_cmp_total}
use Rattle.std.specs.Cmp.Lexicographic.{lists_total}
use Rattle.std.specs.Ordering.{is_lt, then_cmp, on, nat_cmp, int_cmp}
use Rattle.std.proofs.lemmas.List.MinMax.{ranks_by}
use Rattle.listing_text.specs.declared.line.Line.{Line}
use Rattle.listing_text.specs.declared.switches.Switches.{Switches}
use Rattle.listing_text.specs.Order.{LineOrder, line_cmp, forward, by_all_fields, by_other_fields, largest_first, newest_first, kind_place, text_cmp}

-- an order by a number, by a signed number and by a text
by_number : (key : Line → ℕ) → IsTotalOrder (on key nat_cmp)
by_number key = on_total key nat_cmp_total

by_signed : (key : Line → ℤ) → IsTotalOrder (on key int_cmp)
by_signed key = on_total key int_cmp_total

by_text : (key : Line → List ℕ) → IsTotalOrder (on key text_cmp)
by_text key = on_total key (lists_total nat_cmp_total)

other_total : IsTotalOrder by_other_fields
other_total =
    then_total (then_total (then_total (then_total (then_total (then_total (then_total
    (by_number (λ line. kind_place line.kind)) (by_number (λ line. line.mode))) (by_number (λ line. line.links)))
    (by_text (λ line. line.owner))) (by_text (λ line. line.group))) (by_number (λ line. line.size)))
    (by_signed (λ line. line.minute))) (by_text (λ line. line.target))

all_total : IsTotalOrder by_all_fields
all_total = then_total (by_text (λ line. line.name)) other_total

-- one of two orders
choice_total : (b : Bool) (R S : LineOrder) → IsTotalOrder R → IsTotalOrder S → IsTotalOrder (if b then R else S)
choice_total true R S r s = r
choice_total false R S r s = s

size_total : IsTotalOrder (then_cmp largest_first by_all_fields)
size_total = then_total (back_total (by_number (λ line. line.size))) all_total

time_total : IsTotalOrder (then_cmp newest_first by_all_fields)
time_total = then_total (back_total (by_signed (λ line. line.minute))) all_total

forward_total : (s : Switches) → IsTotalOrder (forward s)
forward_total s = choice_total s.by_size _ _ size_total (choice_total s.by_time _ _ time_total all_total)

pub line_cmp_total : (s : Switches) → IsTotalOrder (line_cmp s)
line_cmp_total s = choice_total s.reverse _ _ (back_total (forward_total s)) (forward_total s)

pub line_cmp_ranks : (s : Switches) → IsStrictWeakOrder (λ x y. is_lt (line_cmp s x y))
line_cmp_ranks s = ranks_by (line_cmp_total s) (λ (x : Line). x)
