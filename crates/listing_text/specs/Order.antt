-- The order of the lines of a listing.
use Rattle.std.specs.Prelude.{ℕ, List, if◌then◌else◌}
use Rattle.std.specs.Ordering.{nat_cmp, int_cmp, on, flip_args, then_cmp}
use Rattle.std.specs.declared.cmp.Ordering.{Ordering}
use Rattle.std.specs.Cmp.Lexicographic.{slice_cmp}
use Rattle.tree_core.specs.declared.node.Kind.{Kind}
use Rattle.tree_core.specs.declared.node.Kind.TheVariants.{File, Dir, Link}
use Rattle.listing_text.specs.declared.line.Line.{Line}
use Rattle.listing_text.specs.declared.switches.Switches.{Switches}

abbrev pub LineOrder : Type 0
LineOrder = Line → Line → Ordering

-- files before directories before links
abbrev pub kind_place : Kind → ℕ
kind_place File = 0
kind_place Dir = 1
kind_place Link = 2

abbrev pub text_cmp : List ℕ → List ℕ → Ordering
text_cmp = slice_cmp nat_cmp

abbrev pub by_name : LineOrder
by_name = on (λ (line : Line). line.name) text_cmp

-- the largest first, and the newest minute first
abbrev pub largest_first : LineOrder
largest_first = flip_args (on (λ (line : Line). line.size) nat_cmp)

abbrev pub newest_first : LineOrder
newest_first = flip_args (on (λ (line : Line). line.minute) int_cmp)

-- field by field, in the order in which a line has them, but for the name
abbrev pub by_other_fields : LineOrder
by_other_fields =
    then_cmp (then_cmp (then_cmp (then_cmp (then_cmp (then_cmp (then_cmp
    (on (λ (line : Line). kind_place line.kind) nat_cmp)
    (on (λ (line : Line). line.mode) nat_cmp))
    (on (λ (line : Line). line.links) nat_cmp))
    (on (λ (line : Line). line.owner) text_cmp))
    (on (λ (line : Line). line.group) text_cmp))
    (on (λ (line : Line). line.size) nat_cmp))
    (on (λ (line : Line). line.minute) int_cmp))
    (on (λ (line : Line). line.target) text_cmp)

-- by name, and lines of one name by their other fields
abbrev pub by_all_fields : LineOrder
by_all_fields = then_cmp by_name by_other_fields

-- by size where that is switched on, else by time where that is, and ties by name
abbrev pub forward : Switches → LineOrder
forward switches =
    if switches.by_size then then_cmp largest_first by_all_fields
    else if switches.by_time then then_cmp newest_first by_all_fields
    else by_all_fields

-- the order of a listing; `reverse` turns it round
abbrev pub line_cmp : Switches → LineOrder
line_cmp switches = if switches.reverse then flip_args (forward switches) else forward switches
