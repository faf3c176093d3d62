-- The lines of a directory are one list.
use Rattle.std.proofs.Common.{◌≡◌, Bool, false, List, [], ◌∷◌, sym, ◌∙◌, IsPermutation}
use Rattle.std.specs.List.{AllByRecursion}
use Rattle.std.specs.Ordering.{is_lt}
use Rattle.std.proofs.lemmas.Bool.{cond_both}
use Rattle.std.proofs.lemmas.List.Sorted.{IsPermutation-refl, IsPermutation-trans, IsPermutation-cons, IsPermutation-middle, sum_by-IsPermutation}
use Rattle.listing_text.specs.declared.line.Line.{Line}
use Rattle.listing_text.specs.declared.switches.Switches.{Switches}
use Rattle.listing_text.specs.Order.{line_cmp}
use Rattle.listing_text.proofs.OrderLemmas.{line_cmp_total}
use Rattle.subdir_list.specs.Listings.{lines_in}
use Rattle.listed_lines.specs.Listed.{placed, in_order}
use Rattle.listed_lines.specs.Laws.{OrderIsOne, ListingIsOne, ListedIsListing, ListingsAgree}
use Rattle.listed_lines.proofs.SortedLemmas.{Rises, one_list, rises, sorted, order_ranks}
use Rattle.listed_lines.proofs.LineLemmas.{line_cmp_exact}

-- no line of these comes before that one
abbrev AreBehind : Switches → Line → List Line → Type 0
AreBehind s line lines = AllByRecursion (λ y. is_lt (line_cmp s y line) ≡ false) lines

abbrev comes_first : Switches → Line → Line → Bool
comes_first s x y = is_lt (line_cmp s x y)

-- ---- a line at its place

placed_moved : (s : Switches) (line : Line) (lines : List Line) → IsPermutation (line ∷ lines) (placed s line lines)
placed_moved s line [] = IsPermutation-refl (line ∷ [])
placed_moved s line (next ∷ later) =
    let rest = placed_moved s line later in
    cond_both (comes_first s next line) (next ∷ placed s line later) (line ∷ next ∷ later) (IsPermutation (line ∷ next ∷ later))
    (λ first. IsPermutation-trans _ _ _ (IsPermutation-middle (line ∷ []) next later) (IsPermutation-cons next (line ∷ later) (placed s line later) rest))
    (λ other. IsPermutation-refl (line ∷ next ∷ later))

placed_all : (P : Line → Type 0) (s : Switches) (line : Line) (lines : List Line) → P line → AllByRecursion P lines → AllByRecursion P (placed s line lines)
placed_all P s line [] here all = (here, tt)
placed_all P s line (next ∷ later) here all =
    let rest = placed_all P s line later here all.1 in
    cond_both (comes_first s next line) (next ∷ placed s line later) (line ∷ next ∷ later) (AllByRecursion P)
    (λ first. (all.0, rest))
    (λ other. (here, all))

behind_more : (s : Switches) (line next : Line) (later : List Line) → comes_first s next line ≡ false → AreBehind s next later → AreBehind s line later
behind_more s line next [] other behind = tt
behind_more s line next (x ∷ later) other behind = ((order_ranks (line_cmp_total s)).chain x next line behind.0 other, behind_more s line next later other behind.1)

placed_rises : (s : Switches) (line : Line) (lines : List Line) → Rises (line_cmp s) lines → Rises (line_cmp s) (placed s line lines)
placed_rises s line [] up = (tt, tt)
placed_rises s line (next ∷ later) up =
    let rest = placed_rises s line later up.1 in
    cond_both (comes_first s next line) (next ∷ placed s line later) (line ∷ next ∷ later) (Rises (line_cmp s))
    (λ first. (placed_all (λ y. is_lt (line_cmp s y next) ≡ false) s line later ((order_ranks (line_cmp_total s)).one_way next line first) up.0, rest))
    (λ other. ((other, behind_more s line next later other up.0), up))

-- ---- lines in order

in_order_moved : (s : Switches) (lines : List Line) → IsPermutation lines (in_order s lines)
in_order_moved s [] = IsPermutation-refl []
in_order_moved s (line ∷ lines) =
    IsPermutation-trans _ _ _ (IsPermutation-cons line lines (in_order s lines) (in_order_moved s lines)) (placed_moved s line (in_order s lines))

in_order_rises : (s : Switches) (lines : List Line) → Rises (line_cmp s) (in_order s lines)
in_order_rises s [] = tt
in_order_rises s (line ∷ lines) = placed_rises s line (in_order s lines) (in_order_rises s lines)

-- ---- the laws

pub order_is_one : OrderIsOne
order_is_one s lines ordered moved up =
    let total = line_cmp_total s in
    one_list total (line_cmp_exact s) ordered (in_order s lines) (rises total ordered up) (in_order_rises s lines)
    (λ f. sum_by-IsPermutation f lines ordered moved ∙ sym (sum_by-IsPermutation f lines (in_order s lines) (in_order_moved s lines)))

pub listing_is_one : ListingIsOne
listing_is_one s t fields dir lines is = order_is_one s (lines_in t fields s dir) lines is.each is.sorted

pub listed_is_listing : ListedIsListing
listed_is_listing s t fields dir =
    let lines = lines_in t fields s dir in record {
      each = in_order_moved s lines;
      sorted = sorted (line_cmp_total s) (in_order s lines) (in_order_rises s lines);
    }

pub listings_agree : ListingsAgree
listings_agree s t fields dir a b first second = listing_is_one s t fields dir a first ∙ sym (listing_is_one s t fields dir b second)
