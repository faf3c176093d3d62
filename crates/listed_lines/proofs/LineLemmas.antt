-- The order of lines tells any two of them apart.
use Rattle.std.proofs.Common.{◌≡◌, ℕ, List, Bool, true, false, if◌then◌else◌, refl, sym, arith}
use Rattle.std.specs.FinMap.{IsAntisymmetric, nat_cmp-IsAntisymmetric, int_cmp-IsAntisymmetric, slice_cmp-IsAntisymmetric}
use Rattle.std.specs.Ordering.{then_cmp, flip_args, on, nat_cmp, int_cmp, ordering_then}
use Rattle.std.specs.declared.cmp.Ordering.{Ordering}
use Rattle.std.specs.declared.cmp.Ordering.TheVariants.{Less, Equal, Greater}
use Rattle.tree_core.specs.declared.node.Kind.{Kind}
use Rattle.tree_core.specs.declared.node.Kind.TheVariants.{File, Dir, Link}
use Rattle.listing_text.specs.declared.line.Line.{Line}
use Rattle.listing_text.specs.declared.switches.Switches.{Switches}
use Rattle.listing_text.specs.Order.{LineOrder, line_cmp, forward, by_name, by_all_fields, by_other_fields, largest_first, newest_first, kind_place, text_cmp}

-- lines that the order doesn't tell apart are alike
abbrev Ties : LineOrder → (Line → Line → Type 0) → Type 0
Ties R Alike = (x y : Line) → R x y ≡ Equal → Alike x y

both_equal : (a b : Ordering) → ordering_then a b ≡ Equal → (a ≡ Equal) × (b ≡ Equal)
both_equal Less b e = cc
both_equal Equal b e = (refl, e)
both_equal Greater b e = cc

then_ties : (R S : LineOrder) {P Q : Line → Line → Type 0} → Ties R P → Ties S Q → Ties (then_cmp R S) (λ x y. P x y × Q x y)
then_ties R S first second x y e = let tied = both_equal (R x y) (S x y) e in (first x y tied.0, second x y tied.1)

number_ties : (key : Line → ℕ) → Ties (on key nat_cmp) (λ x y. key x ≡ key y)
number_ties key x y e = nat_cmp-IsAntisymmetric (key x) (key y) e

text_ties : (key : Line → List ℕ) → Ties (on key text_cmp) (λ x y. key x ≡ key y)
text_ties key x y e = slice_cmp-IsAntisymmetric nat_cmp-IsAntisymmetric (key x) (key y) e

minute_ties : Ties (on (λ (line : Line). line.minute) int_cmp) (λ x y. x.minute ≡ y.minute)
minute_ties x y e = int_cmp-IsAntisymmetric x.minute y.minute e

kind_at : (a b : Kind) → kind_place a ≡ kind_place b → a ≡ b
kind_at File File e = refl
kind_at File Dir e = absurd (omega (arith, e))
kind_at File Link e = absurd (omega (arith, e))
kind_at Dir File e = absurd (omega (arith, e))
kind_at Dir Dir e = refl
kind_at Dir Link e = absurd (omega (arith, e))
kind_at Link File e = absurd (omega (arith, e))
kind_at Link Dir e = absurd (omega (arith, e))
kind_at Link Link e = refl

all_exact : IsAntisymmetric by_all_fields
all_exact x y e =
    let names = both_equal (by_name x y) (by_other_fields x y) e in
    let name = text_ties (λ line. line.name) x y names.0 in
    let alike = then_ties _ _ (then_ties _ _ (then_ties _ _ (then_ties _ _ (then_ties _ _ (then_ties _ _ (then_ties _ _
    (number_ties (λ line. kind_place line.kind)) (number_ties (λ line. line.mode))) (number_ties (λ line. line.links)))
    (text_ties (λ line. line.owner))) (text_ties (λ line. line.group))) (number_ties (λ line. line.size)))
    minute_ties) (text_ties (λ line. line.target)) x y names.1 in
    let kind = kind_at x.kind y.kind alike.0.0.0.0.0.0.0 in
    λ i. record {
      kind = kind i;
      mode = alike.0.0.0.0.0.0.1 i;
      links = alike.0.0.0.0.0.1 i;
      owner = alike.0.0.0.0.1 i;
      group = alike.0.0.0.1 i;
      size = alike.0.0.1 i;
      minute = alike.0.1 i;
      name = name i;
      target = alike.1 i;
    }

-- one of two orders, and an order behind another
choice_exact : (b : Bool) (R S : LineOrder) → IsAntisymmetric R → IsAntisymmetric S → IsAntisymmetric (if b then R else S)
choice_exact true R S r s = r
choice_exact false R S r s = s

behind_exact : (R : LineOrder) → IsAntisymmetric (then_cmp R by_all_fields)
behind_exact R x y e = all_exact x y (both_equal (R x y) (by_all_fields x y) e).1

back_exact : (R : LineOrder) → IsAntisymmetric R → IsAntisymmetric (flip_args R)
back_exact R exact x y e = sym (exact y x e)

forward_exact : (s : Switches) → IsAntisymmetric (forward s)
forward_exact s = choice_exact s.by_size _ _ (behind_exact largest_first) (choice_exact s.by_time _ _ (behind_exact newest_first) all_exact)

pub line_cmp_exact : (s : Switches) → IsAntisymmetric (line_cmp s)
line_cmp_exact s = choice_exact s.reverse _ _ (back_exact (forward s) (forward_exact s)) (forward_exact s)
