-- The rules, by what a table finds.
use Rattle.std.proofs.Common.{◌≡◌, ℕ, true, false, not, filter, List, Option, Some, None, is_some, refl, sym, ◌∙◌, ap}
use Rattle.std.specs.BTreeMap.{BTreeMap, get}
use Rattle.path_map.specs.Walks.{value_at}
use Rattle.std.specs.Option.{option_map, option_or}
use Rattle.std.specs.List.{find}
use Rattle.std.specs.Ordering.{nat_cmp}
use Rattle.dired_text.specs.Paths.{Names}
use Rattle.edit_words.specs.declared.row.Row.{Row}
use Rattle.edit_rules.specs.declared.table.Table.{Table}
use Rattle.edit_rules.specs.declared.claims.Claim.{Claim}
use Rattle.edit_words.specs.declared.fault.CheckFault.{CheckFault}
use Rattle.edit_words.specs.declared.fault.CheckFault.TheVariants.{TwoToOne, ModeClash, ParentNotDirectory, MovedParent, ParentTaken}
use Rattle.edit_words.specs.Place.{ancestors}
use Rattle.edit_words.specs.Rows.{is_elsewhere, written}
use Rattle.edit_words.specs.Sight.{Sight, is_other, number_at}
use Rattle.edit_rules.specs.Claims.{first_line, other_line, least_line, other_mode_line}
use Rattle.edit_rules.specs.Tables.{IsTable, AreFileModes}
use Rattle.edit_words.specs.Refusals.{two_to_one, mode_clash, moved_parent, parent_not_directory, parent_taken, parents}
use Rattle.edit_words.specs.WellFormed.{LinesRise}
use Rattle.edit_rules.proofs.ClaimLemmas.{first_claimed, two_to_one_found, least_alike, moved_parent_found, parent_taken_found, mode_clash_found, no_number_no_clash, no_mode_no_clash}

pub two_rule : (table : Table) (r : Row) → IsTable table
    → two_to_one table.rows.items r ≡ option_map (TwoToOne r.line) (other_line (value_at table.writers.claims (written r)) r.line)
two_rule table r is = two_to_one_found table.rows.items r ∙ ap (λ (c : Option Claim). option_map (TwoToOne r.line) (other_line c r.line)) (sym (is.writers (written r)))

pub mode_rule : (sight : Sight) (claims : BTreeMap ℕ Claim) (rs : List Row) (r : Row) → AreFileModes sight claims rs
    → mode_clash sight rs r ≡ option_map (ModeClash r.line) (other_mode_line (λ (n : ℕ). get nat_cmp claims n) (number_at sight r.source) r.mode)
mode_rule sight claims rs r are = by_number (number_at sight r.source) r.mode refl refl
  where
    by_number : (number mode : Option ℕ) → number_at sight r.source ≡ number → r.mode ≡ mode
        → mode_clash sight rs r ≡ option_map (ModeClash r.line) (other_mode_line (λ (n : ℕ). get nat_cmp claims n) number mode)
    by_number None mode none is = no_number_no_clash sight rs r none
    by_number (Some n) None some none = no_mode_no_clash sight rs r none
    by_number (Some n) (Some m) some mode =
        mode_clash_found sight rs r n m some mode ∙ ap (λ (c : Option Claim). option_map (ModeClash r.line) (other_line c m)) (sym (are n))

pub moved_rule : (table : Table) (r : Row) → IsTable table → LinesRise table.rows.items
    → moved_parent table.rows.items r ≡ option_map (MovedParent r.line) (least_line (λ (p : Names). first_line (value_at table.movers.claims p)) None (ancestors (written r)))
moved_rule table r is rise =
    moved_parent_found table.rows.items r rise
    ∙ ap (option_map (MovedParent r.line)) (least_alike _ _ None (ancestors (written r)) (λ p. sym (ap first_line (is.movers p) ∙ first_claimed _ _ table.rows.items)))

pub taken_rule : (sight : Sight) (table : Table) (r : Row) → IsTable table → LinesRise table.rows.items
    → parent_taken sight table.rows.items r
    ≡ option_map (ParentTaken r.line) (least_line (λ (p : Names). first_line (value_at table.writers.claims p)) None (filter (λ (p : Names). not (is_some (sight.at p))) (ancestors (written r))))
taken_rule sight table r is rise =
    parent_taken_found sight table.rows.items r rise
    ∙ ap (option_map (ParentTaken r.line)) (least_alike _ _ None (filter (λ (p : Names). not (is_some (sight.at p))) (ancestors (written r))) (λ p. sym (ap first_line (is.writers p) ∙ first_claimed _ _ table.rows.items)))

pub in_place_rule : (sight : Sight) (rs : List Row) (r : Row) → is_elsewhere r ≡ false → parents sight rs r ≡ None
in_place_rule sight rs r near = rw near refl

pub elsewhere_rule : (sight : Sight) (table : Table) (r : Row) → IsTable table → LinesRise table.rows.items → is_elsewhere r ≡ true
    → parents sight table.rows.items r
    ≡ option_or (option_map (ParentNotDirectory r.line) (find (λ (p : Names). is_other (sight.at p)) (ancestors (written r))))
    (option_or (option_map (MovedParent r.line) (least_line (λ (p : Names). first_line (value_at table.movers.claims p)) None (ancestors (written r))))
    (option_map (ParentTaken r.line) (least_line (λ (p : Names). first_line (value_at table.writers.claims p)) None (filter (λ (p : Names). not (is_some (sight.at p))) (ancestors (written r))))))
elsewhere_rule sight table r is rise far =
    rw far
    (ap (λ (m : Option CheckFault). option_or (parent_not_directory sight r) (option_or m (parent_taken sight table.rows.items r))) (moved_rule table r is rise)
    ∙ ap (λ (t : Option CheckFault). option_or (parent_not_directory sight r) (option_or (option_map (MovedParent r.line) (least_line (λ (p : Names). first_line (value_at table.movers.claims p)) None (ancestors (written r)))) t)) (taken_rule sight table r is rise))

-- of three faults, one behind another, the second, where the first is none,
pub second_of_three : {A : Type 0} (whole a b c : Option A) (x : A) → whole ≡ option_or a (option_or b c) → a ≡ None → b ≡ Some x → Some x ≡ whole
second_of_three whole a b c x is none some = sym (is ∙ ap (λ (o : Option _). option_or o (option_or b c)) none ∙ ap (λ (o : Option _). option_or o c) some)

-- and the third, where the first two are none
pub third_of_three : {A : Type 0} (whole a b c : Option A) → whole ≡ option_or a (option_or b c) → a ≡ None → b ≡ None → c ≡ whole
third_of_three whole a b c is none other = sym (is ∙ ap (λ (o : Option _). option_or o (option_or b c)) none ∙ ap (λ (o : Option _). option_or o c) other)

-- and the first, where there is one
pub first_of_three : {A : Type 0} (whole a b c : Option A) (x : A) → whole ≡ option_or a (option_or b c) → a ≡ Some x → Some x ≡ whole
first_of_three whole a b c x is some = sym (is ∙ ap (λ (o : Option _). option_or o (option_or b c)) some)
