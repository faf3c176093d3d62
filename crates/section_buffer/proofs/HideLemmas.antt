-- What is seen of one section.
use Rattle.std.proofs.Common.{◌≡◌, ℕ, ◌+◌, ◌<◌, suc, List, [], ◌∷◌, ◌++◌, length, refl, ap, sym, subst, ◌∙◌, arith, Some, None, Option, Bool, true, false, get_or, if◌then◌else◌}
use Rattle.std.specs.Option.{option_map}
use Rattle.link_rows.specs.Net.{AllBelow}
use Rattle.link_rows.specs.Values.{value_at}
use Rattle.dired_text.specs.Paths.{Names}
use Rattle.listing_text.specs.declared.line.Line.{Line as line_type}
use Rattle.section_rows.specs.declared.row.BufferRow.{BufferRow}
use Rattle.section_rows.specs.declared.row.BufferRow.TheVariants.{Head, Line}
use Rattle.section_rows.specs.Orders.{Ordered, values_in}
use Rattle.section_rows.proofs.OrderLemmas.{below-mid, below-split}
use Rattle.section_buffer.specs.Rows.{sections_of}
use Rattle.section_buffer.specs.Places.{head_place, same_names}
use Rattle.section_buffer.specs.Sections.{hidden_at}
use Rattle.section_buffer.proofs.BufferLemmas.{none-some, some-inj}
use Rattle.section_buffer.proofs.RowLemmas.{value-one, values-length, values-split}

none-later : (left : Option ℕ) (same : Bool) → (if same then Some 0 else option_map suc left) ≡ None → (same ≡ false) × (left ≡ None)
none-later None true e = absurd (none-some 0 (sym e))
none-later (Some n) true e = absurd (none-some 0 (sym e))
none-later None false e = (refl, refl)
none-later (Some n) false e = absurd (none-some (suc n) (sym e))

first-same : (left : Option ℕ) (same : Bool) → (if same then Some 0 else option_map suc left) ≡ Some 0 → same ≡ true
first-same left true e = refl
first-same None false e = absurd (none-some 0 e)
first-same (Some n) false e = let f : suc n ≡ 0 = some-inj (suc n) 0 e in absurd (omega arith)

later-other : (left : Option ℕ) (n : ℕ) (same : Bool) → (if same then Some 0 else option_map suc left) ≡ Some (suc n) → (same ≡ false) × (left ≡ Some n)
later-other left n true e = let f : 0 ≡ suc n = some-inj 0 (suc n) e in absurd (omega arith)
later-other None n false e = absurd (none-some (suc n) e)
later-other (Some m) n false e = let f : suc m ≡ suc n = some-inj (suc m) (suc n) e in let g : m ≡ n = omega arith in (refl, ap (λ x. Some x) g)

-- no head of this directory
pub hidden-none : (dir : Names) (rows : List BufferRow) → head_place dir rows ≡ None → hidden_at dir (sections_of rows) ≡ None
hidden-none dir [] e = refl
hidden-none dir (Line line ∷ rows) e = hidden-none dir rows (none-later (head_place dir rows) false e).1
hidden-none dir (Head of hidden ∷ rows) e =
    let other = none-later (head_place dir rows) (same_names of dir) e in
    let later = hidden-none dir rows other.1 in
    rw (other.0, later) refl

-- what the head that was found says
abbrev SaysHidden : Names → List BufferRow → List BufferRow → BufferRow → Type 0
SaysHidden dir front rows (Head of hidden) = hidden_at dir (sections_of (front ++ Head of hidden ∷ rows)) ≡ Some hidden
SaysHidden dir front rows (Line line) = ⊥

says-later : (dir : Names) (r : BufferRow) (front rows : List BufferRow) (v : BufferRow) → hidden_at dir (sections_of (r ∷ (front ++ v ∷ rows))) ≡ hidden_at dir (sections_of (front ++ v ∷ rows)) → SaysHidden dir front rows v → SaysHidden dir (r ∷ front) rows v
says-later dir r front rows (Head of hidden) e s = e ∙ s
says-later dir r front rows (Line line) e s = s

pub hidden-says : (dir : Names) (front rows : List BufferRow) (v : BufferRow) → head_place dir (front ++ v ∷ rows) ≡ Some (length front) → SaysHidden dir front rows v
hidden-says dir [] rows (Line line) e = let k = first-same (head_place dir rows) false e in cc
hidden-says dir [] rows (Head of hidden) e =
    let same : same_names of dir ≡ true = first-same (head_place dir rows) (same_names of dir) e in
    rw same refl
hidden-says dir (Line line ∷ front) rows v e =
    let other = later-other (head_place dir (front ++ v ∷ rows)) (length front) false e in
    says-later dir (Line line) front rows v refl (hidden-says dir front rows v other.1)
hidden-says dir (Head of hidden ∷ front) rows v e =
    let other = later-other (head_place dir (front ++ v ∷ rows)) (length front) (same_names of dir) e in
    let step : hidden_at dir (sections_of (Head of hidden ∷ (front ++ v ∷ rows))) ≡ hidden_at dir (sections_of (front ++ v ∷ rows)) = rw (other.0) refl in
    says-later dir (Head of hidden) front rows v step (hidden-says dir front rows v other.1)

-- of rows in an order
module _ (o : Ordered) (dir : Names) (below : AllBelow (length o.values) o.order) (fs : List ℕ) (r : ℕ) (gs : List ℕ)
    (parts : o.order ≡ fs ++ r ∷ gs) (found : head_place dir (values_in o.values o.order) ≡ Some (length fs)) (v : BufferRow) (is : v ≡ get_or o.values r v) where
  abbrev F : List BufferRow
  F = values_in o.values fs

  abbrev G : List BufferRow
  G = values_in o.values gs

  below-parts : AllBelow (length o.values) (fs ++ r ∷ gs)
  below-parts = subst (λ x. AllBelow (length o.values) x) parts below

  one : value_at o.values r ≡ v ∷ []
  one = value-one o.values r v (below-mid (length o.values) fs r gs below-parts) ∙ ap (λ w. w ∷ []) (sym is)

  all-rows : values_in o.values o.order ≡ F ++ v ∷ G
  all-rows = ap (values_in o.values) parts ∙ (values-split o.values fs (r ∷ gs) ∙ ap (λ x. F ++ (x ++ G)) one)

  len : length F ≡ length fs
  len = values-length o.values fs (below-split (length o.values) fs (r ∷ gs) below-parts).0

  pub said : SaysHidden dir F G v
  said = hidden-says dir F G v (ap (head_place dir) (sym all-rows) ∙ (found ∙ ap (λ n. Some n) (sym len)))

  pub said-head : (of : Names) (hidden : Bool) → v ≡ Head of hidden → hidden_at dir (sections_of (values_in o.values o.order)) ≡ Some hidden
  said-head of hidden e =
      ap (λ rows. hidden_at dir (sections_of rows)) (all-rows ∙ ap (λ w. F ++ w ∷ G) e)
      ∙ subst (λ w. SaysHidden dir F G w) e said

  pub said-line : (line : line_type) → v ≡ Line line → ⊥
  said-line line e = subst (λ w. SaysHidden dir F G w) e said
