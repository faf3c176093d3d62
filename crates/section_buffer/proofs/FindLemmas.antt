-- Rows that are looked for from the first on.
use Rattle.std.proofs.Common.{◌≡◌, ℕ, ◌+◌, ◌-◌, ◌<◌, ◌≤◌, IfSome, take, ◌==◌, if◌then◌else◌, nat_eq, suc, List, [], ◌∷◌, ◌++◌, length, drop, refl, ap, sym, subst, ◌∙◌, arith, length-append, append_assoc, Some, None, Option, Bool, true, false, not, ◌&&◌, Contains, get_or, All, ◌≢◌}
use Rattle.std.proofs.Math.Seq.{take-length}
use Rattle.std.proofs.lemmas.Bool.{ne_eqb}
use Rattle.std.specs.Option.{option_map}
use Rattle.link_rows.specs.declared.rows.RowId.{RowId}
use Rattle.std.specs.Cmp.Lexicographic.{pointwise}
use Rattle.link_rows.specs.Net.{AllBelow}
use Rattle.link_rows.specs.Values.{value_at}
use Rattle.dired_text.specs.Paths.{Names, slash}
use Rattle.dired_text.specs.Resolve.{components, with_first}
use Rattle.dired_text.proofs.ResolveLemmas.{components-at, components-none}
use Rattle.listing_text.specs.declared.line.Line.{Line as line_type}
use Rattle.section_rows.specs.declared.row.BufferRow.{BufferRow}
use Rattle.section_rows.specs.declared.row.BufferRow.TheVariants.{Head, Line}
use Rattle.section_rows.specs.Orders.{Ordered, from_row, rows_from, values_in}
use Rattle.section_rows.proofs.OrderLemmas.{below-mid, stands}
use Rattle.section_rows.proofs.WalkLemmas.{from-at}
use Rattle.section_buffer.specs.Places.{head_place, is_head_of, is_line_of, line_place, same_names}
use Rattle.section_buffer.specs.Held.{FoundAt, dir_in, head_value, hidden_in}
use Rattle.section_buffer.proofs.RowLemmas.{value-one}

pub contains-below : (n r : ℕ) (order : List ℕ) → AllBelow n order → Contains order r → r < n
contains-below n r order b c = let k = stands order r c in below-mid n k.0 r k.1 (subst (λ x. AllBelow n x) k.2.parts b)

pub from-some : (order : List ℕ) (r : ℕ) → Contains order r → (gs : List ℕ) × (from_row r order ≡ r ∷ gs)
from-some order r c = let k = stands order r c in (k.1, ap (from_row r) k.2.parts ∙ from-at r k.0 k.1 k.2.first)

-- the rest is shorter
pub rest-shorter : (order : List ℕ) (r : ℕ) → Contains order r → length (drop 1 (from_row r order)) < length (from_row r order)
rest-shorter order r c =
    let k = from-some order r c in
    let e : length (from_row r order) ≡ suc (length k.0) = ap length k.1 in
    let f : length (drop 1 (from_row r order)) ≡ length k.0 = ap (λ x. length (drop 1 x)) k.1 in
    omega arith

-- The place is that of the rows that are left, if any, behind those that were passed.
pub record IsAt (order : List ℕ) (whole : Option ℕ) (rest : List ℕ) (left : Option ℕ) : Type 0 where
  pub before : List ℕ
  pub parts : order ≡ before ++ rest
  pub place : whole ≡ option_map (λ n. length before + n) left

none-more : (whole : Option ℕ) → whole ≡ option_map (λ n. 0 + n) whole
none-more None = refl
none-more (Some n) = let e : n ≡ 0 + n = omega arith in ap (λ x. Some x) e

pub at-first : (order : List ℕ) (whole : Option ℕ) → IsAt order whole order whole
at-first order whole = record { before = []; parts = refl; place = none-more whole }

one-more : (before : List ℕ) (r : ℕ) (left : Option ℕ) → option_map (λ n. length before + n) (option_map suc left) ≡ option_map (λ n. length (before ++ r ∷ []) + n) left
one-more before r None = refl
one-more before r (Some n) = let e : length before + suc n ≡ length (before ++ r ∷ []) + n = omega (arith, length-append before (r ∷ [])) in ap (λ x. Some x) e

pub at-next : (order : List ℕ) (whole : Option ℕ) (r : ℕ) (gs : List ℕ) (left : Option ℕ) → IsAt order whole (r ∷ gs) (option_map suc left) → IsAt order whole gs left
at-next order whole r gs left i = record {
  before = i.before ++ r ∷ [];
  parts = i.parts ∙ sym (append_assoc i.before (r ∷ []) gs);
  place = i.place ∙ one-more i.before r left;
}

pub at-found : (order : List ℕ) (whole : Option ℕ) (r : ℕ) (gs : List ℕ) → IsAt order whole (r ∷ gs) (Some 0) → FoundAt order whole (Some r)
at-found order whole r gs i =
    let n : length i.before ≡ length i.before + 0 = omega arith in
    subst (λ w. FoundAt order w (Some r)) (sym i.place) (i.before, gs, i.parts, n)

pub at-end : (order : List ℕ) (whole : Option ℕ) → IsAt order whole [] None → FoundAt order whole None
at-end order whole i = subst (λ w. FoundAt order w None) (sym i.place) tt

-- what was found
pub found-some : (order : List ℕ) (place : Option ℕ) (r : ℕ) → FoundAt order place (Some r) → (fs : List ℕ) × (gs : List ℕ) × (order ≡ fs ++ r ∷ gs) × (place ≡ Some (length fs))
found-some order None r f = absurd f
found-some order (Some at) r f = (f.0, f.1, f.2, ap (λ x. Some x) (sym f.3))

pub found-none : (order : List ℕ) (place : Option ℕ) → FoundAt order place None → place ≡ None
found-none order None f = refl
found-none order (Some at) f = absurd f

-- the values of the rows from one on
pub rest-values : (o : Ordered) (r : ℕ) (v : BufferRow) (gs : List ℕ) → AllBelow (length o.values) o.order → Contains o.order r → v ≡ get_or o.values r v → values_in o.values (r ∷ gs) ≡ v ∷ values_in o.values gs
rest-values o r v gs b c e =
    ap (λ front. front ++ values_in o.values gs) (value-one o.values r v (contains-below (length o.values) r o.order b c) ∙ ap (λ x. x ∷ []) (sym e))

-- heads
abbrev pub HeadAt : Ordered → Names → List ℕ → Type 0
HeadAt o dir rest = IsAt o.order (head_place dir (values_in o.values o.order)) rest (head_place dir (values_in o.values rest))

head-step : (dir : Names) (v : BufferRow) (rows : List BufferRow) → is_head_of dir v ≡ false → head_place dir (v ∷ rows) ≡ option_map suc (head_place dir rows)
head-step dir v rows e = rw e refl

head-here : (dir : Names) (v : BufferRow) (rows : List BufferRow) → is_head_of dir v ≡ true → head_place dir (v ∷ rows) ≡ Some 0
head-here dir v rows e = rw e refl

module _ (o : Ordered) (dir : Names) (r : ℕ) (v : BufferRow) (b : AllBelow (length o.values) o.order) (c : Contains o.order r) (e : v ≡ get_or o.values r v) (h : HeadAt o dir (from_row r o.order)) where
  abbrev whole : Option ℕ
  whole = head_place dir (values_in o.values o.order)

  abbrev gs : List ℕ
  gs = (from-some o.order r c).0

  here : HeadAt o dir (r ∷ gs)
  here = subst (λ x. HeadAt o dir x) (from-some o.order r c).1 h

  pub head-next : is_head_of dir v ≡ false → HeadAt o dir (drop 1 (from_row r o.order))
  head-next other =
      let left : head_place dir (values_in o.values (r ∷ gs)) ≡ option_map suc (head_place dir (values_in o.values gs)) =
      ap (head_place dir) (rest-values o r v gs b c e) ∙ head-step dir v (values_in o.values gs) other in
      subst (λ x. HeadAt o dir (drop 1 x)) (sym (from-some o.order r c).1)
      (at-next o.order whole r gs (head_place dir (values_in o.values gs)) (subst (λ x. IsAt o.order whole (r ∷ gs) x) left here))

  pub head-found : is_head_of dir v ≡ true → FoundAt o.order whole (Some r)
  head-found same =
      let left : head_place dir (values_in o.values (r ∷ gs)) ≡ Some 0 = ap (head_place dir) (rest-values o r v gs b c e) ∙ head-here dir v (values_in o.values gs) same in
      at-found o.order whole r gs (subst (λ x. IsAt o.order whole (r ∷ gs) x) left here)

-- lines
abbrev pub LineAt : Ordered → Names → Option ℕ → List ℕ → Type 0
LineAt o path head rest =
    IsAt o.order (line_place path [] true (values_in o.values o.order)) rest
    (line_place path (dir_in (head_value o.values head)) (hidden_in (head_value o.values head)) (values_in o.values rest))

abbrev shown : Names → List BufferRow → line_type → Bool
shown path head line = not (hidden_in head) && is_line_of path (dir_in head) line

line-step : (path : Names) (head : List BufferRow) (line : line_type) (rows : List BufferRow) → shown path head line ≡ false → line_place path (dir_in head) (hidden_in head) (Line line ∷ rows) ≡ option_map suc (line_place path (dir_in head) (hidden_in head) rows)
line-step path head line rows e = rw e refl

line-here : (path : Names) (head : List BufferRow) (line : line_type) (rows : List BufferRow) → shown path head line ≡ true → line_place path (dir_in head) (hidden_in head) (Line line ∷ rows) ≡ Some 0
line-here path head line rows e = rw e refl

module _ (o : Ordered) (path : Names) (head : Option ℕ) (r : ℕ) (v : BufferRow) (b : AllBelow (length o.values) o.order) (c : Contains o.order r) (e : v ≡ get_or o.values r v) (h : LineAt o path head (from_row r o.order)) where
  abbrev all : Option ℕ
  all = line_place path [] true (values_in o.values o.order)

  abbrev ls : List ℕ
  ls = (from-some o.order r c).0

  abbrev hv : List BufferRow
  hv = head_value o.values head

  it : LineAt o path head (r ∷ ls)
  it = subst (λ x. LineAt o path head x) (from-some o.order r c).1 h

  first-value : value_at o.values r ≡ v ∷ []
  first-value = value-one o.values r v (contains-below (length o.values) r o.order b c) ∙ ap (λ x. x ∷ []) (sym e)

  pub line-head : (dir : Names) (hidden : Bool) → v ≡ Head dir hidden → LineAt o path (Some r) (drop 1 (from_row r o.order))
  line-head dir hidden is =
      let rest = values_in o.values ls in
      let one : value_at o.values r ≡ Head dir hidden ∷ [] = first-value ∙ ap (λ x. x ∷ []) is in
      let left : line_place path (dir_in hv) (hidden_in hv) (values_in o.values (r ∷ ls)) ≡ option_map suc (line_place path (dir_in (value_at o.values r)) (hidden_in (value_at o.values r)) rest) =
      ap (λ front. line_place path (dir_in hv) (hidden_in hv) (front ++ rest)) one ∙ ap (λ x. option_map suc (line_place path (dir_in x) (hidden_in x) rest)) (sym one) in
      subst (λ x. LineAt o path (Some r) (drop 1 x)) (sym (from-some o.order r c).1)
      (at-next o.order all r ls (line_place path (dir_in (value_at o.values r)) (hidden_in (value_at o.values r)) rest) (subst (λ x. IsAt o.order all (r ∷ ls) x) left it))

  pub line-next : (line : line_type) → v ≡ Line line → shown path hv line ≡ false → LineAt o path head (drop 1 (from_row r o.order))
  line-next line is other =
      let rest = values_in o.values ls in
      let one : value_at o.values r ≡ Line line ∷ [] = first-value ∙ ap (λ x. x ∷ []) is in
      let left : line_place path (dir_in hv) (hidden_in hv) (values_in o.values (r ∷ ls)) ≡ option_map suc (line_place path (dir_in hv) (hidden_in hv) rest) =
      ap (λ front. line_place path (dir_in hv) (hidden_in hv) (front ++ rest)) one ∙ line-step path hv line rest other in
      subst (λ x. LineAt o path head (drop 1 x)) (sym (from-some o.order r c).1)
      (at-next o.order all r ls (line_place path (dir_in hv) (hidden_in hv) rest) (subst (λ x. IsAt o.order all (r ∷ ls) x) left it))

  pub line-found : (line : line_type) → v ≡ Line line → shown path hv line ≡ true → FoundAt o.order all (Some r)
  line-found line is same =
      let rest = values_in o.values ls in
      let one : value_at o.values r ≡ Line line ∷ [] = first-value ∙ ap (λ x. x ∷ []) is in
      let left : line_place path (dir_in hv) (hidden_in hv) (values_in o.values (r ∷ ls)) ≡ Some 0 =
      ap (λ front. line_place path (dir_in hv) (hidden_in hv) (front ++ rest)) one ∙ line-here path hv line rest same in
      at-found o.order all r ls (subst (λ x. IsAt o.order all (r ∷ ls) x) left it)

-- ---- names as the parts of a text

parts-first : (b : ℕ) (cs : List (List ℕ)) → (c : List ℕ) × (later : List (List ℕ)) × (with_first b cs ≡ c ∷ later)
parts-first b [] = (b ∷ [], [], refl)
parts-first b (c ∷ cs) = (b ∷ c, cs, refl)

parts-cons : (slashed : Bool) (b : ℕ) (cs : List (List ℕ)) → (c : List ℕ) × (later : List (List ℕ)) × ((if slashed then [] ∷ cs else with_first b cs) ≡ c ∷ later)
parts-cons true b cs = ([], cs, refl)
parts-cons false b cs = parts-first b cs

pub parts-some : (text : List ℕ) → (c : List ℕ) × (later : List (List ℕ)) × (components text ≡ c ∷ later)
parts-some [] = ([], [], refl)
parts-some (b ∷ bs) = parts-cons (b == slash) b (components bs)

-- no names are the parts of no text
pub no-parts : (text : List ℕ) → same_names [] (components text) ≡ false
no-parts text = let k = parts-some text in rw k.2 refl

is-empty : (rest : Names) → same_names rest [] ≡ (length rest == 0)
is-empty [] = refl
is-empty (name ∷ rest) = sym (ne_eqb (length (name ∷ rest)) 0 (λ (e : length (name ∷ rest) ≡ 0). let f : suc (length rest) ≡ 0 = e in absurd (omega arith)))

pub one-part : (first : List ℕ) (rest : Names) (text : List ℕ) → All (λ b. b ≢ slash) text → same_names (first ∷ rest) (components text) ≡ (pointwise nat_eq first text && (length rest == 0))
one-part first rest text h = rw (components-none text h, is-empty rest) refl

pub more-parts : (first : List ℕ) (rest : Names) (text part later : List ℕ) → text ≡ part ++ slash ∷ later → All (λ b. b ≢ slash) part → same_names (first ∷ rest) (components text) ≡ (pointwise nat_eq first part && same_names rest (components later))
more-parts first rest text part later e h = ap (λ t. same_names (first ∷ rest) (components t)) e ∙ ap (same_names (first ∷ rest)) (components-at part later h)

-- names that have a first
pub names-split : (names : Names) (first : List ℕ) → 1 ≤ length names → first ≡ get_or names 0 first → names ≡ first ∷ take (length names - 1) (drop 1 names)
names-split [] first h e = absurd (omega arith)
names-split (x ∷ xs) first h e =
    let n : length (x ∷ xs) - 1 ≡ length xs = omega arith in
    ap (λ y. y ∷ xs) (sym e) ∙ ap (λ ys. first ∷ ys) (sym (ap (λ k. take k xs) n ∙ take-length xs))

-- ---- from row to row

pub at-row : (order : List ℕ) (at : Option RowId) (row : RowId) → at ≡ Some row → IfSome at (λ row. Contains order row.0) → Contains order row.0
at-row order at row e w = subst (λ (o : Option RowId). IfSome o (λ row. Contains order row.0)) e w

pub walk-shorter : (order : List ℕ) (at next : Option RowId) (row : RowId) → at ≡ Some row → IfSome at (λ row. Contains order row.0) → rows_from (option_map (λ (row : RowId). row.0) next) order ≡ drop 1 (from_row row.0 order) → length (rows_from (option_map (λ (row : RowId). row.0) next) order) < length (rows_from (option_map (λ (row : RowId). row.0) at) order)
walk-shorter order at next row e w rest =
    let b = rest-shorter order row.0 (at-row order at row e w) in
    let a : length (rows_from (option_map (λ (row : RowId). row.0) next) order) ≡ length (drop 1 (from_row row.0 order)) = ap length rest in
    let d : length (rows_from (option_map (λ (row : RowId). row.0) at) order) ≡ length (from_row row.0 order) = ap (λ (o : Option RowId). length (rows_from (option_map (λ (row : RowId). row.0) o) order)) e in
    omega arith

-- the value of a head
pub shown-head : (values : List BufferRow) (head : Option RowId) (row : RowId) (v : BufferRow) → IfSome head (λ row. row.0 < length values) → head ≡ Some row → v ≡ get_or values row.0 v → head_value values (option_map (λ (row : RowId). row.0) head) ≡ v ∷ []
shown-head values head row v h e is =
    let below : row.0 < length values = subst (λ (o : Option RowId). IfSome o (λ row. row.0 < length values)) e h in
    ap (λ (o : Option RowId). head_value values (option_map (λ (row : RowId). row.0) o)) e ∙ (value-one values row.0 v below ∙ ap (λ w. w ∷ []) (sym is))

pub shown-by : (path : Names) (hs : List BufferRow) (line : line_type) (v : BufferRow) → hs ≡ v ∷ [] → (not (hidden_in hs) && is_line_of path (dir_in hs) line) ≡ (not (hidden_in (v ∷ [])) && is_line_of path (dir_in (v ∷ [])) line)
shown-by path hs line v e = ap (λ hs. not (hidden_in hs) && is_line_of path (dir_in hs) line) e
