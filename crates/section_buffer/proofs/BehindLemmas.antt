-- The row behind which a section is put.
use Rattle.std.proofs.Common.{◌≡◌, ℕ, ◌+◌, ◌<◌, suc, List, [], ◌∷◌, ◌++◌, length, drop, refl, ap, sym, subst, ◌∙◌, arith, length-append, append_assoc, Some, None, Option, Bool, true, false, Contains, get_or}
use Rattle.link_rows.specs.Net.{AllBelow}
use Rattle.dired_text.specs.Paths.{Names}
use Rattle.section_rows.specs.declared.row.BufferRow.{BufferRow}
use Rattle.section_rows.specs.declared.row.BufferRow.TheVariants.{Head, Line}
use Rattle.section_rows.specs.Orders.{Ordered, from_row, values_in}
use Rattle.section_buffer.specs.Buffers.{is_later_head, later_place}
use Rattle.section_buffer.specs.Held.{IsBehind, IsRootFirst}
use Rattle.section_buffer.proofs.FindLemmas.{from-some, rest-values}

-- the last of some rows
abbrev pub last_in : List ℕ → Option ℕ
last_in [] = None
last_in (r ∷ []) = Some r
last_in (r ∷ x ∷ rows) = last_in (x ∷ rows)

last-pushed : (rows : List ℕ) (r : ℕ) → last_in (rows ++ r ∷ []) ≡ Some r
last-pushed [] r = refl
last-pushed (x ∷ []) r = refl
last-pushed (x ∷ y ∷ rows) r = last-pushed (y ∷ rows) r

last-split : (r : ℕ) (rows : List ℕ) → (fs : List ℕ) × (a : ℕ) × (r ∷ rows ≡ fs ++ a ∷ []) × (last_in (r ∷ rows) ≡ Some a)
last-split r [] = ([], r, refl, refl)
last-split r (x ∷ rows) = let k = last-split x rows in (r ∷ k.0, k.1, ap (λ y. r ∷ y) k.2, k.3)

-- The rows of the order up to here are of no later directory.
pub record Passed (o : Ordered) (dir : Names) (last : Option ℕ) (count : ℕ) (rest : List ℕ) : Type 0 where
  pub before : List ℕ
  pub parts : o.order ≡ before ++ rest
  pub many : length before ≡ count
  pub last_is : last ≡ last_in before
  pub place : later_place dir (values_in o.values o.order) ≡ length before + later_place dir (values_in o.values rest)

pub passed-none : (o : Ordered) (dir : Names) → Passed o dir None 0 o.order
passed-none o dir = record { before = []; parts = refl; many = refl; last_is = refl; place = omega arith }

later-step : (dir : Names) (v : BufferRow) (rows : List BufferRow) → is_later_head dir v ≡ false → later_place dir (v ∷ rows) ≡ suc (later_place dir rows)
later-step dir v rows e = rw e refl

later-here : (dir : Names) (v : BufferRow) (rows : List BufferRow) → is_later_head dir v ≡ true → later_place dir (v ∷ rows) ≡ 0
later-here dir v rows e = rw e refl

-- no directory stands before the root
pub root-early : (dir : Names) (hidden : Bool) → is_later_head dir (Head [] hidden) ≡ false
root-early [] hidden = refl
root-early (name ∷ dir) hidden = refl

none-before : (o : Ordered) (dir : Names) (v : BufferRow) (rows : List BufferRow) → IsRootFirst (v ∷ rows) → is_later_head dir v ≡ true → ⊥
none-before o dir (Head [] hidden) rows h e = let f : false ≡ true = sym (root-early dir hidden) ∙ e in cc
none-before o dir (Head (name ∷ of) hidden) rows h e = absurd h
none-before o dir (Line line) rows h e = absurd h

behind-some : (o : Ordered) (dir : Names) (last : Option ℕ) (count r : ℕ) (rows rest : List ℕ) → o.order ≡ (r ∷ rows) ++ rest → length (r ∷ rows) ≡ count → last ≡ last_in (r ∷ rows) → later_place dir (values_in o.values o.order) ≡ length (r ∷ rows) → IsBehind o dir last count
behind-some o dir last count r rows rest parts many is place =
    let k = last-split r rows in
    let split : o.order ≡ k.0 ++ k.1 ∷ rest = parts ∙ (ap (λ x. x ++ rest) k.2 ∙ append_assoc k.0 (k.1 ∷ []) rest) in
    let n : length (k.0 ++ k.1 ∷ []) ≡ count = ap length (sym k.2) ∙ many in
    subst (λ x. IsBehind o dir x count) (sym (is ∙ k.3)) (k.0, rest, split, n, place ∙ many)

module _ (o : Ordered) (dir : Names) (last : Option ℕ) (count r : ℕ) (v : BufferRow) (b : AllBelow (length o.values) o.order) (c : Contains o.order r) (e : v ≡ get_or o.values r v) (p : Passed o dir last count (from_row r o.order)) where
  abbrev gs : List ℕ
  gs = (from-some o.order r c).0

  abbrev W : List BufferRow
  W = values_in o.values gs

  rest-is : from_row r o.order ≡ r ∷ gs
  rest-is = (from-some o.order r c).1

  rest-rows : values_in o.values (from_row r o.order) ≡ v ∷ W
  rest-rows = ap (values_in o.values) rest-is ∙ rest-values o r v gs b c e

  here : o.order ≡ p.before ++ r ∷ gs
  here = p.parts ∙ ap (λ rest. p.before ++ rest) rest-is

  pub passed-more : is_later_head dir v ≡ false → Passed o dir (Some r) (count + 1) (drop 1 (from_row r o.order))
  passed-more other =
      let behind : drop 1 (from_row r o.order) ≡ gs = ap (drop 1) rest-is in
      let left : later_place dir (values_in o.values (from_row r o.order)) ≡ suc (later_place dir W) = ap (later_place dir) rest-rows ∙ later-step dir v W other in
      subst (λ rest. Passed o dir (Some r) (count + 1) rest) (sym behind) (record {
        before = p.before ++ r ∷ [];
        parts = here ∙ sym (append_assoc p.before (r ∷ []) gs);
        many = omega (arith, length-append p.before (r ∷ []), p.many);
        last_is = sym (last-pushed p.before r);
        place = omega (arith, p.place, left, length-append p.before (r ∷ []));
      })

  pub passed-later : IsRootFirst (values_in o.values o.order) → is_later_head dir v ≡ true → IsBehind o dir last count
  passed-later root same =
      let left : later_place dir (values_in o.values (from_row r o.order)) ≡ 0 = ap (later_place dir) rest-rows ∙ later-here dir v W same in
      let place : later_place dir (values_in o.values o.order) ≡ length p.before = omega (arith, p.place, left) in
      by p.before here p.many p.last_is place
    where
      by : (before : List ℕ) → o.order ≡ before ++ r ∷ gs → length before ≡ count → last ≡ last_in before → later_place dir (values_in o.values o.order) ≡ length before → IsBehind o dir last count
      by [] parts many is place =
          let rows : values_in o.values o.order ≡ v ∷ W = ap (values_in o.values) parts ∙ rest-values o r v gs b c e in
          absurd (none-before o dir v W (subst (λ x. IsRootFirst x) rows root) same)
      by (x ∷ before) parts many is place = behind-some o dir last count x before (r ∷ gs) parts many is place

pub passed-all : (o : Ordered) (dir : Names) (last : Option ℕ) (count : ℕ) → IsRootFirst (values_in o.values o.order) → Passed o dir last count [] → IsBehind o dir last count
passed-all o dir last count root p = by p.before p.parts p.many p.last_is p.place
  where
    by : (before : List ℕ) → o.order ≡ before ++ [] → length before ≡ count → last ≡ last_in before → later_place dir (values_in o.values o.order) ≡ length before + 0 → IsBehind o dir last count
    by [] parts many is place = absurd (subst (λ x. IsRootFirst (values_in o.values x)) parts root)
    by (x ∷ before) parts many is place = behind-some o dir last count x before [] parts many is (omega arith)

-- there are never more rows than stand
pub few-passed : (o : Ordered) (dir : Names) (last : Option ℕ) (count r : ℕ) → Passed o dir last count (from_row r o.order) → Contains o.order r → count < length o.order
few-passed o dir last count r p c =
    let k = from-some o.order r c in
    let e : length o.order ≡ length (p.before ++ from_row r o.order) = ap length p.parts in
    let n : length (from_row r o.order) ≡ suc (length k.0) = ap length k.1 in
    omega (arith, length-append p.before (from_row r o.order), p.many)
