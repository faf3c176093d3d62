-- Rows and sections, and the values of rows in an order.
use Rattle.std.proofs.Common.{◌≡◌, ℕ, ◌<◌, ◌≤◌, zero, suc, List, [], ◌∷◌, ◌++◌, length, map, take, drop, refl, ap, sym, subst, ◌∙◌, arith, length-append, append_assoc, get_or}
use Rattle.std.proofs.lemmas.List.{take_at, drop_at, take-append-drop}
use Rattle.link_rows.specs.Net.{AllBelow}
use Rattle.link_rows.specs.Values.{value_at}
use Rattle.listing_text.specs.declared.line.Line.{Line as line_type}
use Rattle.section_rows.specs.declared.row.BufferRow.{BufferRow}
use Rattle.section_rows.specs.declared.row.BufferRow.TheVariants.{Head, Line}
use Rattle.section_rows.specs.Orders.{run, values_in}
use Rattle.section_rows.proofs.OrderLemmas.{below-split, run-front}
use Rattle.section_buffer.specs.declared.section.Section.{Section}
use Rattle.section_buffer.specs.Rows.{lines_of, rows_of, sections_of}
use Rattle.section_buffer.specs.Held.{IsRootFirst}

lines-mapped : (lines : List line_type) (rest : List Section) → lines_of (map Line lines ++ rows_of rest) ≡ lines
lines-mapped [] [] = refl
lines-mapped [] (s ∷ rest) = refl
lines-mapped (l ∷ lines) rest = ap (λ ls. l ∷ ls) (lines-mapped lines rest)

sections-mapped : (lines : List line_type) (rows : List BufferRow) → sections_of (map Line lines ++ rows) ≡ sections_of rows
sections-mapped [] rows = refl
sections-mapped (l ∷ lines) rows = sections-mapped lines rows

abbrev section : Section → List line_type → Section
section s lines = record { dir = s.dir; hidden = s.hidden; lines = lines }

pub rows-sections : (sections : List Section) → sections_of (rows_of sections) ≡ sections
rows-sections [] = refl
rows-sections (s ∷ rest) =
    ap (λ ls. section s ls ∷ sections_of (map Line s.lines ++ rows_of rest)) (lines-mapped s.lines rest)
    ∙ ap (λ later. s ∷ later) (sections-mapped s.lines (rows_of rest) ∙ rows-sections rest)

rows-joined : (rows : List BufferRow) → map Line (lines_of rows) ++ rows_of (sections_of rows) ≡ rows
rows-joined [] = refl
rows-joined (Head dir hidden ∷ rows) = ap (λ r. Head dir hidden ∷ r) (rows-joined rows)
rows-joined (Line line ∷ rows) = ap (λ r. Line line ∷ r) (rows-joined rows)

pub sections-rows : (rows : List BufferRow) → IsRootFirst rows → rows_of (sections_of rows) ≡ rows
sections-rows [] h = absurd h
sections-rows (Head dir hidden ∷ rows) h = rows-joined (Head dir hidden ∷ rows)
sections-rows (Line line ∷ rows) h = absurd h

-- the root stays first
pub root-stays : (us bs cs : List BufferRow) → 0 < length us → IsRootFirst (us ++ bs) → IsRootFirst (us ++ cs)
root-stays [] bs cs n h = absurd (omega arith)
root-stays (Head [] hidden ∷ us) bs cs n h = tt
root-stays (Head (name ∷ dir) hidden ∷ us) bs cs n h = absurd h
root-stays (Line line ∷ us) bs cs n h = absurd h

-- the values of rows in an order
pub values-split : (values : List BufferRow) (xs ys : List ℕ) → values_in values (xs ++ ys) ≡ values_in values xs ++ values_in values ys
values-split values [] ys = refl
values-split values (x ∷ xs) ys =
    ap (λ rest. value_at values x ++ rest) (values-split values xs ys) ∙ sym (append_assoc (value_at values x) (values_in values xs) (values_in values ys))

pub value-one : (values : List BufferRow) (r : ℕ) (d : BufferRow) → r < length values → value_at values r ≡ get_or values r d ∷ []
value-one [] r d h = absurd (omega arith)
value-one (v ∷ values) zero d h = refl
value-one (v ∷ values) (suc r) d h = value-one values r d (omega arith)

value-length : (values : List BufferRow) (r : ℕ) → r < length values → length (value_at values r) ≡ 1
value-length [] r h = absurd (omega arith)
value-length (v ∷ values) zero h = refl
value-length (v ∷ values) (suc r) h = value-length values r (omega arith)

pub values-length : (values : List BufferRow) (order : List ℕ) → AllBelow (length values) order → length (values_in values order) ≡ length order
values-length values [] b = refl
values-length values (r ∷ order) b =
    let one = value-length values r b.0 in
    let rest = values-length values order b.1 in
    omega (arith, length-append (value_at values r) (values_in values order))

first-new : (us vs : List BufferRow) (v : BufferRow) (n : ℕ) → n ≡ length us → value_at (us ++ v ∷ vs) n ≡ v ∷ []
first-new [] vs v zero e = refl
first-new [] vs v (suc n) e = absurd (omega arith)
first-new (u ∷ us) vs v zero e = absurd (omega arith)
first-new (u ∷ us) vs v (suc n) e = first-new us vs v n (omega arith)

pub values-run : (us vs : List BufferRow) (n : ℕ) → n ≡ length us → values_in (us ++ vs) (run n (length vs)) ≡ vs
values-run us [] n e = refl
values-run us (v ∷ vs) n e =
    let next : suc n ≡ length (us ++ v ∷ []) = omega (arith, length-append us (v ∷ [])) in
    ap (values_in (us ++ v ∷ vs)) (run-front n (length vs))
    ∙ (ap (λ front. front ++ values_in (us ++ v ∷ vs) (run (suc n) (length vs))) (first-new us vs v n e)
    ∙ ap (λ rest. v ∷ rest) (ap (λ ws. values_in ws (run (suc n) (length vs))) (sym (append_assoc us (v ∷ []) vs)) ∙ values-run (us ++ v ∷ []) vs (suc n) next))

pub length-take : {A : Type 0} (n : ℕ) (xs : List A) → n ≤ length xs → length (take n xs) ≡ n
length-take zero xs h = refl
length-take (suc n) [] h = absurd (omega arith)
length-take (suc n) (x ∷ xs) h = ap suc (length-take n xs (omega arith))

-- the values of the first of them, and of the others
module _ (values : List BufferRow) (order : List ℕ) (b : AllBelow (length values) order) (n : ℕ) (h : n ≤ length order) where
  parts : values_in values order ≡ values_in values (take n order) ++ values_in values (drop n order)
  parts = ap (values_in values) (sym (take-append-drop n order)) ∙ values-split values (take n order) (drop n order)

  many : length (values_in values (take n order)) ≡ n
  many =
      let front : AllBelow (length values) (take n order) = (below-split (length values) (take n order) (drop n order) (subst (λ x. AllBelow (length values) x) (sym (take-append-drop n order)) b)).0 in
      values-length values (take n order) front ∙ length-take n order h

  pub values-take : take n (values_in values order) ≡ values_in values (take n order)
  values-take = ap (take n) parts ∙ take_at (values_in values (take n order)) (values_in values (drop n order)) n many

  pub values-drop : drop n (values_in values order) ≡ values_in values (drop n order)
  values-drop = ap (drop n) parts ∙ drop_at (values_in values (take n order)) (values_in values (drop n order)) n many
