-- Sections that are taken out row by row.
use Rattle.std.proofs.Common.{◌≡◌, ℕ, ◌+◌, ◌<◌, ◌≤◌, suc, List, [], ◌∷◌, ◌++◌, length, drop, refl, ap, sym, subst, ◌∙◌, arith, length-append, append_assoc, Some, None, Option, Contains, IfSome, get_or, Bool}
use Rattle.std.specs.Option.{option_map}
use Rattle.std.proofs.lemmas.List.{drop_at}
use Rattle.link_rows.specs.Net.{AllBelow}
use Rattle.link_rows.specs.Values.{value_at}
use Rattle.link_rows.specs.declared.rows.RowId.{RowId}
use Rattle.link_rows.proofs.NetLemmas.{Misses, Unique, unique-missed}
use Rattle.dired_text.specs.Paths.{Names}
use Rattle.listing_text.specs.declared.line.Line.{Line as line_type}
use Rattle.listing_text.specs.declared.switches.Switches.{Switches}
use Rattle.section_rows.specs.declared.row.BufferRow.{BufferRow}
use Rattle.section_rows.specs.declared.row.BufferRow.TheVariants.{Head, Line}
use Rattle.section_rows.specs.Orders.{Ordered, from_row, place_of, rows_from, taken, values_in, without}
use Rattle.section_rows.proofs.OrderLemmas.{below-split, mid-unique, place-at, stands}
use Rattle.section_rows.proofs.WalkLemmas.{from-at}
use Rattle.section_rows.proofs.ListLemmas.{mid-contains}
use Rattle.section_buffer.specs.declared.kept.Kept.{Kept}
use Rattle.section_buffer.specs.declared.kept.Kept.TheVariants.{Kill}
use Rattle.section_buffer.specs.Rows.{lines_of}
use Rattle.section_buffer.specs.Places.{head_place}
use Rattle.section_buffer.specs.Buffers.{killed, section_killed}
use Rattle.section_buffer.specs.Held.{AreLines, IsBuffer, IsRootFirst, NoLineFirst, SectionTaken, seen_as, steps_taken}
use Rattle.section_buffer.proofs.RowLemmas.{sections-rows, value-one, values-length, values-split}
use Rattle.section_buffer.proofs.FindLemmas.{contains-below, from-some}
use Rattle.section_buffer.proofs.KillLemmas.{kill-held, kill-seen, ordered, steps-more, taken-one}
use Rattle.section_buffer.proofs.BufferLemmas.{some-later}

-- The row r and some lines behind it were taken out; the rows from this one on are left.
pub record TakenSoFar (old : Ordered) (r count : ℕ) (at : Option ℕ) (now : Ordered) : Type 0 where
  pub before : List ℕ
  pub lines : List ℕ
  pub rest : List ℕ
  pub parts : old.order ≡ before ++ (r ∷ (lines ++ rest))
  pub many : length (r ∷ lines) ≡ count
  pub are_lines : AreLines (values_in old.values lines)
  pub left : rows_from at now.order ≡ rest
  pub end : now ≡ ordered (before ++ rest) old.values (steps_taken (length before) (r ∷ lines) old.steps)

first-of : (x y : ℕ) (xs ys : List ℕ) → x ∷ xs ≡ y ∷ ys → x ≡ y
first-of x y xs ys e = cc

not-none : (x : ℕ) (xs : List ℕ) → x ∷ xs ≡ [] → ⊥
not-none x xs e = cc

-- the rows behind one that is taken out are still left
rest-kept : (before : List ℕ) (r : ℕ) (gs : List ℕ) (f : Option ℕ) → Unique (before ++ r ∷ gs) → IfSome f (λ x. Contains (before ++ r ∷ gs) x) → rows_from f (before ++ r ∷ gs) ≡ gs → (rows_from f (before ++ gs) ≡ gs) × IfSome f (λ x. Contains (before ++ gs) x)
rest-kept before r gs None u c e = (e, tt)
rest-kept before r [] (Some x) u c e = let k = from-some (before ++ r ∷ []) x c in absurd (not-none x k.0 (sym k.1 ∙ e))
rest-kept before r (g ∷ gs) (Some x) u c e =
    let k = from-some (before ++ r ∷ g ∷ gs) x c in
    let same : x ≡ g = first-of x g k.0 gs (sym k.1 ∙ e) in
    let m : Misses g before = unique-missed before g gs (mid-unique r before (g ∷ gs) u) in (
      subst (λ y. from_row y (before ++ g ∷ gs) ≡ g ∷ gs) (sym same) (from-at g before gs m),
      subst (λ y. Contains (before ++ g ∷ gs) y) (sym same) (mid-contains g before gs),
    )

pub take-first : (o : Ordered) (r : ℕ) (f : Option ℕ) → Contains o.order r → o.built ≡ 0 → Unique o.order → IfSome f (λ x. Contains o.order x) → rows_from f o.order ≡ drop 1 (from_row r o.order) → TakenSoFar o r 1 f (taken r o) × IfSome f (λ x. Contains (without r o.order) x)
take-first o r f c built once within next =
    let k = stands o.order r c in
    let fs = k.0 in
    let gs = k.1 in
    let p : o.order ≡ fs ++ r ∷ gs = k.2.parts in
    let left : rows_from f (fs ++ r ∷ gs) ≡ gs = ap (rows_from f) (sym p) ∙ (next ∙ ap (drop 1) (ap (from_row r) p ∙ from-at r fs gs k.2.first)) in
    let kept = rest-kept fs r gs f (subst (λ x. Unique x) p once) (subst (λ x. IfSome f (λ y. Contains x y)) p within) left in
    let one : taken r o ≡ ordered (fs ++ gs) o.values (steps_taken (length fs) (r ∷ []) o.steps) = taken-one o fs r gs built p once in
    let cut : without r o.order ≡ fs ++ gs = ap (λ (x : Ordered). x.order) one in (
      record { before = fs; lines = []; rest = gs; parts = p; many = refl; are_lines = tt; left = ap (rows_from f) cut ∙ kept.0; end = one },
      subst (λ x. IfSome f (λ y. Contains x y)) (sym cut) kept.1,
    )

lines-join : (us bs : List BufferRow) → AreLines us → AreLines bs → AreLines (us ++ bs)
lines-join [] bs h k = k
lines-join (Head dir hidden ∷ us) bs h k = absurd h
lines-join (Line line ∷ us) bs h k = lines-join us bs h k

module _ (old now : Ordered) (r count x : ℕ) (t : TakenSoFar old r count (Some x) now) (v : BufferRow) (e : v ≡ get_or now.values x v)
    (once : Unique now.order) (below : AllBelow (length now.values) now.order) (c : Contains now.order x) where
  abbrev gs : List ℕ
  gs = (from-some now.order x c).0

  rest-is : t.rest ≡ x ∷ gs
  rest-is = sym t.left ∙ (from-some now.order x c).1

  here : now.order ≡ t.before ++ x ∷ gs
  here = ap (λ (o : Ordered). o.order) t.end ∙ ap (λ rest. t.before ++ rest) rest-is

  same-values : now.values ≡ old.values
  same-values = ap (λ (o : Ordered). o.values) t.end

  value : value_at old.values x ≡ v ∷ []
  value =
      ap (λ vs. value_at vs x) (sym same-values)
      ∙ (value-one now.values x v (contains-below (length now.values) x now.order below c) ∙ ap (λ w. w ∷ []) (sym e))

  more-parts : old.order ≡ t.before ++ (r ∷ ((t.lines ++ x ∷ []) ++ gs))
  more-parts = t.parts ∙ ap (λ rest. t.before ++ (r ∷ rest)) (ap (λ rest. t.lines ++ rest) rest-is ∙ sym (append_assoc t.lines (x ∷ []) gs))

  pub take-more : (line : line_type) (f : Option ℕ) → v ≡ Line line → IfSome f (λ y. Contains now.order y) → rows_from f now.order ≡ drop 1 (from_row x now.order) → TakenSoFar old r (count + 1) f (taken x now) × IfSome f (λ y. Contains (without x now.order) y)
  take-more line f is within next =
      let left : rows_from f (t.before ++ x ∷ gs) ≡ gs = ap (rows_from f) (sym here) ∙ (next ∙ ap (drop 1) (from-some now.order x c).1) in
      let kept = rest-kept t.before x gs f (subst (λ o. Unique o) here once) (subst (λ o. IfSome f (λ y. Contains o y)) here within) left in
      let built : now.built ≡ 0 = ap (λ (o : Ordered). o.built) t.end in
      let at = length t.before in
      let one : taken x now ≡ ordered (t.before ++ gs) now.values (steps_taken at (x ∷ []) now.steps) = taken-one now t.before x gs built here once in
      let cut : without x now.order ≡ t.before ++ gs = ap (λ (o : Ordered). o.order) one in
      let steps : steps_taken at (x ∷ []) now.steps ≡ steps_taken at (r ∷ (t.lines ++ x ∷ [])) old.steps =
      ap (λ (o : Ordered). steps_taken at (x ∷ []) o.steps) t.end ∙ sym (steps-more at (r ∷ t.lines) x old.steps) in
      let new : taken x now ≡ ordered (t.before ++ gs) old.values (steps_taken at (r ∷ (t.lines ++ x ∷ [])) old.steps) =
      one ∙ (ap (λ vs. ordered (t.before ++ gs) vs (steps_taken at (x ∷ []) now.steps)) same-values ∙ ap (λ s. ordered (t.before ++ gs) old.values s) steps) in
      let counted : length (r ∷ (t.lines ++ x ∷ [])) ≡ count + 1 = omega (arith, length-append t.lines (x ∷ []), t.many) in
      let one_line : AreLines (value_at old.values x ++ []) = subst (λ vs. AreLines (vs ++ [])) (sym (value ∙ ap (λ w. w ∷ []) is)) tt in
      let lines : AreLines (values_in old.values (t.lines ++ x ∷ [])) =
      subst (λ vs. AreLines vs) (sym (values-split old.values t.lines (x ∷ []))) (lines-join (values_in old.values t.lines) (values_in old.values (x ∷ [])) t.are_lines one_line) in (
        record { before = t.before; lines = t.lines ++ x ∷ []; rest = gs; parts = more-parts; many = counted; are_lines = lines; left = ap (rows_from f) cut ∙ kept.0; end = new },
        subst (λ o. IfSome f (λ y. Contains o y)) (sym cut) kept.1,
      )

  taken-left : (f : Option ℕ) → IfSome f (λ y. Contains now.order y) → rows_from f now.order ≡ drop 1 (from_row x now.order) → rows_from f (without x now.order) ≡ gs
  taken-left f within next =
      let left : rows_from f (t.before ++ x ∷ gs) ≡ gs = ap (rows_from f) (sym here) ∙ (next ∙ ap (drop 1) (from-some now.order x c).1) in
      let kept = rest-kept t.before x gs f (subst (λ o. Unique o) here once) (subst (λ o. IfSome f (λ y. Contains o y)) here within) left in
      let built : now.built ≡ 0 = ap (λ (o : Ordered). o.built) t.end in
      let cut : without x now.order ≡ t.before ++ gs = ap (λ (o : Ordered). o.order) (taken-one now t.before x gs built here once) in
      ap (rows_from f) cut ∙ kept.0

  pub take-shorter : (f : Option ℕ) → IfSome f (λ y. Contains now.order y) → rows_from f now.order ≡ drop 1 (from_row x now.order) → length (rows_from f (without x now.order)) < length (from_row x now.order)
  take-shorter f within next =
      let a : length (rows_from f (without x now.order)) ≡ length gs = ap length (taken-left f within next) in
      let b : length (from_row x now.order) ≡ suc (length gs) = ap length (from-some now.order x c).1 in
      omega arith

  -- at a head all lines are taken out
  pub take-done : (dir : Names) (hidden : Bool) → v ≡ Head dir hidden → SectionTaken old r count now
  take-done dir hidden is =
      let first : values_in old.values (x ∷ gs) ≡ Head dir hidden ∷ values_in old.values gs = ap (λ vs. vs ++ values_in old.values gs) (value ∙ ap (λ w. w ∷ []) is) in
      let no_more : NoLineFirst (values_in old.values t.rest) = subst (λ rest. NoLineFirst (values_in old.values rest)) (sym rest-is) (subst (λ vs. NoLineFirst vs) (sym first) tt) in
      record { before = t.before; lines = t.lines; behind = t.rest; parts = t.parts; count = t.many; are_lines = t.are_lines; no_more = no_more; end = t.end }

-- and at the end
pub take-all : (old now : Ordered) (r count : ℕ) → TakenSoFar old r count None now → SectionTaken old r count now
take-all old now r count t =
    let no_more : NoLineFirst (values_in old.values t.rest) = subst (λ rest. NoLineFirst (values_in old.values rest)) t.left tt in
    record { before = t.before; lines = t.lines; behind = t.rest; parts = t.parts; count = t.many; are_lines = t.are_lines; no_more = no_more; end = t.end }

-- there are never more rows than stood
pub few-taken : (old now : Ordered) (r count x : ℕ) → TakenSoFar old r count (Some x) now → Contains now.order x → count < length old.order
few-taken old now r count x t c =
    let k = from-some now.order x c in
    let rest : t.rest ≡ x ∷ k.0 = sym t.left ∙ k.1 in
    let e : length old.order ≡ length (t.before ++ (r ∷ (t.lines ++ t.rest))) = ap length t.parts in
    let n : length t.rest ≡ suc (length k.0) = ap length rest in
    omega (arith, length-append t.before (r ∷ (t.lines ++ t.rest)), length-append t.lines t.rest, t.many)

-- ---- what is seen of it

lines-counted : (ls bs : List BufferRow) → AreLines ls → NoLineFirst bs → length (lines_of (ls ++ bs)) ≡ length ls
lines-counted [] [] h n = refl
lines-counted [] (Head dir hidden ∷ bs) h n = refl
lines-counted [] (Line line ∷ bs) h n = absurd n
lines-counted (Head dir hidden ∷ ls) bs h n = absurd h
lines-counted (Line line ∷ ls) bs h n = ap suc (lines-counted ls bs h n)

-- the root's head is not that of another directory
pub head-behind : (name : List ℕ) (dir : Names) (rows : List BufferRow) (n : ℕ) → IsRootFirst rows → head_place (name ∷ dir) rows ≡ Some n → 0 < n
head-behind name dir [] n h e = absurd h
head-behind name dir (Head [] hidden ∷ rows) n h e = some-later (head_place (name ∷ dir) rows) n e
head-behind name dir (Head (first ∷ of) hidden ∷ rows) n h e = absurd h
head-behind name dir (Line line ∷ rows) n h e = absurd h

module _ (switches : Switches) (o : Ordered) (kept : List Kept) (room : ℕ) (h : IsBuffer o kept room) (below : AllBelow (length o.values) o.order) (once : Unique o.order)
    (r n : ℕ) (new : Ordered) (t : SectionTaken o r n new)
    (name : List ℕ) (dir : Names) (fs gs : List ℕ) (parts : o.order ≡ fs ++ r ∷ gs) (found : head_place (name ∷ dir) (values_in o.values o.order) ≡ Some (length fs)) where
  abbrev V : List BufferRow
  V = values_in o.values o.order

  abbrev at : ℕ
  at = length t.before

  at-found : length fs ≡ at
  at-found =
      sym (place-at r fs gs (unique-missed fs r gs (subst (λ x. Unique x) parts once)))
      ∙ (ap (place_of r) (sym parts ∙ t.parts) ∙ place-at r t.before (t.lines ++ t.behind) (unique-missed t.before r (t.lines ++ t.behind) (subst (λ x. Unique x) t.parts once)))

  place : head_place (name ∷ dir) V ≡ Some at
  place = found ∙ ap (λ k. Some k) at-found

  before-some : 0 < at
  before-some = head-behind name dir V at h.root place

  abbrev F : List BufferRow
  F = values_in o.values t.before

  abbrev L : List BufferRow
  L = values_in o.values t.lines

  abbrev B : List BufferRow
  B = values_in o.values t.behind

  all-below : AllBelow (length o.values) (t.before ++ (r ∷ (t.lines ++ t.behind)))
  all-below = subst (λ x. AllBelow (length o.values) x) t.parts below

  tail-below : AllBelow (length o.values) (t.lines ++ t.behind)
  tail-below = (below-split (length o.values) t.before (r ∷ (t.lines ++ t.behind)) all-below).1.1

  abbrev H : List BufferRow
  H = value_at o.values r

  all-rows : V ≡ (F ++ H) ++ (L ++ B)
  all-rows =
      ap (values_in o.values) t.parts
      ∙ (values-split o.values t.before (r ∷ (t.lines ++ t.behind))
      ∙ (ap (λ x. F ++ (H ++ x)) (values-split o.values t.lines t.behind) ∙ sym (append_assoc F H (L ++ B))))

  front-length : length (F ++ H) ≡ suc at
  front-length =
      let front : AllBelow (length o.values) (t.before ++ r ∷ []) =
      (below-split (length o.values) (t.before ++ r ∷ []) (t.lines ++ t.behind) (subst (λ x. AllBelow (length o.values) x) (sym (append_assoc t.before (r ∷ []) (t.lines ++ t.behind))) all-below)).0 in
      let same : values_in o.values (t.before ++ r ∷ []) ≡ F ++ (H ++ []) = values-split o.values t.before (r ∷ []) in
      let n1 : length (F ++ (H ++ [])) ≡ length (t.before ++ r ∷ []) = ap length (sym same) ∙ values-length o.values (t.before ++ r ∷ []) front in
      omega (arith, n1, length-append t.before (r ∷ []), length-append F (H ++ []), length-append H [], length-append F H)

  lines-behind : length (lines_of (drop (suc at) V)) ≡ length t.lines
  lines-behind =
      ap (λ rows. length (lines_of (drop (suc at) rows))) all-rows
      ∙ (ap (λ rows. length (lines_of rows)) (drop_at (F ++ H) (L ++ B) (suc at) front-length)
      ∙ (lines-counted L B t.are_lines t.no_more ∙ values-length o.values t.lines (below-split (length o.values) t.lines t.behind tail-below).0))

  some : 0 < length (r ∷ t.lines)
  some = omega arith

  new-is : ordered (t.before ++ t.behind) o.values (steps_taken at (r ∷ t.lines) o.steps) ≡ new
  new-is = sym t.end

  pub section-seen : section_killed (name ∷ dir) (seen_as switches o kept) ≡ Some (seen_as switches new (Kill n ∷ kept))
  section-seen =
      let b = seen_as switches o kept in
      let wide : room ≤ room = omega arith in
      let kill = λ (rows : List BufferRow) (k : ℕ). killed k (suc (length (lines_of (drop (suc k) rows)))) b in
      let seen : killed at (length (r ∷ t.lines)) b ≡ seen_as switches (ordered (t.before ++ t.behind) o.values (steps_taken at (r ∷ t.lines) o.steps)) (Kill (length (r ∷ t.lines)) ∷ kept) =
      kill-seen switches o kept room room h below t.before (r ∷ t.lines) t.behind t.parts before-some some wide in
      ap (λ (rows : List BufferRow). option_map (kill rows) (head_place (name ∷ dir) rows)) (sections-rows V h.root)
      ∙ (ap (option_map (kill V)) place
      ∙ (ap (λ k. Some (killed at (suc k) b)) lines-behind
      ∙ ap (λ x. Some x) (seen ∙ (ap (λ x. seen_as switches x (Kill (length (r ∷ t.lines)) ∷ kept)) new-is ∙ ap (λ k. seen_as switches new (Kill k ∷ kept)) t.count))))

  pub section-held : (more : ℕ) → room ≤ more → IsBuffer new (Kill n ∷ kept) more
  section-held more wide =
      subst (λ k. IsBuffer new (Kill k ∷ kept) more) t.count
      (subst (λ x. IsBuffer x (Kill (length (r ∷ t.lines)) ∷ kept) more) new-is (kill-held switches o kept room more h below t.before (r ∷ t.lines) t.behind t.parts before-some some wide))

pub section-none : (switches : Switches) (o : Ordered) (kept : List Kept) (room : ℕ) → IsBuffer o kept room → (dir : Names) → head_place dir (values_in o.values o.order) ≡ None → section_killed dir (seen_as switches o kept) ≡ None
section-none switches o kept room h [] e = refl
section-none switches o kept room h (name ∷ dir) e =
    let b = seen_as switches o kept in
    let kill = λ (rows : List BufferRow) (k : ℕ). killed k (suc (length (lines_of (drop (suc k) rows)))) b in
    let V = values_in o.values o.order in
    ap (λ (rows : List BufferRow). option_map (kill rows) (head_place (name ∷ dir) rows)) (sections-rows V h.root) ∙ ap (option_map (kill V)) e

pub section-some : (switches : Switches) (o : Ordered) (kept : List Kept) (room : ℕ) → IsBuffer o kept room → AllBelow (length o.values) o.order → Unique o.order → (r n : ℕ) (new : Ordered) → SectionTaken o r n new → (dir : Names) → 0 < length dir → (fs gs : List ℕ) → o.order ≡ fs ++ r ∷ gs → head_place dir (values_in o.values o.order) ≡ Some (length fs) → section_killed dir (seen_as switches o kept) ≡ Some (seen_as switches new (Kill n ∷ kept))
section-some switches o kept room h below once r n new t [] some fs gs parts found = absurd (omega arith)
section-some switches o kept room h below once r n new t (name ∷ dir) some fs gs parts found = section-seen switches o kept room h below once r n new t name dir fs gs parts found

pub section-kept : (switches : Switches) (o : Ordered) (kept : List Kept) (room : ℕ) → IsBuffer o kept room → AllBelow (length o.values) o.order → Unique o.order → (r n : ℕ) (new : Ordered) → SectionTaken o r n new → (dir : Names) → 0 < length dir → (fs gs : List ℕ) → o.order ≡ fs ++ r ∷ gs → head_place dir (values_in o.values o.order) ≡ Some (length fs) → (more : ℕ) → room ≤ more → IsBuffer new (Kill n ∷ kept) more
section-kept switches o kept room h below once r n new t [] some fs gs parts found more wide = absurd (omega arith)
section-kept switches o kept room h below once r n new t (name ∷ dir) some fs gs parts found more wide = section-held switches o kept room h below once r n new t name dir fs gs parts found more wide

pub some-id : (P : ℕ → Type 0) (o : Option RowId) → IfSome o (λ row. P row.0) → IfSome (option_map (λ (row : RowId). row.0) o) P
some-id P None h = h
some-id P (Some row) h = h
