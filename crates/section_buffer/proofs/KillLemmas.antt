-- Rows that are taken out, and put back.
use Rattle.std.proofs.Common.{◌≡◌, ℕ, ◌+◌, ◌-◌, ◌<◌, ◌≤◌, suc, List, [], ◌∷◌, ◌++◌, length, take, drop, refl, ap, sym, subst, ◌∙◌, arith, length-append, append_assoc, append-nil, Some}
use Rattle.std.proofs.lemmas.List.{take_at, drop_at}
use Rattle.link_rows.specs.Net.{AllBelow}
use Rattle.link_rows.specs.Values.{value_at}
use Rattle.link_rows.proofs.NetLemmas.{Misses, Unique, unique-missed}
use Rattle.listing_text.specs.declared.switches.Switches.{Switches}
use Rattle.section_rows.specs.declared.row.BufferRow.{BufferRow}
use Rattle.section_rows.specs.Orders.{Ordered, Step, Taken, place_of, taken, undone, values_in}
use Rattle.section_rows.proofs.OrderLemmas.{below-split, place-at, with-at, without-at}
use Rattle.section_buffer.specs.declared.kept.Kept.{Kept}
use Rattle.section_buffer.specs.declared.kept.Kept.TheVariants.{Kill}
use Rattle.section_buffer.specs.Rows.{rows_of, sections_of, with_rows, without_rows}
use Rattle.section_buffer.specs.Buffers.{BufferState, Event, Killed, killed, unkilled}
use Rattle.section_buffer.specs.Held.{AreChanges, AreOfRows, IsBuffer, IsRootFirst, events_of, place_in, seen_as, steps_taken, steps_undone, taken_values}
use Rattle.section_buffer.proofs.RowLemmas.{root-stays, sections-rows, values-length, values-split}

abbrev pub ordered : List ℕ → List BufferRow → List Step → Ordered
ordered order values steps = record { order = order; built = 0; values = values; steps = steps }

abbrev pub state : Switches → List BufferRow → List Event → BufferState
state switches rows events = record { switches = switches; sections = sections_of rows; events = events }

abbrev with_it : List ℕ → List BufferRow → ℕ → List Step → Ordered
with_it order values built steps = record { order = order; built = built; values = values; steps = steps }

-- one row taken out
pub taken-one : (o : Ordered) (fs : List ℕ) (r : ℕ) (gs : List ℕ) → o.built ≡ 0 → o.order ≡ fs ++ r ∷ gs → Unique o.order → taken r o ≡ ordered (fs ++ gs) o.values (steps_taken (length fs) (r ∷ []) o.steps)
taken-one o fs r gs built parts once =
    let missed : Misses r fs = unique-missed fs r gs (subst (λ x. Unique x) parts once) in
    ap (λ x. taken r (with_it x o.values o.built o.steps)) parts
    ∙ (ap (λ x. with_it x o.values o.built (Taken (place_of r (fs ++ r ∷ gs)) r ∷ o.steps)) (without-at r fs gs missed)
    ∙ (ap (λ k. with_it (fs ++ gs) o.values o.built (Taken k r ∷ o.steps)) (place-at r fs gs missed)
    ∙ ap (λ n. with_it (fs ++ gs) o.values n (Taken (length fs) r ∷ o.steps)) built))

-- the steps of rows that were taken out one after another
pub steps-more : (at : ℕ) (rows : List ℕ) (r : ℕ) (steps : List Step) → steps_taken at (rows ++ r ∷ []) steps ≡ Taken at r ∷ steps_taken at rows steps
steps-more at [] r steps = refl
steps-more at (x ∷ rows) r steps = steps-more at rows r (Taken at x ∷ steps)

place-taken : (at : ℕ) (rows : List ℕ) (steps : List Step) → place_in steps ≡ at → place_in (steps_taken at rows steps) ≡ at
place-taken at [] steps e = e
place-taken at (r ∷ rows) steps e = place-taken at rows (Taken at r ∷ steps) refl

taken-place : (at : ℕ) (rows : List ℕ) (steps : List Step) → 0 < length rows → place_in (steps_taken at rows steps) ≡ at
taken-place at [] steps h = absurd (omega arith)
taken-place at (r ∷ rows) steps h = place-taken at rows (Taken at r ∷ steps) refl

taken-more : (values : List BufferRow) (at : ℕ) (rows : List ℕ) (steps : List Step) (n m : ℕ) → n ≡ length rows + m → taken_values values n (steps_taken at rows steps) ≡ taken_values values m steps ++ values_in values rows
taken-more values at [] steps n m e = let f : n ≡ m = omega arith in ap (λ k. taken_values values k steps) f ∙ sym (append-nil (taken_values values m steps))
taken-more values at (r ∷ rows) steps n m e =
    taken-more values at rows (Taken at r ∷ steps) n (suc m) (omega arith) ∙ append_assoc (taken_values values m steps) (value_at values r) (values_in values rows)

drop-more : (at : ℕ) (rows : List ℕ) (steps : List Step) (n m : ℕ) → n ≡ length rows + m → drop n (steps_taken at rows steps) ≡ drop m steps
drop-more at [] steps n m e = let f : n ≡ m = omega arith in ap (λ k. drop k steps) f
drop-more at (r ∷ rows) steps n m e = drop-more at rows (Taken at r ∷ steps) n (suc m) (omega arith)

-- what is seen of a kill of these rows
pub event-taken : (values : List BufferRow) (at : ℕ) (rows : List ℕ) (steps : List Step) (n : ℕ) (kept : List Kept) → length rows ≡ n → 0 < n → events_of values (steps_taken at rows steps) (Kill n ∷ kept) ≡ Killed at (values_in values rows) ∷ events_of values steps kept
event-taken values at rows steps n kept e h =
    let all = steps_taken at rows steps in
    ap (λ k. Killed k (taken_values values n all) ∷ events_of values (drop n all) kept) (taken-place at rows steps (omega arith))
    ∙ (ap (λ vs. Killed at vs ∷ events_of values (drop n all) kept) (taken-more values at rows steps n 0 (omega arith))
    ∙ ap (λ older. Killed at (values_in values rows) ∷ events_of values older kept) (drop-more at rows steps n 0 (omega arith)))

-- steps of rows
pub taken-below : (n at : ℕ) (rows : List ℕ) (steps : List Step) → AllBelow n rows → AreOfRows n steps → AreOfRows n (steps_taken at rows steps)
taken-below n at [] steps b h = h
taken-below n at (r ∷ rows) steps b h = taken-below n at rows (Taken at r ∷ steps) b.1 (b.0, h)

pub below-taken : (n at : ℕ) (rows : List ℕ) (steps : List Step) → AreOfRows n (steps_taken at rows steps) → AreOfRows n steps
below-taken n at [] steps h = h
below-taken n at (r ∷ rows) steps h = (below-taken n at rows (Taken at r ∷ steps) h).1

-- these rows are killed
module _ (switches : Switches) (o : Ordered) (kept : List Kept) (room more : ℕ) (h : IsBuffer o kept room) (below : AllBelow (length o.values) o.order)
    (fs rs gs : List ℕ) (parts : o.order ≡ fs ++ (rs ++ gs)) (behind : 0 < length fs) (some : 0 < length rs) (wide : room ≤ more) where
  abbrev V : List BufferRow
  V = values_in o.values o.order

  abbrev F : List BufferRow
  F = values_in o.values fs

  abbrev R : List BufferRow
  R = values_in o.values rs

  abbrev G : List BufferRow
  G = values_in o.values gs

  abbrev pub without_them : Ordered
  without_them = ordered (fs ++ gs) o.values (steps_taken (length fs) rs o.steps)

  all-parts : V ≡ F ++ (R ++ G)
  all-parts = ap (values_in o.values) parts ∙ (values-split o.values fs (rs ++ gs) ∙ ap (λ x. F ++ x) (values-split o.values rs gs))

  all-below : AllBelow (length o.values) (fs ++ (rs ++ gs))
  all-below = subst (λ x. AllBelow (length o.values) x) parts below

  len-F : length F ≡ length fs
  len-F = values-length o.values fs (below-split (length o.values) fs (rs ++ gs) all-below).0

  len-R : length R ≡ length rs
  len-R = values-length o.values rs (below-split (length o.values) rs gs (below-split (length o.values) fs (rs ++ gs) all-below).1).0

  behind-F : drop (length fs) (F ++ (R ++ G)) ≡ R ++ G
  behind-F = drop_at F (R ++ G) (length fs) len-F

  cut : without_rows (length fs) (length rs) (F ++ (R ++ G)) ≡ F ++ G
  cut =
      let both : length (F ++ R) ≡ length fs + length rs = omega (arith, length-append F R, len-F, len-R) in
      ap (λ front. front ++ drop (length fs + length rs) (F ++ (R ++ G))) (take_at F (R ++ G) (length fs) len-F)
      ∙ ap (λ back. F ++ back) (ap (drop (length fs + length rs)) (sym (append_assoc F R G)) ∙ drop_at (F ++ R) G (length fs + length rs) both)

  pub kill-seen : killed (length fs) (length rs) (seen_as switches o kept) ≡ seen_as switches without_them (Kill (length rs) ∷ kept)
  kill-seen =
      let es = events_of o.values o.steps kept in
      let at = length fs in
      let n = length rs in
      let rows : rows_of (sections_of V) ≡ F ++ (R ++ G) = sections-rows V h.root ∙ all-parts in
      ap (λ v. state switches (without_rows at n v) (Killed at (take n (drop at v)) ∷ es)) rows
      ∙ (ap (λ v. state switches v (Killed at (take n (drop at (F ++ (R ++ G)))) ∷ es)) cut
      ∙ (ap (λ v. state switches (F ++ G) (Killed at v ∷ es)) (ap (take n) behind-F ∙ take_at R G n len-R)
      ∙ (ap (λ v. state switches v (Killed at R ∷ es)) (sym (values-split o.values fs gs))
      ∙ ap (λ e. state switches (values_in o.values (fs ++ gs)) e) (sym (event-taken o.values at rs o.steps n kept refl some)))))

  pub kill-held : IsBuffer without_them (Kill (length rs) ∷ kept) more
  kill-held =
      let many : length (fs ++ gs) + length rs ≡ length o.order =
      let e : length o.order ≡ length (fs ++ (rs ++ gs)) = ap length parts in
      omega (arith, length-append fs gs, length-append fs (rs ++ gs), length-append rs gs) in
      let whole : IsRootFirst (F ++ (R ++ G)) = subst (λ v. IsRootFirst v) all-parts h.root in
      record {
        built = refl;
        root = subst (λ v. IsRootFirst v) (sym (values-split o.values fs gs)) (root-stays F (R ++ G) G (omega (arith, len-F)) whole);
        changes = (fs, rs, gs, o.steps, refl, refl, refl, some, behind, subst (λ x. AreChanges x o.steps kept) parts h.changes);
        below = taken-below (length o.values) (length fs) rs o.steps (below-split (length o.values) rs gs (below-split (length o.values) fs (rs ++ gs) all-below).1).0 h.below;
        fits = omega (arith, h.fits);
      }

-- steps are undone
pub undone-all : (fs rows gs : List ℕ) (older : List Step) (values : List BufferRow) → steps_undone (length rows) (ordered (fs ++ gs) values (steps_taken (length fs) rows older)) ≡ ordered (fs ++ (rows ++ gs)) values older
undone-all fs [] gs older values = refl
undone-all fs (r ∷ rows) gs older values =
    ap undone (undone-all fs rows gs (Taken (length fs) r ∷ older) values) ∙ ap (λ x. ordered x values older) (with-at r fs (rows ++ gs))

-- the rows of the last kill are put back
module _ (switches : Switches) (o : Ordered) (n : ℕ) (kept : List Kept) (room : ℕ) (h : IsBuffer o (Kill n ∷ kept) room) (below : AllBelow (length o.values) o.order) where
  abbrev fs : List ℕ
  fs = h.changes.0

  abbrev rs : List ℕ
  rs = h.changes.1

  abbrev gs : List ℕ
  gs = h.changes.2

  abbrev older : List Step
  older = h.changes.3

  abbrev at : ℕ
  at = length fs

  abbrev pub with_them : Ordered
  with_them = ordered (fs ++ (rs ++ gs)) o.values older

  pub back-undone : steps_undone n o ≡ with_them
  back-undone =
      ap (λ k. steps_undone k o) (sym h.changes.6)
      ∙ (ap (λ s. steps_undone (length rs) (with_it o.order o.values o.built s)) h.changes.5
      ∙ (ap (λ x. steps_undone (length rs) (with_it x o.values o.built (steps_taken at rs older))) h.changes.4
      ∙ (ap (λ b. steps_undone (length rs) (with_it (fs ++ gs) o.values b (steps_taken at rs older))) h.built
      ∙ undone-all fs rs gs older o.values)))

  abbrev W : List BufferRow
  W = values_in o.values o.order

  abbrev BF : List BufferRow
  BF = values_in o.values fs

  abbrev BR : List BufferRow
  BR = values_in o.values rs

  abbrev BG : List BufferRow
  BG = values_in o.values gs

  all-back : W ≡ BF ++ BG
  all-back = ap (values_in o.values) h.changes.4 ∙ values-split o.values fs gs

  len-BF : length BF ≡ at
  len-BF = values-length o.values fs (below-split (length o.values) fs gs (subst (λ x. AllBelow (length o.values) x) h.changes.4 below)).0

  back-values : values_in o.values (fs ++ (rs ++ gs)) ≡ with_rows at BR W
  back-values =
      let put : with_rows at BR (BF ++ BG) ≡ BF ++ (BR ++ BG) =
      ap (λ front. front ++ (BR ++ drop at (BF ++ BG))) (take_at BF BG at len-BF) ∙ ap (λ back. BF ++ (BR ++ back)) (drop_at BF BG at len-BF) in
      values-split o.values fs (rs ++ gs) ∙ (ap (λ x. BF ++ x) (values-split o.values rs gs) ∙ sym (ap (with_rows at BR) all-back ∙ put))

  pub back-seen : unkilled (seen_as switches o (Kill n ∷ kept)) ≡ Some (seen_as switches with_them kept)
  back-seen =
      let es = events_of o.values older kept in
      let events : events_of o.values o.steps (Kill n ∷ kept) ≡ Killed at BR ∷ es = ap (λ s. events_of o.values s (Kill n ∷ kept)) h.changes.5 ∙ event-taken o.values at rs older n kept h.changes.6 h.changes.7 in
      ap (λ e. unkilled (state switches W e)) events
      ∙ (ap (λ v. Some (state switches (with_rows at BR v) es)) (sections-rows W h.root)
      ∙ ap (λ v. Some (state switches v es)) (sym back-values))

  pub back-held : IsBuffer with_them kept room
  back-held =
      let n_rows : length rs ≡ n = h.changes.6 in
      let whole : length o.order ≡ length (fs ++ gs) = ap length h.changes.4 in
      let many : length (fs ++ (rs ++ gs)) ≡ length o.order + n = omega (arith, length-append fs (rs ++ gs), length-append rs gs, length-append fs gs) in
      let some : 0 < length BF = omega (arith, len-BF, h.changes.8) in
      let root : IsRootFirst (BF ++ BG) = subst (λ v. IsRootFirst v) all-back h.root in
      let new : values_in o.values (fs ++ (rs ++ gs)) ≡ BF ++ (BR ++ BG) = values-split o.values fs (rs ++ gs) ∙ ap (λ x. BF ++ x) (values-split o.values rs gs) in
      record {
        built = refl;
        root = subst (λ v. IsRootFirst v) (sym new) (root-stays BF BG (BR ++ BG) some root);
        changes = h.changes.9;
        below = below-taken (length o.values) at rs older (subst (λ s. AreOfRows (length o.values) s) h.changes.5 h.below);
        fits = omega (arith, h.fits);
      }
