-- Sections that are put in and taken out again.
use Rattle.std.proofs.Common.{◌≡◌, ℕ, ◌+◌, ◌-◌, ◌<◌, ◌≤◌, zero, suc, List, [], ◌∷◌, ◌++◌, length, map, reverse, slice_get, drop, refl, ap, sym, subst, ◌∙◌, arith, length-append, append_assoc, append-nil, Some, None, Option, Bool, true, false, if◌then◌else◌, Contains, IfSome}
use Rattle.std.specs.Option.{option_map}
use Rattle.std.proofs.lemmas.List.{length-map, length-reverse, map-append, reverse-append, take_at, drop_at}
use Rattle.link_rows.specs.Net.{AllBelow}
use Rattle.link_rows.specs.Values.{value_at}
use Rattle.link_rows.specs.declared.rows.RowId.{RowId}
use Rattle.link_rows.proofs.NetLemmas.{Misses, Unique, unique-missed}
use Rattle.dired_text.specs.Paths.{Names}
use Rattle.listing_text.specs.declared.line.Line.{Line as line_type}
use Rattle.listing_text.specs.declared.switches.Switches.{Switches}
use Rattle.section_rows.specs.declared.row.BufferRow.{BufferRow}
use Rattle.section_rows.specs.declared.row.BufferRow.TheVariants.{Head, Line}
use Rattle.section_rows.specs.Orders.{Ordered, Step, Taken, Put, behind_row, pushed_row, put_in, run, undone, values_in, without_run}
use Rattle.section_rows.proofs.ListLemmas.{mid-contains}
use Rattle.section_rows.proofs.OrderLemmas.{behind-at, below-split, run-length, without-run}
use Rattle.section_buffer.specs.declared.kept.Kept.{Kept}
use Rattle.section_buffer.specs.declared.kept.Kept.TheVariants.{Kill, Insertion}
use Rattle.section_buffer.specs.Rows.{rows_of, sections_of, with_rows, without_rows}
use Rattle.section_buffer.specs.Places.{same_names}
use Rattle.section_buffer.specs.Buffers.{Inserted, Killed, inserted, later_place, rows_of_section, shown_rows, uninserted}
use Rattle.section_buffer.specs.Held.{AreChanges, AreOfRows, IsBehind, IsBuffer, IsRootFirst, changes_in, count_put, dir_in, dir_put, events_of, place_in, seen_as, taken_values, with_made}
use Rattle.section_buffer.proofs.RowLemmas.{root-stays, sections-rows, values-length, values-run, values-split}
use Rattle.section_buffer.proofs.BufferLemmas.{changes-many}
use Rattle.section_buffer.proofs.KillLemmas.{ordered, state}

-- ---- values behind the others

value-grown : (values more : List BufferRow) (r : ℕ) → r < length values → value_at (values ++ more) r ≡ value_at values r
value-grown [] more r h = absurd (omega arith)
value-grown (v ∷ values) more zero h = refl
value-grown (v ∷ values) more (suc r) h = value-grown values more r (omega arith)

pub values-grown : (values more : List BufferRow) (order : List ℕ) → AllBelow (length values) order → values_in (values ++ more) order ≡ values_in values order
values-grown values more [] b = refl
values-grown values more (r ∷ order) b =
    ap (λ front. front ++ values_in (values ++ more) order) (value-grown values more r b.0) ∙ ap (λ back. value_at values r ++ back) (values-grown values more order b.1)

taken-grown : (values more : List BufferRow) (n : ℕ) (steps : List Step) → AreOfRows (length values) steps → taken_values (values ++ more) n steps ≡ taken_values values n steps
taken-grown values more zero steps h = refl
taken-grown values more (suc n) [] h = refl
taken-grown values more (suc n) (Taken at r ∷ steps) h =
    ap (λ front. front ++ value_at (values ++ more) r) (taken-grown values more n steps h.1) ∙ ap (λ back. taken_values values n steps ++ back) (value-grown values more r h.0)
taken-grown values more (suc n) (Put first count ∷ steps) h = taken-grown values more n steps h.1

put-grown : (values more : List BufferRow) (steps : List Step) → AreOfRows (length values) steps → dir_put (values ++ more) steps ≡ dir_put values steps
put-grown values more [] h = refl
put-grown values more (Taken at r ∷ steps) h = refl
put-grown values more (Put first count ∷ steps) h = ap dir_in (value-grown values more first h.0)

drop-below : (n m : ℕ) (steps : List Step) → AreOfRows n steps → AreOfRows n (drop m steps)
drop-below n zero steps h = h
drop-below n (suc m) [] h = tt
drop-below n (suc m) (Taken at r ∷ steps) h = drop-below n m steps h.1
drop-below n (suc m) (Put first count ∷ steps) h = drop-below n m steps h.1

events-grown : (values more : List BufferRow) (steps : List Step) (kept : List Kept) → AreOfRows (length values) steps → events_of (values ++ more) steps kept ≡ events_of values steps kept
events-grown values more steps [] h = refl
events-grown values more steps (Kill n ∷ kept) h =
    ap (λ rows. Killed (place_in steps) rows ∷ events_of (values ++ more) (drop n steps) kept) (taken-grown values more n steps h)
    ∙ ap (λ rest. Killed (place_in steps) (taken_values values n steps) ∷ rest) (events-grown values more (drop n steps) kept (drop-below (length values) n steps h))
events-grown values more steps (Insertion at head ∷ kept) h =
    ap (λ dir. Inserted at (count_put steps) dir ∷ events_of (values ++ more) (drop 1 steps) kept) (put-grown values more steps h)
    ∙ ap (λ rest. Inserted at (count_put steps) (dir_put values steps) ∷ rest) (events-grown values more (drop 1 steps) kept (drop-below (length values) 1 steps h))

below-grown : (n m : ℕ) (steps : List Step) → n ≤ m → AreOfRows n steps → AreOfRows m steps
below-grown n m [] w h = tt
below-grown n m (Taken at r ∷ steps) w h = let below : r < m = omega (arith, h.0) in (below, below-grown n m steps w h.1)
below-grown n m (Put first count ∷ steps) w h = let below : first < m = omega (arith, h.0) in (below, below-grown n m steps w h.1)

first-new : (us vs : List BufferRow) (v : BufferRow) → value_at (us ++ v ∷ vs) (length us) ≡ v ∷ []
first-new [] vs v = refl
first-new (u ∷ us) vs v = first-new us vs v

-- ---- rows that are given up are not seen
module _ (switches : Switches) (o : Ordered) (kept : List Kept) (room : ℕ) (h : IsBuffer o kept room) (below : AllBelow (length o.values) o.order) (more : List BufferRow) where
  abbrev pub grown : Ordered
  grown = ordered o.order (o.values ++ more) o.steps

  pub given-seen : seen_as switches grown kept ≡ seen_as switches o kept
  given-seen =
      ap (λ v. state switches v (events_of (o.values ++ more) o.steps kept)) (values-grown o.values more o.order below)
      ∙ ap (λ es. state switches (values_in o.values o.order) es) (events-grown o.values more o.steps kept h.below)

  pub given-held : IsBuffer grown kept room
  given-held =
      let longer : length o.values ≤ length (o.values ++ more) = omega (arith, length-append o.values more) in
      record {
        built = refl;
        root = subst (λ v. IsRootFirst v) (sym (values-grown o.values more o.order below)) h.root;
        changes = h.changes;
        below = below-grown (length o.values) (length (o.values ++ more)) o.steps longer h.below;
        fits = h.fits;
      }

-- ---- the row behind which a section is put
pub record BehindRow (o : Ordered) (dir : Names) (after : Option ℕ) (n : ℕ) : Type 0 where
  pub row : ℕ
  pub before : List ℕ
  pub later : List ℕ
  pub named : after ≡ Some row
  pub parts : o.order ≡ before ++ row ∷ later
  pub many : length (before ++ row ∷ []) ≡ n
  pub place : later_place dir (values_in o.values o.order) ≡ n

pub behind-row : (o : Ordered) (dir : Names) (after : Option ℕ) (n : ℕ) → IsBehind o dir after n → BehindRow o dir after n
behind-row o dir None n b = absurd b
behind-row o dir (Some a) n b = record { row = a; before = b.0; later = b.1; named = refl; parts = b.2; many = b.3; place = b.4 }

pub behind-stands : (o : Ordered) (dir : Names) (after : Option RowId) (n : ℕ) (order : List ℕ) → IsBehind o dir (option_map (λ (row : RowId). row.0) after) n → order ≡ o.order → IfSome after (λ row. Contains order row.0)
behind-stands o dir None n order b e = tt
behind-stands o dir (Some row) n order b e = subst (λ (rows : List ℕ). Contains rows row.0) (sym (e ∙ b.2)) (mid-contains row.0 b.0 b.1)

-- ---- the rows of a section are put in behind the row a
abbrev with_built : Ordered → List BufferRow → Ordered
with_built o vs = record { order = o.order; built = length vs; values = o.values ++ vs; steps = o.steps }

module _ (switches : Switches) (o : Ordered) (kept : List Kept) (room more : ℕ) (h : IsBuffer o kept room) (below : AllBelow (length o.values) o.order) (once : Unique o.order)
    (dir : Names) (lines : List line_type) (fs : List ℕ) (a : ℕ) (gs : List ℕ) (parts : o.order ≡ fs ++ a ∷ gs)
    (place : later_place dir (values_in o.values o.order) ≡ length (fs ++ a ∷ [])) (head : RowId) (named : head.0 ≡ length o.values) (wide : suc (changes_in kept) + length o.order + suc (length lines) ≤ more) where
  abbrev vs : List BufferRow
  vs = shown_rows dir lines

  abbrev before : List ℕ
  before = fs ++ a ∷ []

  abbrev new_order : List ℕ
  new_order = before ++ (run (length o.values) (length vs) ++ gs)

  abbrev pub with_new : Ordered
  with_new = ordered new_order (o.values ++ vs) (Put (length o.values) (length vs) ∷ o.steps)

  pub put-new : put_in (Some a) (with_built o vs) ≡ with_new
  put-new =
      let first : length (o.values ++ vs) - length vs ≡ length o.values = omega (arith, length-append o.values vs) in
      let missed : Misses a fs = unique-missed fs a gs (subst (λ x. Unique x) parts once) in
      let order : behind_row a (run (length o.values) (length vs)) o.order ≡ new_order = ap (behind_row a (run (length o.values) (length vs))) parts ∙ behind-at a (run (length o.values) (length vs)) fs gs missed in
      ap (λ k. ordered (behind_row a (run k (length vs)) o.order) (o.values ++ vs) (Put k (length vs) ∷ o.steps)) first
      ∙ ap (λ x. ordered x (o.values ++ vs) (Put (length o.values) (length vs) ∷ o.steps)) order

  abbrev A : List BufferRow
  A = values_in o.values before

  abbrev C : List BufferRow
  C = values_in o.values gs

  split : o.order ≡ before ++ gs
  split = parts ∙ sym (append_assoc fs (a ∷ []) gs)

  b2 : AllBelow (length o.values) (before ++ gs)
  b2 = subst (λ x. AllBelow (length o.values) x) split below

  len-A : length A ≡ length before
  len-A = values-length o.values before (below-split (length o.values) before gs b2).0

  all-values : values_in o.values o.order ≡ A ++ C
  all-values = ap (values_in o.values) split ∙ values-split o.values before gs

  new-rows : values_in (o.values ++ vs) new_order ≡ A ++ (vs ++ C)
  new-rows =
      values-split (o.values ++ vs) before (run (length o.values) (length vs) ++ gs)
      ∙ (ap (λ front. front ++ values_in (o.values ++ vs) (run (length o.values) (length vs) ++ gs)) (values-grown o.values vs before (below-split (length o.values) before gs b2).0)
      ∙ ap (λ back. A ++ back) (values-split (o.values ++ vs) (run (length o.values) (length vs)) gs
      ∙ (ap (λ front. front ++ values_in (o.values ++ vs) gs) (values-run o.values vs (length o.values) refl) ∙ ap (λ back. vs ++ back) (values-grown o.values vs gs (below-split (length o.values) before gs b2).1))))

  many : length vs ≡ suc (length lines)
  many = ap suc (length-map lines Line)

  pub insert-seen : inserted dir lines (seen_as switches o kept) ≡ seen_as switches with_new (Insertion (length before) head ∷ kept)
  insert-seen =
      let V = values_in o.values o.order in
      let n = suc (length lines) in
      let es = events_of o.values o.steps kept in
      let put : with_rows (length before) vs (A ++ C) ≡ A ++ (vs ++ C) =
      ap (λ front. front ++ (vs ++ drop (length before) (A ++ C))) (take_at A C (length before) len-A) ∙ ap (λ back. A ++ (vs ++ back)) (drop_at A C (length before) len-A) in
      let old : inserted dir lines (seen_as switches o kept) ≡ state switches (A ++ (vs ++ C)) (Inserted (length before) n dir ∷ es) =
      ap (λ v. state switches (with_rows (later_place dir v) vs v) (Inserted (later_place dir v) n dir ∷ es)) (sections-rows V h.root)
      ∙ (ap (λ k. state switches (with_rows k vs V) (Inserted k n dir ∷ es)) place
      ∙ (ap (λ v. state switches (with_rows (length before) vs v) (Inserted (length before) n dir ∷ es)) all-values
      ∙ ap (λ v. state switches v (Inserted (length before) n dir ∷ es)) put)) in
      let of_dir : dir_in (value_at (o.values ++ vs) (length o.values)) ≡ dir = ap dir_in (first-new o.values (map Line lines) (Head dir false)) in
      let new : seen_as switches with_new (Insertion (length before) head ∷ kept) ≡ state switches (A ++ (vs ++ C)) (Inserted (length before) n dir ∷ es) =
      ap (λ v. state switches v (Inserted (length before) (length vs) (dir_in (value_at (o.values ++ vs) (length o.values))) ∷ events_of (o.values ++ vs) o.steps kept)) new-rows
      ∙ (ap (λ k. state switches (A ++ (vs ++ C)) (Inserted (length before) k (dir_in (value_at (o.values ++ vs) (length o.values))) ∷ events_of (o.values ++ vs) o.steps kept)) many
      ∙ (ap (λ d. state switches (A ++ (vs ++ C)) (Inserted (length before) n d ∷ events_of (o.values ++ vs) o.steps kept)) of_dir
      ∙ ap (λ e. state switches (A ++ (vs ++ C)) (Inserted (length before) n dir ∷ e)) (events-grown o.values vs o.steps kept h.below))) in
      old ∙ sym new

  pub insert-held : IsBuffer with_new (Insertion (length before) head ∷ kept) more
  insert-held =
      let l : length new_order ≡ length o.order + length vs =
      let e : length o.order ≡ length (before ++ gs) = ap length split in
      omega (arith, length-append before (run (length o.values) (length vs) ++ gs), length-append (run (length o.values) (length vs)) gs, length-append before gs, run-length (length o.values) (length vs)) in
      let some : 0 < length before = omega (arith, length-append fs (a ∷ [])) in
      let longer : length o.values ≤ length (o.values ++ vs) = omega (arith, length-append o.values vs) in
      let first : length o.values < length (o.values ++ vs) = omega (arith, length-append o.values vs, many) in
      let fits : changes_in (Insertion (length before) head ∷ kept) + length new_order ≤ more = omega (arith, l, many) in
      record {
        built = refl;
        root = subst (λ v. IsRootFirst v) (sym new-rows) (root-stays A C (vs ++ C) (omega (arith, len-A)) (subst (λ v. IsRootFirst v) all-values h.root));
        changes = (before, length vs, gs, o.steps, ap (λ n. before ++ (run n (length vs) ++ gs)) (sym named), ap (λ n. Put n (length vs) ∷ o.steps) (sym named), refl, some, subst (λ x. AreChanges x o.steps kept) split h.changes);
        below = (first, below-grown (length o.values) (length (o.values ++ vs)) o.steps longer h.below);
        fits = fits;
      }

-- ---- and so they are put by a call
module _ (switches : Switches) (o : Ordered) (kept : List Kept) (room more : ℕ) (h : IsBuffer o kept room) (below : AllBelow (length o.values) o.order) (once : Unique o.order) (dir : Names)
    (lines : List line_type) (after : Option ℕ) (n : ℕ) (behind : IsBehind o dir after n) (head : RowId) (named : head.0 ≡ length o.values) (made new : Ordered)
    (is_made : made ≡ with_made (shown_rows dir lines) o) (put : new ≡ put_in after made) (wide : suc (changes_in kept) + length o.order + suc (length lines) ≤ more) where
  abbrev k : BehindRow o dir after n
  k = behind-row o dir after n behind

  place-is : later_place dir (values_in o.values o.order) ≡ length (k.before ++ k.row ∷ [])
  place-is = k.place ∙ sym k.many

  abbrev result : Ordered
  result = with_new switches o kept room more h below once dir lines k.before k.row k.later k.parts place-is head named wide

  is-result : new ≡ result
  is-result =
      let vs = shown_rows dir lines in
      let none : length vs + o.built ≡ length vs = omega (arith, h.built) in
      let whole : made ≡ with_built o vs = is_made ∙ ap (λ (b : ℕ). record { order = o.order; built = b; values = o.values ++ vs; steps = o.steps }) none in
      put
      ∙ (ap (λ (a : Option ℕ). put_in a made) k.named
      ∙ (ap (λ (t : Ordered). put_in (Some k.row) t) whole
      ∙ put-new switches o kept room more h below once dir lines k.before k.row k.later k.parts place-is head named wide))

  pub put-seen : inserted dir lines (seen_as switches o kept) ≡ seen_as switches new (Insertion n head ∷ kept)
  put-seen =
      insert-seen switches o kept room more h below once dir lines k.before k.row k.later k.parts place-is head named wide
      ∙ (ap (λ (m : ℕ). seen_as switches result (Insertion m head ∷ kept)) k.many ∙ ap (λ (t : Ordered). seen_as switches t (Insertion n head ∷ kept)) (sym is-result))

  pub put-held : IsBuffer new (Insertion n head ∷ kept) more
  put-held =
      let held = insert-held switches o kept room more h below once dir lines k.before k.row k.later k.parts place-is head named wide in
      subst (λ (t : Ordered). IsBuffer t (Insertion n head ∷ kept) more) (sym is-result) (subst (λ (m : ℕ). IsBuffer result (Insertion m head ∷ kept) more) k.many held)

-- ---- the section that was put in last is taken out again
abbrev with_it : List ℕ → List BufferRow → ℕ → List Step → Ordered
with_it order values built steps = record { order = order; built = built; values = values; steps = steps }

module _ (switches : Switches) (o : Ordered) (place : ℕ) (head : RowId) (kept : List Kept) (room : ℕ) (h : IsBuffer o (Insertion place head ∷ kept) room) (below : AllBelow (length o.values) o.order) (once : Unique o.order) where
  abbrev fs : List ℕ
  fs = h.changes.0

  abbrev first : ℕ
  first = head.0

  abbrev count : ℕ
  count = h.changes.1

  abbrev gs : List ℕ
  gs = h.changes.2

  abbrev older : List Step
  older = h.changes.3

  abbrev parts : o.order ≡ fs ++ (run first count ++ gs)
  parts = h.changes.4

  abbrev pub without_it : Ordered
  without_it = ordered (fs ++ gs) o.values older

  pub cut-undone : undone o ≡ without_it
  cut-undone =
      ap (λ s. undone (with_it o.order o.values o.built s)) h.changes.5
      ∙ (ap (λ x. with_it (without_run first count x) o.values o.built older) parts
      ∙ (ap (λ x. with_it x o.values o.built older) (without-run first count fs gs (subst (λ x. Unique x) parts once))
      ∙ ap (λ b. with_it (fs ++ gs) o.values b older) h.built))

  abbrev F : List BufferRow
  F = values_in o.values fs

  abbrev I : List BufferRow
  I = values_in o.values (run first count)

  abbrev G : List BufferRow
  G = values_in o.values gs

  all-rows : values_in o.values o.order ≡ F ++ (I ++ G)
  all-rows = ap (values_in o.values) parts ∙ (values-split o.values fs (run first count ++ gs) ∙ ap (λ x. F ++ x) (values-split o.values (run first count) gs))

  low : AllBelow (length o.values) (fs ++ (run first count ++ gs))
  low = subst (λ x. AllBelow (length o.values) x) parts below

  len-F : length F ≡ place
  len-F = values-length o.values fs (below-split (length o.values) fs (run first count ++ gs) low).0 ∙ h.changes.6

  len-I : length I ≡ count
  len-I =
      values-length o.values (run first count) (below-split (length o.values) (run first count) gs (below-split (length o.values) fs (run first count ++ gs) low).1).0
      ∙ run-length first count

  cut : without_rows place count (F ++ (I ++ G)) ≡ F ++ G
  cut =
      let both : length (F ++ I) ≡ place + count = omega (arith, length-append F I, len-F, len-I) in
      ap (λ front. front ++ drop (place + count) (F ++ (I ++ G))) (take_at F (I ++ G) place len-F)
      ∙ ap (λ back. F ++ back) (ap (drop (place + count)) (sym (append_assoc F I G)) ∙ drop_at (F ++ I) G (place + count) both)

  pub first-below : head.0 < length o.values
  first-below = (subst (λ s. AreOfRows (length o.values) s) h.changes.5 h.below).0

  seen-by : (dir : Names) (same : Bool) → same_names (dir_in (value_at o.values first)) dir ≡ same → uninserted dir (seen_as switches o (Insertion place head ∷ kept)) ≡ (if same then Some (state switches (without_rows place count (rows_of (sections_of (values_in o.values o.order)))) (events_of o.values older kept)) else None)
  seen-by dir same named =
      let es = events_of o.values older kept in
      let V = values_in o.values o.order in
      let events : events_of o.values o.steps (Insertion place head ∷ kept) ≡ Inserted place count (dir_in (value_at o.values first)) ∷ es = ap (λ s. events_of o.values s (Insertion place head ∷ kept)) h.changes.5 in
      let wanted = Some (state switches (without_rows place count (rows_of (sections_of V))) es) in
      ap (λ e. uninserted dir (state switches V e)) events ∙ ap (λ (b : Bool). if b then wanted else None) named

  pub cut-refused : (dir : Names) → same_names (dir_in (value_at o.values first)) dir ≡ false → uninserted dir (seen_as switches o (Insertion place head ∷ kept)) ≡ None
  cut-refused dir other = seen-by dir false other

  pub cut-seen : (dir : Names) → same_names (dir_in (value_at o.values first)) dir ≡ true → uninserted dir (seen_as switches o (Insertion place head ∷ kept)) ≡ Some (seen_as switches without_it kept)
  cut-seen dir same =
      let es = events_of o.values older kept in
      seen-by dir true same
      ∙ (ap (λ v. Some (state switches (without_rows place count v) es)) (sections-rows (values_in o.values o.order) h.root ∙ all-rows)
      ∙ ap (λ v. Some (state switches v es)) (cut ∙ sym (values-split o.values fs gs)))

  pub cut-held : IsBuffer without_it kept room
  cut-held =
      let whole : length o.order ≡ length (fs ++ (run first count ++ gs)) = ap length parts in
      let fewer : length (fs ++ gs) ≤ length o.order = omega (arith, length-append fs (run first count ++ gs), length-append (run first count) gs, length-append fs gs) in
      let some : 0 < length F = omega (arith, len-F, h.changes.7) in
      let root : IsRootFirst (F ++ (I ++ G)) = subst (λ v. IsRootFirst v) all-rows h.root in
      record {
        built = refl;
        root = subst (λ v. IsRootFirst v) (sym (values-split o.values fs gs)) (root-stays F (I ++ G) G some root);
        changes = h.changes.8;
        below = (subst (λ s. AreOfRows (length o.values) s) h.changes.5 h.below).1;
        fits = omega (arith, h.fits);
      }

-- ---- rows that are made

pub made-none : (o : Ordered) → o ≡ with_made [] o
made-none o =
    let n : o.built ≡ 0 + o.built = omega arith in
    ap (λ k. record { order = o.order; built = k; values = o.values; steps = o.steps }) n
    ∙ ap (λ vs. record { order = o.order; built = 0 + o.built; values = vs; steps = o.steps }) (sym (append-nil o.values))

pub made-more : (vs : List BufferRow) (v : BufferRow) (o : Ordered) → pushed_row v (with_made vs o) ≡ with_made (vs ++ v ∷ []) o
made-more vs v o =
    let n : suc (length vs + o.built) ≡ length (vs ++ v ∷ []) + o.built = omega (arith, length-append vs (v ∷ [])) in
    ap (λ k. record { order = o.order; built = k; values = (o.values ++ vs) ++ v ∷ []; steps = o.steps }) n
    ∙ ap (λ ws. record { order = o.order; built = length (vs ++ v ∷ []) + o.built; values = ws; steps = o.steps }) (append_assoc o.values vs (v ∷ []))

pub made-one : (v : BufferRow) (o : Ordered) → pushed_row v o ≡ with_made (v ∷ []) o
made-one v o =
    let n : suc o.built ≡ length (v ∷ []) + o.built = omega arith in
    ap (λ k. record { order = o.order; built = k; values = o.values ++ v ∷ []; steps = o.steps }) n

pub made-line : (dir : Names) (hidden : Bool) (lines : List line_type) (line : line_type) (o : Ordered) → pushed_row (Line line) (with_made (rows_of_section dir hidden lines) o) ≡ with_made (rows_of_section dir hidden (lines ++ line ∷ [])) o
made-line dir hidden lines line o =
    made-more (rows_of_section dir hidden lines) (Line line) o ∙ ap (λ vs. with_made (Head dir hidden ∷ vs) o) (sym (map-append Line lines (line ∷ [])))

-- ---- how many changes there are

changes-join : (xs ys : List Kept) → changes_in (xs ++ ys) ≡ changes_in xs + changes_in ys
changes-join [] ys = omega arith
changes-join (Kill n ∷ xs) ys = let k = changes-join xs ys in omega arith
changes-join (Insertion at head ∷ xs) ys = let k = changes-join xs ys in omega arith

pub changes-back : (xs : List Kept) → changes_in (reverse xs) ≡ changes_in xs
changes-back [] = refl
changes-back (x ∷ xs) =
    let a : changes_in (reverse (x ∷ xs)) ≡ changes_in (reverse xs ++ x ∷ []) = ap changes_in (reverse-append (x ∷ []) xs) in
    let b = changes-join (reverse xs) (x ∷ []) in
    let d = changes-join (x ∷ []) xs in
    let k = changes-back xs in
    omega arith

pub few-changes : (o : Ordered) (items : List Kept) (room : ℕ) → IsBuffer o (reverse items) room → changes_in items + length o.order ≤ room
few-changes o items room h = omega (arith, h.fits, changes-back items)

pub few-kept : (o : Ordered) (items : List Kept) (room : ℕ) → IsBuffer o (reverse items) room → length items ≤ changes_in items
few-kept o items room h = omega (arith, changes-many o.order o.steps (reverse items) h.changes, changes-back items, length-reverse items)

-- ---- the change that is kept last

no-kept : (k : Kept) → None ≡ Some k → ⊥
no-kept k e = cc

some-kept : (x k : Kept) → Some x ≡ Some k → x ≡ k
some-kept x k e = cc

last-kept : (items : List Kept) (k : Kept) → slice_get items (length items - 1) ≡ Some k → (front : List Kept) × (items ≡ front ++ k ∷ [])
last-kept [] k e = absurd (no-kept k e)
last-kept (x ∷ []) k e = ([], ap (λ y. y ∷ []) (some-kept x k e))
last-kept (x ∷ y ∷ ys) k e =
    let n : length (x ∷ y ∷ ys) - 1 ≡ suc (length (y ∷ ys) - 1) = omega arith in
    let deep = last-kept (y ∷ ys) k (ap (λ m. slice_get (x ∷ y ∷ ys) m) (sym n) ∙ e) in
    (x ∷ deep.0, ap (λ zs. x ∷ zs) deep.1)

pub last-reversed : (items : List Kept) (k : Kept) → slice_get items (length items - 1) ≡ Some k → (front : List Kept) × (items ≡ front ++ k ∷ []) × (reverse items ≡ k ∷ reverse front)
last-reversed items k e = let s = last-kept items k e in (s.0, s.1, ap reverse s.1 ∙ reverse-append s.0 (k ∷ []))
