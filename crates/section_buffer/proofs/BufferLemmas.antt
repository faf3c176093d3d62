-- What calls leave of a buffer.
use Rattle.std.proofs.Common.{◌≡◌, ◌≢◌, ℕ, ◌+◌, ◌-◌, ◌<◌, ◌≤◌, zero, suc, List, [], ◌∷◌, ◌++◌, length, map, drop, reverse, refl, ap, sym, subst, ◌∙◌, arith, length-append, append-nil, Some, None, Option, Bool, true, false, Contains, inl, inr, if◌then◌else◌}
use Rattle.std.specs.Option.{option_map}
use Rattle.std.proofs.lemmas.Bool.Decides.{eqb_tells}
use Rattle.std.proofs.lemmas.List.{reverse-append}
use Rattle.link_rows.specs.Net.{AllBelow}
use Rattle.link_rows.specs.Values.{value_at}
use Rattle.link_rows.proofs.NetLemmas.{Misses, Unique, unique-missed}
use Rattle.dired_text.specs.Paths.{Names}
use Rattle.listing_text.specs.declared.line.Line.{Line as line_type}
use Rattle.listing_text.specs.declared.switches.Switches.{Switches}
use Rattle.section_rows.specs.declared.row.BufferRow.{BufferRow}
use Rattle.section_rows.specs.declared.row.BufferRow.TheVariants.{Head, Line}
use Rattle.section_rows.specs.Orders.{AreOut, Ordered, Step, Taken, Put, forgotten, no_rows, put_in, run, taken, values_in, with_hidden, with_value}
use Rattle.section_rows.proofs.OrderLemmas.{below-mid, below-split, unique-back}
use Rattle.section_rows.proofs.ListLemmas.{mid-contains}
use Rattle.section_buffer.specs.declared.kept.Kept.{Kept}
use Rattle.section_buffer.specs.declared.kept.Kept.TheVariants.{Kill, Insertion}
use Rattle.section_buffer.specs.declared.section.Section.{Section}
use Rattle.section_buffer.specs.Rows.{lines_of, sections_of}
use Rattle.section_buffer.specs.Places.{head_place, line_place, same_names}
use Rattle.section_buffer.specs.Buffers.{BufferState, Event, Inserted, Killed, killed, line_killed, of_root, of_sections, rows_of_section, turned, turned_in}
use Rattle.section_buffer.specs.Held.{AreChanges, AreOfRows, IsBuffer, IsRootFirst, changes_in, count_put, dir_in, dir_put, events_of, place_in, seen_as, steps_taken, taken_values, with_made}
use Rattle.section_buffer.proofs.RowLemmas.{rows-sections, sections-rows, values-run, values-split, values-length}
use Rattle.section_buffer.proofs.KillLemmas.{kill-held, kill-seen, ordered, state, taken-one}

pub kept-first : (items later : List Kept) (change : Kept) → later ≡ items ++ change ∷ [] → reverse later ≡ change ∷ reverse items
kept-first items later change e = ap reverse e ∙ reverse-append items (change ∷ [])

-- more room
pub held-wider : (o : Ordered) (kept : List Kept) (room more : ℕ) → IsBuffer o kept room → room ≤ more → IsBuffer o kept more
held-wider o kept room more h wide = record { built = h.built; root = h.root; changes = h.changes; below = h.below; fits = omega (arith, h.fits) }

-- there is room for another change, as long as rows stand
pub changes-many : (order : List ℕ) (steps : List Step) (kept : List Kept) → AreChanges order steps kept → length kept ≤ changes_in kept
changes-many order steps [] k = omega arith
changes-many order steps (Kill n ∷ kept) k = let rest = changes-many (k.0 ++ (k.1 ++ k.2)) k.3 kept k.9 in omega (arith, k.7)
changes-many order steps (Insertion at head ∷ kept) k = let rest = changes-many (k.0 ++ k.2) k.3 kept k.8 in omega arith

pub room-left : (o : Ordered) (kept : List Kept) (room : ℕ) → IsBuffer o kept room → 0 < length o.order → length kept < room
room-left o kept room h some = let many = changes-many o.order o.steps kept h.changes in omega (arith, h.fits)

pub some-rows : (o : Ordered) (fs : List ℕ) (r : ℕ) (gs : List ℕ) → o.order ≡ fs ++ r ∷ gs → 0 < length o.order
some-rows o fs r gs parts = let e : length o.order ≡ length (fs ++ r ∷ gs) = ap length parts in omega (arith, length-append fs (r ∷ gs))

-- a new buffer
new-values : (vs : List BufferRow) → values_in vs (run 0 (length vs) ++ []) ≡ vs
new-values vs = ap (values_in vs) (append-nil (run 0 (length vs))) ∙ values-run [] vs 0 refl

some-first : (vs : List BufferRow) → IsRootFirst vs → 0 < length vs
some-first [] h = absurd h
some-first (v ∷ vs) h = omega arith

-- rows that were made, and no others
pub made-whole : (rows t : Ordered) (vs : List BufferRow) → t ≡ no_rows → rows ≡ with_made vs t → (rows ≡ with_made rows.values no_rows) × (rows.values ≡ vs)
made-whole rows t vs e made =
    let whole : rows ≡ with_made vs no_rows = made ∙ ap (with_made vs) e in
    let values : rows.values ≡ vs = ap (λ (x : Ordered). x.values) whole in
    (whole ∙ ap (λ (us : List BufferRow). with_made us no_rows) (sym values), values)

pub some-made : (t : Ordered) → t ≡ with_made t.values no_rows → IsRootFirst t.values → 0 < t.built
some-made t made root =
    let many : t.built ≡ length t.values + 0 = ap (λ (x : Ordered). x.built) made in
    omega (arith, some-first t.values root)

-- they are put in at once
module _ (switches : Switches) (t o : Ordered) (made : t ≡ with_made t.values no_rows) (root : IsRootFirst t.values) (is : o ≡ forgotten (put_in None t)) where
  order-is : o.order ≡ run 0 (length t.values) ++ []
  order-is =
      let many : t.built ≡ length t.values + 0 = ap (λ (x : Ordered). x.built) made in
      let same : t.built ≡ length t.values = omega arith in
      let first : length t.values - t.built ≡ 0 = omega arith in
      let none : t.order ≡ [] = ap (λ (x : Ordered). x.order) made in
      ap (λ (x : Ordered). x.order) is
      ∙ (ap (λ (n : ℕ). run n t.built ++ t.order) first
      ∙ (ap (λ (n : ℕ). run 0 n ++ t.order) same ∙ ap (λ (rest : List ℕ). run 0 (length t.values) ++ rest) none))

  rows-are : values_in o.values o.order ≡ t.values
  rows-are =
      let values : o.values ≡ t.values = ap (λ (x : Ordered). x.values) is in
      ap (λ (vs : List BufferRow). values_in vs o.order) values ∙ (ap (values_in t.values) order-is ∙ new-values t.values)

  pub made-seen : seen_as switches o [] ≡ of_sections switches (sections_of t.values)
  made-seen = ap (λ (rows : List BufferRow). state switches rows []) rows-are

  pub made-held : (room : ℕ) → length o.order ≤ room → IsBuffer o [] room
  made-held room wide = record {
    built = ap (λ (x : Ordered). x.built) is;
    root = subst (λ (rows : List BufferRow). IsRootFirst rows) (sym rows-are) root;
    changes = tt;
    below = subst (λ (s : List Step). AreOfRows (length o.values) s) (sym (ap (λ (x : Ordered). x.steps) is)) tt;
    fits = omega arith;
  }

root_section : List line_type → Section
root_section lines = record { dir = []; hidden = false; lines = lines }

-- and are those of the root alone
pub root-sections : (switches : Switches) (lines : List line_type) → of_sections switches (sections_of (rows_of_section [] false lines)) ≡ of_root switches lines
unfolding root_section
root-sections switches lines =
    ap (λ (rows : List BufferRow). of_sections switches (sections_of (Head [] false ∷ rows))) (sym (append-nil (map Line lines)))
    ∙ ap (λ (sections : List Section). of_sections switches sections) (rows-sections (root_section lines ∷ []))

abbrev pub with_sections : Switches → List Section → List Event → BufferState
with_sections switches sections events = record { switches = switches; sections = sections; events = events }

abbrev record_of : Names → Bool → List line_type → Section
record_of dir hidden lines = record { dir = dir; hidden = hidden; lines = lines }

-- ---- options

pub none-some : {A : Type 0} (x : A) → None ≡ Some x → ⊥
none-some x e = cc

pub some-inj : (m n : ℕ) → Some m ≡ Some n → m ≡ n
some-inj m n e = cc

zero-not : (n : ℕ) → 0 ≡ suc n → ⊥
zero-not n e = omega arith

zero-later : (left : Option ℕ) → option_map suc left ≡ Some 0 → ⊥
zero-later None e = none-some 0 e
zero-later (Some m) e = zero-not m (sym (some-inj (suc m) 0 e))

one-value : (values : List BufferRow) (r : ℕ) → r < length values → (v : BufferRow) × (value_at values r ≡ v ∷ [])
one-value [] r h = absurd (omega arith)
one-value (v ∷ values) zero h = (v, refl)
one-value (v ∷ values) (suc r) h = one-value values r (omega arith)

-- ---- lines

pub some-later : (left : Option ℕ) (n : ℕ) → option_map suc left ≡ Some n → 0 < n
some-later None n e = absurd (none-some n e)
some-later (Some m) n e = let same : suc m ≡ n = some-inj (suc m) n e in omega arith

pub line-behind : (path : Names) (rows : List BufferRow) (n : ℕ) → IsRootFirst rows → line_place path [] true rows ≡ Some n → 0 < n
line-behind path [] n h e = absurd h
line-behind path (Line line ∷ rows) n h e = absurd h
line-behind path (Head dir hidden ∷ rows) n h e = some-later (line_place path dir hidden rows) n e

module _ (switches : Switches) (o : Ordered) (kept : List Kept) (room : ℕ) (h : IsBuffer o kept room) (path : Names) where
  abbrev V : List BufferRow
  V = values_in o.values o.order

  abbrev place : Option ℕ
  place = line_place path [] true V

  seen-place : (wanted : Option ℕ) → place ≡ wanted → line_killed path (seen_as switches o kept) ≡ option_map (λ at. killed at 1 (seen_as switches o kept)) wanted
  seen-place wanted e =
      ap (λ rows. option_map (λ at. killed at 1 (seen_as switches o kept)) (line_place path [] true rows)) (sections-rows V h.root)
      ∙ ap (option_map (λ at. killed at 1 (seen_as switches o kept))) e

  pub line-none : place ≡ None → line_killed path (seen_as switches o kept) ≡ None
  line-none e = seen-place None e

  pub line-some : (fs : List ℕ) (r : ℕ) (gs : List ℕ) → o.order ≡ fs ++ r ∷ gs → place ≡ Some (length fs) → AllBelow (length o.values) o.order → Unique o.order → line_killed path (seen_as switches o kept) ≡ Some (seen_as switches (taken r o) (Kill 1 ∷ kept))
  line-some fs r gs parts e below once =
      let behind : 0 < length fs = line-behind path V (length fs) h.root e in
      let some : 0 < length (r ∷ []) = omega arith in
      let wide : room ≤ room = omega arith in
      let seen : killed (length fs) 1 (seen_as switches o kept) ≡ seen_as switches (ordered (fs ++ gs) o.values (steps_taken (length fs) (r ∷ []) o.steps)) (Kill 1 ∷ kept) = kill-seen switches o kept room room h below fs (r ∷ []) gs parts behind some wide in
      let one : taken r o ≡ ordered (fs ++ gs) o.values (steps_taken (length fs) (r ∷ []) o.steps) = taken-one o fs r gs h.built parts once in
      seen-place (Some (length fs)) e ∙ ap (λ b. Some b) (seen ∙ ap (λ x. seen_as switches x (Kill 1 ∷ kept)) (sym one))

  pub line-held : (fs : List ℕ) (r : ℕ) (gs : List ℕ) (more : ℕ) → o.order ≡ fs ++ r ∷ gs → place ≡ Some (length fs) → AllBelow (length o.values) o.order → Unique o.order → room ≤ more → IsBuffer (taken r o) (Kill 1 ∷ kept) more
  line-held fs r gs more parts e below once wide =
      let behind : 0 < length fs = line-behind path V (length fs) h.root e in
      let some : 0 < length (r ∷ []) = omega arith in
      let one : taken r o ≡ ordered (fs ++ gs) o.values (steps_taken (length fs) (r ∷ []) o.steps) = taken-one o fs r gs h.built parts once in
      subst (λ x. IsBuffer x (Kill 1 ∷ kept) more) (sym one) (kill-held switches o kept room more h below fs (r ∷ []) gs parts behind some wide)

-- ---- hiding

value-missed : (f : BufferRow → BufferRow) (r x : ℕ) (values : List BufferRow) → x ≢ r → value_at (with_value f r values) x ≡ value_at values x
value-missed f r x [] n = refl
value-missed f zero zero (v ∷ values) n = absurd (n refl)
value-missed f zero (suc x) (v ∷ values) n = refl
value-missed f (suc r) zero (v ∷ values) n = refl
value-missed f (suc r) (suc x) (v ∷ values) n = value-missed f r x values (λ e. n (ap suc e))

values-missed : (f : BufferRow → BufferRow) (r : ℕ) (values : List BufferRow) (xs : List ℕ) → Misses r xs → values_in (with_value f r values) xs ≡ values_in values xs
values-missed f r values [] m = refl
values-missed f r values (x ∷ xs) m =
    ap (λ front. front ++ values_in (with_value f r values) xs) (value-missed f r x values m.0) ∙ ap (λ back. value_at values x ++ back) (values-missed f r values xs m.1)

with-value-length : (f : BufferRow → BufferRow) (r : ℕ) (values : List BufferRow) → length (with_value f r values) ≡ length values
with-value-length f r [] = refl
with-value-length f zero (v ∷ values) = refl
with-value-length f (suc r) (v ∷ values) = ap suc (with-value-length f r values)

value-here : (f : BufferRow → BufferRow) (r : ℕ) (values : List BufferRow) → value_at (with_value f r values) r ≡ map f (value_at values r)
value-here f r [] = refl
value-here f zero (v ∷ values) = refl
value-here f (suc r) (v ∷ values) = value-here f r values

taken-missed : (f : BufferRow → BufferRow) (r : ℕ) (values : List BufferRow) (order : List ℕ) (n : ℕ) (steps : List Step) → Contains order r → AreOut order steps → taken_values (with_value f r values) n steps ≡ taken_values values n steps
taken-missed f r values order zero steps c out = refl
taken-missed f r values order (suc n) [] c out = refl
taken-missed f r values order (suc n) (Taken at x ∷ steps) c out =
    ap (λ front. front ++ value_at (with_value f r values) x) (taken-missed f r values order n steps c out.1)
    ∙ ap (λ back. taken_values values n steps ++ back) (value-missed f r x values (λ (e : x ≡ r). out.0 (subst (λ y. Contains order y) (sym e) c)))
taken-missed f r values order (suc n) (Put first count ∷ steps) c out = taken-missed f r values order n steps c out

drop-out : (order : List ℕ) (n : ℕ) (steps : List Step) → AreOut order steps → AreOut order (drop n steps)
drop-out order zero steps out = out
drop-out order (suc n) [] out = tt
drop-out order (suc n) (Taken at x ∷ steps) out = drop-out order n steps out.1
drop-out order (suc n) (Put first count ∷ steps) out = drop-out order n steps out

dir-stays : (hidden : Bool) (vs : List BufferRow) → dir_in (map (with_hidden hidden) vs) ≡ dir_in vs
dir-stays hidden [] = refl
dir-stays hidden (Head dir old ∷ vs) = refl
dir-stays hidden (Line line ∷ vs) = refl

put-stays : (hidden : Bool) (r x : ℕ) (values : List BufferRow) → dir_in (value_at (with_value (with_hidden hidden) r values) x) ≡ dir_in (value_at values x)
put-stays hidden r x values = elim (eqb_tells x r) [
  | inl same ↦ ap (λ y. dir_in (value_at (with_value (with_hidden hidden) r values) y)) same.1 ∙ (ap dir_in (value-here (with_hidden hidden) r values) ∙ (dir-stays hidden (value_at values r) ∙ ap (λ y. dir_in (value_at values y)) (sym same.1)))
  | inr other ↦ ap dir_in (value-missed (with_hidden hidden) r x values other.1)
]

dir-put-stays : (hidden : Bool) (r : ℕ) (values : List BufferRow) (steps : List Step) → dir_put (with_value (with_hidden hidden) r values) steps ≡ dir_put values steps
dir-put-stays hidden r values [] = refl
dir-put-stays hidden r values (Taken at x ∷ steps) = refl
dir-put-stays hidden r values (Put first count ∷ steps) = put-stays hidden r first values

events-stay : (hidden : Bool) (r : ℕ) (values : List BufferRow) (order : List ℕ) (steps : List Step) (kept : List Kept) → Contains order r → AreOut order steps → events_of (with_value (with_hidden hidden) r values) steps kept ≡ events_of values steps kept
events-stay hidden r values order steps [] c out = refl
events-stay hidden r values order steps (Kill n ∷ kept) c out =
    ap (λ vs. Killed (place_in steps) vs ∷ events_of (with_value (with_hidden hidden) r values) (drop n steps) kept) (taken-missed (with_hidden hidden) r values order n steps c out)
    ∙ ap (λ es. Killed (place_in steps) (taken_values values n steps) ∷ es) (events-stay hidden r values order (drop n steps) kept c (drop-out order n steps out))
events-stay hidden r values order steps (Insertion at head ∷ kept) c out =
    ap (λ dir. Inserted at (count_put steps) dir ∷ events_of (with_value (with_hidden hidden) r values) (drop 1 steps) kept) (dir-put-stays hidden r values steps)
    ∙ ap (λ es. Inserted at (count_put steps) (dir_put values steps) ∷ es) (events-stay hidden r values order (drop 1 steps) kept c (drop-out order 1 steps out))

lines-stay : (front : List BufferRow) (dir : Names) (old hidden : Bool) (rows : List BufferRow) → lines_of (front ++ Head dir old ∷ rows) ≡ lines_of (front ++ Head dir hidden ∷ rows)
lines-stay [] dir old hidden rows = refl
lines-stay (Head d h ∷ front) dir old hidden rows = refl
lines-stay (Line line ∷ front) dir old hidden rows = ap (λ ls. line ∷ ls) (lines-stay front dir old hidden rows)

some-suc : (left : Option ℕ) (n : ℕ) → option_map suc left ≡ Some (suc n) → left ≡ Some n
some-suc None n e = absurd (none-some (suc n) e)
some-suc (Some m) n e = let same : suc m ≡ suc n = some-inj (suc m) (suc n) e in let f : m ≡ n = omega arith in ap (λ x. Some x) f

none-suc : (left : Option ℕ) → option_map suc left ≡ None → left ≡ None
none-suc None e = refl
none-suc (Some m) e = absurd (none-some (suc m) (sym e))

-- the section of a head that was found
turn-here : (dir of : Names) (old hidden : Bool) (rows : List BufferRow) (same : Bool) → same_names of dir ≡ same → (if same then Some 0 else option_map suc (head_place dir rows)) ≡ Some 0 → same ≡ true
turn-here dir of old hidden rows true e f = refl
turn-here dir of old hidden rows false e f = absurd (zero-later (head_place dir rows) f)

turn-other : (left : Option ℕ) (n : ℕ) (same : Bool) → (if same then Some 0 else option_map suc left) ≡ Some (suc n) → (same ≡ false) × (left ≡ Some n)
turn-other left n true e = absurd (zero-not n (some-inj 0 (suc n) e))
turn-other left n false e = (refl, some-suc left n e)

turn-none : (left : Option ℕ) (same : Bool) → (if same then Some 0 else option_map suc left) ≡ None → (same ≡ false) × (left ≡ None)
turn-none left true e = absurd (none-some 0 (sym e))
turn-none left false e = (refl, none-suc left e)

pub turned-at : (dir of : Names) (old hidden : Bool) (front rows : List BufferRow) → head_place dir (front ++ Head of old ∷ rows) ≡ Some (length front) → turned_in dir hidden (sections_of (front ++ Head of old ∷ rows)) ≡ Some (sections_of (front ++ Head of hidden ∷ rows))
turned-at dir of old hidden [] rows e =
    let same : same_names of dir ≡ true = turn-here dir of old hidden rows (same_names of dir) refl e in
    rw same refl
turned-at dir of old hidden (Line line ∷ front) rows e = turned-at dir of old hidden front rows (some-suc (head_place dir (front ++ Head of old ∷ rows)) (length front) e)
turned-at dir of old hidden (Head d h ∷ front) rows e =
    let other = turn-other (head_place dir (front ++ Head of old ∷ rows)) (length front) (same_names d dir) e in
    let later = turned-at dir of old hidden front rows other.1 in
    let section = λ (ls : List line_type). record_of d h ls in
    rw (other.0, later) (ap (λ ls. Some (section ls ∷ sections_of (front ++ Head of hidden ∷ rows))) (lines-stay front of old hidden rows))

pub turned-none : (dir : Names) (hidden : Bool) (rows : List BufferRow) → head_place dir rows ≡ None → turned_in dir hidden (sections_of rows) ≡ None
turned-none dir hidden [] e = refl
turned-none dir hidden (Line line ∷ rows) e = turned-none dir hidden rows (none-suc (head_place dir rows) e)
turned-none dir hidden (Head d h ∷ rows) e =
    let other = turn-none (head_place dir rows) (same_names d dir) e in
    let later = turned-none dir hidden rows other.1 in
    rw (other.0, later) refl

-- a found row is a head
found-head : (dir : Names) (front rows : List BufferRow) (v : BufferRow) → head_place dir (front ++ v ∷ rows) ≡ Some (length front) → (of : Names) × (old : Bool) × (v ≡ Head of old)
found-head dir [] rows (Head of old) e = (of, old, refl)
found-head dir [] rows (Line line) e = absurd (zero-later (head_place dir rows) e)
found-head dir (Line line ∷ front) rows v e = found-head dir front rows v (some-suc (head_place dir (front ++ v ∷ rows)) (length front) e)
found-head dir (Head d h ∷ front) rows v e = found-head dir front rows v (turn-other (head_place dir (front ++ v ∷ rows)) (length front) (same_names d dir) e).1

root-turned : (front rows : List BufferRow) (of : Names) (old hidden : Bool) → IsRootFirst (front ++ Head of old ∷ rows) → IsRootFirst (front ++ Head of hidden ∷ rows)
root-turned [] rows [] old hidden h = tt
root-turned [] rows (name ∷ of) old hidden h = absurd h
root-turned (Head [] h2 ∷ front) rows of old hidden h = tt
root-turned (Head (name ∷ d) h2 ∷ front) rows of old hidden h = absurd h
root-turned (Line line ∷ front) rows of old hidden h = absurd h

module _ (switches : Switches) (o : Ordered) (kept : List Kept) (room : ℕ) (h : IsBuffer o kept room) (dir : Names) (hidden : Bool) where
  abbrev W : List BufferRow
  W = values_in o.values o.order

  pub turn-refused : head_place dir W ≡ None → turned dir hidden (seen_as switches o kept) ≡ None
  turn-refused e = ap (option_map (λ sections. record { switches = switches; sections = sections; events = events_of o.values o.steps kept })) (turned-none dir hidden W e)

  module _ (fs : List ℕ) (r : ℕ) (gs : List ℕ) (parts : o.order ≡ fs ++ r ∷ gs) (e : head_place dir W ≡ Some (length fs)) (below : AllBelow (length o.values) o.order) (once : Unique o.order) (out : AreOut o.order o.steps) where
    abbrev pub turned_values : List BufferRow
    turned_values = with_value (with_hidden hidden) r o.values

    abbrev pub turned_rows : Ordered
    turned_rows = record { order = o.order; built = o.built; values = turned_values; steps = o.steps }

    abbrev F : List BufferRow
    F = values_in o.values fs

    abbrev G : List BufferRow
    G = values_in o.values gs

    below-parts : AllBelow (length o.values) (fs ++ r ∷ gs)
    below-parts = subst (λ x. AllBelow (length o.values) x) parts below

    first-row : (v : BufferRow) × (value_at o.values r ≡ v ∷ [])
    first-row = one-value o.values r (below-mid (length o.values) fs r gs below-parts)

    abbrev v : BufferRow
    v = first-row.0

    all-rows : W ≡ F ++ v ∷ G
    all-rows = ap (values_in o.values) parts ∙ (values-split o.values fs (r ∷ gs) ∙ ap (λ x. F ++ (x ++ G)) first-row.1)

    len : length F ≡ length fs
    len = values-length o.values fs (below-split (length o.values) fs (r ∷ gs) below-parts).0

    found : head_place dir (F ++ v ∷ G) ≡ Some (length F)
    found = ap (head_place dir) (sym all-rows) ∙ (e ∙ ap (λ n. Some n) (sym len))

    is_head : (of : Names) × (old : Bool) × (v ≡ Head of old)
    is_head = found-head dir F G v found

    abbrev of : Names
    of = is_head.0

    old_rows : W ≡ F ++ Head of is_head.1 ∷ G
    old_rows = all-rows ∙ ap (λ x. F ++ x ∷ G) is_head.2

    missed-front : Misses r fs
    missed-front = unique-missed fs r gs (subst (λ x. Unique x) parts once)

    missed-back : Misses r gs
    missed-back = (unique-back fs (r ∷ gs) (subst (λ x. Unique x) parts once)).0

    new_rows : values_in turned_values o.order ≡ F ++ Head of hidden ∷ G
    new_rows =
        let here : value_at turned_values r ≡ Head of hidden ∷ [] = value-here (with_hidden hidden) r o.values ∙ ap (map (with_hidden hidden)) (first-row.1 ∙ ap (λ x. x ∷ []) is_head.2) in
        ap (values_in turned_values) parts
        ∙ (values-split turned_values fs (r ∷ gs)
        ∙ (ap (λ x. x ++ (value_at turned_values r ++ values_in turned_values gs)) (values-missed (with_hidden hidden) r o.values fs missed-front)
        ∙ (ap (λ x. F ++ (x ++ values_in turned_values gs)) here
        ∙ ap (λ x. F ++ Head of hidden ∷ x) (values-missed (with_hidden hidden) r o.values gs missed-back))))

    has-row : Contains o.order r
    has-row = subst (λ x. Contains x r) (sym parts) (mid-contains r fs gs)

    pub turn-seen : turned dir hidden (seen_as switches o kept) ≡ Some (seen_as switches turned_rows kept)
    turn-seen =
        let es = events_of o.values o.steps kept in
        let sections : turned_in dir hidden (sections_of W) ≡ Some (sections_of (values_in turned_values o.order)) =
        ap (λ x. turned_in dir hidden (sections_of x)) old_rows
        ∙ (turned-at dir of is_head.1 hidden F G (ap (head_place dir) (sym old_rows) ∙ (e ∙ ap (λ n. Some n) (sym len)))
        ∙ ap (λ x. Some (sections_of x)) (sym new_rows)) in
        ap (option_map (λ (s : List Section). with_sections switches s es)) sections
        ∙ ap (λ x. Some (with_sections switches (sections_of (values_in turned_values o.order)) x)) (sym (events-stay hidden r o.values o.order o.steps kept has-row out))

    pub turn-held : IsBuffer turned_rows kept room
    turn-held = record {
      built = h.built;
      root = subst (λ x. IsRootFirst x) (sym new_rows) (root-turned F G of is_head.1 hidden (subst (λ x. IsRootFirst x) old_rows h.root));
      changes = h.changes;
      below = subst (λ n. AreOfRows n o.steps) (sym (with-value-length (with_hidden hidden) r o.values)) h.below;
      fits = h.fits;
    }
