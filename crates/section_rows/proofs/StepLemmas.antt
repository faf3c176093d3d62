-- What each call leaves: what is held, and what a clause sees.
use Rattle.std.proofs.Common.{◌≡◌, ℕ, ◌+◌, ◌-◌, ◌<◌, ◌≤◌, zero, suc, List, [], ◌∷◌, ◌++◌, length, refl, ap, sym, subst, ◌∙◌, arith, Contains, length-append, append_assoc, Option, Some, None, get_or, inl, inr, reverse, IfSome, append-nil, OnOk, is_err, Result, Ok, Err, false}
use Rattle.std.proofs.Math.ListN.{set}
use Rattle.std.proofs.lemmas.Bool.Decides.{eqb_tells}
use Rattle.std.specs.Option.{option_map, option_to_list}
use Rattle.std.proofs.lemmas.List.{length-set, length_push, reverse-append}
use Rattle.link_rows.specs.Net.{Net, AllBelow, IsList, AllRows, CanRelink, Cuts, Relinks, Splices, Unlinks, cut_out, last_of, next_of, nodes, prev_of, pushed, relinked, spliced, unlinked}
use Rattle.link_rows.specs.Tables.{Table}
use Rattle.link_rows.specs.Tables.{place_of as place_of_row}
use Rattle.link_rows.proofs.CutLemmas.{last-of-append}
use Rattle.link_rows.specs.Values.{HasValues, value_at, values_of}
use Rattle.link_rows.specs.declared.rows.RowId.{RowId}
use Rattle.link_rows.proofs.NetLemmas.{rows-split}
use Rattle.section_rows.specs.declared.row.BufferRow.{BufferRow}
use Rattle.section_rows.specs.declared.undo.Undo.{Undo}
use Rattle.section_rows.specs.declared.undo.Undo.TheVariants as kept
use Rattle.section_rows.specs.Orders.{Ordered, Step, Taken, Put, behind_row, given_up, last_taken, put_in, run, place_of, taken, undone, values_in, with_value, with_behind}
use Rattle.section_rows.specs.Kept.{AreLists, IsHeld, IsIn, IsKept, nodes_of, order_of, seen, steps_of}
use Rattle.section_rows.proofs.OrderLemmas.{behind-at, below-cut, below-join, below-less, below-mid, below-split, below-with, nodes-join, run-below, place-at, run-length, stands, with-at, without-at, without-run}
use Rattle.section_rows.proofs.KeptLemmas.{kept-frame, order-is, put-misses, steps-put, steps-taken}
use Rattle.section_rows.proofs.ListLemmas.{WasSpliced, can-relink, gap-taken, keeps-cut, keeps-given-up, keeps-put, keeps-put-back, keeps-taken, lists-cut, lists-given-up, lists-put, lists-put-back, lists-taken, order-unique}

pub held-order : (s : Net) (count built len room : ℕ) (us : List Undo) (h : IsHeld s count built len room us) → order_of s count ≡ h.order
held-order s count built len room us h = order-is s h.order count h.lists.order h.count

-- each row of the order has a value
pub row-below : (s : Net) (fs gs : List ℕ) (r : ℕ) → AllRows s (nodes_of (fs ++ r ∷ gs)) → 3 + r < nodes s
row-below s fs gs r rows =
    let k : AllRows s (nodes_of fs ++ (3 + r) ∷ nodes_of gs) = subst (λ xs. AllRows s xs) (nodes-join fs (r ∷ gs)) rows in
    (rows-split s (nodes_of fs) ((3 + r) ∷ nodes_of gs) k).1.0.1

-- what a clause sees, where the order and the steps are known
pub seen-as : (s : Net) (count built : ℕ) (values : List BufferRow) (us : List Undo) (order : List ℕ) (steps : List Step) → order_of s count ≡ order → steps_of s order us ≡ steps → seen s count built values us ≡ record { order = order; built = built; values = values; steps = steps }
seen-as s count built values us order steps e f =
    ap (λ o. record { order = o; built = built; values = values; steps = steps_of s o us }) e
    ∙ ap (λ z. record { order = order; built = built; values = values; steps = z }) f

-- what a clause sees, by equal values and steps
pub seen-same : (s : Net) (count built : ℕ) (values values2 : List BufferRow) (us us2 : List Undo) → values2 ≡ values → us2 ≡ us → seen s count built values2 us2 ≡ seen s count built values us
seen-same s count built values values2 us us2 e f = ap (λ v. seen s count built v us2) e ∙ ap (λ u. seen s count built values u) f

pub seen-has : (s : Net) (count built : ℕ) (values : List BufferRow) (us : List Undo) (v : Ordered) (r : ℕ) → seen s count built values us ≡ v → Contains v.order r → Contains (order_of s count) r
seen-has s count built values us v r e c = subst (λ w. Contains w.order r) (sym e) c

-- no call changes the number of nodes
pub nodes-unlinked : (s t : Net) (r : ℕ) → t ≡ unlinked r s → nodes t ≡ nodes s
nodes-unlinked s t r e = ap nodes e ∙ length-set s.next (prev_of s r) (next_of s r)

pub nodes-relinked : (s t : Net) (r : ℕ) → t ≡ relinked r s → nodes t ≡ nodes s
nodes-relinked s t r e = ap nodes e ∙ simp length-set refl

pub nodes-cut : (s t : Net) (f l o : ℕ) → t ≡ cut_out f l o s → nodes t ≡ nodes s
nodes-cut s t f l o e = ap nodes e ∙ simp length-set refl

pub nodes-spliced : (s t : Net) (a o : ℕ) → WasSpliced s a o t → nodes t ≡ nodes s
nodes-spliced s t a o e = elim (eqb_tells (next_of s o) o) [
  | inl none ↦ let z : t ≡ s = e ∙ rw none.0 refl in ap nodes z
  | inr some ↦ let z : t ≡ spliced a o s = e ∙ rw some.0 refl in ap nodes z ∙ simp length-set refl
]

-- A row is taken out.
module _ (s t : Net) (count built len room more : ℕ) (values : List BufferRow) (us : List Undo) (row : RowId)
    (h : IsHeld s count built len room us) (c : Contains (order_of s count) row.0) where
  found : Contains h.order row.0
  found = subst (λ o. Contains o row.0) (held-order s count built len room us h) c

  pub taken-row : 3 + row.0 < nodes s
  taken-row =
      let k = stands h.order row.0 found in
      row-below s k.0 k.1 row.0 (subst (λ o. AllRows s (nodes_of o)) k.2.parts h.lists.order.rows)

  pub taken-below : row.0 < len
  taken-below =
      let k = stands h.order row.0 found in
      below-mid len k.0 row.0 k.1 (subst (λ o. AllBelow len o) k.2.parts h.below)

  pub taken-some : 0 < count
  taken-some =
      let k = stands h.order row.0 found in
      let e : length h.order ≡ length (k.0 ++ row.0 ∷ k.1) = ap length k.2.parts in
      omega (arith, h.count, length-append k.0 (row.0 ∷ k.1))

  pub taken-held : t ≡ unlinked (3 + row.0) s → Unlinks s (3 + row.0) t → t.heads ≡ s.heads → nodes t ≡ nodes s → room ≤ more
      → IsHeld t (count - 1) built len more (kept.Taken row ∷ us) × (seen t (count - 1) built values (kept.Taken row ∷ us) ≡ taken row.0 (seen s count built values us))
  taken-held e u heads n wide =
      let k = stands h.order row.0 found in
      let fs = k.0 in
      let gs = k.1 in
      let p : h.order ≡ fs ++ row.0 ∷ gs = k.2.parts in
      let new = run (len - built) built in
      let a : AreLists s (fs ++ row.0 ∷ gs) new h.dead = subst (λ o. AreLists s o new h.dead) p h.lists in
      let q : IsKept s (fs ++ row.0 ∷ gs) (new ++ h.dead) us = subst (λ o. IsKept s o (new ++ h.dead) us) p h.kept in
      let f = kept-frame s t (fs ++ row.0 ∷ gs) (new ++ h.dead) us (omega arith) (keeps-taken s t fs gs new h.dead row.0 a e) q in
      let g = gap-taken s t fs gs new h.dead row.0 a e n taken-row in
      let b = lists-taken s t fs gs new h.dead row.0 a u heads in
      let l : length (fs ++ gs) ≡ count - 1 = let z : length h.order ≡ length (fs ++ row.0 ∷ gs) = ap length p in omega (arith, h.count, length-append fs (row.0 ∷ gs), length-append fs gs) in
      let held : IsHeld t (count - 1) built len more (kept.Taken row ∷ us) = record {
        order = fs ++ gs;
        dead = h.dead;
        lists = b;
        count = l;
        few = h.few;
        below = below-less len fs row.0 gs (subst (λ o. AllBelow len o) p h.below);
        steps_below = (taken-below, h.steps_below);
        kept = (fs, gs, (g, f.0));
        room = omega (arith, h.room, taken-some);
      } in
      let o : order_of s count ≡ fs ++ row.0 ∷ gs = held-order s count built len room us h ∙ p in
      let x : order_of t (count - 1) ≡ fs ++ gs = order-is t (fs ++ gs) (count - 1) b.order l in
      let y : steps_of t (fs ++ gs) (kept.Taken row ∷ us) ≡ Taken (length fs) row.0 ∷ steps_of s (fs ++ row.0 ∷ gs) us =
      steps-taken t (fs ++ gs) (new ++ h.dead) fs gs row us g ∙ ap (λ rest. Taken (length fs) row.0 ∷ rest) f.1 in
      let z : seen s count built values us ≡ record { order = fs ++ row.0 ∷ gs; built = built; values = values; steps = steps_of s (fs ++ row.0 ∷ gs) us } = seen-as s count built values us (fs ++ row.0 ∷ gs) (steps_of s (fs ++ row.0 ∷ gs) us) o refl in
      let v : taken row.0 (record { order = fs ++ row.0 ∷ gs; built = built; values = values; steps = steps_of s (fs ++ row.0 ∷ gs) us }) ≡ record { order = fs ++ gs; built = built; values = values; steps = Taken (length fs) row.0 ∷ steps_of s (fs ++ row.0 ∷ gs) us } =
      ap (λ o2. record { order = o2; built = built; values = values; steps = Taken (place_of row.0 (fs ++ row.0 ∷ gs)) row.0 ∷ steps_of s (fs ++ row.0 ∷ gs) us }) (without-at row.0 fs gs k.2.first)
      ∙ ap (λ at. record { order = fs ++ gs; built = built; values = values; steps = Taken at row.0 ∷ steps_of s (fs ++ row.0 ∷ gs) us }) (place-at row.0 fs gs k.2.first) in
      (held, seen-as t (count - 1) built values (kept.Taken row ∷ us) (fs ++ gs) (Taken (length fs) row.0 ∷ steps_of s (fs ++ row.0 ∷ gs) us) x y ∙ (sym v ∙ ap (taken row.0) (sym z)))

-- The last step is undone: a row is put back.
module _ (s t : Net) (count built len room : ℕ) (values : List BufferRow) (us : List Undo) (row : RowId)
    (h : IsHeld s count built len room (kept.Taken row ∷ us)) where
  pub back-row : 3 + row.0 < nodes s
  back-row = h.kept.2.0.pushed

  pub back-below : row.0 < len
  back-below = h.steps_below.0

  pub back-can : CanRelink s (3 + row.0)
  back-can = can-relink s h.order h.kept.0 h.kept.1 (run (len - built) built) h.dead row.0 h.lists h.kept.2.0

  pub back-held : t ≡ relinked (3 + row.0) s → Relinks s (3 + row.0) t → t.heads ≡ s.heads → nodes t ≡ nodes s
      → IsHeld t (count + 1) built len room us × (seen t (count + 1) built values us ≡ undone (seen s count built values (kept.Taken row ∷ us)))
  back-held e u heads n =
      let fs = h.kept.0 in
      let gs = h.kept.1 in
      let g = h.kept.2.0 in
      let new = run (len - built) built in
      let f = kept-frame s t (fs ++ row.0 ∷ gs) (new ++ h.dead) us (omega arith) (keeps-put-back s t h.order fs gs new h.dead row.0 h.lists g e) h.kept.2.1 in
      let b = lists-put-back s t h.order fs gs new h.dead row.0 h.lists g u heads in
      let l : length (fs ++ row.0 ∷ gs) ≡ count + 1 = let z : length h.order ≡ length (fs ++ gs) = ap length g.parts in omega (arith, h.count, length-append fs (row.0 ∷ gs), length-append fs gs) in
      let held : IsHeld t (count + 1) built len room us = record {
        order = fs ++ row.0 ∷ gs;
        dead = h.dead;
        lists = b;
        count = l;
        few = h.few;
        below = below-with len fs row.0 gs (subst (λ o. AllBelow len o) g.parts h.below) h.steps_below.0;
        steps_below = h.steps_below.1;
        kept = f.0;
        room = omega (arith, h.room);
      } in
      let o : order_of s count ≡ fs ++ gs = held-order s count built len room (kept.Taken row ∷ us) h ∙ g.parts in
      let x : order_of t (count + 1) ≡ fs ++ row.0 ∷ gs = order-is t (fs ++ row.0 ∷ gs) (count + 1) b.order l in
      let y : steps_of s (fs ++ gs) (kept.Taken row ∷ us) ≡ Taken (length fs) row.0 ∷ steps_of s (fs ++ row.0 ∷ gs) us =
      subst (λ o2. steps_of s o2 (kept.Taken row ∷ us) ≡ Taken (length fs) row.0 ∷ steps_of s (fs ++ row.0 ∷ gs) us) g.parts (steps-taken s h.order (new ++ h.dead) fs gs row us g) in
      let z = seen-as s count built values (kept.Taken row ∷ us) (fs ++ gs) (Taken (length fs) row.0 ∷ steps_of s (fs ++ row.0 ∷ gs) us) o y in
      let w : undone (record { order = fs ++ gs; built = built; values = values; steps = Taken (length fs) row.0 ∷ steps_of s (fs ++ row.0 ∷ gs) us }) ≡ record { order = fs ++ row.0 ∷ gs; built = built; values = values; steps = steps_of s (fs ++ row.0 ∷ gs) us } =
      ap (λ o2. record { order = o2; built = built; values = values; steps = steps_of s (fs ++ row.0 ∷ gs) us }) (with-at row.0 fs gs) in
      (held, seen-as t (count + 1) built values us (fs ++ row.0 ∷ gs) (steps_of s (fs ++ row.0 ∷ gs) us) x f.1 ∙ (sym w ∙ ap undone (sym z)))

-- The last step is undone: rows that were put in are cut out (t) and given up (v).
module _ (s t v : Net) (count len room : ℕ) (values : List BufferRow) (us : List Undo) (first n : ℕ)
    (h : IsHeld s count 0 len room (kept.Put first (suc n) ∷ us)) where
  cut-parts : h.order ≡ h.kept.0 ++ (run first (suc n) ++ h.kept.1)
  cut-parts = h.kept.2.0.parts

  pub cut-last : 3 + (first + n) < nodes s
  cut-last = row-below s (h.kept.0 ++ run first n) h.kept.1 (first + n) (subst (λ o. AllRows s (nodes_of o)) (cut-parts ∙ cut-ends) h.lists.order.rows)
    where
      cut-ends : h.kept.0 ++ (run first (suc n) ++ h.kept.1) ≡ (h.kept.0 ++ run first n) ++ (first + n) ∷ h.kept.1
      cut-ends = ap (λ rest. h.kept.0 ++ rest) (append_assoc (run first n) ((first + n) ∷ []) h.kept.1) ∙ sym (append_assoc h.kept.0 (run first n) ((first + n) ∷ h.kept.1))

  pub cut-below : first + n < len
  cut-below = below-mid len (h.kept.0 ++ run first n) (first + n) h.kept.1 (subst (λ o. AllBelow len o) (cut-parts ∙ cut-ends) h.below)
    where
      cut-ends : h.kept.0 ++ (run first (suc n) ++ h.kept.1) ≡ (h.kept.0 ++ run first n) ++ (first + n) ∷ h.kept.1
      cut-ends = ap (λ rest. h.kept.0 ++ rest) (append_assoc (run first n) ((first + n) ∷ []) h.kept.1) ∙ sym (append_assoc h.kept.0 (run first n) ((first + n) ∷ h.kept.1))

  pub cut-few : suc n ≤ count
  cut-few =
      let z : length h.order ≡ length (h.kept.0 ++ (run first (suc n) ++ h.kept.1)) = ap length cut-parts in
      omega (arith, h.count, length-append h.kept.0 (run first (suc n) ++ h.kept.1), length-append (run first (suc n)) h.kept.1, run-length first (suc n))

  pub cut-held : t ≡ cut_out (3 + first) (3 + (first + n)) 1 s → Cuts s (3 + first) (3 + (first + n)) 1 t → t.heads ≡ s.heads → nodes t ≡ nodes s
      → WasSpliced t 2 1 v → Splices t 2 1 v → v.heads ≡ t.heads → nodes v ≡ nodes t
      → IsHeld v (count - suc n) 0 len room us × (seen v (count - suc n) 0 values us ≡ undone (seen s count 0 values (kept.Put first (suc n) ∷ us)))
  cut-held e u heads m e2 u2 heads2 m2 =
      let fs = h.kept.0 in
      let gs = h.kept.1 in
      let i = h.kept.2.0 in
      let rows = run first (suc n) in
      let z : run (len - 0) 0 ≡ [] = refl in
      let q = h.kept.2.1 in
      let deep1 = kept-frame s t (fs ++ gs) (rows ++ h.dead) us (omega arith) (λ r b k. keeps-cut s t h.order fs gs h.dead first n h.lists i.parts e r b (put-misses r h.order h.dead fs rows gs i.parts k)) q in
      let a = lists-cut s t h.order fs gs h.dead first n h.lists i.parts u heads in
      let deep2 = kept-frame t v (fs ++ gs) (rows ++ h.dead) us (omega arith) (keeps-given-up t v (fs ++ gs) rows h.dead a e2) deep1.0 in
      let b = lists-given-up t v (fs ++ gs) rows h.dead a u2 heads2 in
      let l : length (fs ++ gs) ≡ count - suc n =
      let w : length h.order ≡ length (fs ++ (rows ++ gs)) = ap length i.parts in
      omega (arith, h.count, length-append fs (rows ++ gs), length-append rows gs, length-append fs gs, run-length first (suc n)) in
      let held : IsHeld v (count - suc n) 0 len room us = record {
        order = fs ++ gs;
        dead = rows ++ h.dead;
        lists = b;
        count = l;
        few = omega arith;
        below = below-cut len fs rows gs (subst (λ o. AllBelow len o) i.parts h.below);
        steps_below = h.steps_below;
        kept = deep2.0;
        room = omega (arith, h.room);
      } in
      let o = held-order s count 0 len room (kept.Put first (suc n) ∷ us) h in
      let x : order_of v (count - suc n) ≡ fs ++ gs = order-is v (fs ++ gs) (count - suc n) b.order l in
      let y = steps-put s h.order fs gs first (suc n) us i in
      let k = seen-as s count 0 values (kept.Put first (suc n) ∷ us) h.order (Put first (suc n) ∷ steps_of s (fs ++ gs) us) o y in
      let w : undone (record { order = h.order; built = 0; values = values; steps = Put first (suc n) ∷ steps_of s (fs ++ gs) us }) ≡ record { order = fs ++ gs; built = 0; values = values; steps = steps_of s (fs ++ gs) us } =
      ap (λ o2. record { order = o2; built = 0; values = values; steps = steps_of s (fs ++ gs) us }) i.rest in
      (held, seen-as v (count - suc n) 0 values us (fs ++ gs) (steps_of s (fs ++ gs) us) x (deep2.1 ∙ deep1.1) ∙ (sym w ∙ ap undone (sym k)))

-- The new rows are given up.
module _ (s t : Net) (count built len room : ℕ) (values : List BufferRow) (us : List Undo)
    (h : IsHeld s count built len room us) where
  pub given-up-held : WasSpliced s 2 1 t → Splices s 2 1 t → t.heads ≡ s.heads → nodes t ≡ nodes s
      → IsHeld t count 0 len room us × (seen t count 0 values us ≡ given_up (seen s count built values us))
  given-up-held e u heads n =
      let new = run (len - built) built in
      let f = kept-frame s t h.order (new ++ h.dead) us (omega arith) (keeps-given-up s t h.order new h.dead h.lists e) h.kept in
      let b = lists-given-up s t h.order new h.dead h.lists u heads in
      let held : IsHeld t count 0 len room us = record {
        order = h.order;
        dead = new ++ h.dead;
        lists = b;
        count = h.count;
        few = omega arith;
        below = h.below;
        steps_below = h.steps_below;
        kept = f.0;
        room = omega (arith, h.room);
      } in
      let o = held-order s count built len room us h in
      let x = order-is t h.order count b.order h.count in
      let y : steps_of t h.order us ≡ steps_of s h.order us = f.1 in
      (held, seen-as t count 0 values us h.order (steps_of s h.order us) x y ∙ sym (ap given_up (seen-as s count built values us h.order (steps_of s h.order us) o refl)))

-- The new rows are put in, where `after` stands for the place between fs and gs.
module _ (s t : Net) (count built len room more : ℕ) (values : List BufferRow) (us : List Undo) (after : Option ℕ) (a : ℕ) (fs gs : List ℕ)
    (h : IsHeld s count built len room us) (some : 0 < built) (p : h.order ≡ fs ++ gs) (last : last_of 0 (nodes_of fs) ≡ a)
    (placed : with_behind after (run (len - built) built) h.order ≡ fs ++ (run (len - built) built ++ gs)) (as_many : length values ≡ len) where
  pub put-held : WasSpliced s a 1 t → Splices s a 1 t → t.heads ≡ s.heads → nodes t ≡ nodes s → room ≤ more
      → IsHeld t (count + built) 0 len more (kept.Put (len - built) built ∷ us) × (seen t (count + built) 0 values (kept.Put (len - built) built ∷ us) ≡ put_in after (seen s count built values us))
  put-held e u heads n wide =
      let first = len - built in
      let rows = run first built in
      let f = kept-frame s t h.order (rows ++ h.dead) us (omega arith) (keeps-put s t h.order fs gs rows h.dead a h.lists p last e) h.kept in
      let b = lists-put s t h.order fs gs rows h.dead a h.lists p last u heads in
      let i : IsIn (fs ++ (rows ++ gs)) fs first built gs = record { some = some; parts = refl; rest = without-run first built fs gs (order-unique t (fs ++ (rows ++ gs)) [] h.dead b) } in
      let l : length (fs ++ (rows ++ gs)) ≡ count + built =
      let z : length h.order ≡ length (fs ++ gs) = ap length p in
      omega (arith, h.count, length-append fs (rows ++ gs), length-append rows gs, length-append fs gs, run-length first built) in
      let k : IsKept t (fs ++ gs) (rows ++ h.dead) us = subst (λ o. IsKept t o (rows ++ h.dead) us) p f.0 in
      let w = below-split len fs gs (subst (λ o. AllBelow len o) p h.below) in
      let held : IsHeld t (count + built) 0 len more (kept.Put first built ∷ us) = record {
        order = fs ++ (rows ++ gs);
        dead = h.dead;
        lists = b;
        count = l;
        few = omega arith;
        below = below-join len fs (rows ++ gs) w.0 (below-join len rows gs (run-below first built len (omega (arith, h.few))) w.1);
        steps_below = h.steps_below;
        kept = (fs, gs, (i, k));
        room = omega (arith, h.room);
      } in
      let o = held-order s count built len room us h in
      let x = order-is t (fs ++ (rows ++ gs)) (count + built) b.order l in
      let q : steps_of t (fs ++ gs) us ≡ steps_of s h.order us = ap (λ o2. steps_of t o2 us) (sym p) ∙ f.1 in
      let y = steps-put t (fs ++ (rows ++ gs)) fs gs first built us i ∙ ap (λ rest. Put first built ∷ rest) q in
      let z = seen-as s count built values us h.order (steps_of s h.order us) o refl in
      let v : put_in after (record { order = h.order; built = built; values = values; steps = steps_of s h.order us }) ≡ record { order = fs ++ (rows ++ gs); built = 0; values = values; steps = Put first built ∷ steps_of s h.order us } =
      ap (λ m. record { order = with_behind after (run (m - built) built) h.order; built = 0; values = values; steps = Put (m - built) built ∷ steps_of s h.order us }) as_many
      ∙ ap (λ o2. record { order = o2; built = 0; values = values; steps = Put first built ∷ steps_of s h.order us }) placed in
      (held, seen-as t (count + built) 0 values (kept.Put first built ∷ us) (fs ++ (rows ++ gs)) (Put first built ∷ steps_of s h.order us) x y ∙ (sym v ∙ ap (put_in after) (sym z)))

-- At first there are no rows, and no step is kept.
pub held-none : (s : Net) (room : ℕ) → s.heads ≡ 3 → ((l : ℕ) → l < 3 → IsList s l []) → IsHeld s 0 0 0 room []
held-none s room h lists = record {
  order = [];
  dead = [];
  lists = record { heads = h; order = lists 0 (omega arith); new = lists 1 (omega arith); dead = lists 2 (omega arith) };
  count = refl;
  few = omega arith;
  below = tt;
  steps_below = tt;
  kept = tt;
  room = omega arith;
}

pub forgotten-held : (s : Net) (count built len room more : ℕ) (us : List Undo) → IsHeld s count built len room us → room ≤ more → IsHeld s count built len more []
forgotten-held s count built len room more us h wide = record {
  order = h.order;
  dead = h.dead;
  lists = h.lists;
  count = h.count;
  few = h.few;
  below = h.below;
  steps_below = tt;
  kept = tt;
  room = omega (arith, h.room);
}

-- the values of list 0
values-nodes : (t : Table BufferRow) (rows : List ℕ) → t.net.heads ≡ 3 → values_in t.values rows ≡ values_of t (nodes_of rows)
values-nodes t [] h = refl
values-nodes t (r ∷ rows) h =
    let e : r ≡ 3 + r - t.net.heads = omega arith in
    ap (λ i. value_at t.values i ++ values_in t.values rows) e ∙ ap (λ rest. value_at t.values (3 + r - t.net.heads) ++ rest) (values-nodes t rows h)

pub values-held : (t : Table BufferRow) (count built len room : ℕ) (us : List Undo) → IsHeld t.net count built len room us → HasValues t 0 (values_in t.values (order_of t.net count))
values-held t count built len room us h = record {
  rows = nodes_of h.order;
  list = h.lists.order;
  values = ap (values_in t.values) (held-order t.net count built len room us h) ∙ values-nodes t h.order h.lists.heads;
}

pub value-changed : (f : BufferRow → BufferRow) (values : List BufferRow) (i : ℕ) (d : BufferRow) → i < length values → set values i (f (get_or values i d)) ≡ with_value f i values
value-changed f [] i d h = absurd (omega arith)
value-changed f (v ∷ vs) zero d h = refl
value-changed f (v ∷ vs) (suc i) d h = ap (λ rest. v ∷ rest) (value-changed f vs i d (omega arith))

-- the last step comes first
pub kept-first : (items later : List Undo) (step : Undo) → later ≡ items ++ step ∷ [] → reverse later ≡ step ∷ reverse items
kept-first items later step e = ap reverse e ∙ reverse-append items (step ∷ [])

-- with more room, and the same links and steps
pub held-more : (s t : Net) (count built len room more : ℕ) (us us2 : List Undo) → IsHeld s count built len room us → t ≡ s → us2 ≡ us → room ≤ more → IsHeld t count built len more us2
held-more s t count built len room more us us2 h e f wide =
    let k : IsHeld s count built len more us = record {
      order = h.order;
      dead = h.dead;
      lists = h.lists;
      count = h.count;
      few = h.few;
      below = h.below;
      steps_below = h.steps_below;
      kept = h.kept;
      room = omega (arith, h.room);
    } in
    subst (λ v. IsHeld v count built len more us2) (sym e) (subst (λ u. IsHeld s count built len more u) (sym f) k)

pub seen-equal : (s t : Net) (count built : ℕ) (values values2 : List BufferRow) (us us2 : List Undo) → t ≡ s → values2 ≡ values → us2 ≡ us → seen t count built values2 us2 ≡ seen s count built values us
seen-equal s t count built values values2 us us2 e f g = ap (λ n. seen n count built values2 us2) e ∙ seen-same s count built values values2 us us2 f g

-- The place behind a row of the order, or in front of all.
pub record IsSpot (s : Net) (order rows : List ℕ) (after : Option ℕ) (fs gs : List ℕ) : Type 0 where
  pub parts : order ≡ fs ++ gs
  pub last : last_of 0 (nodes_of fs) ≡ place_of_row s 0 after
  pub placed : with_behind after rows order ≡ fs ++ (rows ++ gs)

pub spot : (s : Net) (order rows : List ℕ) (after : Option ℕ) → s.heads ≡ 3 → IfSome after (λ r. Contains order r) → (fs : List ℕ) × (gs : List ℕ) × IsSpot s order rows after fs gs
spot s order rows None h c = ([], order, record { parts = refl; last = refl; placed = refl })
spot s order rows (Some r) h c =
    let k = stands order r c in
    let fs = k.0 in
    let gs = k.1 in
    let e : order ≡ (fs ++ r ∷ []) ++ gs = k.2.parts ∙ sym (append_assoc fs (r ∷ []) gs) in
    let last : last_of 0 (nodes_of (fs ++ r ∷ [])) ≡ s.heads + r = ap (λ xs. last_of 0 xs) (nodes-join fs (r ∷ [])) ∙ (last-of-append 0 (nodes_of fs) (3 + r) [] ∙ ap (λ n. n + r) (sym h)) in
    (fs ++ r ∷ [], gs, record { parts = e; last = last; placed = ap (behind_row r rows) k.2.parts ∙ behind-at r rows fs gs k.2.first })

pub if-some : {A : Type 0} {P Q : A → Type 0} (o : Option A) → ((a : A) → P a → Q a) → IfSome o P → IfSome o Q
if-some None f h = h
if-some (Some a) f h = f a h

pub if-some-row : (P : ℕ → Type 0) (o : Option RowId) → IfSome o (λ row. P row.0) → IfSome (option_map (λ row. row.0) o) P
if-some-row P None h = h
if-some-row P (Some row) h = h

pub on-ok : {T E : Type 0} (r : Result T E) (P : Type 0) → is_err r ≡ false → OnOk r P → P
on-ok (Ok v) P e h = h
on-ok (Err x) P e h = cc

pub nodes-pushed : (s t : Net) (l : ℕ) → t ≡ pushed l s → nodes t ≡ suc (nodes s)
nodes-pushed s t l e = ap nodes e ∙ simp (length-set, length_push) (omega arith)

-- the step that was popped
pub popped : (items before : List Undo) (last : Option Undo) (step : Undo) → before ≡ items ++ option_to_list last → last ≡ Some step → reverse before ≡ step ∷ reverse items
popped items before last step e f = kept-first items before step (e ∙ ap (λ o. items ++ option_to_list o) f)

pub none-popped : (items before : List Undo) (last : Option Undo) → before ≡ items ++ option_to_list last → last ≡ None → before ≡ items
none-popped items before last e f = e ∙ (ap (λ o. items ++ option_to_list o) f ∙ append-nil items)

-- the same for a run by its number of rows
module _ (s t v : Net) (many built len room : ℕ) (values : List BufferRow) (us : List Undo) (first count : ℕ)
    (h : IsHeld s many built len room (kept.Put first count ∷ us)) (none : built ≡ 0) where
  pub put-some : 0 < count
  put-some = h.kept.2.0.some

  one-more : count ≡ suc (count - 1)
  one-more = omega (arith, put-some)

  by-more : IsHeld s many 0 len room (kept.Put first (suc (count - 1)) ∷ us)
  by-more = subst (λ k. IsHeld s many 0 len room (kept.Put first k ∷ us)) one-more (subst (λ b. IsHeld s many b len room (kept.Put first count ∷ us)) none h)

  pub put-last-below : first + (count - 1) < len
  put-last-below = cut-below s t v many len room values us first (count - 1) by-more

  pub put-few : count ≤ many
  put-few = let f : suc (count - 1) ≤ many = cut-few s t v many len room values us first (count - 1) by-more in omega arith

  pub put-undone : t ≡ cut_out (3 + first) (3 + (first + (count - 1))) 1 s → Cuts s (3 + first) (3 + (first + (count - 1))) 1 t → t.heads ≡ s.heads
      → WasSpliced t 2 1 v → Splices t 2 1 v → v.heads ≡ t.heads
      → IsHeld v (many - count) built len room us × (seen v (many - count) built values us ≡ undone (seen s many built values (kept.Put first count ∷ us)))
  put-undone e u heads e2 u2 heads2 =
      let n = count - 1 in
      let k = cut-held s t v many len room values us first n by-more e u heads (nodes-cut s t (3 + first) (3 + (first + n)) 1 e) e2 u2 heads2 (nodes-spliced t v 2 1 e2) in
      let a : IsHeld v (many - count) 0 len room us = subst (λ c. IsHeld v (many - c) 0 len room us) (sym one-more) k.0 in
      let b : seen v (many - count) 0 values us ≡ undone (seen s many 0 values (kept.Put first count ∷ us)) =
      subst (λ c. seen v (many - c) 0 values us ≡ undone (seen s many 0 values (kept.Put first c ∷ us))) (sym one-more) k.1 in
      (subst (λ z. IsHeld v (many - count) z len room us) (sym none) a, subst (λ z. seen v (many - count) z values us ≡ undone (seen s many z values (kept.Put first count ∷ us))) (sym none) b)

pub last-taken-of : (s : Net) (order : List ℕ) (row : RowId) (us : List Undo) → last_taken (steps_of s order (kept.Taken row ∷ us)) ≡ Some row.0
last-taken-of s order row us = refl
