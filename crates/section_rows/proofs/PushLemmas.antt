-- A new row.
use Rattle.std.proofs.Common.{◌≡◌, ◌≢◌, ℕ, ◌+◌, ◌-◌, ◌<◌, ◌≤◌, zero, suc, List, [], ◌∷◌, ◌++◌, length, refl, ap, sym, subst, ◌∙◌, arith, true, false, inl, inr, length-append}
use Rattle.std.proofs.lemmas.List.{append_cancel_left, append-nil}
use Rattle.std.proofs.lemmas.Bool.{cases_lt}
use Rattle.link_rows.specs.Net.{Net, AllBelow, IsList, Pushes, nodes, pushed}
use Rattle.link_rows.specs.Tables.{Table}
use Rattle.link_rows.specs.Unlinked.{KeepsNeighbours, KeptByPush}
use Rattle.link_rows.specs.Values.{HasValues, PushesValue, value_at, values_of, with_pushed}
use Rattle.link_rows.proofs.NetLemmas.{Misses, below-more, misses-append, misses-join, rows-split, same}
use Rattle.link_rows.proofs.ValueLemmas.{values-joined}
use Rattle.section_rows.specs.declared.row.BufferRow.{BufferRow}
use Rattle.section_rows.specs.declared.row.BufferRow.TheVariants.{Head}
use Rattle.section_rows.specs.declared.undo.Undo.{Undo}
use Rattle.section_rows.specs.declared.undo.Undo.TheVariants as kept
use Rattle.section_rows.specs.Orders.{pushed_row, run}
use Rattle.section_rows.specs.Kept.{AreBelow, AreLists, IsHeld, IsKept, nodes_of, seen, steps_of}
use Rattle.section_rows.proofs.OrderLemmas.{nodes-join}
use Rattle.section_rows.proofs.KeptLemmas.{KeepsOut, kept-frame, kept-others, order-is, unlinked-row}
use Rattle.section_rows.proofs.StepLemmas.{held-order, seen-as}

value-kept : (vs : List BufferRow) (v : BufferRow) (i : ℕ) → i < length vs → value_at (vs ++ v ∷ []) i ≡ value_at vs i
value-kept [] v i h = absurd (omega arith)
value-kept (w ∷ vs) v zero h = refl
value-kept (w ∷ vs) v (suc i) h = value-kept vs v i (omega arith)

value-past : (vs : List BufferRow) (i : ℕ) → length vs ≤ i → value_at vs i ≡ []
value-past [] i h = refl
value-past (w ∷ vs) zero h = absurd (omega arith)
value-past (w ∷ vs) (suc i) h = value-past vs i (omega arith)

values-kept : (t : Table BufferRow) (v : BufferRow) (rows : List ℕ) → t.net.heads ≡ 3 → AllBelow (length t.values) rows → values_of (with_pushed 1 v t) (nodes_of rows) ≡ values_of t (nodes_of rows)
values-kept t v [] h b = refl
values-kept t v (r ∷ rows) h b =
    let e : 3 + r - t.net.heads ≡ r = omega arith in
    let f : value_at (t.values ++ v ∷ []) (3 + r - t.net.heads) ≡ value_at t.values (3 + r - t.net.heads) = value-kept t.values v (3 + r - t.net.heads) (omega (arith, b.0)) in
    ap (λ front. front ++ values_of (with_pushed 1 v t) (nodes_of rows)) f ∙ ap (λ rest. value_at t.values (3 + r - t.net.heads) ++ rest) (values-kept t v rows h b.1)

-- A push puts its value at the node that it makes: so that node is the one behind all values.
module _ (t : Table BufferRow) (rows : List ℕ) (h : t.net.heads ≡ 3) (i : IsList t.net 1 (nodes_of rows)) (b : AllBelow (length t.values) rows)
    (law : (v : BufferRow) → PushesValue t v) (j : IsList (pushed 1 t.net) 1 (nodes_of rows ++ nodes t.net ∷ [])) where
  at-new : (v : BufferRow) → value_at (t.values ++ v ∷ []) (nodes t.net - t.net.heads) ≡ v ∷ []
  at-new v =
      let held : HasValues (with_pushed 1 v t) 1 (values_of t (nodes_of rows) ++ v ∷ []) = (law v 1 (values_of t (nodes_of rows)) (record { rows = nodes_of rows; list = i; values = refl })).0 in
      let e : held.rows ≡ nodes_of rows ++ nodes t.net ∷ [] = (same (pushed 1 t.net) 1 held.rows 1 (nodes_of rows ++ nodes t.net ∷ []) 1 held.list.chain j.chain held.list.rows j.rows held.list.made j.made).1 in
      let f : values_of t (nodes_of rows) ++ v ∷ [] ≡ values_of t (nodes_of rows) ++ (value_at (t.values ++ v ∷ []) (nodes t.net - t.net.heads) ++ []) =
      held.values ∙ (ap (λ xs. values_of (with_pushed 1 v t) xs) e ∙ (values-joined (with_pushed 1 v t) (nodes_of rows) (nodes t.net ∷ [])
      ∙ ap (λ front. front ++ (value_at (t.values ++ v ∷ []) (nodes t.net - t.net.heads) ++ [])) (values-kept t v rows h b))) in
      sym (append_cancel_left (values_of t (nodes_of rows)) (v ∷ []) (value_at (t.values ++ v ∷ []) (nodes t.net - t.net.heads) ++ []) f ∙ append-nil (value_at (t.values ++ v ∷ []) (nodes t.net - t.net.heads)))

  not-below : nodes t.net - t.net.heads < length t.values → ⊥
  not-below l =
      let k = nodes t.net - t.net.heads in
      let shown : BufferRow = Head [] false in
      let hidden : BufferRow = Head [] true in
      let e : value_at t.values k ≡ shown ∷ [] = sym (value-kept t.values shown k l) ∙ at-new shown in
      let f : value_at t.values k ≡ hidden ∷ [] = sym (value-kept t.values hidden k l) ∙ at-new hidden in
      let z : shown ∷ [] ≡ hidden ∷ [] = sym e ∙ f in
      cc

  not-past : length t.values < nodes t.net - t.net.heads → ⊥
  not-past l =
      let k = nodes t.net - t.net.heads in
      let shown : BufferRow = Head [] false in
      let e : [] ≡ shown ∷ [] = sym (value-past (t.values ++ shown ∷ []) k (omega (arith, length-append t.values (shown ∷ [])))) ∙ at-new shown in
      cc

  pub new-node : nodes t.net ≡ 3 + length t.values
  new-node =
      let first : t.net.heads ≤ nodes t.net = (rows-split (pushed 1 t.net) (nodes_of rows) (nodes t.net ∷ []) j.rows).1.0.0 in
      elim (cases_lt (nodes t.net - t.net.heads) (length t.values)) [
        | inl less ↦ absurd (not-below less)
        | inr more ↦ elim (cases_lt (length t.values) (nodes t.net - t.net.heads)) [ inl past ↦ absurd (not-past past) | inr le ↦ omega arith ]
      ]

steps-below : (n : ℕ) (us : List Undo) → AreBelow n us → AreBelow (suc n) us
steps-below n [] b = tt
steps-below n (kept.Taken row ∷ us) b = (omega (arith, b.0), steps-below n us b.1)
steps-below n (kept.Put first count ∷ us) b = steps-below n us b

run-more : (len built : ℕ) → built ≤ len → run (suc len - suc built) (suc built) ≡ run (len - built) built ++ len ∷ []
run-more len built few =
    let e : suc len - suc built ≡ len - built = omega arith in
    let f : len - built + built ≡ len = omega arith in
    ap (λ first. run first (suc built)) e ∙ ap (λ x. run (len - built) built ++ x ∷ []) f

more-missed : (r len : ℕ) (new dead : List ℕ) → len ≢ r → Misses r (new ++ dead) → Misses r ((new ++ len ∷ []) ++ dead)
more-missed r len new dead n m =
    let p = misses-append r new dead m in
    misses-join r (new ++ len ∷ []) dead (misses-join r new (len ∷ []) p.0 (n, tt)) p.1

fewer : (r len : ℕ) (order new dead : List ℕ) → Misses r (order ++ ((new ++ len ∷ []) ++ dead)) → Misses r (order ++ (new ++ dead))
fewer r len order new dead m =
    let p = misses-append r order ((new ++ len ∷ []) ++ dead) m in
    let q = misses-append r (new ++ len ∷ []) dead p.1 in
    let z = misses-append r new (len ∷ []) q.0 in
    misses-join r order (new ++ dead) p.0 (misses-join r new dead z.0 q.1)

pub pushed-held : (s t : Net) (count built len room more : ℕ) (values : List BufferRow) (v : BufferRow) (us : List Undo) → IsHeld s count built len room us
    → nodes s ≡ 3 + len → t ≡ pushed 1 s → Pushes s 1 t → KeptByPush s → t.heads ≡ s.heads → nodes t ≡ suc (nodes s)
    → length us + (count + (suc built + suc built)) ≤ more
    → IsHeld t count (suc built) (suc len) more us × (seen t count (suc built) (values ++ v ∷ []) us ≡ pushed_row v (seen s count built values us))
pushed-held s t count built len room more values v us h n e p law heads m wide =
    let new = run (len - built) built in
    let next = run (suc len - suc built) (suc built) in
    let q = run-more len built h.few in
    let others = (new ++ len ∷ []) ++ h.dead in
    let keeps : KeepsOut s t h.order others =
    λ r b k. subst (λ w. KeepsNeighbours s (3 + r) w) (sym e) (law 1 (3 + r) (nodes_of new) h.lists.new (unlinked-row s h.order new h.dead h.lists r b (fewer r len h.order new h.dead k))) in
    let wide_kept = kept-others s h.order (new ++ h.dead) others us (λ r b k. more-missed r len new h.dead (λ (x : len ≡ r). omega arith) k) h.kept in
    let f = kept-frame s t h.order others us (omega arith) keeps wide_kept in
    let k = p (nodes_of new) h.lists.new in
    let z : nodes_of new ++ nodes s ∷ [] ≡ nodes_of next = ap (λ x. nodes_of new ++ x ∷ []) n ∙ (sym (nodes-join new (len ∷ [])) ∙ ap (λ rows. nodes_of rows) (sym q)) in
    let b : AreLists t h.order next h.dead = record {
      heads = heads ∙ h.lists.heads;
      order = k.1 0 (nodes_of h.order) h.lists.order (λ (x : 0 ≡ 1). omega arith);
      new = subst (λ xs. IsList t 1 xs) z k.0;
      dead = k.1 2 (nodes_of h.dead) h.lists.dead (λ (x : 2 ≡ 1). omega arith);
    } in
    let held : IsHeld t count (suc built) (suc len) more us = record {
      order = h.order;
      dead = h.dead;
      lists = b;
      count = h.count;
      few = omega (arith, h.few);
      below = below-more len (suc len) h.order h.below (omega arith);
      steps_below = steps-below len us h.steps_below;
      kept = subst (λ rows. IsKept t h.order (rows ++ h.dead) us) (sym q) f.0;
      room = omega arith;
    } in
    let o = held-order s count built len room us h in
    let x = order-is t h.order count b.order h.count in
    (held, seen-as t count (suc built) (values ++ v ∷ []) us h.order (steps_of s h.order us) x f.1 ∙ sym (ap (pushed_row v) (seen-as s count built values us h.order (steps_of s h.order us) o refl)))

-- the same with one more
pub pushed-one : (s t : Net) (count built len room more : ℕ) (values : List BufferRow) (v : BufferRow) (us : List Undo) → IsHeld s count built len room us
    → nodes s ≡ 3 + len → t ≡ pushed 1 s → Pushes s 1 t → KeptByPush s → t.heads ≡ s.heads → nodes t ≡ suc (nodes s)
    → length us + (count + (suc built + suc built)) ≤ more
    → IsHeld t count (built + 1) (len + 1) more us × (seen t count (built + 1) (values ++ v ∷ []) us ≡ pushed_row v (seen s count built values us))
pushed-one s t count built len room more values v us h n e p law heads m wide =
    let k = pushed-held s t count built len room more values v us h n e p law heads m wide in
    let b : suc built ≡ built + 1 = omega arith in
    let l : suc len ≡ len + 1 = omega arith in
    (subst (λ x. IsHeld t count x (len + 1) more us) b (subst (λ y. IsHeld t count (suc built) y more us) l k.0), ap (λ x. seen t count x (values ++ v ∷ []) us) (sym b) ∙ k.1)
