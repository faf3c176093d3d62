use Rattle.std.proofs.Common.{◌≡◌, ◌-◌, ◌≤◌, ◌∙◌, ◌∷◌, [], List, sym, ap, subst, refl, arith, length, length-append, reverse, take, true, false, slice_get, vec_len, vec_capacity, Some}
use Rattle.std.proofs.lemmas.List.{take_at}
use Rattle.link_rows.specs.Values.{value_at}
use Rattle.section_rows.specs.declared.row.BufferRow.{BufferRow}
use Rattle.section_rows.specs.Orders.{Ordered}
use Rattle.section_buffer.specs.declared.kept.Kept.{Kept}
use Rattle.section_buffer.specs.declared.kept.Kept.TheVariants.{Insertion}
use Rattle.section_buffer.specs.Buffers.{uninserted}
use Rattle.section_buffer.specs.Held.{IsBuffer, dir_in, seen_as}
use Rattle.section_buffer.specs.Places.{same_names}
use Rattle.section_buffer.proofs.RowLemmas.{value-one}
use Rattle.section_buffer.proofs.BufferLemmas.{held-wider}
use Rattle.section_buffer.proofs.InsertLemmas.{cut-held, cut-refused, cut-seen, cut-undone, first-below, last-reversed, without_it}
use Rattle.section_buffer.proofs.buffer.Buffer.uninsert.Goals as goal

pub returns-then-not-is_of : goal.returns-then-not-is_of
returns-then-not-is_of c =
    let i = c.self.inside in
    let o = i.rows in
    let items = i.kept.items in
    let dir = c.args.dir.now in
    let head = c.in-Some-Insertion.head in
    let at = c.in-Some-Insertion.field-0-0 in
    let e : slice_get items (length items - 1) ≡ Some (Insertion at head) =
    ap (λ xs. slice_get xs (length xs - 1)) (sym c.deref.ensures.value)
    ∙ (sym c.last.ensures.value ∙ (sym c.copied.ensures ∙ (c.in-Some-Insertion.is ∙ ap (λ u. Some u) c.in-Some-Insertion.field-0-is))) in
    let k = last-reversed items (Insertion at head) e in
    let older : List Kept = reverse k.0 in
    let room = vec_capacity i.kept in
    let h : IsBuffer o (Insertion at head ∷ older) room = subst (λ (x : List Kept). IsBuffer o x room) k.2 c.self.invariant in
    let d = c.rows_differ.ensures in
    let v : BufferRow = c.get.result.now in
    let value : value_at o.values head.0 ≡ v ∷ [] = value-one o.values head.0 v (first-below i.switches o at head older room h d.below d.once) ∙ ap (λ w. w ∷ []) (sym c.get.ensures) in
    let other : same_names (dir_in (value_at o.values head.0)) dir ≡ false = ap (λ x. same_names (dir_in x) dir) value ∙ (sym c.is_of.ensures ∙ c.if-not-is_of.true) in (
      refl,
      ap (uninserted dir) (sym c.self.view_is)
          ∙ (ap (λ (x : List Kept). uninserted dir (seen_as i.switches o x)) k.2 ∙ cut-refused i.switches o at head older room h d.below d.once dir other),
      refl,
    )

pub invariant_of-self : goal.invariant_of-self
invariant_of-self c =
    let i = c.self.inside in
    let o = i.rows in
    let items = i.kept.items in
    let dir = c.args.dir.now in
    let head = c.in-Some-Insertion.head in
    let at = c.in-Some-Insertion.field-0-0 in
    let e : slice_get items (length items - 1) ≡ Some (Insertion at head) =
    ap (λ xs. slice_get xs (length xs - 1)) (sym c.deref.ensures.value)
    ∙ (sym c.last.ensures.value ∙ (sym c.copied.ensures ∙ (c.in-Some-Insertion.is ∙ ap (λ u. Some u) c.in-Some-Insertion.field-0-is))) in
    let k = last-reversed items (Insertion at head) e in
    let older : List Kept = reverse k.0 in
    let room = vec_capacity i.kept in
    let h : IsBuffer o (Insertion at head ∷ older) room = subst (λ (x : List Kept). IsBuffer o x room) k.2 c.self.invariant in
    let d = c.rows_differ.ensures in
    let n : length k.0 ≡ vec_len i.kept - 1 = omega (arith, i.kept.ok.0, ap length k.1, length-append k.0 (Insertion at head ∷ [])) in
    let rest : c.pop.new.self.items ≡ k.0 = c.pop.ensures.rest ∙ (ap (take (vec_len i.kept - 1)) k.1 ∙ take_at k.0 (Insertion at head ∷ []) (vec_len i.kept - 1) n) in
    let is : c.undo.new.self ≡ without_it i.switches o at head older room h d.below d.once = c.undo.ensures.after ∙ cut-undone i.switches o at head older room h d.below d.once in
    let more = vec_capacity c.pop.new.self in
    let wide : room ≤ more = omega (arith, c.pop.ensures.capacity) in
    let held = held-wider (without_it i.switches o at head older room h d.below d.once) older room more (cut-held i.switches o at head older room h d.below d.once) wide in
    subst (λ (x : Ordered). IsBuffer x (reverse c.pop.new.self.items) more) (sym is)
    (subst (λ (xs : List Kept). IsBuffer (without_it i.switches o at head older room h d.below d.once) (reverse xs) more) (sym rest) held)

pub returns : goal.returns
returns c =
    let i = c.self.inside in
    let o = i.rows in
    let items = i.kept.items in
    let dir = c.args.dir.now in
    let head = c.in-Some-Insertion.head in
    let at = c.in-Some-Insertion.field-0-0 in
    let e : slice_get items (length items - 1) ≡ Some (Insertion at head) =
    ap (λ xs. slice_get xs (length xs - 1)) (sym c.deref.ensures.value)
    ∙ (sym c.last.ensures.value ∙ (sym c.copied.ensures ∙ (c.in-Some-Insertion.is ∙ ap (λ u. Some u) c.in-Some-Insertion.field-0-is))) in
    let k = last-reversed items (Insertion at head) e in
    let older : List Kept = reverse k.0 in
    let room = vec_capacity i.kept in
    let h : IsBuffer o (Insertion at head ∷ older) room = subst (λ (x : List Kept). IsBuffer o x room) k.2 c.self.invariant in
    let d = c.rows_differ.ensures in
    let v : BufferRow = c.get.result.now in
    let value : value_at o.values head.0 ≡ v ∷ [] = value-one o.values head.0 v (first-below i.switches o at head older room h d.below d.once) ∙ ap (λ w. w ∷ []) (sym c.get.ensures) in
    let n : length k.0 ≡ vec_len i.kept - 1 = omega (arith, i.kept.ok.0, ap length k.1, length-append k.0 (Insertion at head ∷ [])) in
    let rest : c.pop.new.self.items ≡ k.0 = c.pop.ensures.rest ∙ (ap (take (vec_len i.kept - 1)) k.1 ∙ take_at k.0 (Insertion at head ∷ []) (vec_len i.kept - 1) n) in
    let is : c.undo.new.self ≡ without_it i.switches o at head older room h d.below d.once = c.undo.ensures.after ∙ cut-undone i.switches o at head older room h d.below d.once in
    let same : same_names (dir_in (value_at o.values head.0)) dir ≡ true = ap (λ x. same_names (dir_in x) dir) value ∙ (sym c.is_of.ensures ∙ c.if-not-is_of.false) in
    ap (uninserted dir) (sym c.self.view_is)
    ∙ (ap (λ (x : List Kept). uninserted dir (seen_as i.switches o x)) k.2
    ∙ (cut-seen i.switches o at head older room h d.below d.once dir same
    ∙ (ap (λ (x : Ordered). Some (seen_as i.switches x older)) (sym is) ∙ ap (λ (xs : List Kept). Some (seen_as i.switches c.undo.new.self (reverse xs))) (sym rest))))
