use Rattle.std.proofs.Common.{◌≡◌, ◌+◌, ◌-◌, ◌<◌, ◌≤◌, ◌∙◌, ◌∷◌, ◌++◌, [], ap, sym, subst, refl, reverse, arith, length, vec_capacity, append-nil}
use Rattle.std.specs.Option.{option_map}
use Rattle.std.proofs.lemmas.List.{nil_from_length}
use Rattle.section_rows.specs.declared.undo.Undo.TheVariants as kept
use Rattle.link_rows.specs.Net.{CanRelink, Cuts, Relinks, cut_out, relinked}
use Rattle.link_rows.specs.declared.rows.RowId.{RowId}
use Rattle.section_rows.specs.Orders.{last_taken, undone}
use Rattle.section_rows.specs.Kept.{IsHeld, seen}
use Rattle.section_rows.proofs.StepLemmas.{back-below, back-can, back-held, held-more, kept-first, nodes-relinked, put-few, put-last-below, put-some, put-undone, seen-same}
use Rattle.section_rows.proofs.undo_rows.UndoRows.undo.Goals as goal

pub invariant_of-self : goal.invariant_of-self
invariant_of-self c =
    let i = c.self.inside in
    let s = i.rows.net in
    let items = c.pop.new.self.items in
    let us = reverse items in
    let cap = vec_capacity i.undo in
    let as_many : length i.rows.values ≡ i.len = c.self.invariant.1 in
    let wide : cap ≤ vec_capacity c.pop.new.self = omega (arith, c.pop.ensures.capacity) in
    let e : items ≡ i.undo.items = sym (append-nil items) ∙ sym c.in_err-row.ensures.items in
    (held-more s s i.count i.built i.len cap (vec_capacity c.pop.new.self) (reverse i.undo.items) us c.self.invariant.0 refl (ap reverse e) wide, as_many)

pub returns-in_err-row-clause-after : goal.returns-in_err-row-clause-after
returns-in_err-row-clause-after c =
    let i = c.self.inside in
    let s = i.rows.net in
    let items = c.pop.new.self.items in
    let us = reverse items in
    let cap = vec_capacity i.undo in
    let as_many : length i.rows.values ≡ i.len = c.self.invariant.1 in
    let z : i.undo.items ≡ [] = nil_from_length i.undo.items (omega (arith, i.undo.ok.0, c.in_err-row.ensures.cases.0)) in
    let y : items ≡ [] = sym (append-nil items) ∙ (sym c.in_err-row.ensures.items ∙ z) in
    let a : seen s i.count i.built i.rows.values (reverse i.undo.items) ≡ seen s i.count i.built i.rows.values [] = ap (λ u. seen s i.count i.built i.rows.values (reverse u)) z in
    let b : seen s i.count i.built i.rows.values us ≡ seen s i.count i.built i.rows.values [] = ap (λ u. seen s i.count i.built i.rows.values (reverse u)) y in
    b ∙ (sym (ap (λ v. undone v) a) ∙ ap (λ v. undone v) c.self.view_is)

pub returns-in_err-row-clause-row : goal.returns-in_err-row-clause-row
returns-in_err-row-clause-row c =
    let i = c.self.inside in
    let s = i.rows.net in
    let items = c.pop.new.self.items in
    let us = reverse items in
    let cap = vec_capacity i.undo in
    let as_many : length i.rows.values ≡ i.len = c.self.invariant.1 in
    let z : i.undo.items ≡ [] = nil_from_length i.undo.items (omega (arith, i.undo.ok.0, c.in_err-row.ensures.cases.0)) in
    let y : items ≡ [] = sym (append-nil items) ∙ (sym c.in_err-row.ensures.items ∙ z) in
    let a : seen s i.count i.built i.rows.values (reverse i.undo.items) ≡ seen s i.count i.built i.rows.values [] = ap (λ u. seen s i.count i.built i.rows.values (reverse u)) z in
    ap (λ o. option_map (λ (row : RowId). row.0) o) c.from_residual.ensures ∙ ap (λ v. last_taken v.steps) (sym a ∙ c.self.view_is)

pub relink-requires : goal.relink-requires
relink-requires c =
    let i = c.self.inside in
    let s = i.rows.net in
    let items = c.pop.new.self.items in
    let us = reverse items in
    let cap = vec_capacity i.undo in
    let as_many : length i.rows.values ≡ i.len = c.self.invariant.1 in
    let r = c.in-Taken.row.0 in
    let f : reverse i.undo.items ≡ kept.Taken c.in-Taken.row ∷ us = kept-first items i.undo.items (kept.Taken c.in-Taken.row) (c.in_ok-row.ensures.items ∙ ap (λ u. items ++ u ∷ []) c.in-Taken.is) in
    let h : IsHeld s i.count i.built i.len cap (kept.Taken c.in-Taken.row ∷ us) = subst (λ v. IsHeld s i.count i.built i.len cap v) f c.self.invariant.0 in
    let b : r < i.len = back-below s s i.count i.built i.len cap i.rows.values us c.in-Taken.row h in
    omega arith

pub overflow_add-self : goal.overflow_add-self
overflow_add-self c =
    let i = c.self.inside in
    let room : length (reverse i.undo.items) + i.count + i.built + i.built ≤ vec_capacity i.undo = c.self.invariant.0.room in
    omega (arith, i.undo.small)

pub invariant_of-self-in-Taken : goal.invariant_of-self-in-Taken
invariant_of-self-in-Taken c =
    let i = c.self.inside in
    let s = i.rows.net in
    let items = c.pop.new.self.items in
    let us = reverse items in
    let cap = vec_capacity i.undo in
    let as_many : length i.rows.values ≡ i.len = c.self.invariant.1 in
    let r = c.in-Taken.row.0 in
    let f : reverse i.undo.items ≡ kept.Taken c.in-Taken.row ∷ us = kept-first items i.undo.items (kept.Taken c.in-Taken.row) (c.in_ok-row.ensures.items ∙ ap (λ u. items ++ u ∷ []) c.in-Taken.is) in
    let h : IsHeld s i.count i.built i.len cap (kept.Taken c.in-Taken.row ∷ us) = subst (λ v. IsHeld s i.count i.built i.len cap v) f c.self.invariant.0 in
    let t = c.relink.new.self.net in
    let e : t ≡ relinked (3 + r) s = subst (λ k. t ≡ relinked (k + r) s) h.lists.heads c.relink.ensures.net in
    let g : CanRelink s (3 + r) → Relinks s (3 + r) t = subst (λ k. CanRelink s (k + r) → Relinks s (k + r) t) h.lists.heads c.relink.ensures.lists in
    let k = back-held s t i.count i.built i.len cap i.rows.values us c.in-Taken.row h e (g (back-can s t i.count i.built i.len cap i.rows.values us c.in-Taken.row h)) c.relink.ensures.heads (nodes-relinked s t (3 + r) e) in
    let wide : cap ≤ vec_capacity c.pop.new.self = omega (arith, c.pop.ensures.capacity) in
    (held-more t t (i.count + 1) i.built i.len cap (vec_capacity c.pop.new.self) us us k.0 refl refl wide, ap length c.relink.ensures.values ∙ as_many)

pub overflow_sub-last : goal.overflow_sub-last
overflow_sub-last c =
    let i = c.self.inside in
    let s = i.rows.net in
    let items = c.pop.new.self.items in
    let us = reverse items in
    let cap = vec_capacity i.undo in
    let as_many : length i.rows.values ≡ i.len = c.self.invariant.1 in
    let first = c.in-Put.first in
    let count = c.in-Put.count in
    let f : reverse i.undo.items ≡ kept.Put first count ∷ us = kept-first items i.undo.items (kept.Put first count) (c.in_ok-row.ensures.items ∙ ap (λ u. items ++ u ∷ []) c.in-Put.is) in
    let h : IsHeld s i.count i.built i.len cap (kept.Put first count ∷ us) = subst (λ v. IsHeld s i.count i.built i.len cap v) f c.self.invariant.0 in
    let none : i.built ≡ 0 = ap (λ v. v.built) c.self.view_is ∙ c.requires in
    let b : 0 < count = put-some s s s i.count i.built i.len cap i.rows.values us first count h none in
    omega arith

pub overflow_add-last : goal.overflow_add-last
overflow_add-last c =
    let i = c.self.inside in
    let s = i.rows.net in
    let items = c.pop.new.self.items in
    let us = reverse items in
    let cap = vec_capacity i.undo in
    let as_many : length i.rows.values ≡ i.len = c.self.invariant.1 in
    let first = c.in-Put.first in
    let count = c.in-Put.count in
    let f : reverse i.undo.items ≡ kept.Put first count ∷ us = kept-first items i.undo.items (kept.Put first count) (c.in_ok-row.ensures.items ∙ ap (λ u. items ++ u ∷ []) c.in-Put.is) in
    let h : IsHeld s i.count i.built i.len cap (kept.Put first count ∷ us) = subst (λ v. IsHeld s i.count i.built i.len cap v) f c.self.invariant.0 in
    let none : i.built ≡ 0 = ap (λ v. v.built) c.self.view_is ∙ c.requires in
    let b : first + (count - 1) < i.len = put-last-below s s s i.count i.built i.len cap i.rows.values us first count h none in
    omega arith

pub cut-requires-clause-made : goal.cut-requires-clause-made
cut-requires-clause-made c =
    omega (arith, c.self.invariant.0.lists.heads)

pub cut-requires-clause-other_made : goal.cut-requires-clause-other_made
cut-requires-clause-other_made c =
    omega (arith, c.self.invariant.0.lists.heads)

pub cut-requires-clause-first_pushed : goal.cut-requires-clause-first_pushed
cut-requires-clause-first_pushed c =
    let i = c.self.inside in
    let s = i.rows.net in
    let items = c.pop.new.self.items in
    let us = reverse items in
    let cap = vec_capacity i.undo in
    let as_many : length i.rows.values ≡ i.len = c.self.invariant.1 in
    let first = c.in-Put.first in
    let count = c.in-Put.count in
    let f : reverse i.undo.items ≡ kept.Put first count ∷ us = kept-first items i.undo.items (kept.Put first count) (c.in_ok-row.ensures.items ∙ ap (λ u. items ++ u ∷ []) c.in-Put.is) in
    let h : IsHeld s i.count i.built i.len cap (kept.Put first count ∷ us) = subst (λ v. IsHeld s i.count i.built i.len cap v) f c.self.invariant.0 in
    let none : i.built ≡ 0 = ap (λ v. v.built) c.self.view_is ∙ c.requires in
    let b : first + (count - 1) < i.len = put-last-below s s s i.count i.built i.len cap i.rows.values us first count h none in
    omega arith

pub cut-requires-clause-last_pushed : goal.cut-requires-clause-last_pushed
cut-requires-clause-last_pushed c =
    let i = c.self.inside in
    let s = i.rows.net in
    let items = c.pop.new.self.items in
    let us = reverse items in
    let cap = vec_capacity i.undo in
    let as_many : length i.rows.values ≡ i.len = c.self.invariant.1 in
    let first = c.in-Put.first in
    let count = c.in-Put.count in
    let f : reverse i.undo.items ≡ kept.Put first count ∷ us = kept-first items i.undo.items (kept.Put first count) (c.in_ok-row.ensures.items ∙ ap (λ u. items ++ u ∷ []) c.in-Put.is) in
    let h : IsHeld s i.count i.built i.len cap (kept.Put first count ∷ us) = subst (λ v. IsHeld s i.count i.built i.len cap v) f c.self.invariant.0 in
    let none : i.built ≡ 0 = ap (λ v. v.built) c.self.view_is ∙ c.requires in
    let b : first + (count - 1) < i.len = put-last-below s s s i.count i.built i.len cap i.rows.values us first count h none in
    omega arith

pub splice-requires-clause-made : goal.splice-requires-clause-made
splice-requires-clause-made c =
    omega (arith, c.self.invariant.0.lists.heads, c.cut.ensures.heads)

pub splice-requires-clause-other_made : goal.splice-requires-clause-other_made
splice-requires-clause-other_made c =
    omega (arith, c.self.invariant.0.lists.heads, c.cut.ensures.heads)

pub overflow_cast-self : goal.overflow_cast-self
overflow_cast-self c =
    let i = c.self.inside in
    let s = i.rows.net in
    let items = c.pop.new.self.items in
    let us = reverse items in
    let cap = vec_capacity i.undo in
    let as_many : length i.rows.values ≡ i.len = c.self.invariant.1 in
    let first = c.in-Put.first in
    let count = c.in-Put.count in
    let f : reverse i.undo.items ≡ kept.Put first count ∷ us = kept-first items i.undo.items (kept.Put first count) (c.in_ok-row.ensures.items ∙ ap (λ u. items ++ u ∷ []) c.in-Put.is) in
    let h : IsHeld s i.count i.built i.len cap (kept.Put first count ∷ us) = subst (λ v. IsHeld s i.count i.built i.len cap v) f c.self.invariant.0 in
    let none : i.built ≡ 0 = ap (λ v. v.built) c.self.view_is ∙ c.requires in
    let b : count ≤ i.count = put-few s s s i.count i.built i.len cap i.rows.values us first count h none in
    let room : length (reverse i.undo.items) + i.count + i.built + i.built ≤ vec_capacity i.undo = c.self.invariant.0.room in
    omega (arith, i.undo.small)

pub overflow_sub-self : goal.overflow_sub-self
overflow_sub-self c =
    let i = c.self.inside in
    let s = i.rows.net in
    let items = c.pop.new.self.items in
    let us = reverse items in
    let cap = vec_capacity i.undo in
    let as_many : length i.rows.values ≡ i.len = c.self.invariant.1 in
    let first = c.in-Put.first in
    let count = c.in-Put.count in
    let f : reverse i.undo.items ≡ kept.Put first count ∷ us = kept-first items i.undo.items (kept.Put first count) (c.in_ok-row.ensures.items ∙ ap (λ u. items ++ u ∷ []) c.in-Put.is) in
    let h : IsHeld s i.count i.built i.len cap (kept.Put first count ∷ us) = subst (λ v. IsHeld s i.count i.built i.len cap v) f c.self.invariant.0 in
    let none : i.built ≡ 0 = ap (λ v. v.built) c.self.view_is ∙ c.requires in
    let b : count ≤ i.count = put-few s s s i.count i.built i.len cap i.rows.values us first count h none in
    b

pub invariant_of-self-in-Put : goal.invariant_of-self-in-Put
invariant_of-self-in-Put c =
    let i = c.self.inside in
    let s = i.rows.net in
    let items = c.pop.new.self.items in
    let us = reverse items in
    let cap = vec_capacity i.undo in
    let as_many : length i.rows.values ≡ i.len = c.self.invariant.1 in
    let first = c.in-Put.first in
    let count = c.in-Put.count in
    let f : reverse i.undo.items ≡ kept.Put first count ∷ us = kept-first items i.undo.items (kept.Put first count) (c.in_ok-row.ensures.items ∙ ap (λ u. items ++ u ∷ []) c.in-Put.is) in
    let h : IsHeld s i.count i.built i.len cap (kept.Put first count ∷ us) = subst (λ v. IsHeld s i.count i.built i.len cap v) f c.self.invariant.0 in
    let none : i.built ≡ 0 = ap (λ v. v.built) c.self.view_is ∙ c.requires in
    let last = first + (count - 1) in
    let t = c.cut.new.self.net in
    let v = c.splice.new.self.net in
    let e : t ≡ cut_out (3 + first) (3 + last) 1 s = subst (λ k. t ≡ cut_out (k + first) (k + last) 1 s) h.lists.heads c.cut.ensures.net in
    let g : Cuts s (3 + first) (3 + last) 1 t = subst (λ k. Cuts s (k + first) (k + last) 1 t) h.lists.heads c.cut.ensures.lists in
    let k = put-undone s t v i.count i.built i.len cap i.rows.values us first count h none e g c.cut.ensures.heads c.splice.ensures.net c.splice.ensures.lists c.splice.ensures.heads in
    let values : c.splice.new.self.values ≡ i.rows.values = c.splice.ensures.values ∙ c.cut.ensures.values in
    let wide : cap ≤ vec_capacity c.pop.new.self = omega (arith, c.pop.ensures.capacity) in
    (held-more v v (i.count - count) i.built i.len cap (vec_capacity c.pop.new.self) us us k.0 refl refl wide, ap length values ∙ as_many)

pub returns-in-Taken-clause-after : goal.returns-in-Taken-clause-after
returns-in-Taken-clause-after c =
    let i = c.self.inside in
    let s = i.rows.net in
    let items = c.pop.new.self.items in
    let us = reverse items in
    let cap = vec_capacity i.undo in
    let as_many : length i.rows.values ≡ i.len = c.self.invariant.1 in
    let r = c.in-Taken.row.0 in
    let f : reverse i.undo.items ≡ kept.Taken c.in-Taken.row ∷ us = kept-first items i.undo.items (kept.Taken c.in-Taken.row) (c.in_ok-row.ensures.items ∙ ap (λ u. items ++ u ∷ []) c.in-Taken.is) in
    let h : IsHeld s i.count i.built i.len cap (kept.Taken c.in-Taken.row ∷ us) = subst (λ v. IsHeld s i.count i.built i.len cap v) f c.self.invariant.0 in
    let t = c.relink.new.self.net in
    let e : t ≡ relinked (3 + r) s = subst (λ k. t ≡ relinked (k + r) s) h.lists.heads c.relink.ensures.net in
    let g : CanRelink s (3 + r) → Relinks s (3 + r) t = subst (λ k. CanRelink s (k + r) → Relinks s (k + r) t) h.lists.heads c.relink.ensures.lists in
    let k = back-held s t i.count i.built i.len cap i.rows.values us c.in-Taken.row h e (g (back-can s t i.count i.built i.len cap i.rows.values us c.in-Taken.row h)) c.relink.ensures.heads (nodes-relinked s t (3 + r) e) in
    let a : seen s i.count i.built i.rows.values (kept.Taken c.in-Taken.row ∷ us) ≡ c.args.self.now = ap (λ v. seen s i.count i.built i.rows.values v) (sym f) ∙ c.self.view_is in
    seen-same t (i.count + 1) i.built i.rows.values c.relink.new.self.values us us c.relink.ensures.values refl ∙ (k.1 ∙ ap (λ v. undone v) a)

pub returns-in-Taken-clause-row : goal.returns-in-Taken-clause-row
returns-in-Taken-clause-row c =
    let i = c.self.inside in
    let s = i.rows.net in
    let items = c.pop.new.self.items in
    let us = reverse items in
    let cap = vec_capacity i.undo in
    let as_many : length i.rows.values ≡ i.len = c.self.invariant.1 in
    let r = c.in-Taken.row.0 in
    let f : reverse i.undo.items ≡ kept.Taken c.in-Taken.row ∷ us = kept-first items i.undo.items (kept.Taken c.in-Taken.row) (c.in_ok-row.ensures.items ∙ ap (λ u. items ++ u ∷ []) c.in-Taken.is) in
    let h : IsHeld s i.count i.built i.len cap (kept.Taken c.in-Taken.row ∷ us) = subst (λ v. IsHeld s i.count i.built i.len cap v) f c.self.invariant.0 in
    let a : seen s i.count i.built i.rows.values (kept.Taken c.in-Taken.row ∷ us) ≡ c.args.self.now = ap (λ v. seen s i.count i.built i.rows.values v) (sym f) ∙ c.self.view_is in
    ap (λ v. last_taken v.steps) a

pub returns-in-Put-clause-after : goal.returns-in-Put-clause-after
returns-in-Put-clause-after c =
    let i = c.self.inside in
    let s = i.rows.net in
    let items = c.pop.new.self.items in
    let us = reverse items in
    let cap = vec_capacity i.undo in
    let as_many : length i.rows.values ≡ i.len = c.self.invariant.1 in
    let first = c.in-Put.first in
    let count = c.in-Put.count in
    let f : reverse i.undo.items ≡ kept.Put first count ∷ us = kept-first items i.undo.items (kept.Put first count) (c.in_ok-row.ensures.items ∙ ap (λ u. items ++ u ∷ []) c.in-Put.is) in
    let h : IsHeld s i.count i.built i.len cap (kept.Put first count ∷ us) = subst (λ v. IsHeld s i.count i.built i.len cap v) f c.self.invariant.0 in
    let none : i.built ≡ 0 = ap (λ v. v.built) c.self.view_is ∙ c.requires in
    let last = first + (count - 1) in
    let t = c.cut.new.self.net in
    let v = c.splice.new.self.net in
    let e : t ≡ cut_out (3 + first) (3 + last) 1 s = subst (λ k. t ≡ cut_out (k + first) (k + last) 1 s) h.lists.heads c.cut.ensures.net in
    let g : Cuts s (3 + first) (3 + last) 1 t = subst (λ k. Cuts s (k + first) (k + last) 1 t) h.lists.heads c.cut.ensures.lists in
    let k = put-undone s t v i.count i.built i.len cap i.rows.values us first count h none e g c.cut.ensures.heads c.splice.ensures.net c.splice.ensures.lists c.splice.ensures.heads in
    let values : c.splice.new.self.values ≡ i.rows.values = c.splice.ensures.values ∙ c.cut.ensures.values in
    let a : seen s i.count i.built i.rows.values (kept.Put first count ∷ us) ≡ c.args.self.now = ap (λ v. seen s i.count i.built i.rows.values v) (sym f) ∙ c.self.view_is in
    seen-same v (i.count - count) i.built i.rows.values c.splice.new.self.values us us values refl ∙ (k.1 ∙ ap (λ w. undone w) a)

pub returns-in-Put-clause-row : goal.returns-in-Put-clause-row
returns-in-Put-clause-row c =
    let i = c.self.inside in
    let s = i.rows.net in
    let items = c.pop.new.self.items in
    let us = reverse items in
    let cap = vec_capacity i.undo in
    let as_many : length i.rows.values ≡ i.len = c.self.invariant.1 in
    let first = c.in-Put.first in
    let count = c.in-Put.count in
    let f : reverse i.undo.items ≡ kept.Put first count ∷ us = kept-first items i.undo.items (kept.Put first count) (c.in_ok-row.ensures.items ∙ ap (λ u. items ++ u ∷ []) c.in-Put.is) in
    let h : IsHeld s i.count i.built i.len cap (kept.Put first count ∷ us) = subst (λ v. IsHeld s i.count i.built i.len cap v) f c.self.invariant.0 in
    let none : i.built ≡ 0 = ap (λ v. v.built) c.self.view_is ∙ c.requires in
    let a : seen s i.count i.built i.rows.values (kept.Put first count ∷ us) ≡ c.args.self.now = ap (λ v. seen s i.count i.built i.rows.values v) (sym f) ∙ c.self.view_is in
    ap (λ v. last_taken v.steps) a
