use Rattle.std.proofs.Common.{◌≡◌, ◌+◌, ◌-◌, ◌≤◌, ◌∙◌, ◌∷◌, ◌++◌, [], suc, ap, sym, subst, refl, reverse, arith, length, vec_capacity, vec_len, IfOk, OnOk, OnErr, is_err, false}
use Rattle.std.proofs.lemmas.List.{length-reverse, length_push}
use Rattle.link_rows.specs.Net.{AllBelow, IsList, Pushes, nodes, pushed}
use Rattle.section_rows.specs.Orders.{pushed_row, run}
use Rattle.section_rows.specs.Kept.{IsHeld, nodes_of}
use Rattle.section_rows.proofs.OrderLemmas.{run-below}
use Rattle.section_rows.proofs.StepLemmas.{held-more, nodes-pushed, on-ok, seen-equal, seen-same}
use Rattle.section_rows.proofs.PushLemmas.{new-node, pushed-one}
use Rattle.section_rows.proofs.undo_rows.UndoRows.push.Goals as goal
use Rattle.section_rows.proofs.undo_rows.UndoRows.push.Goals.{in-Err, in-Ok}

pub overflow_add-self-inside : goal.overflow_add-self-inside
overflow_add-self-inside c =
    let i = c.self.inside in
    let room : length (reverse i.undo.items) + i.count + i.built + i.built ≤ vec_capacity i.undo = c.self.invariant.0.room in
    omega (arith, i.undo.small)

pub overflow_add-self-inside-2 : goal.overflow_add-self-inside-2
overflow_add-self-inside-2 c =
    let i = c.self.inside in
    let room : length (reverse i.undo.items) + i.count + i.built + i.built ≤ vec_capacity i.undo = c.self.invariant.0.room in
    omega (arith, i.undo.small)

pub invariant_of-self : goal.invariant_of-self
invariant_of-self c =
    let i = c.self.inside in
    (held-more i.rows.net i.rows.net i.count i.built i.len (vec_capacity i.undo) (vec_capacity c.reserve.new.self) (reverse i.undo.items) (reverse c.reserve.new.self.items) c.self.invariant.0 refl (ap reverse c.reserve.ensures.items) c.reserve.ensures.capacity, c.self.invariant.1)

pub returns-then-is_err-clause-err : goal.returns-then-is_err-clause-err
returns-then-is_err-clause-err c =
    let i = c.self.inside in
    seen-same i.rows.net i.count i.built i.rows.values i.rows.values (reverse i.undo.items) (reverse c.reserve.new.self.items) refl (ap reverse c.reserve.ensures.items) ∙ c.self.view_is

pub push_back-requires-clause-made : goal.push_back-requires-clause-made
push_back-requires-clause-made c = omega (arith, c.self.invariant.0.lists.heads)

pub push_back-requires-clause-few : goal.push_back-requires-clause-few
push_back-requires-clause-few c = omega (arith, c.self.invariant.1)

pub invariant_of-self-in-Err : goal.invariant_of-self-in-Err
invariant_of-self-in-Err c =
    let i = c.self.inside in
    let wide : vec_capacity i.undo ≤ vec_capacity c.reserve.new.self = c.reserve.ensures.capacity in
    let values : c.push_back.new.self.values ≡ i.rows.values = c.in-Err.ensures.values in
    (held-more i.rows.net c.push_back.new.self.net i.count i.built i.len (vec_capacity i.undo) (vec_capacity c.reserve.new.self) (reverse i.undo.items) (reverse c.reserve.new.self.items) c.self.invariant.0 c.in-Err.ensures.refused (ap reverse c.reserve.ensures.items) wide, ap length values ∙ c.self.invariant.1)

pub overflow_add-self : goal.overflow_add-self
overflow_add-self c = omega arith

pub overflow_add-self-in-Ok : goal.overflow_add-self-in-Ok
overflow_add-self-in-Ok c = omega (arith, c.self.invariant.0.few)

pub invariant_of-self-in-Ok : goal.invariant_of-self-in-Ok
invariant_of-self-in-Ok c =
    let i = c.self.inside in
    let s = i.rows.net in
    let t = c.push_back.new.self.net in
    let h = c.self.invariant.0 in
    let us = reverse i.undo.items in
    let rows = run (i.len - i.built) i.built in
    let as_many : length i.rows.values ≡ i.len = c.self.invariant.1 in
    let e : t ≡ pushed 1 s = c.in-Ok.ensures.net in
    let p : Pushes s 1 t = c.in-Ok.ensures.lists in
    let below : AllBelow (length i.rows.values) rows = run-below (i.len - i.built) i.built (length i.rows.values) (omega (arith, h.few)) in
    let j : IsList (pushed 1 s) 1 (nodes_of rows ++ nodes s ∷ []) = subst (λ w. IsList w 1 (nodes_of rows ++ nodes s ∷ [])) e (p (nodes_of rows) h.lists.new).0 in
    let n : nodes s ≡ 3 + i.len = new-node i.rows rows h.lists.heads h.lists.new below c.a_list_is_of_values.ensures.pushed j ∙ ap (λ k. 3 + k) as_many in
    let ok : vec_len c.reserve.new.self + (i.count + (i.built + 1) + (i.built + 1)) ≤ vec_capacity c.reserve.new.self = on-ok c.reserve.result (vec_len c.reserve.new.self + (i.count + (i.built + 1) + (i.built + 1)) ≤ vec_capacity c.reserve.new.self) (sym c.is_err.ensures.value ∙ c.if-is_err.false) c.reserve.ensures.ok in
    let m : length us ≡ length i.undo.items = length-reverse i.undo.items in
    let same_len : vec_len c.reserve.new.self ≡ vec_len i.undo = c.reserve.ensures.len in
    let wide : length us + (i.count + (suc i.built + suc i.built)) ≤ vec_capacity c.reserve.new.self = omega (arith, i.undo.ok.0) in
    let k = pushed-one s t i.count i.built i.len (vec_capacity i.undo) (vec_capacity c.reserve.new.self) i.rows.values c.args.value us h n e p c.an_unlinked_row_keeps_its_neighbours.ensures.push c.push_back.ensures.heads (nodes-pushed s t 1 e) wide in
    let f : reverse c.reserve.new.self.items ≡ us = ap reverse c.reserve.ensures.items in
    let values : c.push_back.new.self.values ≡ i.rows.values ++ c.args.value ∷ [] = c.in-Ok.ensures.values in
    (subst (λ v. IsHeld t i.count (i.built + 1) (i.len + 1) (vec_capacity c.reserve.new.self) v) (sym f) k.0, ap length values ∙ (length_push i.rows.values c.args.value ∙ ap (λ x. x + 1) as_many))

pub returns-clause-row : goal.returns-clause-row
returns-clause-row c = elim c.match-push_back.branch [
  | in-Err w ↦ subst (λ r. IfOk r (λ row. row.0 ≡ length c.args.self.now.values)) (sym w.result-is) tt
  | in-Ok w ↦ subst (λ r. IfOk r (λ row. row.0 ≡ length c.args.self.now.values)) (sym w.result-is) (w.in-Ok.ensures.row ∙ ap (λ v. length v.values) c.self.view_is)
]

pub returns-clause-ok : goal.returns-clause-ok
returns-clause-ok c = elim c.match-push_back.branch [
  | in-Err w ↦ subst (λ r. OnOk r (c.match-push_back.self ≡ pushed_row c.args.value c.args.self.now)) (sym w.result-is) tt
  | in-Ok w ↦
      let i = c.self.inside in
      let s = i.rows.net in
      let t = c.push_back.new.self.net in
      let h = c.self.invariant.0 in
      let us = reverse i.undo.items in
      let rows = run (i.len - i.built) i.built in
      let as_many : length i.rows.values ≡ i.len = c.self.invariant.1 in
      let e : t ≡ pushed 1 s = w.in-Ok.ensures.net in
      let p : Pushes s 1 t = w.in-Ok.ensures.lists in
      let below : AllBelow (length i.rows.values) rows = run-below (i.len - i.built) i.built (length i.rows.values) (omega (arith, h.few)) in
      let j : IsList (pushed 1 s) 1 (nodes_of rows ++ nodes s ∷ []) = subst (λ w. IsList w 1 (nodes_of rows ++ nodes s ∷ [])) e (p (nodes_of rows) h.lists.new).0 in
      let n : nodes s ≡ 3 + i.len = new-node i.rows rows h.lists.heads h.lists.new below c.a_list_is_of_values.ensures.pushed j ∙ ap (λ k. 3 + k) as_many in
      let ok : vec_len c.reserve.new.self + (i.count + (i.built + 1) + (i.built + 1)) ≤ vec_capacity c.reserve.new.self = on-ok c.reserve.result (vec_len c.reserve.new.self + (i.count + (i.built + 1) + (i.built + 1)) ≤ vec_capacity c.reserve.new.self) (sym c.is_err.ensures.value ∙ c.if-is_err.false) c.reserve.ensures.ok in
      let m : length us ≡ length i.undo.items = length-reverse i.undo.items in
      let same_len : vec_len c.reserve.new.self ≡ vec_len i.undo = c.reserve.ensures.len in
      let wide : length us + (i.count + (suc i.built + suc i.built)) ≤ vec_capacity c.reserve.new.self = omega (arith, i.undo.ok.0) in
      let k = pushed-one s t i.count i.built i.len (vec_capacity i.undo) (vec_capacity c.reserve.new.self) i.rows.values c.args.value us h n e p c.an_unlinked_row_keeps_its_neighbours.ensures.push c.push_back.ensures.heads (nodes-pushed s t 1 e) wide in
      let f : reverse c.reserve.new.self.items ≡ us = ap reverse c.reserve.ensures.items in
      let values : c.push_back.new.self.values ≡ i.rows.values ++ c.args.value ∷ [] = w.in-Ok.ensures.values in
      subst (λ r. OnOk r (c.match-push_back.self ≡ pushed_row c.args.value c.args.self.now)) (sym w.result-is)
      (w.self-is ∙ (seen-same t i.count (i.built + 1) (i.rows.values ++ c.args.value ∷ []) c.push_back.new.self.values us (reverse c.reserve.new.self.items) values f ∙ (k.1 ∙ ap (λ v. pushed_row c.args.value v) c.self.view_is)))
]

pub returns-clause-err : goal.returns-clause-err
returns-clause-err c = elim c.match-push_back.branch [
  | in-Err w ↦
      let i = c.self.inside in
      let values : c.push_back.new.self.values ≡ i.rows.values = w.in-Err.ensures.values in
      subst (λ r. OnErr r (c.match-push_back.self ≡ c.args.self.now)) (sym w.result-is)
      (w.self-is ∙ (seen-equal i.rows.net c.push_back.new.self.net i.count i.built i.rows.values c.push_back.new.self.values (reverse i.undo.items) (reverse c.reserve.new.self.items) w.in-Err.ensures.refused values (ap reverse c.reserve.ensures.items) ∙ c.self.view_is))
  | in-Ok w ↦ subst (λ r. OnErr r (c.match-push_back.self ≡ c.args.self.now)) (sym w.result-is) tt
]
