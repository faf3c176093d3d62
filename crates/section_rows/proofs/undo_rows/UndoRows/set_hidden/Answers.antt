use Rattle.std.proofs.Common.{◌≡◌, ◌-◌, ◌<◌, ◌∙◌, ap, sym, subst, reverse, length, vec_capacity}
use Rattle.std.proofs.lemmas.List.{length-set}
use Rattle.std.proofs.Common.{ℕ, get_or}
use Rattle.std.proofs.Math.ListN.{set}
use Rattle.section_rows.specs.declared.row.BufferRow.{BufferRow}
use Rattle.section_rows.specs.declared.row.BufferRow.TheVariants.{Head, Line}
use Rattle.section_rows.specs.declared.undo_rows.UndoRows.TheInside.{Inside}
use Rattle.section_rows.specs.Orders.{Ordered, with_hidden, with_value}
use Rattle.section_rows.specs.Kept.{IsHeld, seen}
use Rattle.section_rows.proofs.StepLemmas.{value-changed}
use Rattle.section_rows.proofs.undo_rows.UndoRows.set_hidden.Goals as goal
use Rattle.section_rows.proofs.undo_rows.UndoRows.set_hidden.Goals.{in-Head, in-Line}

abbrev Holds : Inside → Type 0
Holds z = IsHeld z.rows.net z.count z.built z.len (vec_capacity z.undo) (reverse z.undo.items) × (length z.rows.values ≡ z.len)

abbrev shown : Inside → Ordered
shown z = seen z.rows.net z.count z.built z.rows.values (reverse z.undo.items)

abbrev changed_in : (BufferRow → BufferRow) → ℕ → Ordered → Ordered
changed_in f row v = record { order = v.order; built = v.built; values = with_value f row v.values; steps = v.steps }

pub get_mut-requires : goal.get_mut-requires
get_mut-requires c = subst (λ v. c.args.row.0 < length v.values) (sym c.self.view_is) c.requires

pub invariant_of-self : goal.invariant_of-self
invariant_of-self c = elim c.match-get_mut.branch [
  | in-Head w ↦ subst Holds (sym w.self-inside-is) (c.self.invariant.0, length-set c.self.inside.rows.values c.args.row.0 (Head w.in-Head.dir c.args.hidden) ∙ c.self.invariant.1)
  | in-Line w ↦ subst Holds (sym w.self-inside-is) (c.self.invariant.0, length-set c.self.inside.rows.values c.args.row.0 c.get_mut.result.now ∙ c.self.invariant.1)
]

pub returns : goal.returns
returns c =
    let i = c.self.inside in
    let values = i.rows.values in
    let row = c.args.row.0 in
    let us = reverse i.undo.items in
    let f : BufferRow → BufferRow = λ v. with_hidden c.args.hidden v in
    let below : row < length values = subst (λ v. row < length v.values) (sym c.self.view_is) c.requires in
    let changed : set values row (f (get_or values row c.get_mut.result.now)) ≡ with_value f row values = value-changed f values row c.get_mut.result.now below in
    let end = ap (λ v. changed_in f row v) c.self.view_is in
    elim c.match-get_mut.branch [
      | in-Head w ↦
          let e : get_or values row c.get_mut.result.now ≡ Head w.in-Head.dir w.in-Head.was = sym c.get_mut.ensures.value ∙ w.in-Head.is in
          let g : set values row (Head w.in-Head.dir c.args.hidden) ≡ with_value f row values = sym (ap (λ v. set values row (f v)) e) ∙ changed in
          ap shown w.self-inside-is ∙ (ap (λ vs. seen i.rows.net i.count i.built vs us) g ∙ end)
      | in-Line w ↦
          let e : get_or values row c.get_mut.result.now ≡ Line w.in-Line.field-0 = sym c.get_mut.ensures.value ∙ w.in-Line.is in
          let g : set values row c.get_mut.result.now ≡ with_value f row values = ap (λ v. set values row v) w.in-Line.is ∙ (sym (ap (λ v. set values row (f v)) e) ∙ changed) in
          ap shown w.self-inside-is ∙ (ap (λ vs. seen i.rows.net i.count i.built vs us) g ∙ end)
    ]
