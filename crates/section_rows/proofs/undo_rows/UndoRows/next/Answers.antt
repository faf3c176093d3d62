use Rattle.std.proofs.Common.{◌≡◌, ◌<◌, ap, arith, length, reverse, Contains, vec_capacity}
use Rattle.std.specs.Option.{option_map}
use Rattle.section_rows.proofs.StepLemmas.{seen-has, taken-below}
use Rattle.section_rows.proofs.WalkLemmas.{next-held, some-row}
use Rattle.section_rows.proofs.undo_rows.UndoRows.next.Goals as goal

pub next-requires : goal.next-requires
next-requires c =
    let i = c.self.inside in
    let us = reverse i.undo.items in
    let m = seen-has i.rows.net i.count i.built i.rows.values us c.args.self.now c.args.row.0 c.self.view_is c.requires in
    let below : c.args.row.0 < i.len = taken-below i.rows.net i.rows.net i.count i.built i.len (vec_capacity i.undo) (vec_capacity i.undo) i.rows.values us c.args.row c.self.invariant.0 m in
    let as_many : length i.rows.values ≡ i.len = c.self.invariant.1 in
    omega arith

pub returns-clause-within : goal.returns-clause-within
returns-clause-within c =
    let i = c.self.inside in
    let f = option_map (λ row. row.0) c.next.result in
    some-row (λ r. Contains c.args.self.now.order r) c.next.result
    (next-held i.rows.net i.count i.built i.len (vec_capacity i.undo) (reverse i.undo.items) c.self.invariant.0 c.args.self.now.order (ap (λ v. v.order) c.self.view_is) c.args.row.0 f c.requires c.next.ensures.row).0

pub returns-clause-rest : goal.returns-clause-rest
returns-clause-rest c =
    let i = c.self.inside in
    let f = option_map (λ row. row.0) c.next.result in
    (next-held i.rows.net i.count i.built i.len (vec_capacity i.undo) (reverse i.undo.items) c.self.invariant.0 c.args.self.now.order (ap (λ v. v.order) c.self.view_is) c.args.row.0 f c.requires c.next.ensures.row).1
