use Rattle.std.proofs.Common.{◌∙◌, ◌&&◌, not, List, [], ◌∷◌, sym, ap}
use Rattle.std.specs.Option.{option_map}
use Rattle.section_rows.specs.declared.row.BufferRow.{BufferRow}
use Rattle.section_buffer.specs.Held.{head_value}
use Rattle.section_buffer.specs.Places.{is_line_of}
use Rattle.section_buffer.proofs.FindLemmas.{shown-by, shown-head}
use Rattle.section_buffer.proofs.finding.is_shown_at.Goals as goal

pub returns-then-not-hidden : goal.returns-then-not-hidden
returns-then-not-hidden c =
    let values = c.args.rows.now.values in
    let v : BufferRow = c.get.result.now in
    let hs : List BufferRow = head_value values (option_map (λ row. row.0) c.args.head) in
    let e = shown-head values c.args.head c.in-Some.head v c.requires c.in-Some.is c.get.ensures in
    let line = is_line_of c.args.path.now c.in-Head.dir c.args.line.now in
    c.is_line_of.ensures ∙ sym (shown-by c.args.path.now hs c.args.line.now _ (e ∙ ap (λ w. w ∷ []) c.in-Head.is) ∙ ap (λ b. not b && line) c.if-not-hidden.true)

pub returns-else-not-hidden : goal.returns-else-not-hidden
returns-else-not-hidden c =
    let values = c.args.rows.now.values in
    let v : BufferRow = c.get.result.now in
    let hs : List BufferRow = head_value values (option_map (λ row. row.0) c.args.head) in
    let e = shown-head values c.args.head c.in-Some.head v c.requires c.in-Some.is c.get.ensures in
    let line = is_line_of c.args.path.now c.in-Head.dir c.args.line.now in
    ap not c.if-not-hidden.false ∙ sym (shown-by c.args.path.now hs c.args.line.now _ (e ∙ ap (λ w. w ∷ []) c.in-Head.is) ∙ ap (λ b. not b && line) c.if-not-hidden.false)

pub returns-in-Line : goal.returns-in-Line
returns-in-Line c =
    let values = c.args.rows.now.values in
    let v : BufferRow = c.get.result.now in
    let hs : List BufferRow = head_value values (option_map (λ row. row.0) c.args.head) in
    let e = shown-head values c.args.head c.in-Some.head v c.requires c.in-Some.is c.get.ensures in
    sym (shown-by c.args.path.now hs c.args.line.now _ (e ∙ ap (λ w. w ∷ []) c.in-Line.is))
