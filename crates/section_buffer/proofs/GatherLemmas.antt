-- Lines and sections that are gathered row by row.
use Rattle.std.proofs.Common.{◌≡◌, ℕ, List, [], ◌∷◌, ◌++◌, length, drop, refl, ap, sym, ◌∙◌, Contains, get_or, Bool}
use Rattle.link_rows.specs.Net.{AllBelow}
use Rattle.dired_text.specs.Paths.{Names}
use Rattle.listing_text.specs.declared.line.Line.{Line as line_type}
use Rattle.section_rows.specs.declared.row.BufferRow.{BufferRow}
use Rattle.section_rows.specs.declared.row.BufferRow.TheVariants.{Head, Line}
use Rattle.section_rows.specs.Orders.{Ordered, from_row, values_in}
use Rattle.section_buffer.specs.Rows.{lines_of, sections_of}
use Rattle.section_buffer.specs.Held.{first_section}
use Rattle.section_buffer.proofs.FindLemmas.{from-some, rest-values}

section-step : (v : BufferRow) (rows : List BufferRow) → sections_of (v ∷ rows) ≡ first_section v rows ++ sections_of rows
section-step (Head dir hidden) rows = refl
section-step (Line line) rows = refl

module _ (o : Ordered) (r : ℕ) (v : BufferRow) (b : AllBelow (length o.values) o.order) (c : Contains o.order r) (e : v ≡ get_or o.values r v) where
  abbrev rest : List BufferRow
  rest = values_in o.values (drop 1 (from_row r o.order))

  pub from-values : values_in o.values (from_row r o.order) ≡ v ∷ rest
  from-values =
      let k = from-some o.order r c in
      ap (values_in o.values) k.1 ∙ (rest-values o r v k.0 b c e ∙ ap (λ x. v ∷ values_in o.values (drop 1 x)) (sym k.1))

  pub lines-next : (line : line_type) → v ≡ Line line → lines_of (values_in o.values (from_row r o.order)) ≡ line ∷ lines_of rest
  lines-next line is = ap lines_of (from-values ∙ ap (λ w. w ∷ rest) is)

  pub lines-end : (dir : Names) (hidden : Bool) → v ≡ Head dir hidden → lines_of (values_in o.values (from_row r o.order)) ≡ []
  lines-end dir hidden is = ap lines_of (from-values ∙ ap (λ w. w ∷ rest) is)

  pub sections-next : sections_of (values_in o.values (from_row r o.order)) ≡ first_section v rest ++ sections_of rest
  sections-next = ap sections_of from-values ∙ section-step v rest
