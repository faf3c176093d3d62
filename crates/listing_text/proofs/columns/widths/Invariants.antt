use Rattle.std.proofs.Common.{◌≡◌, drop, max, decimal}
use Rattle.listing_text.specs.declared.line.Line.{Line}
use Rattle.listing_text.specs.Listed.{width_of}
use Rattle.listing_text.proofs.columns.widths.Given as goal

abbrev pub invariant-loop-line : goal.invariant-loop-line
invariant-loop-line l = record {
  links : width_of (λ (line : Line). decimal line.links) l.lines ≡ max l.widths.links (width_of (λ (line : Line). decimal line.links) (drop l.line-index l.lines));
  owner : width_of (λ (line : Line). line.owner) l.lines ≡ max l.widths.owner (width_of (λ (line : Line). line.owner) (drop l.line-index l.lines));
  group : width_of (λ (line : Line). line.group) l.lines ≡ max l.widths.group (width_of (λ (line : Line). line.group) (drop l.line-index l.lines));
  size : width_of (λ (line : Line). decimal line.size) l.lines ≡ max l.widths.size (width_of (λ (line : Line). decimal line.size) (drop l.line-index l.lines));
}
