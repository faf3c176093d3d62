use Rattle.std.proofs.Common.{◌≡◌, List, ℕ, length, min, max, ◌∙◌, ap, decimal}
use Rattle.listing_text.specs.declared.line.Line.{Line}
use Rattle.listing_text.specs.Listed.{widths_of}
use Rattle.listing_text.proofs.ColumnLemmas.{width-step, width-end}
use Rattle.listing_text.proofs.columns.widths.Goals as goal

-- a width as a function made it, of a length that another gave
measured : (w w₂ n : ℕ) (text : List ℕ) → w₂ ≡ max w (min n 255) → n ≡ length text → w₂ ≡ max w (min (length text) 255)
measured w w₂ n text e k = e ∙ ap (λ m. max w (min m 255)) k

measured-number : (w w₂ n number links : ℕ) → w₂ ≡ max w (min n 255) → n ≡ length (decimal number) → number ≡ links → w₂ ≡ max w (min (length (decimal links)) 255)
measured-number w w₂ n number links e k same = measured w w₂ n (decimal links) e (k ∙ ap (λ m. length (decimal m)) same)

pub loop-line-preserved : goal.loop-line-preserved
loop-line-preserved c =
    let lines = c.args.lines.now in
    let i = c.loop-line.line-index in
    let x = c.loop-line-item.result in
    record {
      links = width-step (λ (line : Line). decimal line.links) lines i c.loop-line.widths.links c.wider.result x c.loop-line-test.true c.loop-line-item.is (measured-number _ _ _ _ _ c.wider.ensures c.decimal_len.ensures c.from.ensures) c.loop-line.invariant.links;
      owner = width-step (λ (line : Line). line.owner) lines i c.loop-line.widths.owner c.wider-in-loop-line.result x c.loop-line-test.true c.loop-line-item.is (measured _ _ _ _ c.wider-in-loop-line.ensures (ap length c.as_str.ensures)) c.loop-line.invariant.owner;
      group = width-step (λ (line : Line). line.group) lines i c.loop-line.widths.group c.wider-in-loop-line-2.result x c.loop-line-test.true c.loop-line-item.is (measured _ _ _ _ c.wider-in-loop-line-2.ensures (ap length c.as_str-in-loop-line.ensures)) c.loop-line.invariant.group;
      size = width-step (λ (line : Line). decimal line.size) lines i c.loop-line.widths.size c.wider-in-loop-line-3.result x c.loop-line-test.true c.loop-line-item.is (measured _ _ _ _ c.wider-in-loop-line-3.ensures c.decimal_len-in-loop-line.ensures) c.loop-line.invariant.size;
    }

pub returns : goal.returns
unfolding widths_of
returns c =
    let lines = c.args.lines.now in
    let i = c.loop-line.line-index in
    let past = c.loop-line-test.false in
    let links = width-end (λ (line : Line). decimal line.links) lines i c.loop-line.widths.links past c.loop-line.invariant.links in
    let owner = width-end (λ (line : Line). line.owner) lines i c.loop-line.widths.owner past c.loop-line.invariant.owner in
    let group = width-end (λ (line : Line). line.group) lines i c.loop-line.widths.group past c.loop-line.invariant.group in
    let size = width-end (λ (line : Line). decimal line.size) lines i c.loop-line.widths.size past c.loop-line.invariant.size in
    λ k. record { links = links k; owner = owner k; group = group k; size = size k }
