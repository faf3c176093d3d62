use Rattle.std.proofs.Common.{◌≡◌, ◌+◌, ◌++◌, ◌∷◌, [], drop, sym, ◌∙◌, ap, rules, append-nil}
use Rattle.listing_text.specs.Listed.{lines_text, line_text_of}
use Rattle.listing_text.proofs.ColumnLemmas.{lines-step, lines-end, with-newline}
use Rattle.listing_text.proofs.writing.push_lines.Goals as goal

pub loop-mark-preserved : goal.loop-mark-preserved
loop-mark-preserved c =
    let widths = c.args.widths.now in
    let lines = c.args.lines.now in
    let i = c.loop-mark.mark-index in
    let x = c.loop-mark-item.result in
    let old = c.loop-mark.text.items in
    let line : c.push_line.new.text.items ≡ old ++ line_text_of x.0 x.1 widths = search rules in
    let pushed : c.push.new.self.items ≡ c.push_line.new.text.items ++ 10 ∷ [] = search rules in
    let rest = lines_text widths (drop (i + 1) lines) in
    ap (λ t. t ++ rest) (pushed ∙ ap (λ t. t ++ 10 ∷ []) line)
    ∙ with-newline old (line_text_of x.0 x.1 widths) rest
    ∙ ap (λ t. old ++ t) (sym (lines-step widths lines i x c.loop-mark-test.true c.loop-mark-item.is))
    ∙ c.loop-mark.invariant

pub returns : goal.returns
returns c =
    let old = c.loop-mark.text.items in
    sym (append-nil old) ∙ ap (λ t. old ++ t) (sym (lines-end c.args.widths.now c.args.lines.now c.loop-mark.mark-index c.loop-mark-test.false)) ∙ c.loop-mark.invariant
