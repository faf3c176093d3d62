use Rattle.std.proofs.Common.{◌≡◌, ◌∙◌, ◌++◌, ◌∷◌, [], Bool, ap, rules, is_some}
use Rattle.std.specs.FinMap.{get}
use Rattle.dired_text.specs.Paths.{Names}
use Rattle.section_buffer.specs.Printed.{section_printed}
use Rattle.section_buffer.proofs.PrintLemmas.{printed-more}
use Rattle.section_buffer.proofs.printing.text_without.Goals as goal

pub loop-section-preserved : goal.loop-section-preserved
loop-section-preserved c =
    let marks = c.args.marks.now.marks in
    let omitted : Names → Bool = λ p. is_some (get c.args.omitted.now.marks p) in
    let section = c.in-Some.section in
    let added : c.push_section.new.text.items ≡ (c.loop-section.text.items ++ 10 ∷ []) ++ section_printed marks omitted section = search rules in
    added ∙ (ap (λ text. (text ++ 10 ∷ []) ++ section_printed marks omitted section) c.loop-section.invariant ∙ printed-more marks omitted c.loop-section.yielded section)
