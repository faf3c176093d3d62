use Rattle.std.proofs.Common.{◌≡◌, ◌∙◌, ◌++◌, ◌∷◌, [], Bool, ap, sym, rules, is_some}
use Rattle.std.specs.FinMap.{get}
use Rattle.dired_text.specs.Paths.{Names}
use Rattle.section_buffer.proofs.PrintLemmas.{lines-none, lines-some}
use Rattle.section_buffer.proofs.printing.printed_lines.Goals as goal

pub loop-line-preserved-in-Continue-branch-3 : goal.loop-line-preserved-in-Continue-branch-3
loop-line-preserved-in-Continue-branch-3 c =
    let listed = c.in-Some-2.listed in
    let omitted : Names → Bool = λ p. is_some (get c.args.omitted.now.marks p) in
    let pushed : c.push.new.self.items ≡ c.loop-line.shown.items ++ listed ∷ [] = search rules in
    pushed
    ∙ (ap (λ xs. xs ++ listed ∷ []) c.loop-line.invariant
    ∙ sym (lines-some c.args.marks.now.marks omitted c.args.dir.now c.loop-line.yielded c.in-Some.line listed (sym c.in-Some-2.is ∙ c.in_ok-listed.ensures)))

pub loop-line-preserved : goal.loop-line-preserved
loop-line-preserved c =
    let omitted : Names → Bool = λ p. is_some (get c.args.omitted.now.marks p) in
    c.loop-line.invariant ∙ sym (lines-none c.args.marks.now.marks omitted c.args.dir.now c.loop-line.yielded c.in-Some.line (sym c.in_default.is ∙ c.in_ok-listed.ensures))
