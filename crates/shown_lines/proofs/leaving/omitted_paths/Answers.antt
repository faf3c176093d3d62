use Rattle.std.proofs.Common.{◌≡◌, List, ap, ◌∙◌, Option}
use Rattle.std.proofs.lemmas.Result.{IfOk-weaker}
use Rattle.std.specs.Option.{option_map}
use Rattle.dired_text.specs.Paths.{Names}
use Rattle.mark_table.specs.PathMarks.{PathMarks, is_among}
use Rattle.omit_rules.specs.declared.rules.Rules.{Rules}
use Rattle.section_buffer.specs.Printed.{printed}
use Rattle.section_buffer.specs.declared.section.Section.{Section}
use Rattle.shown_lines.specs.Omitted.{omitted_of}
use Rattle.shown_lines.specs.Shown.{omits}
use Rattle.shown_lines.proofs.OmittedLemmas.{printed-omitted}
use Rattle.shown_lines.proofs.leaving.omitted_paths.Goals as goal

pub returns-clause-printed : goal.returns-clause-printed
returns-clause-printed c =
    let omitting : Option Rules = option_map (λ rules. rules.now) c.args.omitting in
    let marks : PathMarks = c.args.marks.now.marks in
    let sections : List Section = c.args.buffer.now.sections in
    let own : List Section = c.in_ok-sections.sections.items in
    IfOk-weaker c.paths_of.result (λ paths. paths.items ≡ omitted_of omitting marks own)
    (λ paths. printed marks (λ p. is_among p paths.items) sections ≡ printed marks (omits omitting marks) sections)
    (λ paths is. ap (λ (ps : List Names). printed marks (λ p. is_among p ps) sections) (is ∙ ap (omitted_of omitting marks) c.in_ok-sections.ensures) ∙ printed-omitted omitting marks sections)
    c.paths_of.ensures
