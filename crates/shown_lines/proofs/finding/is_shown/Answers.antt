use Rattle.std.proofs.Common.{◌≡◌, Bool, true, false, not, ◌&&◌, List, IfOk, subst, ap, sym, ◌∙◌, Option}
use Rattle.std.specs.List.{list_any}
use Rattle.std.specs.Option.{option_map}
use Rattle.dired_text.specs.Paths.{Names}
use Rattle.mark_table.specs.PathMarks.{PathMarks}
use Rattle.omit_rules.specs.declared.rules.Rules.{Rules}
use Rattle.section_buffer.specs.declared.section.Section.{Section}
use Rattle.shown_lines.specs.Chosen.{has_path}
use Rattle.shown_lines.specs.Found.{is_in}
use Rattle.shown_lines.specs.Shown.{omits, shown}
use Rattle.shown_lines.proofs.FoundLemmas.{found}
use Rattle.shown_lines.proofs.finding.is_shown.Goals as goal

pub returns-then-is_omitted : goal.returns-then-is_omitted
returns-then-is_omitted c =
    let omitting : Option Rules = option_map (λ rules. rules.now) c.args.omitting in
    let marks : PathMarks = c.args.marks.now.marks in
    let path : Names = c.args.path.now in
    let sections : List Section = c.args.buffer.now.sections in
    let gone : omits omitting marks path ≡ true =
    ap (λ (r : Option Rules). omits r marks path) (sym c.in_ok-omitter.ensures) ∙ (sym c.is_omitted.ensures.omitted ∙ c.if-is_omitted.true) in
    sym (found path omitting marks sections ∙ ap (λ (b : Bool). not b && list_any (is_in path) sections) gone)

pub returns : goal.returns
returns c =
    let omitting : Option Rules = option_map (λ rules. rules.now) c.args.omitting in
    let marks : PathMarks = c.args.marks.now.marks in
    let path : Names = c.args.path.now in
    let sections : List Section = c.args.buffer.now.sections in
    let stays : omits omitting marks path ≡ false =
    ap (λ (r : Option Rules). omits r marks path) (sym c.in_ok-omitter.ensures) ∙ (sym c.is_omitted.ensures.omitted ∙ c.if-is_omitted.false) in
    let same : list_any (is_in path) c.deref.result.now ≡ has_path path (shown omitting marks sections) =
    ap (list_any (is_in path)) (c.deref.ensures.value ∙ c.in_ok-sections.ensures)
    ∙ sym (found path omitting marks sections ∙ ap (λ (b : Bool). not b && list_any (is_in path) sections) stays) in
    subst (λ (b : Bool). IfOk c.any_shows.result (λ is_shown. is_shown ≡ b)) same c.any_shows.ensures
