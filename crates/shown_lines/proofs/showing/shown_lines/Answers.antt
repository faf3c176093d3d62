use Rattle.std.proofs.Common.{◌≡◌, ◌+◌, ◌++◌, ℕ, List, ap, sym, ◌∙◌, Option, arith}
use Rattle.std.specs.Option.{option_map}
use Rattle.mark_table.specs.PathMarks.{PathMarks}
use Rattle.omit_rules.specs.Omitters.{rules_of}
use Rattle.omit_rules.specs.declared.rules.Rules.{Rules}
use Rattle.section_buffer.specs.declared.section.Section.{Section}
use Rattle.shown_lines.specs.declared.entry.Entry.{Entry}
use Rattle.shown_lines.specs.Shown.{height, shown, shown_in}
use Rattle.shown_lines.proofs.SectionLemmas.{heights, heights-more, shown-more}
use Rattle.shown_lines.proofs.showing.shown_lines.Goals as goal

pub loop-section-preserved : goal.loop-section-preserved
loop-section-preserved c =
    let rules : Option Rules = option_map (λ rules. rules.now) c.args.omitting in
    let had : Option Rules = option_map rules_of c.loop-section.omitter in
    let marks : PathMarks = c.args.marks.now.marks in
    let section : Section = c.in-Some.section in
    let sections : List Section = c.loop-section.yielded in
    let at : ℕ = c.loop-section.number in
    let so_far : List Entry = shown rules marks sections in
    let next : (2 + heights rules marks sections) + height rules marks section ≡ 2 + (heights rules marks sections + height rules marks section) = omega arith in
    record {
      entries = c.in_ok-number.ensures.entries
          ∙ (ap (λ (es : List Entry). es ++ shown_in had marks at section) c.loop-section.invariant.entries
          ∙ (ap (λ (r : Option Rules). so_far ++ shown_in r marks at section) c.loop-section.invariant.same
          ∙ (ap (λ n. so_far ++ shown_in rules marks n section) c.loop-section.invariant.number ∙ sym (shown-more rules marks 2 sections section))));
      number = c.in_ok-number.ensures.number
          ∙ (ap (λ (r : Option Rules). at + height r marks section) c.loop-section.invariant.same
          ∙ (ap (λ n. n + height rules marks section) c.loop-section.invariant.number ∙ (next ∙ ap (λ n. 2 + n) (sym (heights-more rules marks sections section)))));
      same = c.push_section.ensures.same ∙ c.loop-section.invariant.same;
    }
