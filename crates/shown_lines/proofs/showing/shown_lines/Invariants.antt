use Rattle.std.proofs.Common.{◌≡◌, ◌+◌}
use Rattle.std.specs.Option.{option_map}
use Rattle.omit_rules.specs.Omitters.{rules_of}
use Rattle.shown_lines.specs.Shown.{shown}
use Rattle.shown_lines.proofs.SectionLemmas.{heights}
use Rattle.shown_lines.proofs.showing.shown_lines.Given as goal

abbrev pub invariant-loop-section : goal.invariant-loop-section
invariant-loop-section l = record {
  entries : l.entries.items ≡ shown (option_map (λ rules. rules.now) l.omitting) l.marks.marks l.yielded;
  number : l.number ≡ 2 + heights (option_map (λ rules. rules.now) l.omitting) l.marks.marks l.yielded;
  same : option_map rules_of l.omitter ≡ option_map (λ rules. rules.now) l.omitting;
}
