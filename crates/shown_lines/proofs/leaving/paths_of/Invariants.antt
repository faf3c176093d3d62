use Rattle.std.proofs.Common.{◌≡◌}
use Rattle.std.specs.Option.{option_map}
use Rattle.omit_rules.specs.Omitters.{rules_of}
use Rattle.shown_lines.specs.Omitted.{omitted_of}
use Rattle.shown_lines.proofs.leaving.paths_of.Given as goal

abbrev pub invariant-loop-section : goal.invariant-loop-section
invariant-loop-section l = record {
  paths : l.paths.items ≡ omitted_of (option_map (λ rules. rules.now) l.omitting) l.marks.marks l.yielded;
  same : option_map rules_of l.omitter ≡ option_map (λ rules. rules.now) l.omitting;
}
