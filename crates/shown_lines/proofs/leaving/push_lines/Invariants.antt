use Rattle.std.proofs.Common.{◌≡◌, ◌++◌}
use Rattle.std.specs.Option.{option_map}
use Rattle.omit_rules.specs.Omitters.{rules_of}
use Rattle.shown_lines.specs.Omitted.{omitted_lines}
use Rattle.shown_lines.proofs.leaving.push_lines.Given as goal

abbrev pub invariant-loop-line : goal.invariant-loop-line
invariant-loop-line l = record {
  paths : l.paths.items ≡ l.initial.paths.items ++ omitted_lines (option_map rules_of l.initial.omitter) l.marks.marks l.dir l.yielded;
  same : option_map rules_of l.omitter ≡ option_map rules_of l.initial.omitter;
}
