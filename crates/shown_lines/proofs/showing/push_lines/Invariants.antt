use Rattle.std.proofs.Common.{◌≡◌, ◌+◌, ◌++◌, length}
use Rattle.std.specs.Option.{option_map}
use Rattle.omit_rules.specs.Omitters.{rules_of}
use Rattle.shown_lines.specs.Shown.{numbered, printing}
use Rattle.shown_lines.proofs.showing.push_lines.Given as goal

abbrev pub invariant-loop-line : goal.invariant-loop-line
invariant-loop-line l = record {
  entries : l.entries.items ≡ l.initial.entries.items ++ numbered l.first l.dir (printing (option_map rules_of l.initial.omitter) l.marks.marks l.dir l.yielded);
  number : l.number ≡ l.first + length (printing (option_map rules_of l.initial.omitter) l.marks.marks l.dir l.yielded);
  same : option_map rules_of l.omitter ≡ option_map rules_of l.initial.omitter;
}
