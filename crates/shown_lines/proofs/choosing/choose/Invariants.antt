use Rattle.std.proofs.Common.{◌≡◌}
use Rattle.std.specs.Option.{option_map}
use Rattle.shown_lines.specs.Chosen.{starred}
use Rattle.shown_lines.proofs.ChosenLemmas.{Keeps}
use Rattle.shown_lines.proofs.choosing.choose.Given as goal

abbrev pub invariant-loop-entry : goal.invariant-loop-entry
invariant-loop-entry l = record {
  starred : l.starred.items ≡ starred l.marks.marks l.yielded;
  own : Keeps l.marks.marks (option_map (λ path. path.now) l.current) l.yielded l.own.items;
}
