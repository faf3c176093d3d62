use Rattle.std.proofs.Common.{◌≡◌, ◌++◌, drop, filter, is_some}
use Rattle.std.specs.FinMap.{get}
use Rattle.std.specs.Option.{option_map}
use Rattle.regex.specs.Strings.{matcher_pattern}
use Rattle.shown_lines.specs.Named.{passes_by}
use Rattle.shown_lines.specs.Tests.{paths}
use Rattle.shown_lines.proofs.testing.passing_by.Given as goal

abbrev pub invariant-loop-entry : goal.invariant-loop-entry
invariant-loop-entry l =
    (l.found.items ++ paths (filter (passes_by (option_map matcher_pattern l.initial.matcher) (λ p. is_some (get l.table.marks p)) l.test) (drop l.entry-index l.entries))
    ≡ paths (filter (passes_by (option_map matcher_pattern l.initial.matcher) (λ p. is_some (get l.table.marks p)) l.test) l.entries))
    × (option_map matcher_pattern l.matcher ≡ option_map matcher_pattern l.initial.matcher)
