-- What comes of a line.
use Rattle.std.specs.Prelude.{Bool, Result, Ok, Err, if◌then◌else◌}
use Rattle.dired_text.specs.Paths.{Names}
use Rattle.dired_text.specs.declared.resolving.NameError.{NameError}
use Rattle.shown_lines.specs.declared.omitting.Outcome.{Outcome}
use Rattle.shown_lines.specs.declared.omitting.Outcome.TheVariants.{Omitted, Shown, Unnamed}

abbrev pub outcome_of : (Names → Bool) → Result Names NameError → Outcome
outcome_of omitted (Ok path) = if omitted path then Omitted path else Shown path
outcome_of omitted (Err refused) = Unnamed
