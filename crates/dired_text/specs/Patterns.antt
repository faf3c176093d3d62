-- What builds patterns, and what it answers.
use Rattle.std.specs.Prelude.{◌≡◌, ◌≢◌, ℕ, List, Result, Ok, Err}
use Rattle.regex.specs.Strings.{regex_source, regex_config, IsReadFromSource}
use Rattle.regex.specs.Patterns.{default_config}
use Rattle.regex.specs.Failures.{IsRightKind}
use Rattle.regex.specs.Sources.{IsRefusal}
use Rattle.regex.specs.declared.string.regex.Regex.{Regex}
use Rattle.regex.specs.declared.error.Error.{Error}
use Rattle.regex.specs.declared.error.Error.TheVariants.{Internal, OutOfMemory}
use Rattle.dired_text.specs.declared.patterns.PatternsError.{PatternsError}
use Rattle.dired_text.specs.declared.patterns.PatternsError.TheVariants.{Refused, Memory}
use Rattle.dired_text.specs.Counts.{raised}

-- the pattern that `regex` reads from a text under its default configuration
pub record IsPatternOf (text : List ℕ) (pattern : Regex) : Type 0 where
  pub source : regex_source pattern ≡ text
  pub config : regex_config pattern ≡ default_config
  pub read : IsReadFromSource pattern

-- a refusal raises the count, and no other answer changes it
abbrev pub CountsRefusals : {T : Type 0} → Result T PatternsError → ℕ → ℕ → Type 0
CountsRefusals (Ok pattern) old new = new ≡ old
CountsRefusals (Err Refused) old new = new ≡ raised old
CountsRefusals (Err Memory) old new = new ≡ old

-- an error with which `regex` refuses a text for another cause than memory: its grammar refuses the text, or reads it
-- as a pattern that is too big
pub record RefusesWith (text : List ℕ) (error : Error) : Type 0 where
  pub no_memory : error ≢ OutOfMemory
  pub no_internal : error ≢ Internal
  pub by_grammar : IsRefusal default_config text error
  pub kind : IsRightKind default_config text error

abbrev pub RefusesText : List ℕ → Type 0
RefusesText text = (error : Error) × RefusesWith text error

-- what `regex` makes of a text: its pattern, or a refusal. Memory is free.
abbrev pub BuildsAs : List ℕ → Result Regex PatternsError → Type 0
BuildsAs text (Ok pattern) = IsPatternOf text pattern
BuildsAs text (Err Refused) = RefusesText text
BuildsAs text (Err Memory) = Unit {0}
