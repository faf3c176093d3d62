-- The lawful steps, as tests.
use Rattle.std.specs.Prelude.{ℕ, ◌==◌, Bool, false, ◌&&◌, ◌||◌, not, nat_le, List, [], ◌∷◌, is_none}
use Rattle.std.specs.Str.{bytes_eq}
use Rattle.dired_text.specs.Paths.{Names, rest_below}
use Rattle.commit_steps.specs.declared.step.Step.{Step}
use Rattle.commit_steps.specs.declared.step.Step.TheVariants.{MakeDir, Rename, Mode}
use Rattle.commit_steps.specs.Numbers.{is_number}
use Rattle.commit_steps.specs.Staging.{staging_name}

-- `t`, `h` or `f`
abbrev pub is_letter : ℕ → Bool
is_letter b = b == 116 || b == 104 || b == 102

abbrev pub is_entry_name : List ℕ → Bool
is_entry_name [] = false
is_entry_name (b ∷ ds) = is_letter b && is_number ds

abbrev pub is_outside : Names → Bool
is_outside [] = false
is_outside (x ∷ p) = not (bytes_eq x staging_name)

abbrev pub is_entry_path : Names → Bool
is_entry_path [] = false
is_entry_path (x ∷ []) = false
is_entry_path (x ∷ n ∷ []) = bytes_eq x staging_name && is_entry_name n
is_entry_path (x ∷ n ∷ m ∷ p) = false

abbrev pub is_step_path : Names → Bool
is_step_path p = is_outside p || is_entry_path p

abbrev pub are_apart : Names → Names → Bool
are_apart from to = is_none (rest_below from to) && is_none (rest_below to from)

abbrev pub is_lawful_step : Step → Bool
is_lawful_step (MakeDir p) = is_outside p
is_lawful_step (Rename from to) = is_step_path from && is_step_path to && are_apart from to
is_lawful_step (Mode p old new) = is_outside p && nat_le old 0o7777 && nat_le new 0o7777 && not (old == new)
