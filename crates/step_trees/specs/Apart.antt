-- Paths and steps that have nothing to do with each other.
use Rattle.std.specs.Prelude.{◌≡◌, None}
use Rattle.dired_text.specs.Paths.{Names, rest_below}
use Rattle.commit_steps.specs.declared.step.Step.{Step}
use Rattle.commit_steps.specs.declared.step.Step.TheVariants.{MakeDir, Rename, Mode}

-- neither path is equal to or below the other
abbrev pub IsApart : Names → Names → Type 0
IsApart p q = (rest_below p q ≡ None) × (rest_below q p ≡ None)

-- each path that the step names is apart from p
abbrev pub IsApartStep : Names → Step → Type 0
IsApartStep p (MakeDir q) = IsApart p q
IsApartStep p (Rename from to) = IsApart p from × IsApart p to
IsApartStep p (Mode q old new) = IsApart p q

-- each path of the one step is apart from each path of the other
abbrev pub AreApart : Step → Step → Type 0
AreApart (MakeDir p) s = IsApartStep p s
AreApart (Rename from to) s = IsApartStep from s × IsApartStep to s
AreApart (Mode p old new) s = IsApartStep p s
