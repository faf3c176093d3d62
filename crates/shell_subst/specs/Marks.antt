-- Where the marks of a command text stand.
use Rattle.std.specs.Prelude.{◌≡◌, ℕ, Bool, true, List, [], ◌∷◌, ◌++◌, codes}
use Rattle.shell_subst.specs.Commands.{is_blank, is_blank_next}

-- whether whitespace stands last in a text, where of an empty one this is told
abbrev pub is_blank_last : Bool → List ℕ → Bool
is_blank_last told [] = told
is_blank_last told (b ∷ bs) = is_blank_last (is_blank b) bs

-- somewhere in a text this byte stands alone: whitespace, or an end of the text, on either side
abbrev pub StandsAlone : Bool → ℕ → List ℕ → Type 0
StandsAlone after_blank mark text =
    (before : List ℕ) × (after : List ℕ) × (text ≡ before ++ mark ∷ after)
    × (is_blank_last after_blank before ≡ true) × (is_blank_next after ≡ true)

-- somewhere in a text a `?` stands between backquotes
abbrev pub StandsInBackquotes : List ℕ → Type 0
StandsInBackquotes text = (before : List ℕ) × (after : List ℕ) × (text ≡ before ++ (codes "`?`" ++ after))
