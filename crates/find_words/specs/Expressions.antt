-- Predicates as expressions, and what they say of a file.
use Rattle.std.specs.Prelude.{ℕ, ℤ, Bool, true, not, ◌&&◌, ◌||◌, List}
use Rattle.tree_core.specs.declared.meta.Meta.{Meta}
use Rattle.find_words.specs.declared.conditions.Condition.{Condition}
use Rattle.find_words.specs.Conditions.{holds}

pub data Expression : Type 0 where
  -- true of every path
  Everything : Expression
  Test : Condition → Expression
  Not : Expression → Expression
  And : Expression → Expression → Expression
  Or : Expression → Expression → Expression

-- whether a file of this last name and these fields meets a predicate at a moment in seconds since 1970
abbrev pub value_of : ℤ → List ℕ → Meta → Expression → Bool
value_of now name meta Everything = true
value_of now name meta (Test condition) = holds now name meta condition
value_of now name meta (Not e) = not (value_of now name meta e)
value_of now name meta (And e f) = value_of now name meta e && value_of now name meta f
value_of now name meta (Or e f) = value_of now name meta e || value_of now name meta f
