-- Paths as the program compares them.
use Rattle.std.specs.Prelude.{Bool, nat_eq}
use Rattle.std.specs.Cmp.Lexicographic.{pointwise}
use Rattle.dired_text.specs.Paths.{Names}

-- what `==` answers of two lists of names
abbrev pub is_same_path : Names → Names → Bool
is_same_path = pointwise (pointwise nat_eq)
