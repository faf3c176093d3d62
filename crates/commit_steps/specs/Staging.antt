-- The staging directory and the names in it.
use Rattle.std.specs.Prelude.{◌≡◌, ◌⊎◌, ℕ, ◌<◌, ◌^◌, List, [], ◌∷◌, ◌++◌, codes, decimal}
use Rattle.dired_text.specs.Paths.{Names}

-- the directory in the root that holds what a commit needs
unfoldable pub staging_name : List ℕ
staging_name = codes ".wdired-commit"

abbrev pub staging : Names
staging = staging_name ∷ []

-- the path of this name in the staging directory
abbrev pub staged : List ℕ → Names
staged name = staging_name ∷ name ∷ []

-- as `t12`
abbrev pub numbered : List ℕ → ℕ → List ℕ
numbered letter n = letter ++ decimal n

-- an entry that waits for its new name, one that is to be removed, and one that is new
unfoldable pub temporary : ℕ → List ℕ
temporary n = numbered (codes "t") n

unfoldable pub held : ℕ → List ℕ
held n = numbered (codes "h") n

unfoldable pub fresh_name : ℕ → List ℕ
fresh_name n = numbered (codes "f") n

-- the marker of how many steps are done, and the one of how many are left on the way back
unfoldable pub at_marker : ℕ → List ℕ
at_marker m = numbered (codes "at-") m

unfoldable pub back_marker : ℕ → List ℕ
back_marker m = numbered (codes "back-") m

-- the journal while it is written, from then on, behind the last step, and behind the way back
unfoldable pub new_journal : List ℕ
new_journal = codes "new"

unfoldable pub plan : List ℕ
plan = codes "plan"

unfoldable pub sealed : List ℕ
sealed = codes "done"

unfoldable pub undone : List ℕ
undone = codes "undone"

-- the name of a temporary, held or fresh entry, whose number has 32 bits
pub record IsEntryName (name : List ℕ) : Type 0 where
  pub number : ℕ
  pub small : number < 2 ^ 32
  pub named : (name ≡ temporary number) ⊎ ((name ≡ held number) ⊎ (name ≡ fresh_name number))
