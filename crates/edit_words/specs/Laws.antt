-- What holds of the faults: where none is found, and whose it is that is found.
use Rattle.std.specs.Prelude.{◌≡◌, ◌↔◌, ℕ, ◌<◌, Bool, true, false, List, ◌∷◌, ◌++◌, Option, Some, None, Contains}
use Rattle.tree_core.specs.declared.changes.Confirmed.{Confirmed}
use Rattle.tree_core.specs.FileTree.{FileTree, IsTree}
use Rattle.edit_words.specs.declared.row.Row.{Row}
use Rattle.edit_words.specs.declared.fault.CheckFault.{CheckFault}
use Rattle.edit_words.specs.Rows.{line_where}
use Rattle.edit_words.specs.Sight.{sight_of}
use Rattle.edit_words.specs.Refusals.{first_fault, ill_formed, refusal}
use Rattle.edit_words.specs.WellFormed.{IsWellFormed, CanBeMade, LinesRise}

-- no fault is found of well-formed changes, and of no others
abbrev pub WellFormedAlone : Type 0
WellFormedAlone = (t : FileTree) (rs : List Row) → IsTree t → (ill_formed (sight_of t) rs ≡ None) ↔ IsWellFormed t rs

-- nothing is refused that can be made, and all else is
abbrev pub TakenAlone : Type 0
TakenAlone = (t : FileTree) (confirmed : Confirmed) (rs : List Row) → IsTree t → (refusal (sight_of t) confirmed rs ≡ None) ↔ CanBeMade t confirmed rs

-- the fault of a row, where no row before it has one
pub record IsFirstFault (rule : Row → Option CheckFault) (rs : List Row) (fault : CheckFault) : Type 0 where
  pub front : List Row
  pub row : Row
  pub back : List Row
  pub is : rs ≡ front ++ row ∷ back
  pub faulty : rule row ≡ Some fault
  pub before : (o : Row) → Contains front o → rule o ≡ None

-- the fault that is found is that of the first row that has one
abbrev pub FaultOfFirst : Type 0
FaultOfFirst = (rule : Row → Option CheckFault) (rs : List Row) (fault : CheckFault) → (first_fault rule rs ≡ Some fault) ↔ IsFirstFault rule rs fault

-- where lines rise no lesser line has one
abbrev pub FaultOfLeast : Type 0
FaultOfLeast = (rule : Row → Option CheckFault) (rs : List Row) (fault : CheckFault) (found : IsFirstFault rule rs fault) → LinesRise rs
    → (o : Row) → Contains rs o → o.line < found.row.line → rule o ≡ None

-- the line of a row that passes, where no row of a lesser line does
pub record IsLeastLine (test : Row → Bool) (rs : List Row) (line : ℕ) : Type 0 where
  pub row : Row
  pub listed : Contains rs row
  pub passes : test row ≡ true
  pub here : row.line ≡ line
  pub least : (o : Row) → Contains rs o → o.line < line → test o ≡ false

-- where lines rise the line that is found is the least one of a row that passes
abbrev pub LineOfLeast : Type 0
LineOfLeast = (test : Row → Bool) (rs : List Row) (line : ℕ) → LinesRise rs → (line_where test rs ≡ Some line) ↔ IsLeastLine test rs line

-- none is found where no row passes, and only there
abbrev pub NoLine : Type 0
NoLine = (test : Row → Bool) (rs : List Row) → (line_where test rs ≡ None) ↔ ((r : Row) → Contains rs r → test r ≡ false)
