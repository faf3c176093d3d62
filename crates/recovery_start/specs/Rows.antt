-- What is found in an interrupted tree, as statements.
use Rattle.std.specs.Prelude.{◌≡◌, ◌⊎◌, ℕ, ◌<◌, ◌^◌, List, Option, Some, None}
use Rattle.commit_states.specs.Interrupted.{JournalAt, JournalKind, IsOfKind, StandsAs, IsOne}
use Rattle.commit_steps.specs.declared.step.Step.{Step}
use Rattle.commit_steps.specs.Staging.{sealed, undone, new_journal, at_marker, back_marker}
use Rattle.staging_names.specs.declared.staged_name.Journal as journal
use Rattle.staging_names.specs.declared.staged_name.Journal.TheVariants.{Plan, Done, Undone}
use Rattle.staging_names.specs.declared.staged_name.Marker as marker
use Rattle.staging_names.specs.declared.staged_name.Side.{Side}
use Rattle.staging_names.specs.declared.staged_name.Side.TheVariants.{At, Back}
use Rattle.staging_names.specs.Names.{marker_name}
use Rattle.staging_names.specs.Tests.{foreign_place, standing_of}
use Rattle.step_trees.specs.Entries.{HoldsOnly, IsFresh, IsHeld, IsTemporary}
use Rattle.tree_core.specs.FileTree.{FileTree}
use Rattle.recovery_start.specs.Start.{found_in}

-- Nothing is foreign, and this journal and this marker stand.
pub record Shows (t : FileTree) (j : Option journal.Journal) (m : Option marker.Marker) : Type 0 where
  pub in_order : foreign_place (found_in t) ≡ None
  pub standing : standing_of (found_in t) ≡ record { journal = j; marker = m }

-- this marker, or none
abbrev pub ShowsAtMost : FileTree → Option journal.Journal → marker.Marker → Type 0
ShowsAtMost t j m = Shows t j None ⊎ Shows t j (Some m)

-- Where no journal has its name yet,
abbrev pub EarlyTreesShow : Type 0
EarlyTreesShow =
    (t : FileTree) → HoldsOnly t (λ name node. IsOne new_journal name node ⊎ (IsOne (at_marker 0) name node ⊎ IsFresh name node))
    → ShowsAtMost t None (record { side = At; number = 0 })

-- behind the seal of n steps,
abbrev pub SealedTreesShow : Type 0
SealedTreesShow =
    (kind : JournalKind) (steps : List Step) (t : FileTree) (n : ℕ) → n < 2 ^ 32 → JournalAt (IsOfKind kind steps) t sealed
    → HoldsOnly t (λ name node. (name ≡ sealed) ⊎ (IsHeld t name node ⊎ IsOne (at_marker n) name node))
    → ShowsAtMost t (Some Done) (record { side = At; number = n })

-- with all steps undone,
abbrev pub UndoneTreesShow : Type 0
UndoneTreesShow =
    (kind : JournalKind) (steps : List Step) (t : FileTree) → JournalAt (IsOfKind kind steps) t undone
    → HoldsOnly t (λ name node. (name ≡ undone) ⊎ (IsFresh name node ⊎ IsOne (back_marker 0) name node))
    → ShowsAtMost t (Some Undone) (record { side = Back; number = 0 })

-- and on the way, where without the journal and the marker only entries stand.
abbrev pub PlannedTreesShow : Type 0
PlannedTreesShow =
    (kind : JournalKind) (steps : List Step) (side : Side) (m : ℕ) (u t : FileTree) → m < 2 ^ 32 → StandsAs (IsOfKind kind steps) (marker_name side m) u t
    → HoldsOnly u (λ name node. IsTemporary name ⊎ (IsHeld u name node ⊎ IsFresh name node))
    → Shows t (Some Plan) (Some (record { side = side; number = m }))
