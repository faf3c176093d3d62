-- Which call failed, and what was changed, by how a recovery ended.
use Rattle.std.specs.Prelude.{◌≡◌, ℕ}
use Rattle.commit_recover.specs.declared.end.RecoverEnd.{RecoverEnd}
use Rattle.commit_recover.specs.declared.end.RecoverEnd.TheVariants as end
use Rattle.tree_core.specs.declared.faults.Faults.{Faults}
use Rattle.tree_core.specs.Faults.{with_fault}

-- The named one, or none.
abbrev pub NamesFaults : Faults → Faults → RecoverEnd → Type 0
NamesFaults old now end.Nothing = now ≡ old
NamesFaults old now end.Edited = now ≡ old
NamesFaults old now end.Old = now ≡ old
NamesFaults old now end.Cleared = now ≡ old
NamesFaults old now end.Memory = now ≡ old
NamesFaults old now (end.TreeFault first) = now ≡ with_fault first old
NamesFaults old now (end.BadJournal offset) = now ≡ old
NamesFaults old now (end.Foreign name) = now ≡ old
NamesFaults old now (end.Strange step) = now ≡ old

-- Where there was no memory, or what stands is of no commit, no changing call was made; of those these are the counts.
abbrev pub IsKept : ℕ → ℕ → RecoverEnd → Type 0
IsKept old now end.Nothing = Unit {0}
IsKept old now end.Edited = Unit {0}
IsKept old now end.Old = Unit {0}
IsKept old now end.Cleared = Unit {0}
IsKept old now end.Memory = now ≡ old
IsKept old now (end.TreeFault first) = Unit {0}
IsKept old now (end.BadJournal offset) = now ≡ old
IsKept old now (end.Foreign name) = now ≡ old
IsKept old now (end.Strange step) = Unit {0}
