-- Which calls failed, and what was changed, by how a commit ended.
use Rattle.std.specs.Prelude.{◌≡◌, ℕ, Bool, true, false}
use Rattle.commit_run.specs.declared.end.CommitEnd.{CommitEnd}
use Rattle.commit_run.specs.declared.end.CommitEnd.TheVariants as end
use Rattle.tree_core.specs.declared.faults.Faults.{Faults}
use Rattle.tree_core.specs.declared.node.CallName.{CallName}
use Rattle.tree_core.specs.Faults.{with_fault}

-- None failed, or the named one did, or both did in this order.
abbrev pub NamesFaults : Faults → Faults → CommitEnd → Type 0
NamesFaults old now end.Done = now ≡ old
NamesFaults old now end.Memory = now ≡ old
NamesFaults old now (end.TreeFault first) = now ≡ with_fault first old
NamesFaults old now (end.RolledBack first) = now ≡ with_fault first old
NamesFaults old now (end.Unfinished first second) = now ≡ with_fault second (with_fault first old)
NamesFaults old now (end.Unclean first) = now ≡ with_fault first old

-- The first call had failed before, and is named; none failed since, or the second one did.
abbrev pub NamesSecond : CallName → Faults → Faults → CommitEnd → Type 0
NamesSecond call old now end.Done = ⊥
NamesSecond call old now end.Memory = ⊥
NamesSecond call old now (end.TreeFault first) = ⊥
NamesSecond call old now (end.RolledBack first) = (first ≡ call) × (now ≡ old)
NamesSecond call old now (end.Unfinished first second) = (first ≡ call) × (now ≡ with_fault second old)
NamesSecond call old now (end.Unclean first) = (first ≡ call) × (now ≡ old)

-- whether there was memory for it
abbrev pub is_begun : CommitEnd → Bool
is_begun end.Done = true
is_begun end.Memory = false
is_begun (end.TreeFault first) = true
is_begun (end.RolledBack first) = true
is_begun (end.Unfinished first second) = true
is_begun (end.Unclean first) = true

-- For want of memory no changing call was made; of those these are the counts.
abbrev pub IsKept : ℕ → ℕ → CommitEnd → Type 0
IsKept old now end.Done = Unit {0}
IsKept old now end.Memory = now ≡ old
IsKept old now (end.TreeFault first) = Unit {0}
IsKept old now (end.RolledBack first) = Unit {0}
IsKept old now (end.Unfinished first second) = Unit {0}
IsKept old now (end.Unclean first) = Unit {0}
