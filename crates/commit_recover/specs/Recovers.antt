-- What a recovery promises where a commit was stopped.
use Rattle.std.specs.Prelude.{◌≡◌, ◌≤◌, ◌^◌, Bool, true, false, List, length}
use Rattle.commit_recover.specs.declared.end.RecoverEnd.{RecoverEnd}
use Rattle.commit_recover.specs.declared.end.RecoverEnd.TheVariants as end
use Rattle.commit_states.specs.Interrupted.{IsInterrupted, ending, nothing_staged, no_journal, forward, back, behind_seal, all_undone}
use Rattle.commit_steps.specs.declared.step.Step.{Step}
use Rattle.commit_steps.specs.Staging.{staging}
use Rattle.tree_core.specs.declared.node.Node.{Node}
use Rattle.tree_core.specs.FileTree.{FileTree, IsAbsent, IsTree}
use Rattle.tree_core.specs.History.{History, IsDurable, LeavesOnly, current_tree}

-- the end that is told, by what stands and the direction (`true`: back)
abbrev pub told : {steps : List Step} {old new : FileTree} {fresh : List Node} {t : FileTree} → Bool → IsInterrupted steps old new fresh t → RecoverEnd
told way (nothing_staged none which) = end.Nothing
told way (no_journal dir only which) = end.Cleared
told false (forward leads m u le some stands) = end.Edited
told true (forward leads m u le some stands) = end.Old
told way (back leads k m u le cut some stands) = end.Old
told way (behind_seal leads dir journal only is) = end.Edited
told way (all_undone leads dir journal only is) = end.Old

-- It ended as told, with the tree of that end, and nothing is pending.
pub record IsAtItsEnd {steps : List Step} {old new : FileTree} {fresh : List Node} {t : FileTree} (way : Bool) (row : IsInterrupted steps old new fresh t) (now : History) (ended : RecoverEnd) : Type 0 where
  pub is_told : ended ≡ told way row
  pub stands : current_tree now ≡ ending way row
  pub durable : IsDurable now

-- It never answers that something is foreign, unreadable or strange.
abbrev pub EndsBy : {steps : List Step} {old new : FileTree} {fresh : List Node} {t : FileTree} → Bool → IsInterrupted steps old new fresh t → History → History → RecoverEnd → Type 0
EndsBy way row begun now end.Nothing = IsAtItsEnd way row now end.Nothing
EndsBy way row begun now end.Edited = IsAtItsEnd way row now end.Edited
EndsBy way row begun now end.Old = IsAtItsEnd way row now end.Old
EndsBy way row begun now end.Cleared = IsAtItsEnd way row now end.Cleared
EndsBy way row begun now end.Memory = now ≡ begun
EndsBy way row begun now (end.TreeFault first) = Unit {0}
EndsBy way row begun now (end.BadJournal offset) = ⊥
EndsBy way row begun now (end.Foreign name) = ⊥
EndsBy way row begun now (end.Strange step) = ⊥

-- Where the tree and all that a crash may leave of it are interrupted, for whatever steps, old tree, edited tree and fresh entries: a crash
-- at any moment leaves a tree that is so for the same, and so it ended.
abbrev pub Recovers : Bool → History → History → RecoverEnd → Type 0
Recovers way begun now ended =
    (steps : List Step) (old new : FileTree) (fresh : List Node) → IsTree old → IsAbsent old staging → length fresh ≤ 2 ^ 32
    → LeavesOnly begun begun (IsInterrupted steps old new fresh) → (row : IsInterrupted steps old new fresh (current_tree begun))
    → LeavesOnly begun now (IsInterrupted steps old new fresh) × EndsBy way row begun now ended
