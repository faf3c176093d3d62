-- An interrupted tree, for more texts of its journal.
use Rattle.std.proofs.Common.{ℕ, List}
use Rattle.tree_core.specs.declared.node.Node.{Node}
use Rattle.tree_core.specs.FileTree.{FileTree}
use Rattle.commit_journal.specs.declared.version.Version.TheVariants.{Two}
use Rattle.commit_steps.specs.declared.step.Step.{Step}
use Rattle.commit_states.specs.Interrupted.{JournalAt, StandsAs, IsWritten, AreJournals, JournalKind, Read, Written, IsOfKind, IsInterruptedBy, nothing_staged, no_journal, forward, back, behind_seal, all_undone}

module _ (Text More : List ℕ → Type 0) (more : (bytes : List ℕ) → Text bytes → More bytes) where
  journal_more : (t : FileTree) (name : List ℕ) → JournalAt Text t name → JournalAt More t name
  journal_more t name j = record { number = j.number; bytes = j.bytes; mode = j.mode; stands = j.stands; spelled = more j.bytes j.spelled }

  stands_more : (marker : List ℕ) (u t : FileTree) → StandsAs Text marker u t → StandsAs More marker u t
  stands_more marker u t s = record { journal = journal_more t _ s.journal; marked = s.marked; bare_is = s.bare_is }

  pub interrupted_more : (steps : List Step) (old new : FileTree) (fresh : List Node) (t : FileTree) → IsInterruptedBy Text steps old new fresh t → IsInterruptedBy More steps old new fresh t
  interrupted_more steps old new fresh t (nothing_staged none which) = nothing_staged none which
  interrupted_more steps old new fresh t (no_journal dir only which) = no_journal dir only which
  interrupted_more steps old new fresh t (forward leads m u le some s) = forward leads m u le some (stands_more _ u t s)
  interrupted_more steps old new fresh t (back leads k m u le cut some s) = back leads k m u le cut some (stands_more _ u t s)
  interrupted_more steps old new fresh t (behind_seal leads dir journal only is) = behind_seal leads dir (journal_more t _ journal) only is
  interrupted_more steps old new fresh t (all_undone leads dir journal only is) = all_undone leads dir (journal_more t _ journal) only is

-- what a commit writes can be read
pub written_are : (steps : List Step) → AreJournals (IsWritten steps) steps
written_are steps bytes w = record { journal = record { version = Two; journal = w.journal }; short = w.short }

pub of_kind : (kind : JournalKind) (steps : List Step) → AreJournals (IsOfKind kind steps) steps
of_kind Read steps bytes w = w
of_kind Written steps bytes w = written_are steps bytes w
