-- Where a commit halted one marker stands, and nothing under `done`.
use Rattle.std.proofs.Common.{◌≢◌, ℕ, ◌<◌, ◌^◌, List, sym, arith}
use Rattle.tree_core.specs.declared.node.Node.{Node}
use Rattle.tree_core.specs.FileTree.{FileTree, IsAbsent, IsDir}
use Rattle.tree_core.specs.History.{History, current_tree}
use Rattle.commit_steps.specs.declared.step.Step.{Step}
use Rattle.commit_steps.specs.Staging.{staging, staged, sealed, at_marker}
use Rattle.step_trees.specs.Leads.{Leads}
use Rattle.step_trees.proofs.NameLemmas.{own-at, own-sealed, at_injects}
use Rattle.step_trees.proofs.LeadLemmas.{Based}
use Rattle.commit_states.specs.Interrupted.{AreJournals}
use Rattle.commit_states.specs.Stops.{Halted}
use Rattle.commit_states.proofs.StandLemmas.{staging_as, absent_as}
use Rattle.commit_states.proofs.PhaseLemmas.{led_by, based_forward, plan_at, plan_sealed, sealed_at}

module _ (Text : List ℕ → Type 0) (steps : List Step) (are : AreJournals Text steps) (old new : FileTree) (fresh : List Node) (began now : History) (leads : Leads steps old new fresh) (h : Halted Text steps old new fresh began now) where
  abbrev t : FileTree
  t = current_tree now

  based : Based h.u
  based = based_forward t h.sound.tree Text steps are old new fresh (led_by t h.sound.tree Text steps are old new fresh leads (at_marker h.m) h.u h.stands) h.m h.u h.le h.comes

  pub dir_there : IsDir t staging
  dir_there = staging_as Text h.u based (at_marker h.m) (own-at h.m) (plan_at h.m) t h.sound.tree h.stands

  pub no_seal : IsAbsent t (staged sealed)
  no_seal = absent_as Text h.u based (at_marker h.m) (own-at h.m) (plan_at h.m) t h.sound.tree h.stands sealed own-sealed (sealed_at h.m) (λ e. plan_sealed (sym e))

  pub no_other : (j : ℕ) → j < 2 ^ 32 → j ≢ h.m → IsAbsent t (staged (at_marker j))
  no_other j low other =
      let few = (are h.stands.journal.bytes h.stands.journal.spelled).journal.journal.few in
      let le = h.le in
      absent_as Text h.u based (at_marker h.m) (own-at h.m) (plan_at h.m) t h.sound.tree h.stands (at_marker j) (own-at j) (λ e. other (at_injects j h.m (omega arith) (omega arith) e)) (λ e. plan_at j (sym e))
