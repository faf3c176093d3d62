-- A step undone, in a tree in which a journal and a marker stand.
use Rattle.std.proofs.Common.{ℕ, List, sym, ◌∙◌, ap, subst}
use Rattle.tree_core.specs.FileTree.{FileTree, IsTree, CanDo, done}
use Rattle.commit_states.proofs.StandLemmas.{journal_kept}
use Rattle.commit_states.specs.Interrupted.{StandsAs}
use Rattle.commit_steps.specs.Staging.{staged, plan}
use Rattle.commit_steps.specs.declared.step.Step.{Step}
use Rattle.step_trees.proofs.NameLemmas.{IsOwn, own-plan}
use Rattle.step_trees.proofs.StepLemmas.{apart_lawful, SomeFile, some_file, is_file}
use Rattle.step_trees.specs.Entries.{without}
use Rattle.step_trees.specs.Steps.{undo_of, IsStep}
use Rattle.step_trees.proofs.UndoneLemmas.{clear_undo, clear_undo-without, undo-without, undo-file, undo_stood}

module _ (Text : List ℕ → Type 0) (u : FileTree) (marker : List ℕ) (own : IsOwn marker) (t : FileTree) (tree : IsTree t) (s : StandsAs Text marker u t) (step : Step) (n : ℕ) (lawful : IsStep step) where
  pub can_undo_as : CanDo (undo_of step) u → CanDo (undo_of step) t
  can_undo_as can = undo_stood marker step t own lawful (undo_stood plan step (without (staged marker) t) own-plan lawful (subst (CanDo (undo_of step)) (sym s.bare_is) can))

  marker_file : SomeFile t (staged marker)
  marker_file = some_file t (staged marker) s.marked

  pub undo_as : CanDo (undo_of step) t → StandsAs Text marker (done (undo_of step) 0 u) (done (undo_of step) n t)
  undo_as can =
      let clear = clear_undo step t tree can in
      record {
        journal = journal_kept Text t _ plan plan s.journal (undo-file step n t (staged plan) _ _ (apart_lawful plan step own-plan lawful) clear record { mode = s.journal.mode; is = s.journal.stands });
        marked = is_file _ _ _ _ (undo-file step n t (staged marker) _ _ (apart_lawful marker step own lawful) clear marker_file.file);
        bare_is =
            ap (without (staged plan)) (undo-without (staged marker) step n t (apart_lawful marker step own lawful) clear)
            ∙ undo-without (staged plan) step 0 (without (staged marker) t) (apart_lawful plan step own-plan lawful) (clear_undo-without (staged marker) step t clear)
            ∙ ap (done (undo_of step) 0) s.bare_is;
      }
