-- A tree in which a journal and a marker stand, and the same without them.
use Rattle.std.proofs.Common.{◌≡◌, ◌≢◌, ℕ, List, [], ◌++◌, take, sym, ◌∙◌, ap, subst, is_some}
use Rattle.std.specs.FinMap.{get}
use Rattle.dired_text.specs.Paths.{Names, AreNames}
use Rattle.dired_text.proofs.PathLemmas.{rest_below-append}
use Rattle.tree_core.specs.declared.node.Node.{Node}
use Rattle.tree_core.specs.FileTree.{FileTree, IsTree, IsAbsent, IsDir, CanDo, CanRename, done, renamed}
use Rattle.tree_core.proofs.TreeLemmas.{absent_below}
use Rattle.commit_states.specs.Interrupted.{bare, JournalAt, StandsAs, StandsAfter}
use Rattle.commit_steps.specs.Staging.{staging, staged, plan}
use Rattle.commit_steps.specs.declared.step.Step.{Step}
use Rattle.step_trees.proofs.NameLemmas.{IsOwn, own-plan, apart_staged}
use Rattle.step_trees.proofs.StepLemmas.{IsClearStep, clear_step-without, step-without, before_stood, FileAt, SomeFile, some_file, is_file, step-file, apart_lawful, clear_step, can_step, dir_stood}
use Rattle.step_trees.proofs.Without.{get-without_out, renamed-out, renamed-to, without-moved, apart_at, IsClear}
use Rattle.step_trees.specs.Entries.{without}
use Rattle.step_trees.specs.Leads.{start}
use Rattle.step_trees.specs.Steps.{call_of, step_done, after, IsStep, IsBefore}
use Rattle.step_trees.proofs.LeadLemmas.{Led, Based, based_at}

-- ---- a step, in the tree without them

pub step-bare : (journal marker : List ℕ) (s : Step) (n : ℕ) (t : FileTree) → IsOwn journal → IsOwn marker → IsStep s → IsClearStep s t → bare journal marker (done (call_of s) n t) ≡ step_done s (bare journal marker t)
step-bare journal marker s n t own also lawful clear =
    ap (without (staged journal)) (step-without (staged marker) s n t (apart_lawful marker s also lawful) clear)
    ∙ step-without (staged journal) s 0 (without (staged marker) t) (apart_lawful journal s own lawful) (clear_step-without (staged marker) s t clear)

pub before_bare : (journal marker : List ℕ) (s : Step) (t : FileTree) → IsOwn journal → IsOwn marker → IsStep s → IsBefore s (bare journal marker t) → IsBefore s t
before_bare journal marker s t own also lawful before =
    before_stood (staged marker) s t (apart_lawful marker s also lawful) (before_stood (staged journal) s (without (staged marker) t) (apart_lawful journal s own lawful) before)

-- a journal is a file of its bytes
pub journal_kept : (Text : List ℕ → Type 0) (t u : FileTree) (name other : List ℕ) (j : JournalAt Text t name) → FileAt u (staged other) j.number j.bytes → JournalAt Text u other
journal_kept Text t u name other j file = record { number = j.number; bytes = j.bytes; mode = file.mode; stands = file.is; spelled = j.spelled }

-- ---- the tree with its journal and marker, which is u without them

module _ (Text : List ℕ → Type 0) (u : FileTree) (based : Based u) (marker : List ℕ) (own : IsOwn marker) (other : plan ≢ marker) (t : FileTree) (tree : IsTree t) (s : StandsAs Text marker u t) where
  pub staging_as : IsDir t staging
  staging_as = dir_stood (staged marker) t staging (dir_stood (staged plan) (without (staged marker) t) staging (subst (λ x. IsDir x staging) (sym s.bare_is) based.stands))

  -- what else stands in the staging directory
  pub shown_as : (name : List ℕ) (r : Names) → name ≢ marker → name ≢ plan → get t (staged name ++ r) ≡ get u (staged name ++ r)
  shown_as name r no_marker no_plan =
      sym (get-without_out (staged plan) (without (staged marker) t) (staged name ++ r) (apart_at (staged name) (staged plan) (staged name ++ r) r (apart_staged name plan no_plan) (rest_below-append (staged name) r))
      ∙ get-without_out (staged marker) t (staged name ++ r) (apart_at (staged name) (staged marker) (staged name ++ r) r (apart_staged name marker no_marker) (rest_below-append (staged name) r)))
      ∙ ap (λ x. get x (staged name ++ r)) s.bare_is

  pub absent_as : (name : List ℕ) → IsOwn name → name ≢ marker → name ≢ plan → IsAbsent t (staged name)
  absent_as name own_name no_marker no_plan = shown_as name [] no_marker no_plan ∙ based.none name own_name

  pub journal_file : FileAt t (staged plan) s.journal.number s.journal.bytes
  journal_file = record { mode = s.journal.mode; is = s.journal.stands }

  pub marker_file : SomeFile t (staged marker)
  marker_file = some_file t (staged marker) s.marked

  -- a step
  module _ (step : Step) (n : ℕ) (lawful : IsStep step) where
    pub can_as : IsBefore step u → CanDo (call_of step) t
    can_as before = can_step step t lawful (before_bare plan marker step t own-plan own lawful (subst (IsBefore step) (sym s.bare_is) before))

    pub step_as : CanDo (call_of step) t → StandsAs Text marker (step_done step u) (done (call_of step) n t)
    step_as can = record {
      journal = journal_kept Text t _ plan plan s.journal (step-file step n t (staged plan) _ _ (apart_lawful plan step own-plan lawful) (clear_step step t tree can) journal_file);
      marked = is_file _ _ _ _ (step-file step n t (staged marker) _ _ (apart_lawful marker step own lawful) (clear_step step t tree can) marker_file.file);
      bare_is = step-bare plan marker step n t own-plan own lawful (clear_step step t tree can) ∙ ap (step_done step) s.bare_is;
    }

  -- the next marker
  module _ (next : List ℕ) (own_next : IsOwn next) (no_plan : next ≢ plan) (no_marker : next ≢ marker) (names : AreNames (staged next)) where
    pub can_mark : CanRename t (staged marker) (staged next)
    can_mark = record {
      named = names;
      stands = ap is_some marker_file.file.is;
      not_root = λ e. (let k : staged marker ≡ [] = e in cc);
      absent = absent_as next own_next no_marker no_plan;
      parent_is_dir = staging_as;
      apart = (apart_staged marker next (λ e. no_marker (sym e))).0;
    }

    clear_next : IsClear t (staged next)
    clear_next = absent_below t tree (staged next) can_mark.absent

    pub stands_marked : StandsAs Text next u (renamed t (staged marker) (staged next))
    stands_marked = record {
      journal = journal_kept Text t _ plan plan s.journal record {
        mode = s.journal.mode;
        is = renamed-out t (staged marker) (staged next) clear_next (staged plan) (apart_staged next plan no_plan).0 (apart_staged marker plan (λ e. other (sym e))).0 ∙ s.journal.stands;
      };
      marked = is_file _ _ marker_file.number marker_file.bytes record { mode = marker_file.file.mode; is = renamed-to t (staged marker) (staged next) clear_next [] ∙ marker_file.file.is };
      bare_is = ap (without (staged plan)) (without-moved t (staged marker) (staged next) clear_next) ∙ s.bare_is;
    }

-- where j steps are done
module _ (Text : List ℕ → Type 0) (steps : List Step) (old new : FileTree) (fresh : List Node) (leads : Led steps old new fresh) (marker : List ℕ) (own : IsOwn marker) (other : plan ≢ marker) (j : ℕ) (t : FileTree) (tree : IsTree t) (s : StandsAfter Text steps old fresh marker j t) where
  pub staging_stands : IsDir t staging
  staging_stands = staging_as Text _ (based_at steps old new fresh leads j) marker own other t tree s

  pub shown_bare : (name : List ℕ) (r : Names) → name ≢ marker → name ≢ plan → get t (staged name ++ r) ≡ get (after (take j steps) (start old fresh)) (staged name ++ r)
  shown_bare name r no_marker no_plan = shown_as Text _ (based_at steps old new fresh leads j) marker own other t tree s name r no_marker no_plan

  pub absent_own : (name : List ℕ) → IsOwn name → name ≢ marker → name ≢ plan → IsAbsent t (staged name)
  absent_own name own_name no_marker no_plan = absent_as Text _ (based_at steps old new fresh leads j) marker own other t tree s name own_name no_marker no_plan
