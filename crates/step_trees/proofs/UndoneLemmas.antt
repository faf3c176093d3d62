-- A step undone, in a tree and in the tree without a path that the step does not name.
use Rattle.std.proofs.Common.{◌≡◌, ℕ, List, [], ◌∷◌, ◌++◌, sym, ◌∙◌, ap, subst, Option, is_some, IsTrue}
use Rattle.std.proofs.lemmas.Option.{none-some}
use Rattle.dired_text.specs.Paths.{Names, rest_below, parent}
use Rattle.dired_text.proofs.PathLemmas.{rest_below-same}
use Rattle.tree_core.specs.declared.node.Node.{Node}
use Rattle.tree_core.specs.FileTree.{FileTree, IsTree, CanDo, done, has_mode_node}
use Rattle.tree_core.proofs.TreeLemmas.{absent_below}
use Rattle.commit_steps.specs.Staging.{staged}
use Rattle.commit_steps.specs.Steps.{IsOutside}
use Rattle.commit_steps.specs.declared.step.Step.{Step}
use Rattle.commit_steps.specs.declared.step.Step.TheVariants.{MakeDir, Rename, Mode}
use Rattle.step_trees.proofs.NameLemmas.{IsOwn, apart_outside}
use Rattle.step_trees.proofs.RemovalLemmas.{removed-other, without-remove_out}
use Rattle.step_trees.proofs.StepLemmas.{apart_lawful, step-without, step-file, FileAt, same_stood, absent_stood, dir_stood}
use Rattle.step_trees.proofs.Without.{without-renamed_out, clear-without, renamed-out, IsClear}
use Rattle.step_trees.specs.Entries.{without}
use Rattle.step_trees.specs.Steps.{undo_of, IsStep}
use Rattle.step_trees.specs.Apart.{IsApartStep}

-- nothing stands where the undone step moves to
abbrev pub IsClearUndo : Step → FileTree → Type 0
IsClearUndo (MakeDir q) t = Unit {0}
IsClearUndo (Rename from to) t = IsClear t from
IsClearUndo (Mode q old new) t = Unit {0}

pub clear_undo : (s : Step) (t : FileTree) → IsTree t → CanDo (undo_of s) t → IsClearUndo s t
clear_undo (MakeDir q) t tree can = tt
clear_undo (Rename from to) t tree can = absent_below t tree from can.absent
clear_undo (Mode q old new) t tree can = tt

pub clear_undo-without : (p : Names) (s : Step) (t : FileTree) → IsClearUndo s t → IsClearUndo s (without p t)
clear_undo-without p (MakeDir q) t clear = tt
clear_undo-without p (Rename from to) t clear = clear-without p t from clear
clear_undo-without p (Mode q old new) t clear = tt

pub undo-without : (p : Names) (s : Step) (n : ℕ) (t : FileTree) → IsApartStep p s → IsClearUndo s t → without p (done (undo_of s) n t) ≡ done (undo_of s) 0 (without p t)
undo-without p (MakeDir q) n t apart clear = without-remove_out p t q apart.0
undo-without p (Rename from to) n t apart clear = without-renamed_out t to from clear p apart.1 apart.0
undo-without p (Mode q old new) n t apart clear = step-without p (Mode q new old) n t apart tt

pub undo-file : (s : Step) (n : ℕ) (t : FileTree) (p : Names) (number : ℕ) (bytes : List ℕ) → IsApartStep p s → IsClearUndo s t → FileAt t p number bytes → FileAt (done (undo_of s) n t) p number bytes
undo-file (MakeDir q) n t p number bytes apart clear file = record {
  mode = file.mode;
  is = removed-other t q p (λ same. none-some [] (sym apart.0 ∙ ap (rest_below p) (sym same) ∙ rest_below-same p)) ∙ file.is;
}
undo-file (Rename from to) n t p number bytes apart clear file = record { mode = file.mode; is = renamed-out t to from clear p apart.0.1 apart.1.1 ∙ file.is }
undo-file (Mode q old new) n t p number bytes apart clear file = step-file (Mode q new old) n t p number bytes apart tt file

outside_child : (q : Names) (name : List ℕ) → IsOutside q → IsOutside (q ++ name ∷ [])
outside_child [] name outside = absurd outside
outside_child (x ∷ q) name outside = outside

pub undo_stood : (x : List ℕ) (s : Step) (t : FileTree) → IsOwn x → IsStep s → CanDo (undo_of s) (without (staged x) t) → CanDo (undo_of s) t
undo_stood x (MakeDir q) t own lawful can = (
  dir_stood (staged x) t q can.0,
  can.1,
  λ name. absent_stood (staged x) t (q ++ name ∷ []) (apart_outside x (q ++ name ∷ []) (outside_child q name lawful.lawful)) (can.2 name),
)
undo_stood x (Rename from to) t own lawful can =
    let apart = apart_lawful x (Rename from to) own lawful in
    record {
      named = can.named;
      stands = subst (λ (o : Option Node). IsTrue (is_some o)) (sym (same_stood (staged x) t to apart.1)) can.stands;
      not_root = can.not_root;
      absent = absent_stood (staged x) t from apart.0 can.absent;
      parent_is_dir = dir_stood (staged x) t (parent from) can.parent_is_dir;
      apart = can.apart;
    }
undo_stood x (Mode q old new) t own lawful can = (subst (λ (o : Option Node). IsTrue (has_mode_node o)) (sym (same_stood (staged x) t q (apart_outside x q lawful.lawful.0))) can.0, can.1)
