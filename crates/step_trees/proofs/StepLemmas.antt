-- One step, in a tree and in the tree without a path that the step does not name.
use Rattle.std.proofs.Common.{◌≡◌, ℕ, ◌≤◌, ◌==◌, true, List, [], refl, sym, ◌∙◌, ap, subst, arith, Option, Some, None, is_some, IsTrue, if◌then◌else◌}
use Rattle.std.proofs.lemmas.Option.{none-some}
use Rattle.std.specs.Option.{option_map}
use Rattle.std.specs.FinMap.{get}
use Rattle.dired_text.specs.Paths.{Names, rest_below, parent}
use Rattle.dired_text.proofs.PathLemmas.{rest_below-same}
use Rattle.tree_core.specs.declared.node.Node.{Node}
use Rattle.tree_core.specs.declared.node.Node.TheVariants.{Dir, Link, File}
use Rattle.tree_core.specs.FileTree.{FileTree, IsTree, IsAbsent, IsDir, IsFile, CanDo, done, set_mode_of, with_file_mode, is_dir_node, is_file_node, has_mode_node, mode_of}
use Rattle.tree_core.proofs.TreeLemmas.{absent_below, get-with_nodes}
use Rattle.tree_core.proofs.Sound.{get-inserted_other}
use Rattle.commit_steps.specs.Staging.{staged}
use Rattle.commit_steps.specs.declared.step.Step.{Step}
use Rattle.commit_steps.specs.declared.step.Step.TheVariants.{MakeDir, Rename, Mode}
use Rattle.step_trees.proofs.NameLemmas.{are_names, IsOwn, apart_step, apart_outside, not_root}
use Rattle.step_trees.proofs.Without.{without-insert_out, without-nodes, without-renamed_out, without-stood, get-without_out, clear-without, renamed-out, IsClear}
use Rattle.step_trees.specs.Entries.{without}
use Rattle.step_trees.specs.Steps.{call_of, step_done, IsStep, IsBefore}
use Rattle.step_trees.specs.Apart.{IsApart, IsApartStep}

pub apart_lawful : (x : List ℕ) (s : Step) → IsOwn x → IsStep s → IsApartStep (staged x) s
apart_lawful x (MakeDir q) own lawful = apart_outside x q lawful.lawful
apart_lawful x (Rename from to) own lawful = (apart_step x from own lawful.lawful.0, apart_step x to own lawful.lawful.1)
apart_lawful x (Mode q old new) own lawful = apart_outside x q lawful.lawful.0

-- nothing stands where the step moves to
abbrev pub IsClearStep : Step → FileTree → Type 0
IsClearStep (MakeDir q) t = Unit {0}
IsClearStep (Rename from to) t = IsClear t to
IsClearStep (Mode q old new) t = Unit {0}

pub clear_step : (s : Step) (t : FileTree) → IsTree t → CanDo (call_of s) t → IsClearStep s t
clear_step (MakeDir q) t tree can = tt
clear_step (Rename from to) t tree can = absent_below t tree to can.absent
clear_step (Mode q old new) t tree can = tt

pub clear_step-without : (p : Names) (s : Step) (t : FileTree) → IsClearStep s t → IsClearStep s (without p t)
clear_step-without p (MakeDir q) t clear = tt
clear_step-without p (Rename from to) t clear = clear-without p t to clear
clear_step-without p (Mode q old new) t clear = tt

mode-without : (p : Names) (t : FileTree) (q : Names) (mode : ℕ) (o : Option Node) → IsApart p q → without p (set_mode_of o t q mode) ≡ set_mode_of o (without p t) q mode
mode-without p t q mode None apart = refl
mode-without p t q mode (Some (Dir m)) apart = without-insert_out p t q (Dir mode) apart.0
mode-without p t q mode (Some (Link target)) apart = refl
mode-without p t q mode (Some (File n b m)) apart = without-nodes p t (with_file_mode n mode)

-- the step goes on without p as with it
pub step-without : (p : Names) (s : Step) (n : ℕ) (t : FileTree) → IsApartStep p s → IsClearStep s t → without p (done (call_of s) n t) ≡ step_done s (without p t)
step-without p (MakeDir q) n t apart clear = without-insert_out p t q (Dir 0o755) apart.0
step-without p (Rename from to) n t apart clear = without-renamed_out t from to clear p apart.0 apart.1
step-without p (Mode q old new) n t apart clear = mode-without p t q new (get t q) apart ∙ ap (λ (o : Option Node). set_mode_of o (without p t) q new) (sym (get-without_out p t q apart.0))

pub step_number : (s : Step) (n m : ℕ) (t : FileTree) → done (call_of s) n t ≡ done (call_of s) m t
step_number (MakeDir q) n m t = refl
step_number (Rename from to) n m t = refl
step_number (Mode q old new) n m t = refl

-- ---- what can be done in the tree without p can be done in it

pub dir_stood : (p : Names) (t : FileTree) (q : Names) → IsDir (without p t) q → IsDir t q
dir_stood p t q dir = by_node (get (without p t) q) refl
  where
    by_node : (o : Option Node) → get (without p t) q ≡ o → IsDir t q
    by_node None e = let is : is_dir_node None ≡ true = ap is_dir_node (sym e) ∙ dir in cc
    by_node (Some node) e = ap is_dir_node (without-stood p t q node e ∙ sym e) ∙ dir

pub absent_stood : (p : Names) (t : FileTree) (q : Names) → IsApart p q → IsAbsent (without p t) q → IsAbsent t q
absent_stood p t q apart absent = sym (get-without_out p t q apart.0) ∙ absent

pub same_stood : (p : Names) (t : FileTree) (q : Names) → IsApart p q → get t q ≡ get (without p t) q
same_stood p t q apart = sym (get-without_out p t q apart.0)

pub before_stood : (p : Names) (s : Step) (t : FileTree) → IsApartStep p s → IsBefore s (without p t) → IsBefore s t
before_stood p (MakeDir q) t apart before = (absent_stood p t q apart before.0, dir_stood p t (parent q) before.1)
before_stood p (Rename from to) t apart before = (
  subst (λ (o : Option Node). IsTrue (is_some o)) (sym (same_stood p t from apart.0)) before.0,
  absent_stood p t to apart.1 before.1,
  dir_stood p t (parent to) before.2,
)
before_stood p (Mode q old new) t apart before = subst (λ (o : Option Node). IsTrue (has_mode_node o) × (option_map mode_of o ≡ Some old)) (sym (same_stood p t q apart)) before

is_0o755 : 0o755 ≤ 0o7777
is_0o755 = omega arith

pub can_step : (s : Step) (t : FileTree) → IsStep s → IsBefore s t → CanDo (call_of s) t
can_step (MakeDir q) t lawful before = (record { named = are_names q lawful.paths.names; absent = before.0; parent_is_dir = before.1 }, is_0o755)
can_step (Rename from to) t lawful before = record {
  named = are_names to (lawful.paths.1).names;
  stands = before.0;
  not_root = not_root from lawful.lawful.0;
  absent = before.1;
  parent_is_dir = before.2;
  apart = lawful.lawful.2;
}
can_step (Mode q old new) t lawful before = (before.0, lawful.lawful.2)

-- ---- what the step leaves

-- a file of these bytes
pub record FileAt (t : FileTree) (p : Names) (number : ℕ) (bytes : List ℕ) : Type 0 where
  pub mode : ℕ
  pub is : get t p ≡ Some (File number bytes mode)

mode-file : (t : FileTree) (q p : Names) (mode number : ℕ) (bytes : List ℕ) (o : Option Node) → IsApart p q → FileAt t p number bytes → FileAt (set_mode_of o t q mode) p number bytes
mode-file t q p mode number bytes None apart file = file
mode-file t q p mode number bytes (Some (Dir m)) apart file = record {
  mode = file.mode;
  is = get-inserted_other t q (Dir mode) p (λ same. none-some [] (sym apart.0 ∙ ap (rest_below p) (sym same) ∙ rest_below-same p)) ∙ file.is;
}
mode-file t q p mode number bytes (Some (Link target)) apart file = file
mode-file t q p mode number bytes (Some (File n b m)) apart file = record {
  mode = if number == n then mode else file.mode;
  is = get-with_nodes (with_file_mode n mode) t p ∙ ap (option_map (with_file_mode n mode)) file.is;
}

pub step-file : (s : Step) (n : ℕ) (t : FileTree) (p : Names) (number : ℕ) (bytes : List ℕ) → IsApartStep p s → IsClearStep s t → FileAt t p number bytes → FileAt (done (call_of s) n t) p number bytes
step-file (MakeDir q) n t p number bytes apart clear file = record {
  mode = file.mode;
  is = get-inserted_other t q (Dir 0o755) p (λ same. none-some [] (sym apart.0 ∙ ap (rest_below p) (sym same) ∙ rest_below-same p)) ∙ file.is;
}
step-file (Rename from to) n t p number bytes apart clear file = record { mode = file.mode; is = renamed-out t from to clear p apart.1.1 apart.0.1 ∙ file.is }
step-file (Mode q old new) n t p number bytes apart clear file = mode-file t q p new number bytes (get t q) apart file

-- a file, whatever its bytes
pub record SomeFile (t : FileTree) (p : Names) : Type 0 where
  pub number : ℕ
  pub bytes : List ℕ
  pub file : FileAt t p number bytes

pub some_file : (t : FileTree) (p : Names) → IsFile t p → SomeFile t p
some_file t p is = by_node (get t p) refl
  where
    by_node : (o : Option Node) → get t p ≡ o → SomeFile t p
    by_node None e = let no : is_file_node None ≡ true = ap is_file_node (sym e) ∙ is in cc
    by_node (Some (Dir m)) e = let no : is_file_node (Some (Dir m)) ≡ true = ap is_file_node (sym e) ∙ is in cc
    by_node (Some (Link target)) e = let no : is_file_node (Some (Link target)) ≡ true = ap is_file_node (sym e) ∙ is in cc
    by_node (Some (File n b m)) e = record { number = n; bytes = b; file = record { mode = m; is = e } }

pub is_file : (t : FileTree) (p : Names) (number : ℕ) (bytes : List ℕ) → FileAt t p number bytes → IsFile t p
is_file t p number bytes file = ap is_file_node file.is
