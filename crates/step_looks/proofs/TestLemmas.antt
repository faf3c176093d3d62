-- What the tests say.
use Rattle.std.proofs.Common.{◌≡◌, ◌↔◌, ℕ, Bool, true, false, not, ◌&&◌, List, [], ◌∷◌, refl, ◌∙◌, ap, Option, Some, None, is_some, IsTrue, if◌then◌else◌}
use Rattle.std.proofs.lemmas.Bool.{eqb-true, eq-eqb}
use Rattle.std.proofs.lemmas.Option.{same_Some}
use Rattle.std.specs.Option.{option_map}
use Rattle.std.specs.FinMap.{get}
use Rattle.dired_text.specs.Paths.{Names, parent}
use Rattle.tree_core.specs.declared.node.Node.{Node}
use Rattle.tree_core.specs.declared.node.Node.TheVariants.{Dir, Link, File}
use Rattle.tree_core.specs.FileTree.{FileTree, IsEmptyAt, CanDo, mode_of, is_dir_node, has_mode_node}
use Rattle.tree_core.specs.Fields.{names_in}
use Rattle.commit_steps.specs.declared.step.Step.{Step}
use Rattle.commit_steps.specs.declared.step.Step.TheVariants.{MakeDir, Rename, Mode}
use Rattle.step_trees.specs.Steps.{undo_of, IsStep, IsBefore, IsAfter}
use Rattle.step_trees.proofs.ChoiceLemmas.{not_both}
use Rattle.step_trees.proofs.NameLemmas.{are_names, not_root, not_root_outside}
use Rattle.tree_core.proofs.NameLemmas.{names_end}
use Rattle.step_looks.specs.declared.looking.Seen.TheVariants.{After}
use Rattle.step_looks.specs.Looks.{is_of_mode, is_before, is_after, can_go_back, is_none_of, seen_by, look_of, look_back_of}

not_some : (o : Option Node) → not (is_some o) ≡ true → o ≡ None
not_some None e = refl
not_some (Some n) e = cc

some_not : (o : Option Node) → o ≡ None → not (is_some o) ≡ true
some_not None e = refl
some_not (Some n) e = cc

pub and_true : (a b : Bool) → (a && b) ≡ true → (a ≡ true) × (b ≡ true)
and_true true true e = (refl, refl)
and_true true false e = cc
and_true false b e = cc

pub both_true : (a b : Bool) → a ≡ true → b ≡ true → (a && b) ≡ true
both_true true true e f = refl
both_true true false e f = f
both_true false b e f = e

of_mode : (o : Option Node) (m : ℕ) → is_of_mode o m ≡ true → IsTrue (has_mode_node o) × (option_map mode_of o ≡ Some m)
of_mode None m e = cc
of_mode (Some (Dir k)) m e = (refl, ap (λ x. Some x) (eqb-true k m e))
of_mode (Some (Link target)) m e = cc
of_mode (Some (File n b k)) m e = (refl, ap (λ x. Some x) (eqb-true k m e))

mode_tests : (o : Option Node) (m : ℕ) → IsTrue (has_mode_node o) → option_map mode_of o ≡ Some m → is_of_mode o m ≡ true
mode_tests None m has is = cc
mode_tests (Some (Dir k)) m has is = eq-eqb k m (same_Some k m is)
mode_tests (Some (Link target)) m has is = cc
mode_tests (Some (File n b k)) m has is = eq-eqb k m (same_Some k m is)

pub before_is : (s : Step) (t : FileTree) → IsTrue (is_before s t) → IsBefore s t
before_is (MakeDir p) t e = let b = and_true (not (is_some (get t p))) (is_dir_node (get t (parent p))) e in (not_some (get t p) b.0, b.1)
before_is (Rename from to) t e =
    let b = and_true (is_some (get t from) && not (is_some (get t to))) (is_dir_node (get t (parent to))) e in
    let c = and_true (is_some (get t from)) (not (is_some (get t to))) b.0 in
    (c.0, not_some (get t to) c.1, b.1)
before_is (Mode p old new) t e = of_mode (get t p) old e

pub before_tests : (s : Step) (t : FileTree) → IsBefore s t → IsTrue (is_before s t)
before_tests (MakeDir p) t b = both_true (not (is_some (get t p))) (is_dir_node (get t (parent p))) (some_not (get t p) b.0) b.1
before_tests (Rename from to) t b =
    both_true (is_some (get t from) && not (is_some (get t to))) (is_dir_node (get t (parent to))) (both_true (is_some (get t from)) (not (is_some (get t to))) b.0 (some_not (get t to) b.1)) b.2
before_tests (Mode p old new) t b = mode_tests (get t p) old b.0 b.1

pub after_is : (s : Step) (t : FileTree) → IsTrue (is_after s t) → IsAfter s t
after_is (MakeDir p) t e = e
after_is (Rename from to) t e =
    let b = and_true (is_some (get t to) && not (is_some (get t from))) (is_dir_node (get t (parent from))) e in
    let c = and_true (is_some (get t to)) (not (is_some (get t from))) b.0 in
    (not_some (get t from) c.1, c.0, b.1)
after_is (Mode p old new) t e = of_mode (get t p) new e

pub after_tests : (s : Step) (t : FileTree) → IsAfter s t → IsTrue (is_after s t)
after_tests (MakeDir p) t b = b
after_tests (Rename from to) t b =
    both_true (is_some (get t to) && not (is_some (get t from))) (is_dir_node (get t (parent from))) (both_true (is_some (get t to)) (not (is_some (get t from))) b.1 (some_not (get t from) b.0)) b.2
after_tests (Mode p old new) t b = mode_tests (get t p) new b.0 b.1

pub back_is_after : (s : Step) (t : FileTree) → can_go_back s t ≡ true → IsAfter s t
back_is_after (MakeDir p) t e = (and_true (is_dir_node (get t p)) (is_none_of (names_in t p)) e).0
back_is_after (Rename from to) t e = after_is (Rename from to) t e
back_is_after (Mode p old new) t e = after_is (Mode p old new) t e

pub none_of : (l : List (List ℕ)) → is_none_of l ≡ true → l ≡ []
none_of [] e = refl
none_of (n ∷ l) e = cc

-- a lawful step that is no more to be done can be undone
pub can_undo_back : (s : Step) (t : FileTree) → IsStep s → can_go_back s t ≡ true → CanDo (undo_of s) t
can_undo_back (MakeDir p) t lawful e =
    let b = and_true (is_dir_node (get t p)) (is_none_of (names_in t p)) e in
    (b.0, not_root_outside p lawful.lawful, (names_end t p).0 (none_of (names_in t p) b.1))
can_undo_back (Rename from to) t lawful e =
    let a = after_is (Rename from to) t e in
    record {
      named = are_names from (lawful.paths.0).names;
      stands = a.1;
      not_root = not_root to lawful.lawful.1;
      absent = a.0;
      parent_is_dir = a.2;
      apart = lawful.lawful.3;
    }
can_undo_back (Mode p old new) t lawful e = let a = after_is (Mode p old new) t e in (a.0, lawful.lawful.1)

-- no lawful step is to be done and can be undone
pub not_both_tests : (s : Step) (t : FileTree) → IsStep s → can_go_back s t ≡ true → is_before s t ≡ false
not_both_tests s t lawful e = by_test (is_before s t) refl
  where
    by_test : (b : Bool) → is_before s t ≡ b → is_before s t ≡ false
    by_test false is = is
    by_test true is = absurd (not_both s t lawful (before_is s t is) (back_is_after s t e))

-- ---- a look at a directory that may be undone

dir_told : (a b c empty : Bool) → seen_by a b ≡ Some After → empty ≡ c → (if empty then Some After else None) ≡ seen_by a (b && c)
dir_told true b c empty seen same = cc
dir_told false false c empty seen same = cc
dir_told false true c empty seen same = ap (λ x. if x then Some After else None) same

same_truth : (a : Bool) (l : List (List ℕ)) (P : Type 0) → (IsTrue a ↔ P) → ((l ≡ []) ↔ P) → a ≡ is_none_of l
same_truth true [] P one two = refl
same_truth false [] P one two = one.1 (two.0 refl)
same_truth true (n ∷ l) P one two = let no : n ∷ l ≡ [] = two.1 (one.0 refl) in cc
same_truth false (n ∷ l) P one two = refl

pub dir_back : (t : FileTree) (p : Names) (empty : Bool) → look_of (MakeDir p) t ≡ Some After → (IsTrue empty ↔ IsEmptyAt t p) → (if empty then Some After else None) ≡ look_back_of (MakeDir p) t
dir_back t p empty seen is =
    dir_told (not (is_some (get t p)) && is_dir_node (get t (parent p))) (is_dir_node (get t p)) (is_none_of (names_in t p)) empty seen (same_truth empty (names_in t p) (IsEmptyAt t p) is (names_end t p))

-- a look of a lawful step tells that it was done exactly where it can be undone
pub told_back : (s : Step) (t : FileTree) → IsStep s → look_back_of s t ≡ Some After → can_go_back s t ≡ true
told_back s t lawful seen = by_tests (is_before s t) (can_go_back s t) seen
  where
    by_tests : (a b : Bool) → seen_by a b ≡ Some After → b ≡ true
    by_tests true b e = cc
    by_tests false true e = refl
    by_tests false false e = cc

pub told_not : (s : Step) (t : FileTree) → IsStep s → (look_back_of s t ≡ Some After → ⊥) → can_go_back s t ≡ false
told_not s t lawful other = by_tests (can_go_back s t) refl
  where
    by_tests : (b : Bool) → can_go_back s t ≡ b → can_go_back s t ≡ false
    by_tests false e = e
    by_tests true e = absurd (other (ap (λ a. seen_by a (can_go_back s t)) (not_both_tests s t lawful e) ∙ ap (λ b. seen_by false b) e))
