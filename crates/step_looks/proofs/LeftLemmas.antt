-- What looks tell of each step of a group of which some were done: none of them is strange.
use Rattle.std.proofs.Common.{◌≡◌, inl, inr, ℕ, ◌+◌, ◌≤◌, Bool, true, false, List, [], ◌∷◌, ◌++◌, length, reverse, refl, sym, ◌∙◌, ap, subst, arith, append_assoc, Option, Some, None}
use Rattle.std.proofs.Math.Path.{path_j, subst_refl}
use Rattle.std.proofs.lemmas.List.{reverse-append}
use Rattle.std.specs.List.{AllByRecursion}
use Rattle.tree_core.specs.declared.node.Node.{Node}
use Rattle.tree_core.specs.FileTree.{FileTree, IsTree, CanDo, done}
use Rattle.commit_steps.specs.declared.step.Step.{Step}
use Rattle.commit_steps.specs.Staging.{plan}
use Rattle.commit_steps.specs.Steps.{HasPaths}
use Rattle.step_trees.specs.Groups.{groups, to_next_cut, from_last_cut, ComesBySome, left_of, taken_of}
use Rattle.step_trees.specs.Leads.{at_place, Leads}
use Rattle.step_trees.specs.Steps.{undo_of, step_done, IsStep, IsBefore, IsAfter}
use Rattle.step_trees.proofs.NameLemmas.{IsOwn, own-plan}
use Rattle.step_trees.proofs.GroupLemmas.{Free, Joins, joins, joins_left, joins_next, swapped, stays_before, stays_after, after_own, tree_step, free_next, clear_before}
use Rattle.step_trees.proofs.ChoiceLemmas.{taken_is, free_taken, not_both}
use Rattle.step_trees.proofs.LeadLemmas.{entries_at}
use Rattle.step_trees.proofs.LawLemmas.{free_at}
use Rattle.step_trees.proofs.UndoLemmas.{can_undo}
use Rattle.commit_states.proofs.StandLemmas.{before_bare, step-bare}
use Rattle.commit_states.specs.Interrupted.{bare}
use Rattle.step_looks.specs.declared.looking.Seen.{Seen}
use Rattle.step_looks.specs.declared.looking.Seen.TheVariants.{Before, After}
use Rattle.step_looks.specs.Looks.{is_before, is_after, can_go_back, seen_by, look_of, look_back_of}
use Rattle.step_looks.specs.Redoing.{by_look, to_redo, strange_redo}
use Rattle.step_looks.specs.Strictly.{to_undo_strictly, strange_back, strange_look}
use Rattle.step_looks.specs.Undoing.{undone}
use Rattle.step_looks.specs.Laws.{IsBare, TellsAll}
use Rattle.step_looks.proofs.TestLemmas.{before_is, before_tests, after_tests, not_both_tests}
use Rattle.step_looks.proofs.TellLemmas.{after_bare, told, undid, can_taken, own_marker, all_led, free_cut}
use Rattle.step_looks.proofs.UndoLemmas.{undone-push}

-- what was done is no more to be done
not_before : (s : Step) (t : FileTree) → IsStep s → IsAfter s t → is_before s t ≡ false
not_before s t lawful behind = by_test (is_before s t) refl
  where
    by_test : (b : Bool) → is_before s t ≡ b → is_before s t ≡ false
    by_test false e = e
    by_test true e = absurd (not_both s t lawful (before_is s t e) behind)

-- ---- the steps that are left, in the tree with another one done

left_from : (g : List Step) (a b c : FileTree) (e : a ≡ b) (some : ComesBySome g a c) → left_of g b c (subst (λ x. ComesBySome g x c) e some) ≡ left_of g a c some
left_from g a b c e some = path_j (λ x (p : a ≡ x). left_of g x c (subst (λ y. ComesBySome g y c) p some) ≡ left_of g a c some) (ap (left_of g a c) (subst_refl (λ y. ComesBySome g y c) some)) e

record Besides (s : Step) (g : List Step) (t c : FileTree) (some : ComesBySome g t c) : Type 0 where
  pub comes : ComesBySome g (step_done s t) (step_done s c)
  pub left : left_of g (step_done s t) (step_done s c) comes ≡ left_of g t c some

besides : (s : Step) (g : List Step) (t c : FileTree) → Joins s g t → (some : ComesBySome g t c) → Besides s g t c some
besides s [] t c j is = record { comes = ap (step_done s) is; left = refl }
besides s (u ∷ g) t c j (inl left) = let b = besides s g t c (joins_left s u g t j) left in record { comes = inl b.comes; left = ap (λ (l : List Step). u ∷ l) b.left }
besides s (u ∷ g) t c j (inr taken) =
    let b = besides s g (step_done u t) c (joins_next s u g t j) taken in
    let turned = sym (swapped s u g t j) in
    record { comes = inr (subst (λ x. ComesBySome g x (step_done s c)) turned b.comes); left = left_from g (step_done s (step_done u t)) (step_done u (step_done s t)) (step_done s c) turned b.comes ∙ b.left }

-- ---- one step more, which comes first

-- the tree with the later ones undone
abbrev behind_them : List Step → FileTree → FileTree
behind_them xs t = undone (to_undo_strictly xs t) t

record Pushed (xs : List Step) (s : Step) (t : FileTree) : Type 0 where
  pub undo : to_undo_strictly (xs ++ s ∷ []) t ≡ by_look (look_back_of s (behind_them xs t)) [] (s ∷ []) [] ++ to_undo_strictly xs t
  pub strange : (k : ℕ) → strange_back k (xs ++ s ∷ []) t ≡ by_look (look_back_of s (behind_them xs t)) None None (Some k)

pushed : (xs : List Step) (s : Step) (t : FileTree) → ((k : ℕ) → strange_back k xs t ≡ None) → Pushed xs s t
pushed [] s t none = record {
  undo = by_seen (look_back_of s t);
  strange = λ k. ap (λ n. by_look (look_back_of s t) None None (Some n)) (let e : k + 0 ≡ k = omega arith in e);
}
  where
    by_seen : (o : Option Seen) → by_look o [] (s ∷ []) [] ≡ by_look o [] (s ∷ []) [] ++ []
    by_seen None = refl
    by_seen (Some Before) = refl
    by_seen (Some After) = refl
pushed (x ∷ xs) s t none = by_seen (look_back_of x t) refl (pushed xs s t) (pushed xs s (done (undo_of x) 0 t))
  where
    less : FileTree
    less = done (undo_of x) 0 t

    here : FileTree → List Step
    here v = by_look (look_back_of s v) [] (s ∷ []) []

    undo_by : (o : Option Seen) → look_back_of x t ≡ o → to_undo_strictly (x ∷ xs ++ s ∷ []) t ≡ by_look o (to_undo_strictly (xs ++ s ∷ []) t) (to_undo_strictly (xs ++ s ∷ []) less ++ x ∷ []) []
    undo_by o e = ap (λ p. by_look p (to_undo_strictly (xs ++ s ∷ []) t) (to_undo_strictly (xs ++ s ∷ []) less ++ x ∷ []) []) e

    own_by : (o : Option Seen) → look_back_of x t ≡ o → to_undo_strictly (x ∷ xs) t ≡ by_look o (to_undo_strictly xs t) (to_undo_strictly xs less ++ x ∷ []) []
    own_by o e = ap (λ p. by_look p (to_undo_strictly xs t) (to_undo_strictly xs less ++ x ∷ []) []) e

    strange_by : (k : ℕ) (o : Option Seen) → look_back_of x t ≡ o
        → strange_back k (x ∷ xs ++ s ∷ []) t ≡ by_look o (strange_back k (xs ++ s ∷ []) t) (strange_back k (xs ++ s ∷ []) less) (Some (k + length (xs ++ s ∷ [])))
    strange_by k o e = ap (λ p. by_look p (strange_back k (xs ++ s ∷ []) t) (strange_back k (xs ++ s ∷ []) less) (Some (k + length (xs ++ s ∷ [])))) e

    none_by : (k : ℕ) (o : Option Seen) → look_back_of x t ≡ o → by_look o (strange_back k xs t) (strange_back k xs less) (Some (k + length xs)) ≡ None
    none_by k o e = sym (ap (λ p. by_look p (strange_back k xs t) (strange_back k xs less) (Some (k + length xs))) e) ∙ none k

    by_seen : (o : Option Seen) → look_back_of x t ≡ o → (((k : ℕ) → strange_back k xs t ≡ None) → Pushed xs s t) → (((k : ℕ) → strange_back k xs less ≡ None) → Pushed xs s less) → Pushed (x ∷ xs) s t
    by_seen (Some Before) e here_on there_on =
        let more = here_on (λ k. none_by k (Some Before) e) in
        let own = own_by (Some Before) e in
        let tree : behind_them xs t ≡ behind_them (x ∷ xs) t = ap (λ (l : List Step). undone l t) (sym own) in
        record {
          undo = undo_by (Some Before) e ∙ more.undo ∙ ap (λ v. here v ++ to_undo_strictly xs t) tree ∙ ap (λ (l : List Step). here (behind_them (x ∷ xs) t) ++ l) (sym own);
          strange = λ k. strange_by k (Some Before) e ∙ more.strange k ∙ ap (λ v. by_look (look_back_of s v) None None (Some k)) tree;
        }
    by_seen (Some After) e here_on there_on =
        let more = there_on (λ k. none_by k (Some After) e) in
        let own = own_by (Some After) e in
        let tree : behind_them xs less ≡ behind_them (x ∷ xs) t = sym (ap (λ (l : List Step). undone l t) own ∙ undone-push (to_undo_strictly xs less) x t) in
        record {
          undo = undo_by (Some After) e ∙ ap (λ (l : List Step). l ++ x ∷ []) more.undo ∙ append_assoc (here (behind_them xs less)) (to_undo_strictly xs less) (x ∷ [])
              ∙ ap (λ v. here v ++ (to_undo_strictly xs less ++ x ∷ [])) tree ∙ ap (λ (l : List Step). here (behind_them (x ∷ xs) t) ++ l) (sym own);
          strange = λ k. strange_by k (Some After) e ∙ more.strange k ∙ ap (λ v. by_look (look_back_of s v) None None (Some k)) tree;
        }
    by_seen None e here_on there_on = absurd (let no = none_by 0 None e in cc)

-- ---- a journal and a marker stand

module _ (marker : List ℕ) (own : IsOwn marker) where
  module _ (s : Step) (u t : FileTree) (lawful : IsStep s) (is : bare plan marker t ≡ u) where
    before_there : IsBefore s u → IsBefore s t
    before_there before = before_bare plan marker s t own-plan own lawful (subst (IsBefore s) (sym is) before)

    look_before : IsBefore s u → look_of s t ≡ Some Before
    look_before before = ap (λ b. seen_by b (is_after s t)) (before_tests s t (before_there before))

    look_after : IsAfter s u → look_of s t ≡ Some After
    look_after behind =
        let there : IsAfter s t = after_bare marker own s t lawful (subst (IsAfter s) (sym is) behind) in
        ap (λ b. seen_by b (is_after s t)) (not_before s t lawful there) ∙ ap (seen_by false) (after_tests s t there)

    back_before : IsBefore s u → look_back_of s t ≡ Some Before
    back_before before = ap (λ b. seen_by b (can_go_back s t)) (before_tests s t (before_there before))

    back_after : IsAfter s u → CanDo (undo_of s) u → look_back_of s t ≡ Some After
    back_after behind can =
        let yes_is : can_go_back s t ≡ true = told marker own s u t lawful is behind can in
        ap (λ b. seen_by b (can_go_back s t)) (not_both_tests s t lawful yes_is) ∙ ap (seen_by false) yes_is

  -- ---- forward

  record Redone (g : List Step) (a u t : FileTree) (some : ComesBySome g a u) : Type 0 where
    pub redo : to_redo g t ≡ left_of g a u some
    pub strange : (k : ℕ) → strange_redo k g t ≡ None

  redone : (g : List Step) (a u t : FileTree) → IsTree t → IsTree a → Free g a → (some : ComesBySome g a u) → bare plan marker t ≡ u → Redone g a u t some
  redone [] a u t tree tree_a free some is = record { redo = refl; strange = λ k. refl }
  redone (s ∷ g) a u t tree tree_a free (inl left) is =
      let j = joins s g a tree_a free in
      let before = stays_before s g a u j left in
      let e = look_before s u t free.0 is before in
      let there = before_there s u t free.0 is before in
      let next_is : bare plan marker (step_done s t) ≡ step_done s u = step-bare plan marker s 0 t own-plan own free.0 (clear_before s t tree there) ∙ ap (step_done s) is in
      let b = besides s g a u j left in
      let more = redone g (step_done s a) (step_done s u) (step_done s t) (tree_step s t tree free.0 there) (tree_step s a tree_a free.0 free.1) (free_next s g a tree_a free) b.comes next_is in
      record {
        redo = ap (λ o. by_look o (s ∷ to_redo g (step_done s t)) (to_redo g t) []) e ∙ ap (λ (l : List Step). s ∷ l) (more.redo ∙ b.left);
        strange = λ k. ap (λ o. by_look o (strange_redo (k + 1) g (step_done s t)) (strange_redo (k + 1) g t) (Some k)) e ∙ more.strange (k + 1);
      }
  redone (s ∷ g) a u t tree tree_a free (inr taken) is =
      let e = look_after s u t free.0 is (stays_after s g a u (joins s g a tree_a free) taken) in
      let more = redone g (step_done s a) u t tree (tree_step s a tree_a free.0 free.1) (free_next s g a tree_a free) taken is in
      record {
        redo = ap (λ o. by_look o (s ∷ to_redo g (step_done s t)) (to_redo g t) []) e ∙ more.redo;
        strange = λ k. ap (λ o. by_look o (strange_redo (k + 1) g (step_done s t)) (strange_redo (k + 1) g t) (Some k)) e ∙ more.strange (k + 1);
      }

  -- ---- back

  record GoneBack (g : List Step) (a u t : FileTree) (some : ComesBySome g a u) : Type 0 where
    pub undo : to_undo_strictly (reverse g) t ≡ taken_of g a u some
    pub strange : (k : ℕ) → strange_back k (reverse g) t ≡ None

  gone_back : (g : List Step) (a u t : FileTree) → IsTree t → IsTree a → Free g a → (some : ComesBySome g a u) → bare plan marker t ≡ u → GoneBack g a u t some
  gone_back [] a u t tree tree_a free some is = record { undo = refl; strange = λ k. refl }
  gone_back (s ∷ g) a u t tree tree_a free (inl left) is =
      let later = gone_back g a u t tree tree_a free.3 left is in
      let d = undid marker own (taken_of g a u left) t a tree tree_a (free_taken g a a u free.3 left) (is ∙ taken_is g a u left) in
      let e : look_back_of s (behind_them (reverse g) t) ≡ Some Before =
      ap (λ (l : List Step). look_back_of s (undone l t)) later.undo ∙ back_before s a (undone (taken_of g a u left) t) free.0 d.is free.1 in
      let p = pushed (reverse g) s t later.strange in
      let turned : reverse (s ∷ g) ≡ reverse g ++ s ∷ [] = reverse-append (s ∷ []) g in
      record {
        undo = ap (λ (l : List Step). to_undo_strictly l t) turned ∙ p.undo ∙ ap (λ o. by_look o [] (s ∷ []) [] ++ to_undo_strictly (reverse g) t) e ∙ later.undo;
        strange = λ k. ap (λ (l : List Step). strange_back k l t) turned ∙ p.strange k ∙ ap (λ o. by_look o None None (Some k)) e;
      }
  gone_back (s ∷ g) a u t tree tree_a free (inr taken) is =
      let b = step_done s a in
      let tree_b = tree_step s a tree_a free.0 free.1 in
      let free_b = free_next s g a tree_a free in
      let later = gone_back g b u t tree tree_b free_b taken is in
      let d = undid marker own (taken_of g b u taken) t b tree tree_b (free_taken g b b u free_b taken) (is ∙ taken_is g b u taken) in
      let e : look_back_of s (behind_them (reverse g) t) ≡ Some After =
      ap (λ (l : List Step). look_back_of s (undone l t)) later.undo
      ∙ back_after s b (undone (taken_of g b u taken) t) free.0 d.is (after_own s a tree_a free.0 free.1) (can_undo s a tree_a free.0 free.1) in
      let p = pushed (reverse g) s t later.strange in
      let turned : reverse (s ∷ g) ≡ reverse g ++ s ∷ [] = reverse-append (s ∷ []) g in
      record {
        undo = ap (λ (l : List Step). to_undo_strictly l t) turned ∙ p.undo ∙ ap (λ o. by_look o [] (s ∷ []) [] ++ to_undo_strictly (reverse g) t) e ∙ ap (λ (l : List Step). s ∷ l) later.undo;
        strange = λ k. ap (λ (l : List Step). strange_back k l t) turned ∙ p.strange k ∙ ap (λ o. by_look o None None (Some k)) e;
      }

  -- each can be undone or is still to be done
  none_strange : (g : List Step) (a u t : FileTree) → IsTree a → Free g a → (some : ComesBySome g a u) → bare plan marker t ≡ u → (k : ℕ) → strange_look k g t ≡ None
  none_strange [] a u t tree_a free some is k = refl
  none_strange (s ∷ g) a u t tree_a free (inl left) is k =
      ap (λ o. by_look o (strange_look (k + 1) g t) (strange_look (k + 1) g t) (Some k)) (back_before s u t free.0 is (stays_before s g a u (joins s g a tree_a free) left))
      ∙ none_strange g a u t tree_a free.3 left is (k + 1)
  none_strange (s ∷ g) a u t tree_a free (inr taken) is k =
      let j = joins s g a tree_a free in
      ap (λ o. by_look o (strange_look (k + 1) g t) (strange_look (k + 1) g t) (Some k)) (back_after s u t free.0 is (stays_after s g a u j taken) (can_taken marker own s g a u j taken))
      ∙ none_strange g (step_done s a) u t (tree_step s a tree_a free.0 free.1) (free_next s g a tree_a free) taken is (k + 1)

  pub tells_all : (g : List Step) (a u t : FileTree) → IsTree t → IsTree a → Free g a → (some : ComesBySome g a u) → bare plan marker t ≡ u → TellsAll g a u t some
  tells_all g a u t tree tree_a free some is =
      let r = redone g a u t tree tree_a free some is in
      let b = gone_back g a u t tree tree_a free some is in
      record { redo = r.redo; redo_strange = r.strange; undo = b.undo; undo_strange = b.strange; look_strange = none_strange g a u t tree_a free some is }

module _ (steps : List Step) (old new : FileTree) (fresh : List Node) (leads : Leads steps old new fresh) (paths : AllByRecursion HasPaths steps) where
  pub looks_tell_all : (m : ℕ) → m ≤ length steps → (marker : List ℕ) (u t : FileTree) (some : ComesBySome (to_next_cut m (groups steps)) (at_place steps old fresh m) u) → IsBare marker u t
      → TellsAll (to_next_cut m (groups steps)) (at_place steps old fresh m) u t some
  looks_tell_all m le marker u t some b =
      let l = all_led steps old new fresh leads paths in
      tells_all marker (own_marker marker b.marker_named) (to_next_cut m (groups steps)) (at_place steps old fresh m) u t b.tree (entries_at steps old new fresh l m).tree (free_at steps old new fresh l m le) some b.is

  pub looks_tell_all_back : (k m : ℕ) → m ≤ length steps → m ≡ k + length (from_last_cut m (groups steps))
      → (marker : List ℕ) (u t : FileTree) (some : ComesBySome (from_last_cut m (groups steps)) (at_place steps old fresh k) u) → IsBare marker u t
      → TellsAll (from_last_cut m (groups steps)) (at_place steps old fresh k) u t some
  looks_tell_all_back k m le is marker u t some b =
      let l = all_led steps old new fresh leads paths in
      tells_all marker (own_marker marker b.marker_named) (from_last_cut m (groups steps)) (at_place steps old fresh k) u t b.tree (entries_at steps old new fresh l k).tree (free_cut steps old new fresh leads paths k m le is) some b.is
