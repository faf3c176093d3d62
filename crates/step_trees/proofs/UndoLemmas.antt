-- A step that is undone.
use Rattle.std.proofs.Common.{◌≡◌, ◌≢◌, ℕ, ◌==◌, Bool, true, false, List, [], ◌∷◌, ◌++◌, refl, sym, ◌∙◌, ap, subst, append_assoc, Option, Some, None, is_some, IsTrue, if◌then◌else◌}
use Rattle.std.proofs.lemmas.Bool.{eqb-true}
use Rattle.std.proofs.lemmas.Option.{none-some, same_Some}
use Rattle.std.specs.Option.{option_map}
use Rattle.std.specs.FinMap.{get, insert, remove}
use Rattle.dired_text.specs.Paths.{Names, rest_below, parent}
use Rattle.dired_text.proofs.PathLemmas.{rest_below-append, rest_below-some}
use Rattle.tree_core.specs.declared.node.Node.{Node}
use Rattle.tree_core.specs.declared.node.Node.TheVariants.{Dir, Link, File}
use Rattle.tree_core.specs.FileTree.{FileTree, IsTree, IsAbsent, IsDir, HasMode, Stands, CanDo, done, after_rename, renamed, set_mode_of, with_file_mode, with_nodes, mode_of, is_dir_node, has_mode_node}
use Rattle.tree_core.proofs.TreeLemmas.{same_tree, absent_below, get-with_nodes, get-renamed, parent-push, last_of}
use Rattle.tree_core.proofs.Sound.{get-inserted, get-inserted_other, by_removal, by_place}
use Rattle.commit_steps.specs.declared.step.Step.{Step}
use Rattle.commit_steps.specs.declared.step.Step.TheVariants.{MakeDir, Rename, Mode}
use Rattle.step_trees.proofs.NameLemmas.{are_names, not_root, not_root_outside}
use Rattle.step_trees.proofs.Without.{renamed-out, renamed-to, renamed-from, IsClear, apart_at}
use Rattle.step_trees.specs.Steps.{undo_of, step_done, IsStep, IsBefore}
use Rattle.step_trees.specs.Apart.{IsApart}

-- ---- a directory

undone_dir : (t : FileTree) (p : Names) (mode : ℕ) → IsAbsent t p → remove (insert t p (Dir mode)) p ≡ t
undone_dir t p mode absent = same_tree _ _ (λ q. by_removal (insert t p (Dir mode)) p q (λ o. o ≡ get t q)
    (λ same. sym (ap (get t) same ∙ absent)) (λ other. get-inserted_other t p (Dir mode) q other))

-- ---- a rename

module _ (t : FileTree) (from to : Names) (clear : IsClear t to) (apart : IsApart from to) where
  pub clear_from : IsClear (renamed t from to) from
  clear_from r = renamed-from t from to clear (from ++ r) r (apart_at from to (from ++ r) r apart (rest_below-append from r)) (rest_below-append from r)

  undone_rename : renamed (renamed t from to) to from ≡ t
  undone_rename = same_tree _ _ (λ q. by_rest q (rest_below from q) (rest_below to q) refl refl)
    where
      at : (q : Names) (a b : Option Names) → rest_below from q ≡ a → rest_below to q ≡ b → get (renamed (renamed t from to) to from) q ≡ after_rename a b (get (renamed t from to)) to q
      at q a b ea eb = get-renamed to from (renamed t from to) clear_from q ∙ ap (λ (o : Option Names). after_rename o (rest_below to q) (get (renamed t from to)) to q) ea
          ∙ ap (λ (o : Option Names). after_rename a o (get (renamed t from to)) to q) eb

      by_rest : (q : Names) (a b : Option Names) → rest_below from q ≡ a → rest_below to q ≡ b → get (renamed (renamed t from to) to from) q ≡ get t q
      by_rest q (Some r) b ea eb = at q (Some r) b ea eb ∙ renamed-to t from to clear r ∙ ap (get t) (sym (rest_below-some from q r ea))
      by_rest q None (Some r) ea eb = at q None (Some r) ea eb ∙ sym (ap (get t) (rest_below-some to q r eb) ∙ clear r)
      by_rest q None None ea eb = at q None None ea eb ∙ renamed-out t from to clear q eb ea

-- ---- a mode

undone_file : (t : FileTree) → IsTree t → (p : Names) (n : ℕ) (b : List ℕ) (old new : ℕ) → get t p ≡ Some (File n b old) → with_nodes (with_file_mode n old) (with_nodes (with_file_mode n new) t) ≡ t
undone_file t tree p n b old new at_p = same_tree _ _ (λ q.
    get-with_nodes (with_file_mode n old) (with_nodes (with_file_mode n new) t) q ∙ ap (option_map (with_file_mode n old)) (get-with_nodes (with_file_mode n new) t q) ∙ by_node q (get t q) refl)
  where
    by_number : (c : Bool) (m : ℕ) → (c ≡ true → m ≡ old) → (if c then old else if c then new else m) ≡ m
    by_number true m same = sym (same refl)
    by_number false m same = refl

    by_node : (q : Names) (o : Option Node) → get t q ≡ o → option_map (with_file_mode n old) (option_map (with_file_mode n new) o) ≡ o
    by_node q None e = refl
    by_node q (Some (Dir m)) e = refl
    by_node q (Some (Link target)) e = refl
    by_node q (Some (File k c m)) e = ap (λ x. Some (File k c x)) (by_number (k == n) m (λ yes_is. (tree.alike q p k c b m old e (at_p ∙ ap (λ x. Some (File x b old)) (sym (eqb-true k n yes_is)))).1))

mode_back : (t : FileTree) → IsTree t → (p : Names) (old new : ℕ) (o : Option Node) → get t p ≡ o → IsTrue (has_mode_node o) → option_map mode_of o ≡ Some old
    → set_mode_of (get (set_mode_of o t p new) p) (set_mode_of o t p new) p old ≡ t
mode_back t tree p old new None e has is = cc
mode_back t tree p old new (Some (Link target)) e has is = cc
mode_back t tree p old new (Some (Dir m)) e has is =
    ap (λ o. set_mode_of o (insert t p (Dir new)) p old) (get-inserted t p (Dir new))
    ∙ same_tree _ _ (λ q. by_place (insert t p (Dir new)) p (Dir old) q (λ o. o ≡ get t q)
    (λ same. sym (ap (get t) same ∙ e ∙ ap (λ x. Some (Dir x)) (same_Some m old is)))
    (λ other. get-inserted_other t p (Dir new) q other))
mode_back t tree p old new (Some (File n b m)) e has is =
    ap (λ o. set_mode_of o (with_nodes (with_file_mode n new) t) p old) (get-with_nodes (with_file_mode n new) t p ∙ ap (option_map (with_file_mode n new)) e)
    ∙ undone_file t tree p n b old new (e ∙ ap (λ x. Some (File n b x)) (same_Some m old is))

-- ---- every step

pub undone_step : (s : Step) (n : ℕ) (t : FileTree) → IsTree t → IsStep s → IsBefore s t → done (undo_of s) n (step_done s t) ≡ t
undone_step (MakeDir p) n t tree lawful before = undone_dir t p 0o755 before.0
undone_step (Rename from to) n t tree lawful before = undone_rename t from to (absent_below t tree to before.1) (lawful.lawful.2, lawful.lawful.3)
undone_step (Mode p old new) n t tree lawful before = mode_back t tree p old new (get t p) refl before.0 before.1

mode_kept : (t : FileTree) (p : Names) (new : ℕ) (o : Option Node) → get t p ≡ o → IsTrue (has_mode_node o) → HasMode (set_mode_of o t p new) p
mode_kept t p new None e has = cc
mode_kept t p new (Some (Link target)) e has = cc
mode_kept t p new (Some (Dir m)) e has = ap has_mode_node (get-inserted t p (Dir new))
mode_kept t p new (Some (File n b m)) e has = ap has_mode_node (get-with_nodes (with_file_mode n new) t p ∙ ap (option_map (with_file_mode n new)) e)

-- the parent of what was moved stays where it is
parent_stays : (t : FileTree) → IsTree t → (from to : Names) → from ≢ [] → IsApart from to → IsClear t to → Stands t from → IsDir (renamed t from to) (parent from)
parent_stays t tree [] to root apart clear stands = absurd (root refl)
parent_stays t tree (x ∷ p) to root apart clear stands =
    let l = last_of x p in
    subst (IsDir (renamed t (x ∷ p) to)) (sym (ap parent l.is ∙ parent-push l.front l.last))
    (ap is_dir_node (renamed-out t (x ∷ p) to clear l.front (out_to l.front l.last l.is) (out_from l.front l.last l.is)) ∙ tree.parents l.front l.last (subst (Stands t) l.is stands))
  where
    out_to : (front : Names) (last : List ℕ) → x ∷ p ≡ front ++ last ∷ [] → rest_below to front ≡ None
    out_to front last is = by_rest (rest_below to front) refl
      where
        by_rest : (o : Option Names) → rest_below to front ≡ o → o ≡ None
        by_rest None e = refl
        by_rest (Some r) e = absurd (none-some (r ++ last ∷ []) (sym apart.1 ∙ ap (rest_below to) (is ∙ ap (λ (f : Names). f ++ last ∷ []) (rest_below-some to front r e) ∙ append_assoc to r (last ∷ [])) ∙ rest_below-append to (r ++ last ∷ [])))

    out_from : (front : Names) (last : List ℕ) → x ∷ p ≡ front ++ last ∷ [] → rest_below (x ∷ p) front ≡ None
    out_from front last is = by_rest (rest_below (x ∷ p) front) refl
      where
        longer : (front : Names) (last : List ℕ) (r : Names) → front ≡ (front ++ last ∷ []) ++ r → ⊥
        longer [] last r e = cc
        longer (y ∷ front) last r e = let tail : front ≡ (front ++ last ∷ []) ++ r = cc in longer front last r tail

        by_rest : (o : Option Names) → rest_below (x ∷ p) front ≡ o → o ≡ None
        by_rest None e = refl
        by_rest (Some r) e = absurd (longer front last r (rest_below-some (x ∷ p) front r e ∙ ap (λ (f : Names). f ++ r) is))

-- it can be undone in the tree behind it
pub can_undo : (s : Step) (t : FileTree) → IsTree t → IsStep s → IsBefore s t → CanDo (undo_of s) (step_done s t)
can_undo (MakeDir p) t tree lawful before = (
  ap is_dir_node (get-inserted t p (Dir 0o755)),
  not_root_outside p lawful.lawful,
  λ name. get-inserted_other t p (Dir 0o755) (p ++ name ∷ []) (λ same. no_longer p name same) ∙ absent_below t tree p before.0 (name ∷ []),
)
  where
    no_longer : (p : Names) (name : List ℕ) → p ++ name ∷ [] ≡ p → ⊥
    no_longer [] name e = cc
    no_longer (x ∷ p) name e = let tail : p ++ name ∷ [] ≡ p = cc in no_longer p name tail
can_undo (Rename from to) t tree lawful before =
    let clear = absent_below t tree to before.1 in
    record {
      named = are_names from (lawful.paths.0).names;
      stands = ap is_some (ap (get (renamed t from to)) (sym (nil to)) ∙ renamed-to t from to clear [] ∙ ap (get t) (nil from)) ∙ before.0;
      not_root = not_root to lawful.lawful.1;
      absent = ap (get (renamed t from to)) (sym (nil from)) ∙ clear_from t from to clear (lawful.lawful.2, lawful.lawful.3) [];
      parent_is_dir = parent_stays t tree from to (not_root from lawful.lawful.0) (lawful.lawful.2, lawful.lawful.3) clear before.0;
      apart = lawful.lawful.3;
    }
  where
    nil : (p : Names) → p ++ [] ≡ p
    nil [] = refl
    nil (x ∷ p) = ap (λ (l : Names). x ∷ l) (nil p)
can_undo (Mode p old new) t tree lawful before = (mode_kept t p new (get t p) refl before.0, lawful.lawful.1)
