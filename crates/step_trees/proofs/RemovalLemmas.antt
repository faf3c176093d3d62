-- Removals.
use Rattle.std.proofs.Common.{◌≡◌, ◌≢◌, true, [], ◌∷◌, ◌++◌, refl, sym, ◌∙◌, ap, Option, Some, None, append_assoc}
use Rattle.std.proofs.lemmas.List.{append-nil}
use Rattle.std.proofs.lemmas.Option.{none-some}
use Rattle.std.specs.FinMap.{get, remove}
use Rattle.dired_text.specs.Paths.{Names, rest_below}
use Rattle.dired_text.proofs.PathLemmas.{rest_below-same, rest_below-some}
use Rattle.tree_core.specs.FileTree.{FileTree, IsTree, IsAbsent, IsDir, IsEmptyAt, is_dir_node}
use Rattle.tree_core.proofs.TreeLemmas.{same_tree, absent_below}
use Rattle.tree_core.proofs.Sound.{by_removal}
use Rattle.step_trees.proofs.Without.{get-without_in, get-without_out, without-is}
use Rattle.step_trees.specs.Entries.{without}

-- ---- removals and what is left out

pub removed-other : (t : FileTree) (p q : Names) → q ≢ p → get (remove t p) q ≡ get t q
removed-other t p q other = by_removal t p q (λ o. o ≡ get t q) (λ same. absurd (other same)) (λ _. refl)

pub removed-itself : (t : FileTree) (p : Names) → IsAbsent (remove t p) p
removed-itself t p = by_removal t p p (λ o. o ≡ None) (λ _. refl) (λ other. absurd (other refl))

pub removed-absent : (t : FileTree) (p q : Names) → IsAbsent t q → IsAbsent (remove t p) q
removed-absent t p q absent = by_removal t p q (λ o. o ≡ None) (λ _. refl) (λ _. absent)

pub without-remove_out : (p : Names) (t : FileTree) (q : Names) → rest_below p q ≡ None → without p (remove t q) ≡ remove (without p t) q
without-remove_out p t q out = same_tree _ _ (λ x. by_rest x (rest_below p x) refl)
  where
    by_rest : (x : Names) (o : Option Names) → rest_below p x ≡ o → get (without p (remove t q)) x ≡ get (remove (without p t) q) x
    by_rest x (Some r) e = get-without_in p _ x r e ∙ sym (removed-absent (without p t) q x (get-without_in p t x r e))
    by_rest x None e = get-without_out p _ x e ∙ by_removal t q x (λ o. o ≡ get (remove (without p t) q) x)
        (λ same. sym (ap (get (remove (without p t) q)) same ∙ removed-itself (without p t) q))
        (λ other. sym (removed-other (without p t) q x other ∙ get-without_out p t x e))

pub no_dir : (t : FileTree) (p : Names) → IsAbsent t p → IsDir t p → ⊥
no_dir t p absent dir = let no : is_dir_node None ≡ true = ap is_dir_node (sym absent) ∙ dir in cc

-- to remove an empty directory is to leave it out
pub removed_dir : (t : FileTree) → IsTree t → (p : Names) → IsEmptyAt t p → remove t p ≡ without p t
removed_dir t tree p empty = sym (without-is p t (remove t p)
    (λ q out. sym (removed-other t p q (λ same. none-some [] (sym out ∙ ap (rest_below p) same ∙ rest_below-same p)))) (λ q r below. inside q r (rest_below-some p q r below)))
  where
    inside : (q r : Names) → q ≡ p ++ r → get (remove t p) q ≡ None
    inside q [] is = ap (get (remove t p)) (is ∙ append-nil p) ∙ removed-itself t p
    inside q (x ∷ r) is = ap (get (remove t p)) (is ∙ sym (append_assoc p (x ∷ []) r)) ∙ removed-absent t p ((p ++ x ∷ []) ++ r) (absent_below t tree (p ++ x ∷ []) (empty x) r)
