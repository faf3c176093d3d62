-- The tree without a path and all below it, and how the changing calls go with that.
use Rattle.std.proofs.Common.{◌≡◌, ◌⊎◌, inl, inr, ⊎_elim, ℕ, cond, not, List, [], ◌∷◌, ◌++◌, refl, sym, ◌∙◌, ap, subst, Option, Some, None, is_some, append_assoc}
use Rattle.std.proofs.lemmas.Bool.{cond-false}
use Rattle.std.proofs.lemmas.Option.{none-some}
use Rattle.std.specs.Option.{option_map}
use Rattle.std.specs.FinMap.{get, insert, remove, get-retain_keys, get-remove}
use Rattle.dired_text.specs.Paths.{Names, rest_below, is_below}
use Rattle.dired_text.proofs.PathLemmas.{path_cmp-total, path_cmp-exact, rest_below-some, rest_below-append}
use Rattle.tree_core.specs.declared.node.Node.{Node}
use Rattle.tree_core.specs.FileTree.{FileTree, IsAbsent, after_rename, renamed, with_nodes}
use Rattle.tree_core.proofs.TreeLemmas.{same_tree, get-with_nodes, get-renamed, tie, tie-other}
use Rattle.tree_core.proofs.Sound.{shows, get-inserted_other}
use Rattle.step_trees.specs.Entries.{without}
use Rattle.step_trees.specs.Apart.{IsApart}

pub get-without : (p : Names) (t : FileTree) (q : Names) → get (without p t) q ≡ cond (not (is_below p q)) (get t q) None
get-without p t q = get-retain_keys t (λ x. not (is_below p x)) q (λ x e. ap (λ y. not (is_below p y)) (sym (path_cmp-exact q x e)))

pub get-without_in : (p : Names) (t : FileTree) (q r : Names) → rest_below p q ≡ Some r → get (without p t) q ≡ None
get-without_in p t q r e = get-without p t q ∙ ap (λ (o : Option Names). cond (not (is_some o)) (get t q) None) e

pub get-without_out : (p : Names) (t : FileTree) (q : Names) → rest_below p q ≡ None → get (without p t) q ≡ get t q
get-without_out p t q e = get-without p t q ∙ ap (λ (o : Option Names). cond (not (is_some o)) (get t q) None) e

-- what stands without it stands with it
pub without-stood : (p : Names) (t : FileTree) (q : Names) (node : Node) → get (without p t) q ≡ Some node → get t q ≡ Some node
without-stood p t q node e = by_rest (rest_below p q) refl
  where
    by_rest : (o : Option Names) → rest_below p q ≡ o → get t q ≡ Some node
    by_rest (Some r) is = absurd (none-some node (sym (get-without_in p t q r is) ∙ e))
    by_rest None is = sym (get-without_out p t q is) ∙ e

-- To show that two trees without p are the same: they agree at each q that is not below p.
pub same_without : (p : Names) (t u : FileTree) → ((q : Names) → rest_below p q ≡ None → get t q ≡ get u q) → without p t ≡ without p u
same_without p t u same = same_tree _ _ (λ q. by_rest q (rest_below p q) refl)
  where
    by_rest : (q : Names) (o : Option Names) → rest_below p q ≡ o → get (without p t) q ≡ get (without p u) q
    by_rest q (Some r) is = get-without_in p t q r is ∙ sym (get-without_in p u q r is)
    by_rest q None is = get-without_out p t q is ∙ same q is ∙ sym (get-without_out p u q is)

-- and that a tree without p is another one: at each q not below p they agree, and nothing of the other is below p
pub without-is : (p : Names) (t u : FileTree) → ((q : Names) → rest_below p q ≡ None → get t q ≡ get u q) → ((q r : Names) → rest_below p q ≡ Some r → get u q ≡ None) → without p t ≡ u
without-is p t u same none = same_tree _ _ (λ q. by_rest q (rest_below p q) refl)
  where
    by_rest : (q : Names) (o : Option Names) → rest_below p q ≡ o → get (without p t) q ≡ get u q
    by_rest q (Some r) is = get-without_in p t q r is ∙ sym (none q r is)
    by_rest q None is = get-without_out p t q is ∙ same q is

-- where nothing is below p
pub without-nothing : (p : Names) (t : FileTree) → ((r : Names) → IsAbsent t (p ++ r)) → without p t ≡ t
without-nothing p t none = without-is p t t (λ q e. refl) (λ q r e. subst (IsAbsent t) (sym (rest_below-some p q r e)) (none r))

pub without-comm : (p q : Names) (t : FileTree) → without p (without q t) ≡ without q (without p t)
without-comm p q t = same_tree _ _ (λ x. by_rest x (rest_below p x) (rest_below q x) refl refl)
  where
    by_rest : (x : Names) (a b : Option Names) → rest_below p x ≡ a → rest_below q x ≡ b → get (without p (without q t)) x ≡ get (without q (without p t)) x
    by_rest x (Some r) (Some s) ea eb = get-without_in p _ x r ea ∙ sym (get-without_in q _ x s eb)
    by_rest x (Some r) None ea eb = get-without_in p _ x r ea ∙ sym (get-without_out q _ x eb ∙ get-without_in p t x r ea)
    by_rest x None (Some s) ea eb = get-without_out p _ x ea ∙ get-without_in q t x s eb ∙ sym (get-without_in q _ x s eb)
    by_rest x None None ea eb = get-without_out p _ x ea ∙ get-without_out q t x eb ∙ sym (get-without_out q _ x eb ∙ get-without_out p t x ea)

-- what is below a part of p is below p
pub below_more : (p r q s : Names) → rest_below (p ++ r) q ≡ Some s → rest_below p q ≡ Some (r ++ s)
below_more p r q s e = ap (rest_below p) (rest_below-some (p ++ r) q s e ∙ append_assoc p r s) ∙ rest_below-append p (r ++ s)

pub below_less : (p r q : Names) → rest_below p q ≡ None → rest_below (p ++ r) q ≡ None
below_less p r q none = by_rest (rest_below (p ++ r) q) refl
  where
    by_rest : (o : Option Names) → rest_below (p ++ r) q ≡ o → o ≡ None
    by_rest None e = refl
    by_rest (Some s) e = absurd (none-some (r ++ s) (sym none ∙ below_more p r q s e))

-- without a directory, what is below it doesn't matter
pub without-inner : (p r : Names) (t : FileTree) → without p (without (p ++ r) t) ≡ without p t
without-inner p r t = same_without p _ t (λ q e. get-without_out (p ++ r) t q (below_less p r q e))

-- ---- inserts

pub without-insert_in : (p : Names) (t : FileTree) (q r : Names) (node : Node) → rest_below p q ≡ Some r → without p (insert t q node) ≡ without p t
without-insert_in p t q r node e = same_without p _ t (λ x none. get-inserted_other t q node x (λ same. none-some r (sym none ∙ ap (rest_below p) same ∙ e)))

pub without-insert_out : (p : Names) (t : FileTree) (q : Names) (node : Node) → rest_below p q ≡ None → without p (insert t q node) ≡ insert (without p t) q node
without-insert_out p t q node out = same_tree _ _ (λ x. by_rest x (rest_below p x) refl)
  where
    by_rest : (x : Names) (o : Option Names) → rest_below p x ≡ o → get (without p (insert t q node)) x ≡ get (insert (without p t) q node) x
    by_rest x (Some r) e =
        get-without_in p _ x r e
        ∙ sym (get-inserted_other (without p t) q node x (λ same. none-some r (sym out ∙ ap (rest_below p) (sym same) ∙ e)) ∙ get-without_in p t x r e)
    by_rest x None e = get-without_out p _ x e ∙ shows t q node x ∙ ap (λ (o : Option Node). cond (tie x q) (Some node) o) (sym (get-without_out p t x e)) ∙ sym (shows (without p t) q node x)

-- ---- removals

pub without-remove_in : (p : Names) (t : FileTree) (q r : Names) → rest_below p q ≡ Some r → without p (remove t q) ≡ without p t
without-remove_in p t q r e = same_without p _ t (λ x none.
    get-remove path_cmp-total t q x ∙ cond-false _ _ _ (tie-other x q (λ same. none-some r (sym none ∙ ap (rest_below p) same ∙ e))))

-- ---- all nodes

pub without-nodes : (p : Names) (t : FileTree) (f : Node → Node) → without p (with_nodes f t) ≡ with_nodes f (without p t)
without-nodes p t f = same_tree _ _ (λ x. by_rest x (rest_below p x) refl)
  where
    by_rest : (x : Names) (o : Option Names) → rest_below p x ≡ o → get (without p (with_nodes f t)) x ≡ get (with_nodes f (without p t)) x
    by_rest x (Some r) e = get-without_in p _ x r e ∙ sym (get-with_nodes f (without p t) x ∙ ap (option_map f) (get-without_in p t x r e))
    by_rest x None e = get-without_out p _ x e ∙ get-with_nodes f t x ∙ sym (get-with_nodes f (without p t) x ∙ ap (option_map f) (get-without_out p t x e))

-- ---- apart

-- of two fronts of one path one is below the other
comparable : (p x r s : Names) → p ++ r ≡ x ++ s → ((k : Names) × (p ≡ x ++ k)) ⊎ ((k : Names) × (x ≡ p ++ k))
comparable [] x r s e = inr (x, refl)
comparable (a ∷ p) [] r s e = inl (a ∷ p, refl)
comparable (a ∷ p) (b ∷ x) r s e =
    let head : a ≡ b = cc in
    let tail : p ++ r ≡ x ++ s = cc in
    ⊎_elim (λ (one : (k : Names) × (p ≡ x ++ k)). inl (one.0, ap (λ (n : List ℕ). n ∷ p) head ∙ ap (λ (l : Names). b ∷ l) one.1))
    (λ (two : (k : Names) × (x ≡ p ++ k)). inr (two.0, ap (λ (n : List ℕ). n ∷ x) (sym head) ∙ ap (λ (l : Names). a ∷ l) two.1))
    (comparable p x r s tail)

-- what is below p is not below what is apart from p
pub apart_at : (p x q r : Names) → IsApart p x → rest_below p q ≡ Some r → rest_below x q ≡ None
apart_at p x q r apart below = by_rest (rest_below x q) refl
  where
    by_rest : (o : Option Names) → rest_below x q ≡ o → o ≡ None
    by_rest None e = refl
    by_rest (Some s) e = ⊎_elim
        (λ (one : (k : Names) × (p ≡ x ++ k)). absurd (none-some one.0 (sym apart.1 ∙ ap (rest_below x) one.1 ∙ rest_below-append x one.0)))
        (λ (two : (k : Names) × (x ≡ p ++ k)). absurd (none-some two.0 (sym apart.0 ∙ ap (rest_below p) two.1 ∙ rest_below-append p two.0)))
        (comparable p x r s (sym (rest_below-some p q r below) ∙ rest_below-some x q s e))

-- ---- renames

abbrev pub IsClear : FileTree → Names → Type 0
IsClear t to = (r : Names) → IsAbsent t (to ++ r)

pub clear-without : (p : Names) (t : FileTree) (to : Names) → IsClear t to → IsClear (without p t) to
clear-without p t to clear r = by_rest (rest_below p (to ++ r)) refl
  where
    by_rest : (o : Option Names) → rest_below p (to ++ r) ≡ o → get (without p t) (to ++ r) ≡ None
    by_rest (Some s) e = get-without_in p t (to ++ r) s e
    by_rest None e = get-without_out p t (to ++ r) e ∙ clear r

module _ (t : FileTree) (from to : Names) (clear : IsClear t to) where
  shown : (q : Names) (a b : Option Names) → rest_below to q ≡ a → rest_below from q ≡ b → get (renamed t from to) q ≡ after_rename a b (get t) from q
  shown q a b e1 e2 = get-renamed from to t clear q ∙ ap (λ (o : Option Names). after_rename o (rest_below from q) (get t) from q) e1 ∙ ap (λ (o : Option Names). after_rename a o (get t) from q) e2

  -- what it doesn't touch
  pub renamed-out : (q : Names) → rest_below to q ≡ None → rest_below from q ≡ None → get (renamed t from to) q ≡ get t q
  renamed-out q e1 e2 = shown q None None e1 e2

  pub renamed-to : (r : Names) → get (renamed t from to) (to ++ r) ≡ get t (from ++ r)
  renamed-to r = shown (to ++ r) (Some r) _ (rest_below-append to r) refl

  pub renamed-from : (q r : Names) → rest_below to q ≡ None → rest_below from q ≡ Some r → get (renamed t from to) q ≡ None
  renamed-from q r e1 e2 = shown q None (Some r) e1 e2

  -- where it went to as where it was
  pub without-moved : without to (renamed t from to) ≡ without from t
  without-moved = same_tree _ _ (λ q. by_rest q (rest_below to q) (rest_below from q) refl refl)
    where
      by_rest : (q : Names) (a b : Option Names) → rest_below to q ≡ a → rest_below from q ≡ b → get (without to (renamed t from to)) q ≡ get (without from t) q
      by_rest q (Some r) (Some k) ea eb = get-without_in to _ q r ea ∙ sym (get-without_in from t q k eb)
      by_rest q (Some r) None ea eb = get-without_in to _ q r ea ∙ sym (get-without_out from t q eb ∙ ap (get t) (rest_below-some to q r ea) ∙ clear r)
      by_rest q None (Some k) ea eb = get-without_out to _ q ea ∙ renamed-from q k ea eb ∙ sym (get-without_in from t q k eb)
      by_rest q None None ea eb = get-without_out to _ q ea ∙ renamed-out q ea eb ∙ sym (get-without_out from t q eb)

  -- within p
  pub without-renamed_in : (p : Names) (a b : Names) → rest_below p from ≡ Some a → rest_below p to ≡ Some b → without p (renamed t from to) ≡ without p t
  without-renamed_in p a b ea eb = same_without p _ t (λ q none. renamed-out q (out q to b eb none) (out q from a ea none))
    where
      out : (q x r : Names) → rest_below p x ≡ Some r → rest_below p q ≡ None → rest_below x q ≡ None
      out q x r e none = subst (λ (y : Names). rest_below y q ≡ None) (sym (rest_below-some p x r e)) (below_less p r q none)

  -- apart from p
  module _ (p : Names) (apart_from : IsApart p from) (apart_to : IsApart p to) where
    pub without-renamed_out : without p (renamed t from to) ≡ renamed (without p t) from to
    without-renamed_out = same_tree _ _ (λ q. by_rest q (rest_below p q) (rest_below to q) (rest_below from q) refl refl refl)
      where
        by_rest : (q : Names) (o a b : Option Names) → rest_below p q ≡ o → rest_below to q ≡ a → rest_below from q ≡ b → get (without p (renamed t from to)) q ≡ get (renamed (without p t) from to) q
        by_rest q (Some r) a b eo ea eb =
            get-without_in p _ q r eo
            ∙ sym (get-renamed from to (without p t) (clear-without p t to clear) q
            ∙ ap (λ (o : Option Names). after_rename o (rest_below from q) (get (without p t)) from q) (apart_at p to q r apart_to eo)
            ∙ ap (λ (o : Option Names). after_rename None o (get (without p t)) from q) (apart_at p from q r apart_from eo)
            ∙ get-without_in p t q r eo)
        by_rest q None a b eo ea eb =
            get-without_out p _ q eo ∙ shown q a b ea eb ∙ alike a b
            ∙ sym (get-renamed from to (without p t) (clear-without p t to clear) q
            ∙ ap (λ (o : Option Names). after_rename o (rest_below from q) (get (without p t)) from q) ea
            ∙ ap (λ (o : Option Names). after_rename a o (get (without p t)) from q) eb)
          where
            alike : (a b : Option Names) → after_rename a b (get t) from q ≡ after_rename a b (get (without p t)) from q
            alike (Some r) b = sym (get-without_out p t (from ++ r) (apart_at from p (from ++ r) r (apart_from.1, apart_from.0) (rest_below-append from r)))
            alike None (Some r) = refl
            alike None None = sym (get-without_out p t q eo)
