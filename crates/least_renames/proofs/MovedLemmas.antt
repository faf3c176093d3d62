-- What a rename does to paths: what stands stays apart, and a path goes with its directory.
use Rattle.std.proofs.Common.{◌≡◌, ◌≢◌, ℕ, List, [], ◌∷◌, ◌++◌, refl, sym, ◌∙◌, ap, subst, append_assoc, Option, Some, None, is_some}
use Rattle.std.specs.FinMap.{get}
use Rattle.std.proofs.lemmas.List.{append-nil, same_from_push}
use Rattle.std.proofs.lemmas.Option.{none-some}
use Rattle.dired_text.specs.Paths.{Names, rest_below}
use Rattle.dired_text.proofs.PathLemmas.{rest_below-append, rest_below-some, append_cancel}
use Rattle.tree_core.specs.FileTree.{FileTree, IsTree, Stands, IsAbsent, CanRename, renamed, after_rename, moved, moved_rest}
use Rattle.tree_core.proofs.TreeLemmas.{get-renamed, absent_below, absent_not, LastOf, last_of}

pub moved-by : (from dest x : Names) (o : Option Names) → rest_below from x ≡ o → moved from dest x ≡ moved_rest o dest x
moved-by from dest x o e = ap (λ (l : Option Names). moved_rest l dest x) e

module _ (t : FileTree) (from dest : Names) (tree : IsTree t) (can : CanRename t from dest) where
  clear : (r : Names) → IsAbsent t (dest ++ r)
  clear = absent_below t tree dest can.absent

  not_below_dest : (x : Names) → Stands t x → (o : Option Names) → rest_below dest x ≡ o → o ≡ None
  not_below_dest x s None e = refl
  not_below_dest x s (Some r) e = absurd (absent_not _ (clear r) (subst (Stands t) (rest_below-some dest x r e) s))

  shows : (q : Names) (a b : Option Names) → rest_below dest q ≡ a → rest_below from q ≡ b → get (renamed t from dest) q ≡ after_rename a b (get t) from q
  shows q a b e1 e2 = get-renamed from dest t clear q ∙ ap (λ (o : Option Names). after_rename o (rest_below from q) (get t) from q) e1 ∙ ap (λ (o : Option Names). after_rename a o (get t) from q) e2

  -- what stood at x stands where x was moved
  get-moved : (x : Names) → Stands t x → get (renamed t from dest) (moved from dest x) ≡ get t x
  get-moved x s = go (rest_below from x) refl
    where
      go : (o : Option Names) → rest_below from x ≡ o → get (renamed t from dest) (moved from dest x) ≡ get t x
      go (Some r) e = ap (get (renamed t from dest)) (moved-by from dest x (Some r) e) ∙ shows (dest ++ r) (Some r) _ (rest_below-append dest r) refl ∙ ap (get t) (sym (rest_below-some from x r e))
      go None e = ap (get (renamed t from dest)) (moved-by from dest x None e) ∙ shows x None None (not_below_dest x s _ refl) e

  pub stands_moved : (x : Names) → Stands t x → Stands (renamed t from dest) (moved from dest x)
  stands_moved x s = ap is_some (get-moved x s) ∙ s

  pub moved_apart : (x y : Names) → Stands t x → Stands t y → moved from dest x ≡ moved from dest y → x ≡ y
  moved_apart x y sx sy same = go (rest_below from x) (rest_below from y) refl refl
    where
      meets : (r z : Names) → Stands t z → dest ++ r ≡ z → ⊥
      meets r z sz e = absent_not _ (clear r) (subst (Stands t) (sym e) sz)

      go : (a b : Option Names) → rest_below from x ≡ a → rest_below from y ≡ b → x ≡ y
      go (Some r) (Some s) ea eb = rest_below-some from x r ea
          ∙ ap (λ (l : Names). from ++ l) (append_cancel dest r s (sym (moved-by from dest x (Some r) ea) ∙ same ∙ moved-by from dest y (Some s) eb)) ∙ sym (rest_below-some from y s eb)
      go (Some r) None ea eb = absurd (meets r y sy (sym (moved-by from dest x (Some r) ea) ∙ same ∙ moved-by from dest y None eb))
      go None (Some s) ea eb = absurd (meets s x sx (sym (moved-by from dest y (Some s) eb) ∙ sym same ∙ moved-by from dest x None ea))
      go None None ea eb = sym (moved-by from dest x None ea) ∙ same ∙ moved-by from dest y None eb

-- what isn't renamed itself keeps its name in its directory
pub rest-push : (from x : Names) (k : List ℕ) → x ++ k ∷ [] ≢ from → (o : Option Names) → rest_below from x ≡ o → (dest : Names) → moved from dest (x ++ k ∷ []) ≡ moved from dest x ++ k ∷ []
rest-push from x k other (Some r) e dest =
    moved-by from dest (x ++ k ∷ []) (Some (r ++ k ∷ [])) (ap (λ (l : Names). rest_below from (l ++ k ∷ [])) (rest_below-some from x r e) ∙ ap (rest_below from) (append_assoc from r (k ∷ [])) ∙ rest_below-append from (r ++ k ∷ []))
    ∙ sym (append_assoc dest r (k ∷ [])) ∙ ap (λ (l : Names). l ++ k ∷ []) (sym (moved-by from dest x (Some r) e))
rest-push from x k other None e dest =
    moved-by from dest (x ++ k ∷ []) None (go (rest_below from (x ++ k ∷ [])) refl) ∙ ap (λ (l : Names). l ++ k ∷ []) (sym (moved-by from dest x None e))
  where
    pushed : (r : Names) → LastOf r → x ++ k ∷ [] ≡ from ++ r → ⊥
    pushed r last is =
        let x_is : x ≡ from ++ last.front = (same_from_push x (from ++ last.front) k last.last (is ∙ ap (λ (l : Names). from ++ l) last.is ∙ sym (append_assoc from last.front (last.last ∷ [])))).0 in
        none-some last.front (sym e ∙ ap (rest_below from) x_is ∙ rest_below-append from last.front)

    split : (r : Names) → x ++ k ∷ [] ≡ from ++ r → ⊥
    split [] is = other (is ∙ append-nil from)
    split (n ∷ r) is = pushed (n ∷ r) (last_of n r) is

    go : (o : Option Names) → rest_below from (x ++ k ∷ []) ≡ o → rest_below from (x ++ k ∷ []) ≡ None
    go None is = is
    go (Some r) is = absurd (split r (rest_below-some from (x ++ k ∷ []) r is))
