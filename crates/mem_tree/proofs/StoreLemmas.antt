-- What every store keeps.
use Rattle.std.proofs.Common.{◌≡◌, ℕ, pos, Bool, true, false, cond, List, [], ◌∷◌, ◌++◌, refl, sym, ◌∙◌, ap, subst, arith, Option, Some, None, is_some, IsTrue, Result, Ok, Err, OnOk, OnErr}
use Rattle.std.proofs.lemmas.Bool.{cond-false}
use Rattle.std.specs.Option.{option_map}
use Rattle.std.specs.FinMap.{get, insert, empty, get-insert, get-empty}
use Rattle.std.specs.Ordering.{nat_cmp}
use Rattle.dired_text.specs.Paths.{Names, path_cmp, parent}
use Rattle.dired_text.proofs.PathLemmas.{path_cmp-total, path_cmp-exact, path_decides, parent-push}
use Rattle.tree_core.specs.declared.node.Node.{Node}
use Rattle.tree_core.specs.declared.node.Node.TheVariants.{Dir, File}
use Rattle.tree_core.specs.declared.node.Change.{Change}
use Rattle.tree_core.specs.declared.node.Change.TheVariants.{MakeDir, MakeLink, MakeHard, WriteFile, Rename, SetMode, Remove, RemoveDir, Sync}
use Rattle.tree_core.specs.FileTree.{FileTree, IsTree, IsDir, Stands, CanDo, done, root_tree}
use Rattle.tree_core.proofs.TreeLemmas.{tie, tie-other, same_tree, dir_stands}
use Rattle.tree_core.proofs.Sound.{inserted_tree, tree_kept}
use Rattle.mem_tree.specs.declared.slots.Content.TheVariants as content
use Rattle.mem_tree.specs.declared.slots.Slot.{Slot}
use Rattle.mem_tree.specs.declared.files.FileBody.{FileBody}
use Rattle.mem_tree.specs.Slots.{Slots, Files, FilesBelow, ParentsStand, Counted, tree_in, times_in, time_at, places_of, positive}
use Rattle.mem_tree.proofs.Counting.{count_none}
use Rattle.mem_tree.proofs.TreeOf.{node_in, is_slot_of, get-tree, slot_stands}

pub either : {T E A B C : Type 0} (r : Result T E) → OnOk r A → OnErr r B → (A → C) → (B → C) → C
either (Ok v) a b f g = f a
either (Err e) a b f g = g b

module _ (slots : Slots) (files : Files) where
  pub tree_stands : (q : Names) → IsTrue (is_some (get slots q)) → Stands (tree_in slots files) q
  tree_stands q stands = subst (λ o. IsTrue (is_some o)) (sym (get-tree slots files q)) (by (get slots q) stands)
    where
      by : (o : Option Slot) → IsTrue (is_some o) → IsTrue (is_some (option_map (node_in files) o))
      by None s = cc
      by (Some x) s = refl

  pub parents_stand : IsTree (tree_in slots files) → ParentsStand slots
  parents_stand tree p name stands = slot_stands slots files p (dir_stands _ (tree.parents p name (tree_stands (p ++ name ∷ []) stands)))

-- behind a call that could be done
tree_behind : (change : Change) (next : ℕ) (t : FileTree) → IsTree t → FilesBelow next t → CanDo change t → IsTree (done change next t)
tree_behind (WriteFile p bytes mode) next t tree below can = inserted_tree t p (File next bytes mode) tree can.0
    (λ q number b c m k is at_q. absurd (let low = below q number c k at_q in let same : next ≡ number = cc in omega arith)) can.1
tree_behind (MakeDir p mode) next t tree below can = tree_kept (MakeDir p mode) t next refl tree can
tree_behind (MakeLink p target) next t tree below can = tree_kept (MakeLink p target) t next refl tree can
tree_behind (MakeHard p old) next t tree below can = tree_kept (MakeHard p old) t next refl tree can
tree_behind (Rename from to) next t tree below can = tree_kept (Rename from to) t next refl tree can
tree_behind (SetMode p mode) next t tree below can = tree_kept (SetMode p mode) t next refl tree can
tree_behind (Remove p) next t tree below can = tree_kept (Remove p) t next refl tree can
tree_behind (RemoveDir p) next t tree below can = tree_kept (RemoveDir p) t next refl tree can
tree_behind Sync next t tree below can = tree

pub parents_after : (change : Change) (next : ℕ) (t : FileTree) (slots : Slots) (files : Files) → IsTree t → FilesBelow next t → CanDo change t → tree_in slots files ≡ done change next t → ParentsStand slots
parents_after change next t slots files tree below can is = parents_stand slots files (subst IsTree (sym is) (tree_behind change next t tree below can))

-- behind a node that was put into a directory
pub parents_added : (slots : Slots) (files : Files) (path : Names) (node : Node) (later : Slots) (more : Files) → ParentsStand slots → IsDir (tree_in slots files) (parent path) → tree_in later more ≡ insert (tree_in slots files) path node → ParentsStand later
parents_added slots files path node later more parents dir is p name stands = slot_stands later more p (subst (λ t. Stands t p) (sym is) (still p (was (tie (p ++ name ∷ []) path) refl)))
  where
    shows : (q : Names) → get (insert (tree_in slots files) path node) q ≡ cond (tie q path) (Some node) (get (tree_in slots files) q)
    shows q = get-insert path_cmp-total (tree_in slots files) path node q

    still : (q : Names) → Stands (tree_in slots files) q → Stands (insert (tree_in slots files) path node) q
    still q s = subst (λ o. IsTrue (is_some o)) (sym (shows q)) (by (tie q path))
      where
        by : (b : Bool) → IsTrue (is_some (cond b (Some node) (get (tree_in slots files) q)))
        by true = refl
        by false = s

    here : Stands (insert (tree_in slots files) path node) (p ++ name ∷ [])
    here = subst (λ u. Stands u (p ++ name ∷ [])) is (tree_stands later more (p ++ name ∷ []) stands)

    was : (b : Bool) → tie (p ++ name ∷ []) path ≡ b → Stands (tree_in slots files) p
    was true t = subst (Stands (tree_in slots files)) (ap parent (sym ((path_decides (p ++ name ∷ []) path).0 t)) ∙ parent-push p name) (dir_stands _ dir)
    was false f =
        let there : Stands (tree_in slots files) (p ++ name ∷ []) = subst (λ o. IsTrue (is_some o)) (shows (p ++ name ∷ []) ∙ cond-false _ (Some node) _ f) here in
        tree_stands slots files p (parents p name (slot_stands slots files (p ++ name ∷ []) there))

-- ---- the root alone

abbrev pub root_slot : Slot
root_slot = record { content = content.Dir 493; mtime = pos 0 }

abbrev pub root_slots : Slots
root_slots = insert empty [] root_slot

root_get : (q : Names) → get root_slots q ≡ cond (tie q []) (Some root_slot) None
root_get q = get-insert path_cmp-total empty [] root_slot q ∙ ap (cond (tie q []) (Some root_slot)) (get-empty path_cmp q)

not_root : (p : Names) (name : List ℕ) → p ++ name ∷ [] ≡ [] → ⊥
not_root [] name e = cc
not_root (x ∷ p) name e = cc

pub root_tree_is : tree_in root_slots empty ≡ root_tree
root_tree_is = same_tree _ _ (λ q. get-tree root_slots empty q ∙ ap (option_map (node_in empty)) (root_get q) ∙ by (tie q []) ∙ sym (get-insert path_cmp-total empty [] (Dir 493) q ∙ ap (cond (tie q []) (Some (Dir 493))) (get-empty path_cmp q)))
  where
    by : (b : Bool) → option_map (node_in empty) (cond b (Some root_slot) None) ≡ cond b (Some (Dir 493)) None
    by true = refl
    by false = refl

pub root_times : times_in root_slots ≡ (λ (q : Names). pos 0)
root_times i q = (ap time_at (root_get q) ∙ by (tie q [])) i
  where
    by : (b : Bool) → time_at (cond b (Some root_slot) None) ≡ pos 0
    by true = refl
    by false = refl

pub root_counted : Counted root_slots empty
root_counted n = ap (option_map (λ (b : FileBody). b.paths)) (get-empty nat_cmp n) ∙ sym (ap positive none)
  where
    none : places_of n root_slots ≡ 0
    none = count_none (is_slot_of n) path_cmp-total path_cmp-exact root_slots (λ q s at_q. by (tie q []) s (sym (root_get q) ∙ at_q))
      where
        by : (b : Bool) (s : Slot) → cond b (Some root_slot) None ≡ Some s → is_slot_of n s ≡ false
        by true s is = sym (ap (is_slot_of n) (same s is))
          where
            same : (s : Slot) → Some root_slot ≡ Some s → root_slot ≡ s
            same s is = cc
        by false s is = cc

pub root_parents : ParentsStand root_slots
root_parents p name stands = absurd (clash (sym (ap is_some (root_get (p ++ name ∷ []) ∙ cond-false _ (Some root_slot) None (tie-other (p ++ name ∷ []) [] (not_root p name)))) ∙ stands))
  where
    clash : false ≡ true → ⊥
    clash e = cc
