-- The tree that slots and files stand for.
use Rattle.std.proofs.Common.{◌≡◌, ℕ, zero, suc, ◌+◌, ◌<◌, ◌==◌, pos, Bool, true, false, cond, ◌&&◌, List, [], ◌∷◌, map, length, filter, refl, sym, ◌∙◌, ap, subst, arith, Option, Some, None, is_some, IsTrue, if◌then◌else◌}
use Rattle.std.proofs.lemmas.Bool.{eq-eqb, eqb-true}
use Rattle.std.proofs.lemmas.Bool.Decides.{same_from_decides}
use Rattle.std.proofs.lemmas.Slice.Eq.{slice_eq-Decides, bytes_eq-Decides}
use Rattle.std.specs.Option.{option_map}
use Rattle.std.specs.Bool.{Decides}
use Rattle.std.specs.FinMap.{find, is_sorted, get, insert, remove, entries, get-entries, get-insert, get-remove}
use Rattle.std.specs.FinMap.Entries.{below_all}
use Rattle.std.specs.Ordering.{nat_cmp, eq_by_cmp, is_eq, is_lt}
use Rattle.std.specs.Cmp.{nat_cmp_total, tied_itself}
use Rattle.std.specs.FinMap.{nat_cmp-IsAntisymmetric}
use Rattle.dired_text.specs.Paths.{Names, path_cmp}
use Rattle.dired_text.proofs.PathLemmas.{path_cmp-total, path_cmp-exact, path_decides}
use Rattle.tree_core.specs.declared.node.Node.{Node}
use Rattle.tree_core.specs.FileTree.{IsAbsent}
use Rattle.tree_core.proofs.TreeLemmas.{tie, same_tree, get-made}
use Rattle.mem_tree.specs.Mem.{is_same_path}
use Rattle.mem_tree.specs.MemFields.{is_file_of, paths_of}
use Rattle.mem_tree.specs.declared.slots.Content.{Content}
use Rattle.mem_tree.specs.declared.slots.Content.TheVariants as content
use Rattle.mem_tree.specs.declared.slots.Slot.{Slot}
use Rattle.mem_tree.specs.declared.files.FileBody.{FileBody}
use Rattle.mem_tree.specs.Slots.{Slots, Files, node_of, file_node, tree_in, time_at, times_in, timed, is_number, places_of, positive, Counted}
use Rattle.mem_tree.proofs.MapLemmas.{equal_of, entries-made}
use Rattle.mem_tree.proofs.Counting.{count_list, sorted_entries, count_some}

-- ---- the two tests of paths, and of numbers

pub same_path_decides : (p q : Names) → Decides (is_same_path p q) (p ≡ q)
same_path_decides p q = slice_eq-Decides bytes_eq-Decides p q _ refl

pub same_tie : (p q : Names) → is_same_path p q ≡ tie q p
same_tie p q =
    let d = path_decides q p in
    same_from_decides _ _ (same_path_decides p q) (λ t. sym (d.0 t), λ same. d.1 (sym same))

pub number_decides : (n m : ℕ) → Decides (eq_by_cmp nat_cmp n m) (n ≡ m)
number_decides n m = (λ t. nat_cmp-IsAntisymmetric n m (equal_of _ t), λ same. ap (λ k. eq_by_cmp nat_cmp n k) (sym same) ∙ ap is_eq (tied_itself nat_cmp_total n))

pub number_tie : (n m : ℕ) → (n == m) ≡ eq_by_cmp nat_cmp n m
number_tie n m = same_from_decides _ _ (eqb-true n m, eq-eqb n m) (number_decides n m)

-- ---- what stands at a path

abbrev pub node_in : Files → Slot → Node
node_in files slot = node_of files slot.content

abbrev pub shown_nodes : Files → List (Names × Slot) → List (Names × Node)
shown_nodes files es = map (λ (e : Names × Slot). (e.0, node_of files e.1.content)) es

find-nodes : (files : Files) (es : List (Names × Slot)) (q : Names) → find path_cmp q (shown_nodes files es) ≡ option_map (node_in files) (find path_cmp q es)
find-nodes files [] q = refl
find-nodes files (e ∷ es) q =
    elim (eq_by_cmp path_cmp q e.0) as (λ b. cond b (Some (node_in files e.1)) (find path_cmp q (shown_nodes files es)) ≡ option_map (node_in files) (cond b (Some e.1) (find path_cmp q es))) [
      | true ↦ refl
      | false ↦ find-nodes files es q
    ]

pub get-tree : (slots : Slots) (files : Files) (q : Names) → get (tree_in slots files) q ≡ option_map (node_in files) (get slots q)
get-tree slots files q = get-made _ q ∙ find-nodes files (entries slots) q ∙ ap (option_map (node_in files)) (sym (get-entries slots q))

below-nodes : (files : Files) (k : Names) (es : List (Names × Slot)) → below_all path_cmp k (shown_nodes files es) ≡ below_all path_cmp k es
below-nodes files k [] = refl
below-nodes files k (e ∷ es) = λ i. is_lt (path_cmp k e.0) && below-nodes files k es i

sorted-nodes : (files : Files) (es : List (Names × Slot)) → is_sorted path_cmp (shown_nodes files es) ≡ is_sorted path_cmp es
sorted-nodes files [] = refl
sorted-nodes files (e ∷ es) = λ i. below-nodes files e.0 es i && sorted-nodes files es i

pub entries-tree : (slots : Slots) (files : Files) → entries (tree_in slots files) ≡ shown_nodes files (entries slots)
entries-tree slots files = entries-made path_cmp-total path_cmp-exact _ (sorted-nodes files (entries slots) ∙ sorted_entries slots)

pub keys-tree : (slots : Slots) (files : Files) → map (λ (e : Names × Node). e.0) (entries (tree_in slots files)) ≡ map (λ (e : Names × Slot). e.0) (entries slots)
keys-tree slots files = ap (map (λ (e : Names × Node). e.0)) (entries-tree slots files) ∙ keys (entries slots)
  where
    keys : (es : List (Names × Slot)) → map (λ (e : Names × Node). e.0) (shown_nodes files es) ≡ map (λ (e : Names × Slot). e.0) es
    keys [] = refl
    keys (e ∷ es) = ap (λ l. e.0 ∷ l) (keys es)

-- ---- how many paths a file has

same_test : (files : Files) (n : ℕ) (c : Content) → is_file_of n (node_of files c) ≡ is_number n c
same_test files n (content.Dir mode) = refl
same_test files n (content.Link target) = refl
same_test files n (content.File number) = by (get files number)
  where
    by : (o : Option FileBody) → is_file_of n (file_node number o) ≡ (n == number)
    by None = refl
    by (Some body) = refl

abbrev pub is_slot_of : ℕ → Slot → Bool
is_slot_of n slot = is_number n slot.content

pub paths-tree : (slots : Slots) (files : Files) (n : ℕ) → paths_of n (tree_in slots files) ≡ places_of n slots
paths-tree slots files n = ap (count_list (is_file_of n)) (entries-tree slots files) ∙ each (entries slots)
  where
    each : (es : List (Names × Slot)) → count_list (is_file_of n) (shown_nodes files es) ≡ count_list (is_slot_of n) es
    each [] = refl
    each (e ∷ es) = ap (λ b. length (cond b ((e.0, node_in files e.1) ∷ rest) rest)) (same_test files n e.1.content) ∙ by (is_number n e.1.content) (each es)
      where
        rest : List (Names × Node)
        rest = filter (λ (e : Names × Node). is_file_of n e.1) (shown_nodes files es)

        by : (b : Bool) → length rest ≡ count_list (is_slot_of n) es → length (cond b ((e.0, node_in files e.1) ∷ rest) rest) ≡ length (cond b (e ∷ filter (λ (e : Names × Slot). is_slot_of n e.1) es) (filter (λ (e : Names × Slot). is_slot_of n e.1) es))
        by true same = ap suc same
        by false same = same

-- ---- a slot put in, and one taken out

pub tree-insert : (slots : Slots) (files : Files) (p : Names) (slot : Slot) → tree_in (insert slots p slot) files ≡ insert (tree_in slots files) p (node_in files slot)
tree-insert slots files p slot = same_tree _ _ (λ q.
    get-tree (insert slots p slot) files q ∙ ap (option_map (node_in files)) (get-insert path_cmp-total slots p slot q)
    ∙ at q (tie q p) ∙ ap (cond (tie q p) (Some (node_in files slot))) (sym (get-tree slots files q))
    ∙ sym (get-insert path_cmp-total (tree_in slots files) p (node_in files slot) q))
  where
    at : (q : Names) (b : Bool) → option_map (node_in files) (cond b (Some slot) (get slots q)) ≡ cond b (Some (node_in files slot)) (option_map (node_in files) (get slots q))
    at q true = refl
    at q false = refl

pub tree-remove : (slots : Slots) (files : Files) (p : Names) → tree_in (remove slots p) files ≡ remove (tree_in slots files) p
tree-remove slots files p = same_tree _ _ (λ q.
    get-tree (remove slots p) files q ∙ ap (option_map (node_in files)) (get-remove path_cmp-total slots p q)
    ∙ at q (tie q p) ∙ ap (cond (tie q p) None) (sym (get-tree slots files q))
    ∙ sym (get-remove path_cmp-total (tree_in slots files) p q))
  where
    at : (q : Names) (b : Bool) → option_map (node_in files) (cond b None (get slots q)) ≡ cond b None (option_map (node_in files) (get slots q))
    at q true = refl
    at q false = refl

pub times-insert : (slots : Slots) (p : Names) (slot : Slot) → times_in (insert slots p slot) ≡ timed p slot.mtime (times_in slots)
times-insert slots p slot i q = (ap time_at (get-insert path_cmp-total slots p slot q ∙ ap (λ b. cond b (Some slot) (get slots q)) (sym (same_tie p q))) ∙ at q (is_same_path p q)) i
  where
    at : (q : Names) (b : Bool) → time_at (cond b (Some slot) (get slots q)) ≡ (if b then slot.mtime else time_at (get slots q))
    at q true = refl
    at q false = refl

pub times-remove : (slots : Slots) (p : Names) → times_in (remove slots p) ≡ timed p (pos 0) (times_in slots)
times-remove slots p i q = (ap time_at (get-remove path_cmp-total slots p q ∙ ap (λ b. cond b None (get slots q)) (sym (same_tie p q))) ∙ at q (is_same_path p q)) i
  where
    at : (q : Names) (b : Bool) → time_at (cond b None (get slots q)) ≡ (if b then pos 0 else time_at (get slots q))
    at q true = refl
    at q false = refl

-- the same slots over files that show the same of each
pub tree-files : (slots : Slots) (old new : Files) → ((q : Names) (slot : Slot) → get slots q ≡ Some slot → node_in new slot ≡ node_in old slot) → tree_in slots new ≡ tree_in slots old
tree-files slots old new same = same_tree _ _ (λ q. get-tree slots new q ∙ at q (get slots q) refl ∙ sym (get-tree slots old q))
  where
    at : (q : Names) (o : Option Slot) → get slots q ≡ o → option_map (node_in new) o ≡ option_map (node_in old) o
    at q None is = refl
    at q (Some slot) is = ap (λ (n : Node). Some n) (same q slot is)

-- ---- counts

pub positive_same : (n m : ℕ) → positive n ≡ Some m → n ≡ m
positive_same zero m is = cc
positive_same (suc n) m is = cc

pub positive_none : (n : ℕ) → positive n ≡ None → n ≡ 0
positive_none zero is = refl
positive_none (suc n) is = cc

pub positive_more : (n : ℕ) → positive (n + 1) ≡ Some (n + 1)
positive_more n = let e : n + 1 ≡ suc n = omega arith in ap positive e ∙ ap (λ (k : ℕ). Some k) (sym e)

-- what has a path has a body
pub body_stands : (slots : Slots) (files : Files) → Counted slots files → (q : Names) (slot : Slot) (n : ℕ) → get slots q ≡ Some slot → is_number n slot.content ≡ true → IsTrue (is_some (get files n))
body_stands slots files counted q slot n at_q is = by (get files n) (counted n)
  where
    by : (o : Option FileBody) → option_map (λ (b : FileBody). b.paths) o ≡ positive (places_of n slots) → IsTrue (is_some o)
    by (Some body) c = refl
    by None c = absurd (let some : 0 < places_of n slots = count_some (is_slot_of n) path_cmp-total path_cmp-exact slots q slot at_q is in let none : places_of n slots ≡ 0 = positive_none _ (sym c) in omega arith)

module _ (slots : Slots) (files : Files) where
  pub slot_absent : (q : Names) → IsAbsent (tree_in slots files) q → get slots q ≡ None
  slot_absent q absent = by (get slots q) refl (sym (get-tree slots files q) ∙ absent)
    where
      by : (o : Option Slot) → get slots q ≡ o → option_map (node_in files) o ≡ None → get slots q ≡ None
      by None is none = is
      by (Some s) is none = cc

  pub slot_stands : (q : Names) → IsTrue (is_some (get (tree_in slots files) q)) → IsTrue (is_some (get slots q))
  slot_stands q stands = by (get slots q) (subst (λ o. IsTrue (is_some o)) (get-tree slots files q) stands)
    where
      by : (o : Option Slot) → IsTrue (is_some (option_map (node_in files) o)) → IsTrue (is_some o)
      by None s = cc
      by (Some x) s = refl
