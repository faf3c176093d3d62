-- The names that a commit makes before its journal has its name.
use Rattle.std.proofs.Common.{⊎_elim, ◌≡◌, ◌≢◌, ◌⊎◌, inl, inr, ℕ, ◌+◌, ◌≤◌, ◌^◌, Bool, false, List, [], ◌∷◌, ◌++◌, length, refl, sym, subst, arith, Option, Some, None, is_some, IsTrue}
use Rattle.std.specs.FinMap.{get, insert}
use Rattle.tree_core.specs.declared.changes.Fresh.{Fresh}
use Rattle.tree_core.specs.declared.changes.Fresh.TheVariants as fresh
use Rattle.tree_core.specs.declared.node.Node.{Node}
use Rattle.tree_core.specs.declared.node.Node.TheVariants.{Dir, Link, File}
use Rattle.tree_core.specs.declared.node.Change.{Change}
use Rattle.tree_core.specs.declared.node.Change.TheVariants as call
use Rattle.tree_core.specs.declared.node.CallName.{CallName}
use Rattle.tree_core.specs.FileTree.{FileTree, IsTree, IsAbsent, done, insert_same}
use Rattle.tree_core.specs.History.{History, Then, current_tree, next_number}
use Rattle.tree_core.specs.Runs.{then_all, FailedIn}
use Rattle.tree_core.proofs.TreeLemmas.{absent_below, absent_not}
use Rattle.tree_core.proofs.Sound.{by_place}
use Rattle.commit_steps.specs.Staging.{staging, staged, at_marker, new_journal, fresh_name}
use Rattle.step_trees.proofs.NameLemmas.{differ, i-at, i-new, i-fresh}
use Rattle.commit_states.specs.Calls.{Items, fresh_call, fresh_calls, fresh_items, early_items, stage_calls}
use Rattle.commit_states.specs.Reads.{IsNamed, AreOnce, IsAllNamed}
use Rattle.commit_states.proofs.FreshLemmas.{each_once}

-- ---- lists of items

named_first : (xs ys : Items) (name : List ℕ) → IsNamed name xs → IsNamed name (xs ++ ys)
named_first [] ys name is = absurd is
named_first (x ∷ xs) ys name (inl same) = inl same
named_first (x ∷ xs) ys name (inr more) = inr (named_first xs ys name more)

named_second : (xs ys : Items) (name : List ℕ) → IsNamed name ys → IsNamed name (xs ++ ys)
named_second [] ys name is = is
named_second (x ∷ xs) ys name is = inr (named_second xs ys name is)

named_either : (xs ys : Items) (name : List ℕ) → IsNamed name (xs ++ ys) → IsNamed name xs ⊎ IsNamed name ys
named_either [] ys name is = inr is
named_either (x ∷ xs) ys name (inl same) = inl (inl same)
named_either (x ∷ xs) ys name (inr more) = ⊎_elim (λ k. inl (inr k)) (λ k. inr k) (named_either xs ys name more)

once_behind : (xs : Items) (name : List ℕ) (b : Bool) → AreOnce xs → (IsNamed name xs → ⊥) → AreOnce (xs ++ (name, b) ∷ [])
once_behind [] name b once none = ((λ nothing. nothing), tt)
once_behind (x ∷ xs) name b once none = (
  (λ is. ⊎_elim (λ k. once.0 k) (λ one. ⊎_elim (λ same. none (inl (sym same))) (λ nothing. nothing) one) (named_either xs ((name, b) ∷ []) x.0 is)),
  once_behind xs name b once.1 (λ k. none (inr k)),
)

no_fresh_item : (fs : List Fresh) (k : ℕ) (name : List ℕ) → ((j : ℕ) → name ≢ fresh_name j) → IsNamed name (fresh_items k fs) → ⊥
no_fresh_item [] k name other is = is
no_fresh_item (f ∷ fs) k name other (inl same) = other k same
no_fresh_item (f ∷ fs) k name other (inr more) = no_fresh_item fs (k + 1) name other more

pub early_once : (fs : List Fresh) → length fs ≤ 2 ^ 32 → AreOnce (early_items fs)
early_once fs few = (
  (λ is. ⊎_elim
      (λ k. no_fresh_item fs 0 (at_marker 0) (λ j. differ (at_marker 0) (fresh_name j) 97 102 (i-at 0) (i-fresh j) refl) k)
      (λ one. ⊎_elim (λ same. differ (at_marker 0) new_journal 97 110 (i-at 0) i-new refl same) (λ nothing. nothing) one)
      (named_either (fresh_items 0 fs) ((new_journal, false) ∷ []) (at_marker 0) is)),
  once_behind (fresh_items 0 fs) new_journal false (each_once fs 0 (omega arith))
      (no_fresh_item fs 0 new_journal (λ j. differ new_journal (fresh_name j) 110 102 i-new (i-fresh j) refl)),
)

-- ---- what a call that is done keeps

abbrev Preserves : (FileTree → Type 0) → Change → Type 0
Preserves P change = (n : ℕ) (t : FileTree) → P t → P (done change n t)

abbrev AllPreserve : (FileTree → Type 0) → List Change → Type 0
AllPreserve P [] = Unit {0}
AllPreserve P (change ∷ changes) = Preserves P change × AllPreserve P changes

preserve_append : (P : FileTree → Type 0) (cs ds : List Change) → AllPreserve P cs → AllPreserve P ds → AllPreserve P (cs ++ ds)
preserve_append P [] ds one two = two
preserve_append P (c ∷ cs) ds one two = (one.0, preserve_append P cs ds one.1 two)

preserved_by_all : (P : FileTree → Type 0) (cs : List Change) (h : History) → AllPreserve P cs → P (current_tree h) → P (current_tree (then_all h cs))
preserved_by_all P [] h keeps p = p
preserved_by_all P (c ∷ cs) h keeps p = preserved_by_all P cs (Then h c) keeps.1 (keeps.0 (next_number h) (current_tree h) p)

preserved_by_failed : (P : FileTree → Type 0) (cs : List Change) (h last : History) (before : FileTree) (first : CallName) → AllPreserve P cs → P (current_tree h) → FailedIn cs h last before first → P (current_tree last)
preserved_by_failed P [] h last before first keeps p failed = absurd failed
preserved_by_failed P (c ∷ cs) h last before first keeps p (inl f) = ⊎_elim
    (λ is. subst (λ (x : History). P (current_tree x)) (sym is) p)
    (λ is. subst (λ (x : History). P (current_tree x)) (sym is) (keeps.0 (next_number h) (current_tree h) p)) f.fate
preserved_by_failed P (c ∷ cs) h last before first keeps p (inr more) = preserved_by_failed P cs (Then h c) last before first keeps.1 (keeps.0 (next_number h) (current_tree h) p) more

-- ---- each call of the staging makes one of these names

module _ (xs : Items) where
  named_insert : (t : FileTree) (x : List ℕ) (node : Node) → IsNamed x xs → IsAllNamed xs t → IsAllNamed xs (insert t (staged x) node)
  named_insert t x node is all name = by_place t (staged x) node (staged name) (λ o. IsTrue (is_some o) → IsNamed name xs)
      (λ same stands. subst (λ y. IsNamed y xs) (let e : x ≡ name = cc in e) is) (λ other stands. all name stands)

  named_dir : (mode : ℕ) → Preserves (IsAllNamed xs) (call.MakeDir staging mode)
  named_dir mode n t all name = by_place t staging (Dir mode) (staged name) (λ o. IsTrue (is_some o) → IsNamed name xs)
      (λ same stands. absurd (let e : staged name ≡ staging = same in cc)) (λ other stands. all name stands)

  named_write : (x bytes : List ℕ) (mode : ℕ) → IsNamed x xs → Preserves (IsAllNamed xs) (call.WriteFile (staged x) bytes mode)
  named_write x bytes mode is n t all = named_insert t x (File n bytes mode) is all

  named_same : (t : FileTree) (x : List ℕ) (o : Option Node) → IsNamed x xs → IsAllNamed xs t → IsAllNamed xs (insert_same o t (staged x))
  named_same t x None is all = all
  named_same t x (Some node) is all = named_insert t x node is all

  named_fresh : (x : List ℕ) (f : Fresh) → IsNamed x xs → Preserves (IsAllNamed xs) (fresh_call (staged x) f)
  named_fresh x (fresh.Link target) is n t all = named_insert t x (Link target) is all
  named_fresh x (fresh.File bytes mode) is n t all = named_insert t x (File n bytes mode) is all
  named_fresh x (fresh.Same p) is n t all = named_same t x (get t p) is all

  all_fresh : (fs : List Fresh) (k : ℕ) → ((name : List ℕ) → IsNamed name (fresh_items k fs) → IsNamed name xs) → AllPreserve (IsAllNamed xs) (fresh_calls k fs)
  all_fresh [] k among = tt
  all_fresh (f ∷ fs) k among = (named_fresh (fresh_name k) f (among (fresh_name k) (inl refl)), all_fresh fs (k + 1) (λ name more. among name (inr more)))

-- and none else, up to the sync before the journal gets its name
module _ (fs : List Fresh) (journal : List ℕ) where
  abbrev Q : FileTree → Type 0
  Q = IsAllNamed (early_items fs)

  all_early : AllPreserve Q (stage_calls fs journal ++ call.Sync ∷ [])
  all_early = preserve_append Q (stage_calls fs journal) (call.Sync ∷ []) (
    named_dir (early_items fs) 0o700,
    (
      named_write (early_items fs) (at_marker 0) [] 0o600 (inl refl),
      preserve_append Q (fresh_calls 0 fs) (call.WriteFile (staged new_journal) journal 0o600 ∷ [])
          (all_fresh (early_items fs) fs 0 (λ name is. inr (named_first (fresh_items 0 fs) ((new_journal, false) ∷ []) name is)))
          (named_write (early_items fs) new_journal journal 0o600 (inr (named_second (fresh_items 0 fs) ((new_journal, false) ∷ []) new_journal (inl refl))), tt),
    ),
  )
      ((λ n t all. all), tt)

  pub none_named : (t : FileTree) → IsTree t → IsAbsent t staging → Q t
  none_named t tree absent name stands = absurd (absent_not _ (absent_below t tree staging absent (name ∷ [])) stands)

  pub early_named : (h : History) → Q (current_tree h) → Q (current_tree (then_all h (stage_calls fs journal ++ call.Sync ∷ [])))
  early_named h all = preserved_by_all Q (stage_calls fs journal ++ call.Sync ∷ []) h all_early all

  pub early_failed : (h last : History) (before : FileTree) (first : CallName) → Q (current_tree h) → FailedIn (stage_calls fs journal ++ call.Sync ∷ []) h last before first → Q (current_tree last)
  early_failed h last before first all failed = preserved_by_failed Q (stage_calls fs journal ++ call.Sync ∷ []) h last before first all_early all failed
