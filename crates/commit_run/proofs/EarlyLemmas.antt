-- The way back before the journal has its name.
use Rattle.std.proofs.Common.{◌≡◌, inl, inr, ⊎_elim, ℕ, zero, suc, ◌+◌, Bool, true, false, if◌then◌else◌, List, [], ◌∷◌, ◌++◌, length, map, refl, sym, ◌∙◌, ap, Option, Some, None, is_some, IsTrue}
use Rattle.std.specs.FinMap.{get, remove}
use Rattle.std.specs.List.{range_with_len}
use Rattle.commit_run.specs.BeforePlan.{standing_removed}
use Rattle.commit_run.specs.Preparing.{early_paths}
use Rattle.commit_states.specs.Calls.{Items, Unstages, early_items, fresh_items, unstage_calls}
use Rattle.commit_states.specs.Reads.{IsNamed, files}
use Rattle.commit_states.specs.Stops.{IsEarly}
use Rattle.commit_steps.specs.Staging.{staging, staged, at_marker, fresh_name, new_journal}
use Rattle.dired_text.specs.Paths.{Names}
use Rattle.step_trees.specs.Entries.{HoldsOnly}
use Rattle.step_trees.proofs.RemovalLemmas.{removed-itself, removed-other}
use Rattle.tree_core.specs.declared.changes.Fresh.{Fresh}
use Rattle.tree_core.specs.declared.node.Change.{Change}
use Rattle.tree_core.specs.declared.node.Change.TheVariants as call
use Rattle.tree_core.specs.declared.node.Node.{Node}
use Rattle.tree_core.specs.declared.node.Node.TheVariants.{Dir, Link, File}
use Rattle.tree_core.specs.FileTree.{FileTree, CanDo, IsDir, Stands, is_dir_node}
use Rattle.tree_core.proofs.Sound.{by_removal, was_there}

-- ---- the names that stand

abbrev pub standing : List (List ℕ) → FileTree → List (List ℕ)
standing [] t = []
standing (x ∷ xs) t = if is_some (get t (staged x)) then x ∷ standing xs (remove t (staged x)) else standing xs t

abbrev pub staged_all : List (List ℕ) → List Names
staged_all xs = map (λ (x : List ℕ). staged x) xs

one_removed : (b : Bool) (x : List ℕ) (there others : List Change) (xs ys : List (List ℕ)) (last sync : List Change) → there ++ last ≡ unstage_calls xs ++ sync → others ++ last ≡ unstage_calls ys ++ sync
    → (if b then call.Remove (staged x) ∷ there else others) ++ last ≡ unstage_calls (if b then x ∷ xs else ys) ++ sync
one_removed true x there others xs ys last sync yes_is no_is = ap (λ (l : List Change). call.Remove (staged x) ∷ l) yes_is
one_removed false x there others xs ys last sync yes_is no_is = no_is

-- their removal is that of the names that stand
pub standing_is : (xs : List (List ℕ)) (t : FileTree) → standing_removed (staged_all xs) t ++ call.RemoveDir staging ∷ call.Sync ∷ [] ≡ unstage_calls (standing xs t) ++ call.Sync ∷ []
standing_is [] t = refl
standing_is (x ∷ xs) t =
    one_removed (is_some (get t (staged x))) x (standing_removed (staged_all xs) (remove t (staged x))) (standing_removed (staged_all xs) t) (standing xs (remove t (staged x))) (standing xs t)
    (call.RemoveDir staging ∷ call.Sync ∷ []) (call.Sync ∷ []) (standing_is xs (remove t (staged x))) (standing_is xs t)

-- nothing stands in the staging directory but under these names
abbrev pub Only : List (List ℕ) → FileTree → Type 0
Only xs t = (name : List ℕ) → Stands t (staged name) → IsNamed name (files xs)

none_of : (o : Option Node) → (IsTrue (is_some o) → ⊥) → o ≡ None
none_of None never = refl
none_of (Some node) never = absurd (never refl)

early_no_dir : (name : List ℕ) (node : Node) → IsEarly name node → is_dir_node (Some node) ≡ false
early_no_dir name (Dir mode) (inl one) = absurd one.kind
early_no_dir name (Dir mode) (inr (inl one)) = absurd one.kind
early_no_dir name (Dir mode) (inr (inr one)) = absurd one.kind
early_no_dir name (Link target) early = refl
early_no_dir name (File number bytes mode) early = refl

no_dir_there : (t : FileTree) → HoldsOnly t IsEarly → (x : List ℕ) → IsDir t (staged x) → ⊥
no_dir_there t only x dir = by_node (get t (staged x)) refl dir
  where
    by_node : (o : Option Node) → get t (staged x) ≡ o → is_dir_node o ≡ true → ⊥
    by_node None e dir = cc
    by_node (Some node) e dir = let no : is_dir_node (Some node) ≡ false = early_no_dir x node (only x node e) in cc

one_unstaged : (b : Bool) (x : List ℕ) (xs ys : List (List ℕ)) (t : FileTree) → (b ≡ true → CanDo (call.Remove (staged x)) t × Unstages xs (remove t (staged x))) → (b ≡ false → Unstages ys t)
    → Unstages (if b then x ∷ xs else ys) t
one_unstaged true x xs ys t yes_is no_is = yes_is refl
one_unstaged false x xs ys t yes_is no_is = no_is refl

less_only : (t : FileTree) (x : List ℕ) (xs : List (List ℕ)) → Only (x ∷ xs) t → Only xs (remove t (staged x))
less_only t x xs only name stands = ⊎_elim
    (λ same. absurd (let gone : get (remove t (staged x)) (staged name) ≡ None = ap (λ y. get (remove t (staged x)) (staged y)) same ∙ removed-itself t (staged x) in let no : false ≡ true = ap is_some (sym gone) ∙ stands in cc))
    (λ more. more)
    (only name (by_removal t (staged x) (staged name) (λ o. IsTrue (is_some o) → Stands t (staged name)) (λ same s. cc) (λ other s. s) stands))

same_only : (t : FileTree) (x : List ℕ) (xs : List (List ℕ)) → is_some (get t (staged x)) ≡ false → Only (x ∷ xs) t → Only xs t
same_only t x xs none only name stands = ⊎_elim
    (λ same. absurd (let no : false ≡ true = sym none ∙ ap (λ y. is_some (get t (staged y))) (sym same) ∙ stands in cc))
    (λ more. more)
    (only name stands)

-- so the directory can be cleared
pub standing_unstages : (xs : List (List ℕ)) (t : FileTree) → IsDir t staging → HoldsOnly t IsEarly → Only xs t → Unstages (standing xs t) t
standing_unstages [] t dir early only = (dir, (λ same. cc), (λ name. none_of (get t (staged name)) (λ stands. only name stands)))
standing_unstages (x ∷ xs) t dir early only =
    one_unstaged (is_some (get t (staged x))) x (standing xs (remove t (staged x))) (standing xs t) t
    (λ there. (
      (there, no_dir_there t early x),
      standing_unstages xs (remove t (staged x)) (ap is_dir_node (removed-other t (staged x) staging (λ same. let e : staging ≡ staged x = same in cc)) ∙ dir)
          (λ name node e. early name node (was_there t (staged x) (staged name) node e)) (less_only t x xs only),
    ))
    (λ none. standing_unstages xs t dir early (same_only t x xs none only))

-- ---- the names of a staging that failed

abbrev pub early_names : ℕ → List (List ℕ)
early_names count = at_marker 0 ∷ map fresh_name (range_with_len 0 count) ++ new_journal ∷ []

names_staged : (k count : ℕ) → map (λ (n : ℕ). staged (fresh_name n)) (range_with_len k count) ++ staged new_journal ∷ [] ≡ staged_all (map fresh_name (range_with_len k count) ++ new_journal ∷ [])
names_staged k zero = refl
names_staged k (suc count) = ap (λ (l : List Names). staged (fresh_name k) ∷ l) (names_staged (k + 1) count)

pub early_are : (count : ℕ) → early_paths count ≡ staged_all (early_names count)
early_are count = ap (λ (l : List Names). staged (at_marker 0) ∷ l) (names_staged 0 count)

names_items : (fs : List Fresh) (k : ℕ) → fresh_items k fs ++ (new_journal, false) ∷ [] ≡ files (map fresh_name (range_with_len k (length fs)) ++ new_journal ∷ [])
names_items [] k = refl
names_items (f ∷ fs) k = ap (λ (l : Items). (fresh_name k, false) ∷ l) (names_items fs (k + 1))

pub early_items_are : (fs : List Fresh) → early_items fs ≡ files (early_names (length fs))
early_items_are fs = ap (λ (l : Items). (at_marker 0, false) ∷ l) (names_items fs 0)
