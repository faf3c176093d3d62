-- What is put aside still stands when all steps are done, under its name and of its kind, and nothing else in the staging directory.
use Rattle.std.proofs.Common.{◌≡◌, ◌≢◌, ◌⊎◌, inl, inr, ℕ, ◌+◌, ◌<◌, ◌≤◌, ◌^◌, ◌==◌, Bool, true, false, cond, List, [], ◌∷◌, ◌++◌, map, length, refl, sym, ◌∙◌, ap, subst, arith, append_assoc, length-append, Option, Some, None, is_some, IsTrue}
use Rattle.std.specs.Prelude.{Contains}
use Rattle.std.specs.FinMap.{get, find}
use Rattle.std.specs.List.{AllByRecursion}
use Rattle.std.proofs.lemmas.Bool.{cases_Bool, cond-true, cond-false, eqb-true, eqb-false}
use Rattle.dired_text.specs.Paths.{Names, path_cmp}
use Rattle.commit_steps.specs.Staging.{staging, staged, held}
use Rattle.commit_states.specs.Calls.{held_items}
use Rattle.commit_states.specs.Reads.{AreRead, AreOnce as NamesAreOnce, IsNamed}
use Rattle.tree_core.specs.declared.node.Node.{Node}
use Rattle.tree_core.specs.declared.node.Node.TheVariants.{Dir, Link, File}
use Rattle.tree_core.specs.FileTree.{FileTree, Stands, is_dir_node}
use Rattle.tree_core.proofs.TreeLemmas.{tie, tie-other}
use Rattle.edit_rules.specs.Plans.{ModeChange}
use Rattle.edit_words.specs.declared.row.Row.{Row}
use Rattle.edit_words.specs.Edited.{Entries, IsPlaced, Came, added_by}
use Rattle.edit_words.specs.Place.{place}
use Rattle.edit_words.specs.Rows.{is_same_path}
use Rattle.edit_words.specs.Sight.{sight_of}
use Rattle.edit_words.proofs.SameLemmas.{same_path, same_itself}
use Rattle.edit_laws.proofs.ListLemmas.{contains_head, contains_tail}
use Rattle.plan_ends.proofs.EndPlaces.{not_staged_place, not_staged_added, place_gone, place_held, added_is}
use Rattle.plan_ends.proofs.ModeSteps.{changed, changed_all, after_modes, after_modes-none, meets, with_mode}
use Rattle.plan_fits.proofs.KindLemmas.{IsOfKind}
use Rattle.plan_fits.specs.HeldKinds.{numbered}
use Rattle.plan_laws.proofs.Held.{HeldAt, held_number}
use Rattle.plan_laws.proofs.HeldOnce.{AreOnce}
use Rattle.plan_laws.proofs.Setting.{ArePlannedRows}
use Rattle.plan_laws.proofs.StagedNames.{held_apart, staged_name}
use Rattle.plan_moves.specs.Moves.{Spots}
use Rattle.plan_moves.specs.Plan.{held_paths, mode_step}
use Rattle.plan_moves.specs.SoFar.{held_at, route_so_far, IsSoFar, same_node}
use Rattle.step_trees.specs.Steps.{after}

-- ---- names and places

abbrev path_of : Names × Bool → Names
path_of x = x.0

-- a path that comes once has the name of its place
named_at : (n : ℕ) (front : List Names) (p : Names) (rest : List Names) → AreOnce (front ++ p ∷ rest) → held_at n (front ++ p ∷ rest) p ≡ Some (staged (held (n + length front)))
named_at n [] p rest once = cond-true (is_same_path p p) (Some (staged (held n))) (held_at (n + 1) rest p) (same_itself p) ∙ ap (λ (k : ℕ). Some (staged (held k))) (omega arith)
named_at n (h ∷ front) p rest once =
    cond-false (is_same_path h p) (Some (staged (held n))) (held_at (n + 1) (front ++ p ∷ rest) p) (other (is_same_path h p) refl)
    ∙ (named_at (n + 1) front p rest once.1 ∙ ap (λ (k : ℕ). Some (staged (held k))) (let l : length (h ∷ front) ≡ length front + 1 = omega arith in omega arith))
  where
    there : (front : List Names) → Contains (front ++ p ∷ rest) p
    there [] = contains_head p rest
    there (x ∷ front) = contains_tail x p (front ++ p ∷ rest) (there front)

    other : (b : Bool) → is_same_path h p ≡ b → is_same_path h p ≡ false
    other false e = e
    other true e = absurd (once.0 (subst (λ (x : Names). Contains (front ++ p ∷ rest) x) (sym (same_path h p e)) (there front)))

-- what stands under the names from n on
abbrev pub StandAs : FileTree → ℕ → List (Names × Bool) → Type 0
StandAs t n [] = Unit {0}
StandAs t n (x ∷ xs) = IsOfKind t (staged (held n), x.1) × StandAs t (n + 1) xs

first_or : (n k : ℕ) → n ≤ k → (n ≡ k) ⊎ (n + 1 ≤ k)
first_or n k least = elim (cases_Bool (n == k)) [
  | inl same ↦ inl (eqb-true n k same)
  | inr other ↦ inr (let apart : n ≢ k = eqb-false n k other in omega arith)
]

is_named : (n : ℕ) (xs : List (Names × Bool)) (k : ℕ) (name : List ℕ) → n ≤ k → k < n + length xs → name ≡ held k → IsNamed name (held_items (numbered n xs))
is_named n [] k name least most is = absurd (omega arith)
is_named n (x ∷ xs) k name least most is = elim (first_or n k least) [
  | inl here ↦ inl (is ∙ ap held (sym here))
  | inr later ↦ inr (is_named (n + 1) xs k name later (let l : length (x ∷ xs) ≡ length xs + 1 = omega arith in omega arith) is)
]

no_name : (n k : ℕ) (xs : List (Names × Bool)) → k < n → n + length xs ≤ 2 ^ 32 → IsNamed (held k) (held_items (numbered n xs)) → ⊥
no_name n k [] less few named = named
no_name n k (x ∷ xs) less few (inl is) = let l : length (x ∷ xs) ≡ length xs + 1 = omega arith in let same : k ≡ n = held_apart k n (omega arith) (omega arith) is in omega arith
no_name n k (x ∷ xs) less few (inr more) = let l : length (x ∷ xs) ≡ length xs + 1 = omega arith in no_name (n + 1) k xs (omega arith) (omega arith) more

once_named : (n : ℕ) (xs : List (Names × Bool)) → n + length xs ≤ 2 ^ 32 → NamesAreOnce (held_items (numbered n xs))
once_named n [] few = tt
once_named n (x ∷ xs) few = let l : length (x ∷ xs) ≡ length xs + 1 = omega arith in (no_name (n + 1) n xs (omega arith) (omega arith), once_named (n + 1) xs (omega arith))

each_read : (t : FileTree) (n : ℕ) (xs : List (Names × Bool)) → StandAs t n xs
    → AllByRecursion (λ (x : List ℕ × Bool). (⊥ → ⊥) × Stands t (staged x.0) × (is_dir_node (get t (staged x.0)) ≡ x.1)) (held_items (numbered n xs))
each_read t n [] stand = tt
each_read t n (x ∷ xs) stand = (((λ no. no), ap is_some (stand.0).1, ap is_dir_node (stand.0).1 ∙ (stand.0).2), each_read t (n + 1) xs stand.1)

pub all_read : (t : FileTree) (xs : List (Names × Bool)) → length xs ≤ 2 ^ 32 → StandAs t 0 xs → ((name : List ℕ) → Stands t (staged name) → (k : ℕ) × (k < length xs) × (name ≡ held k))
    → AreRead t (λ name. ⊥) (held_items (numbered 0 xs))
all_read t xs few stand all = record {
  each = each_read t 0 xs stand;
  once = once_named 0 xs (omega arith);
  all = λ name stands. let k = all name stands in inr (is_named 0 xs k.0 name (omega arith) (omega arith) k.2);
}

-- ---- the end of the moves

module _ (t : FileTree) (rs : List Row) (set : ArePlannedRows t rs) (made : List Node) (spots : Spots) (now : FileTree) (so_far : IsSoFar t rs made spots [] now) where
  abbrev all_added : Entries
  all_added = (staging, Dir 0o700) ∷ added_by t rs made

  is : IsPlaced all_added (λ p. true) (place (route_so_far t rs spots [])) same_node t now
  is = subst (λ (l : Entries). IsPlaced l (λ p. true) (place (route_so_far t rs spots [])) same_node t now) (added_is t rs set spots made) so_far

  find_other : (q : Names) → q ≢ staging → find path_cmp q all_added ≡ find path_cmp q (added_by t rs made)
  find_other q other = cond-false (tie q staging) (Some (Dir 0o700)) (find path_cmp q (added_by t rs made)) (tie-other q staging other)

  not_added : (name : List ℕ) → find path_cmp (staged name) all_added ≡ None
  not_added name = find_other (staged name) (λ e. (let same : staged name ≡ staging = e in cc)) ∙ by_found (find path_cmp (staged name) (added_by t rs made)) refl
    where
      by_found : (o : Option Node) → find path_cmp (staged name) (added_by t rs made) ≡ o → find path_cmp (staged name) (added_by t rs made) ≡ None
      by_found None e = e
      by_found (Some node) e = absurd (not_staged_added t rs set made (staged name) node (name ∷ []) e refl)

  kept_one : (p : Names) (n : ℕ) (node : Node) → held_at 0 (held_paths (sight_of t) rs) p ≡ Some (staged (held n)) → get t p ≡ Some node → get now (staged (held n)) ≡ Some node
  kept_one p n node at stood =
      let there = place_held t rs set spots p (staged (held n)) at in
      subst (λ (q : Names). get now q ≡ Some node) there (is.stay p node refl stood (subst (λ (q : Names). find path_cmp q all_added ≡ None) (sym there) (not_added (held n))))

  pub kept_all : (front : List Names) (xs : List (Names × Bool)) → held_paths (sight_of t) rs ≡ front ++ map path_of xs → AreOnce (front ++ map path_of xs)
      → ((x : Names × Bool) → Contains xs x → IsOfKind t x) → StandAs now (length front) xs
  kept_all front [] same once kinds = tt
  kept_all front (x ∷ xs) same once kinds =
      let k = kinds x (contains_head x xs) in
      let at : held_at 0 (held_paths (sight_of t) rs) x.0 ≡ Some (staged (held (length front))) =
      ap (λ (l : List Names). held_at 0 l x.0) same ∙ (named_at 0 front x.0 (map path_of xs) once ∙ ap (λ (n : ℕ). Some (staged (held n))) (omega arith)) in
      let longer : (front ++ x.0 ∷ []) ++ map path_of xs ≡ front ++ x.0 ∷ map path_of xs = append_assoc front (x.0 ∷ []) (map path_of xs) in
      let more : StandAs now (length (front ++ x.0 ∷ [])) xs =
      kept_all (front ++ x.0 ∷ []) xs (same ∙ sym longer) (subst AreOnce (sym longer) once) (λ y c. kinds y (contains_tail x y xs c)) in
      ((k.0, kept_one x.0 (length front) k.0 at k.1, k.2), subst (λ (n : ℕ). StandAs now n xs) (length-append front (x.0 ∷ [])) more)

  came_held : (name : List ℕ) (node : Node) → Came (λ p. true) (place (route_so_far t rs spots [])) same_node t (staged name) node → (p : Names) × HeldAt 0 (held_paths (sight_of t) rs) p (staged name)
  came_held name node came = by_held (held_at 0 (held_paths (sight_of t) rs) came.path) refl
    where
      by_held : (o : Option Names) → held_at 0 (held_paths (sight_of t) rs) came.path ≡ o → (p : Names) × HeldAt 0 (held_paths (sight_of t) rs) p (staged name)
      by_held None e = absurd (not_staged_place t rs set came.path (ap is_some came.stood) (name ∷ []) (sym (place_gone t rs set spots came.path (ap is_some came.stood) e) ∙ came.here))
      by_held (Some path) e = (came.path, subst (HeldAt 0 (held_paths (sight_of t) rs) came.path) (sym (place_held t rs set spots came.path path e) ∙ came.here) (held_number 0 (held_paths (sight_of t) rs) came.path path e))

  pub only_held : (name : List ℕ) (node : Node) → get now (staged name) ≡ Some node → (k : ℕ) × (k < length (held_paths (sight_of t) rs)) × (name ≡ held k)
  only_held name node stood = elim (is.only (staged name) node stood) [
    | inl some ↦ absurd (let no_way : IsTrue (is_some {T = Node} None) = subst (λ (o : Option Node). IsTrue (is_some o)) (not_added name) some in cc)
    | inr came ↦ let p = came_held name node came in let most : p.1.number < 0 + length (held_paths (sight_of t) rs) = p.1.most in (p.1.number, omega arith, staged_name name (held p.1.number) p.1.is)
  ]

-- ---- behind the modes

like_kind : (p : Names) (o : Option Node) (mode : ℕ) (q : Names) (node : Node) → is_dir_node (Some (changed p o mode q node)) ≡ is_dir_node (Some node)
like_kind p o mode q node = by_test (meets p o q node) node
  where
    by_test : (b : Bool) (node : Node) → is_dir_node (Some (cond b (with_mode mode node) node)) ≡ is_dir_node (Some node)
    by_test false node = refl
    by_test true (Dir m) = refl
    by_test true (Link target) = refl
    by_test true (File number bytes m) = refl

like_all : (t : FileTree) (ms : List ModeChange) (q : Names) (node : Node) → is_dir_node (Some (changed_all t ms q node)) ≡ is_dir_node (Some node)
like_all t [] q node = refl
like_all t (m ∷ ms) q node = like_all t ms q (changed m.0 (get t m.0) m.2 q node) ∙ like_kind m.0 (get t m.0) m.2 q node

pub stand_behind : (ms : List ModeChange) (now : FileTree) (n : ℕ) (xs : List (Names × Bool)) → StandAs now n xs → StandAs (after (map mode_step ms) now) n xs
stand_behind ms now n [] stand = tt
stand_behind ms now n (x ∷ xs) stand = (
  (changed_all now ms (staged (held n)) (stand.0).0, after_modes now ms now (λ p. refl) (staged (held n)) (stand.0).0 (stand.0).1, like_all now ms (staged (held n)) (stand.0).0 ∙ (stand.0).2),
  stand_behind ms now (n + 1) xs stand.1,
)

pub stood_before : (ms : List ModeChange) (now : FileTree) (name : List ℕ) → Stands (after (map mode_step ms) now) (staged name) → (node : Node) × (get now (staged name) ≡ Some node)
stood_before ms now name stands = by_node (get now (staged name)) refl
  where
    by_node : (o : Option Node) → get now (staged name) ≡ o → (node : Node) × (get now (staged name) ≡ Some node)
    by_node None e = let no_way : false ≡ true = sym (ap is_some (after_modes-none ms now (staged name) e)) ∙ stands in absurd cc
    by_node (Some node) e = (node, e)
