-- Mode steps in a tree, one by one: what stands behind them, and that each is before in turn.
use Rattle.std.proofs.Common.{◌≡◌, ◌≢◌, ◌⊎◌, inl, inr, ⊎_elim, ℕ, ◌==◌, Bool, true, false, cond, List, [], ◌∷◌, ◌++◌, map, refl, sym, ◌∙◌, ap, subst, Option, Some, None, IsTrue, if◌then◌else◌, eqb-true}
use Rattle.std.specs.Prelude.{Contains}
use Rattle.std.specs.FinMap.{get, insert}
use Rattle.std.specs.Option.{option_map}
use Rattle.std.proofs.lemmas.Bool.{cond-true, cond-false, cases_Bool}
use Rattle.std.proofs.lemmas.Option.{none-some, same_Some}
use Rattle.dired_text.specs.Paths.{Names}
use Rattle.commit_steps.specs.Staging.{staging, staged}
use Rattle.commit_steps.specs.Steps.{IsOutside}
use Rattle.tree_core.specs.declared.node.Node.{Node}
use Rattle.tree_core.specs.declared.node.Node.TheVariants.{Dir, Link, File}
use Rattle.tree_core.specs.declared.node.Change.TheVariants.{SetMode}
use Rattle.tree_core.specs.FileTree.{FileTree, IsTree, IsMode, IsDir, set_mode_of, with_file_mode, has_mode_node, is_dir_node, mode_of}
use Rattle.tree_core.proofs.TreeLemmas.{get-with_nodes}
use Rattle.tree_core.proofs.Sound.{tree_kept, get-inserted, get-inserted_other}
use Rattle.edit_words.specs.Rows.{is_same_path}
use Rattle.edit_words.proofs.SameLemmas.{same_path, same_itself}
use Rattle.edit_words.specs.Edited.{node_number, is_number}
use Rattle.edit_laws.proofs.ListLemmas.{contains_head, contains_tail, contains_none, contains_cases}
use Rattle.edit_rules.specs.Plans.{ModeChange}
use Rattle.plan_moves.specs.Plan.{mode_step}
use Rattle.step_trees.specs.Entries.{IsFileOrLink, IsTemporary, IsHeld, IsFresh}
use Rattle.step_trees.specs.Leads.{HoldsEntries, SetApart, SetOthers, number_of}
use Rattle.step_trees.specs.Steps.{step_done, after, HasModeOf}
use Rattle.plan_ends.specs.Runs.{IsRun}

-- the node with another mode
abbrev pub with_mode : ℕ → Node → Node
with_mode mode (Dir m) = Dir mode
with_mode mode (Link target) = Link target
with_mode mode (File n b m) = File n b mode

-- whether a change at p, where o stands, changes the mode of the node at q
abbrev pub meets : Names → Option Node → Names → Node → Bool
meets p o q (Dir m) = is_same_path p q
meets p o q (Link target) = false
meets p o q (File n b m) = is_number n (node_number o)

abbrev pub changed : Names → Option Node → ℕ → Names → Node → Node
changed p o mode q node = cond (meets p o q node) (with_mode mode node) node

-- the nodes behind changes of the tree t
abbrev pub changed_all : FileTree → List ModeChange → Names → Node → Node
changed_all t [] q node = node
changed_all t (m ∷ ms) q node = changed_all t ms q (changed m.0 (get t m.0) m.2 q node)

pub unmet : (p : Names) (o : Option Node) (mode : ℕ) (q : Names) (node : Node) → meets p o q node ≡ false → changed p o mode q node ≡ node
unmet p o mode q node e = cond-false (meets p o q node) (with_mode mode node) node e

-- ---- one change

module _ (t : FileTree) (p : Names) (mode : ℕ) (q : Names) where
  other_place : (o : Option Node) (node : Node) → get t p ≡ o → get t q ≡ Some node → (o ≡ Some node → ⊥) → is_same_path p q ≡ false
  other_place o node e at other = elim (cases_Bool (is_same_path p q)) [
    | inl same ↦ absurd (other (sym e ∙ ap (get t) (same_path p q same) ∙ at))
    | inr no_way ↦ no_way
  ]

  not_here : (o : Option Node) (node : Node) → get t p ≡ o → get t q ≡ Some node → (o ≡ Some node → ⊥) → q ≢ p
  not_here o node e at other same = other (sym e ∙ ap (get t) (sym same) ∙ at)

  by_number : (k n : ℕ) (b c : List ℕ) (m l : ℕ) → File n c (if n == k then mode else l) ≡ changed p (Some (File k b m)) mode q (File n c l)
  by_number k n b c m l = elim (cases_Bool (n == k)) [
    | inl same ↦ ap (λ (x : ℕ). File n c x) (cond-true (n == k) mode l same) ∙ sym (cond-true (n == k) (File n c mode) (File n c l) same)
    | inr other ↦ ap (λ (x : ℕ). File n c x) (cond-false (n == k) mode l other) ∙ sym (cond-false (n == k) (File n c mode) (File n c l) other)
  ]

  pub set_shows : (o : Option Node) (node : Node) → get t p ≡ o → get t q ≡ Some node → get (set_mode_of o t p mode) q ≡ Some (changed p o mode q node)
  set_shows None (Dir l) e at = at ∙ ap (λ (n : Node). Some n) (sym (unmet p None mode q (Dir l) (other_place None (Dir l) e at (λ no_way. none-some (Dir l) no_way))))
  set_shows None (Link target) e at = at
  set_shows None (File n c l) e at = at
  set_shows (Some (Link x)) (Dir l) e at = at ∙ ap (λ (n : Node). Some n) (sym (unmet p (Some (Link x)) mode q (Dir l) (other_place (Some (Link x)) (Dir l) e at (λ no_way. cc))))
  set_shows (Some (Link x)) (Link target) e at = at
  set_shows (Some (Link x)) (File n c l) e at = at
  set_shows (Some (Dir k)) (Dir l) e at = elim (cases_Bool (is_same_path p q)) [
    | inl same ↦ ap (get (insert t p (Dir mode))) (sym (same_path p q same)) ∙ get-inserted t p (Dir mode) ∙ ap (λ (n : Node). Some n) (sym (cond-true (is_same_path p q) (Dir mode) (Dir l) same))
    | inr other ↦ get-inserted_other t p (Dir mode) q (λ same. let both : true ≡ false = sym (ap (is_same_path p) same ∙ same_itself p) ∙ other in cc) ∙ at ∙ ap (λ (n : Node). Some n) (sym (unmet p (Some (Dir k)) mode q (Dir l) other))
  ]
  set_shows (Some (Dir k)) (Link target) e at = get-inserted_other t p (Dir mode) q (not_here (Some (Dir k)) (Link target) e at (λ no_way. cc)) ∙ at
  set_shows (Some (Dir k)) (File n c l) e at = get-inserted_other t p (Dir mode) q (not_here (Some (Dir k)) (File n c l) e at (λ no_way. cc)) ∙ at
  set_shows (Some (File k b m)) (Dir l) e at = get-with_nodes (with_file_mode k mode) t q ∙ ap (option_map (with_file_mode k mode)) at
      ∙ ap (λ (n : Node). Some n) (sym (unmet p (Some (File k b m)) mode q (Dir l) (other_place (Some (File k b m)) (Dir l) e at (λ no_way. cc))))
  set_shows (Some (File k b m)) (Link target) e at = get-with_nodes (with_file_mode k mode) t q ∙ ap (option_map (with_file_mode k mode)) at
  set_shows (Some (File k b m)) (File n c l) e at = get-with_nodes (with_file_mode k mode) t q ∙ ap (option_map (with_file_mode k mode)) at ∙ ap (λ (n : Node). Some n) (by_number k n b c m l)

  pub set_absent : (o : Option Node) → get t p ≡ o → get t q ≡ None → get (set_mode_of o t p mode) q ≡ None
  set_absent None e at = at
  set_absent (Some (Dir k)) e at = get-inserted_other t p (Dir mode) q (λ same. none-some (Dir k) (sym at ∙ ap (get t) same ∙ e)) ∙ at
  set_absent (Some (Link x)) e at = at
  set_absent (Some (File k b m)) e at = get-with_nodes (with_file_mode k mode) t q ∙ ap (option_map (with_file_mode k mode)) at

-- a change keeps what a node is, but for its mode
data IsLike : Node → Node → Type 0 where
  dirs : (m k : ℕ) → IsLike (Dir m) (Dir k)
  links : (target : List ℕ) → IsLike (Link target) (Link target)
  files : (n : ℕ) (b : List ℕ) (m k : ℕ) → IsLike (File n b m) (File n b k)

like_itself : (node : Node) → IsLike node node
like_itself (Dir m) = dirs m m
like_itself (Link target) = links target
like_itself (File n b m) = files n b m m

like_changed : (p : Names) (o : Option Node) (mode : ℕ) (q : Names) (node : Node) → IsLike node (changed p o mode q node)
like_changed p o mode q (Dir m) = go (is_same_path p q)
  where
    go : (b : Bool) → IsLike (Dir m) (cond b (Dir mode) (Dir m))
    go true = dirs m mode
    go false = dirs m m
like_changed p o mode q (Link target) = links target
like_changed p o mode q (File n b m) = go (is_number n (node_number o))
  where
    go : (x : Bool) → IsLike (File n b m) (cond x (File n b mode) (File n b m))
    go true = files n b m mode
    go false = files n b m m

like_number : (a b : Node) → IsLike a b → node_number (Some b) ≡ node_number (Some a)
like_number a b (dirs m k) = refl
like_number a b (links target) = refl
like_number a b (files n c m k) = refl

like_dir : (a b : Node) → IsLike a b → is_dir_node (Some b) ≡ is_dir_node (Some a)
like_dir a b (dirs m k) = refl
like_dir a b (links target) = refl
like_dir a b (files n c m k) = refl

like_kind : (a b : Node) → IsLike a b → IsFileOrLink a → IsFileOrLink b
like_kind a b (dirs m k) is = is
like_kind a b (links target) is = is
like_kind a b (files n c m k) is = is

-- ---- the tree behind one change

abbrev pub HasNumbersOf : FileTree → FileTree → Type 0
HasNumbersOf t u = (p : Names) → node_number (get u p) ≡ node_number (get t p)

meets-number : (p : Names) (a b : Option Node) (q : Names) (node : Node) → node_number a ≡ node_number b → meets p a q node ≡ meets p b q node
meets-number p a b q (Dir m) e = refl
meets-number p a b q (Link target) e = refl
meets-number p a b q (File n c m) e = ap (is_number n) e

module _ (u : FileTree) (m : ModeChange) where
  there : (q : Names) (node : Node) → get u q ≡ Some node → get (step_done (mode_step m) u) q ≡ Some (changed m.0 (get u m.0) m.2 q node)
  there q node at = set_shows u m.0 m.2 q (get u m.0) node refl at

  gone : (q : Names) → get u q ≡ None → get (step_done (mode_step m) u) q ≡ None
  gone q at = set_absent u m.0 m.2 q (get u m.0) refl at

  -- what stands behind it stood before
  stood : (q : Names) (node : Node) → get (step_done (mode_step m) u) q ≡ Some node → (before : Node) × (get u q ≡ Some before) × IsLike before node
  stood q node at = by_node (get u q) refl
    where
      by_node : (o : Option Node) → get u q ≡ o → (before : Node) × (get u q ≡ Some before) × IsLike before node
      by_node None e = absurd (none-some node (sym (gone q e) ∙ at))
      by_node (Some before) e = (before, e, subst (IsLike before) (same_Some _ node (sym (there q before e) ∙ at)) (like_changed m.0 (get u m.0) m.2 q before))

  pub numbers_kept : HasNumbersOf u (step_done (mode_step m) u)
  numbers_kept q = by_node (get u q) refl
    where
      by_node : (o : Option Node) → get u q ≡ o → node_number (get (step_done (mode_step m) u) q) ≡ node_number (get u q)
      by_node None e = ap node_number (gone q e) ∙ sym (ap node_number e)
      by_node (Some before) e = ap node_number (there q before e) ∙ like_number before _ (like_changed m.0 (get u m.0) m.2 q before) ∙ sym (ap node_number e)

  entries_kept : HoldsEntries u → IsTree (step_done (mode_step m) u) → HoldsEntries (step_done (mode_step m) u)
  entries_kept holds tree = record {
    tree = tree;
    stands = let s = dir_of (get u staging) refl holds.stands in ap is_dir_node (there staging s.0 s.1) ∙ like_dir s.0 _ (like_changed m.0 (get u m.0) m.2 staging s.0) ∙ s.2;
    only = λ name node at. let b = stood (staged name) node at in by_kind name node b.0 b.2 (holds.only name b.0 b.1);
  }
    where
      dir_of : (o : Option Node) → get u staging ≡ o → IsDir u staging → (node : Node) × (get u staging ≡ Some node) × (is_dir_node (Some node) ≡ true)
      dir_of None e dir = let no_way : false ≡ true = sym (ap is_dir_node e) ∙ dir in absurd cc
      dir_of (Some node) e dir = (node, e, sym (ap is_dir_node e) ∙ dir)

      by_kind : (name : List ℕ) (node before : Node) → IsLike before node → IsTemporary name ⊎ (IsHeld u name before ⊎ IsFresh name before)
          → IsTemporary name ⊎ (IsHeld (step_done (mode_step m) u) name node ⊎ IsFresh name node)
      by_kind name node before like (inl put) = inl put
      by_kind name node before like (inr (inl h)) = inr (inl (record { number = h.number; small = h.small; named = h.named; kind = ⊎_elim (λ k. inl (like_kind before node like k)) (λ empty. inr (λ x. gone (staged name ++ x ∷ []) (empty x))) h.kind }))
      by_kind name node before like (inr (inr f)) = inr (inr (record { number = f.number; small = f.small; named = f.named; kind = like_kind before node like f.kind }))

-- ---- all changes

pub after_modes : (t : FileTree) (ms : List ModeChange) (u : FileTree) → HasNumbersOf t u → (q : Names) (node : Node) → get u q ≡ Some node → get (after (map mode_step ms) u) q ≡ Some (changed_all t ms q node)
after_modes t [] u numbers q node at = at
after_modes t (m ∷ ms) u numbers q node at =
    after_modes t ms (step_done (mode_step m) u) (λ p. numbers_kept u m p ∙ numbers p) q (changed m.0 (get t m.0) m.2 q node)
    (there u m q node at ∙ ap (λ (b : Bool). Some (cond b (with_mode m.2 node) node)) (meets-number m.0 (get u m.0) (get t m.0) q node (numbers m.0)))

pub after_modes-none : (ms : List ModeChange) (u : FileTree) (q : Names) → get u q ≡ None → get (after (map mode_step ms) u) q ≡ None
after_modes-none [] u q at = at
after_modes-none (m ∷ ms) u q at = after_modes-none ms (step_done (mode_step m) u) q (gone u m q at)

-- two changes neither have one place nor are of one file
pub record AreOther (t : FileTree) (m k : ModeChange) : Type 0 where
  pub places : m.0 ≢ k.0
  pub numbers : (n : ℕ) → node_number (get t m.0) ≡ Some n → node_number (get t k.0) ≡ Some n → ⊥

abbrev pub AreOthers : FileTree → List ModeChange → Type 0
AreOthers t [] = Unit {0}
AreOthers t (m ∷ ms) = ((k : ModeChange) → Contains ms k → AreOther t m k) × AreOthers t ms

-- a change can be made in its turn: outside of the staging directory a file or a directory of the old mode stands there
pub record CanChange (u : FileTree) (m : ModeChange) : Type 0 where
  pub outside : IsOutside m.0
  pub was : HasModeOf u m.0 m.1
  pub old : IsMode m.1
  pub new : IsMode m.2
  pub differ : m.1 ≢ m.2

unmet_other : (t : FileTree) (m k : ModeChange) (node : Node) → AreOther t m k → node_number (get t k.0) ≡ node_number (Some node) → meets m.0 (get t m.0) k.0 node ≡ false
unmet_other t m k (Dir l) other is = elim (cases_Bool (is_same_path m.0 k.0)) [ inl same ↦ absurd (other.places (same_path m.0 k.0 same)) | inr no_way ↦ no_way ]
unmet_other t m k (Link target) other is = refl
unmet_other t m k (File n b l) other is = by_number (node_number (get t m.0)) refl
  where
    by_number : (o : Option ℕ) → node_number (get t m.0) ≡ o → is_number n (node_number (get t m.0)) ≡ false
    by_number None e = ap (is_number n) e
    by_number (Some x) e = elim (cases_Bool (n == x)) [
      | inl same ↦ absurd (other.numbers n (e ∙ ap (λ (y : ℕ). Some y) (sym (eqb-true n x same))) is)
      | inr no_way ↦ ap (is_number n) e ∙ no_way
    ]

still_can : (t u : FileTree) (m k : ModeChange) → HasNumbersOf t u → AreOther t m k → CanChange u k → CanChange (step_done (mode_step m) u) k
still_can t u m k numbers other can = record { outside = can.outside; was = was_still; old = can.old; new = can.new; differ = can.differ }
  where
    same_there : get (step_done (mode_step m) u) k.0 ≡ get u k.0
    same_there = by_node (get u k.0) refl
      where
        by_node : (o : Option Node) → get u k.0 ≡ o → get (step_done (mode_step m) u) k.0 ≡ get u k.0
        by_node None e = gone u m k.0 e ∙ sym e
        by_node (Some node) e = there u m k.0 node e ∙ ap (λ (n : Node). Some n) (unmet m.0 (get u m.0) m.2 k.0 node
            (meets-number m.0 (get u m.0) (get t m.0) k.0 node (numbers m.0) ∙ unmet_other t m k node other (sym (numbers k.0) ∙ ap node_number e))) ∙ sym e

    was_still : HasModeOf (step_done (mode_step m) u) k.0 k.1
    was_still = subst (λ (o : Option Node). IsTrue (has_mode_node o) × (option_map mode_of o ≡ Some k.1)) (sym same_there) can.was

pub modes_run : (t : FileTree) (ms : List ModeChange) (u : FileTree) → HasNumbersOf t u → HoldsEntries u → AreOthers t ms → ((m : ModeChange) → Contains ms m → CanChange u m) → IsRun u (map mode_step ms)
modes_run t [] u numbers holds others can = holds
modes_run t (m ∷ ms) u numbers holds others can =
    let here = can m (contains_head m ms) in (
      holds,
      (here.outside, here.old, here.new, here.differ),
      here.was,
      modes_run t ms (step_done (mode_step m) u) (λ p. numbers_kept u m p ∙ numbers p)
          (entries_kept u m holds (tree_kept (SetMode m.0 m.2) u 0 refl holds.tree (here.was.0, here.new)))
          others.1 (λ k c. still_can t u m k numbers (others.0 k c) (can k (contains_tail m k ms c))),
    )

pub one_number : (o : Option Node) → number_of o ≡ node_number o
one_number None = refl
one_number (Some (Dir m)) = refl
one_number (Some (Link target)) = refl
one_number (Some (File n b m)) = refl

-- no two of them set the mode of one file
pub others_set : (t : FileTree) (ms : List ModeChange) → AreOthers t ms → SetOthers t (map mode_step ms)
others_set t [] others = tt
others_set t (m ∷ ms) others = (all_apart ms others.0, others_set t ms others.1)
  where
    all_apart : (ks : List ModeChange) → ((k : ModeChange) → Contains ks k → AreOther t m k) → SetApart t (mode_step m) (map mode_step ks)
    all_apart [] other = tt
    all_apart (k ∷ ks) other = (
      λ n at_m at_k. (other k (contains_head k ks)).numbers n (sym (one_number (get t m.0)) ∙ at_m) (sym (one_number (get t k.0)) ∙ at_k),
      all_apart ks (λ x c. other x (contains_tail k x ks c)),
    )

-- ---- what the changes make of one node

-- a node that none meets stays
pub all_unmet : (t : FileTree) (ms : List ModeChange) (q : Names) (node : Node) → ((m : ModeChange) → Contains ms m → meets m.0 (get t m.0) q node ≡ false) → changed_all t ms q node ≡ node
all_unmet t [] q node none = refl
all_unmet t (m ∷ ms) q node none =
    ap (changed_all t ms q) (unmet m.0 (get t m.0) m.2 q node (none m (contains_head m ms)))
    ∙ all_unmet t ms q node (λ k c. none k (contains_tail m k ms c))

meets-with : (p : Names) (o : Option Node) (mode : ℕ) (q : Names) (node : Node) → meets p o q (with_mode mode node) ≡ meets p o q node
meets-with p o mode q (Dir m) = refl
meets-with p o mode q (Link target) = refl
meets-with p o mode q (File n b m) = refl

with-with : (mode : ℕ) (node : Node) → with_mode mode (with_mode mode node) ≡ with_mode mode node
with-with mode (Dir m) = refl
with-with mode (Link target) = refl
with-with mode (File n b m) = refl

-- one that has the mode keeps it where each change that meets it has that mode
pub keeps_mode : (t : FileTree) (ms : List ModeChange) (q : Names) (node : Node) (mode : ℕ) → ((m : ModeChange) → Contains ms m → meets m.0 (get t m.0) q node ≡ true → m.2 ≡ mode)
    → changed_all t ms q (with_mode mode node) ≡ with_mode mode node
keeps_mode t [] q node mode all = refl
keeps_mode t (m ∷ ms) q node mode all = ap (changed_all t ms q) (by_meets (cases_Bool (meets m.0 (get t m.0) q node))) ∙ keeps_mode t ms q node mode (λ k c. all k (contains_tail m k ms c))
  where
    by_meets : (meets m.0 (get t m.0) q node ≡ true) ⊎ (meets m.0 (get t m.0) q node ≡ false) → changed m.0 (get t m.0) m.2 q (with_mode mode node) ≡ with_mode mode node
    by_meets (inl it) = cond-true (meets m.0 (get t m.0) q (with_mode mode node)) (with_mode m.2 (with_mode mode node)) (with_mode mode node) (meets-with m.0 (get t m.0) mode q node ∙ it)
        ∙ ap (λ (x : ℕ). with_mode x (with_mode mode node)) (all m (contains_head m ms) it) ∙ with-with mode node
    by_meets (inr none) = unmet m.0 (get t m.0) m.2 q (with_mode mode node) (meets-with m.0 (get t m.0) mode q node ∙ none)

-- and one that is met gets the mode
pub all_met : (t : FileTree) (ms : List ModeChange) (q : Names) (node : Node) (mode : ℕ) (k : ModeChange) → Contains ms k → meets k.0 (get t k.0) q node ≡ true
    → ((m : ModeChange) → Contains ms m → meets m.0 (get t m.0) q node ≡ true → m.2 ≡ mode) → changed_all t ms q node ≡ with_mode mode node
all_met t [] q node mode k c it all = absurd (contains_none k c)
all_met t (m ∷ ms) q node mode k c it all = go (λ later. all_met t ms q node mode k later it (λ x d. all x (contains_tail m x ms d))) (cases_Bool (meets m.0 (get t m.0) q node)) (contains_cases m k ms c)
  where
    go : (Contains ms k → changed_all t ms q node ≡ with_mode mode node) → (meets m.0 (get t m.0) q node ≡ true) ⊎ (meets m.0 (get t m.0) q node ≡ false) → (m ≡ k) ⊎ Contains ms k
        → changed_all t (m ∷ ms) q node ≡ with_mode mode node
    go more (inl here) which = ap (changed_all t ms q) (cond-true (meets m.0 (get t m.0) q node) (with_mode m.2 node) node here ∙ ap (λ (x : ℕ). with_mode x node) (all m (contains_head m ms) here))
        ∙ keeps_mode t ms q node mode (λ x d. all x (contains_tail m x ms d))
    go more (inr none) (inl same) = let both : true ≡ false = sym it ∙ ap (λ (x : ModeChange). meets x.0 (get t x.0) q node) (sym same) ∙ none in absurd cc
    go more (inr none) (inr later) = ap (changed_all t ms q) (unmet m.0 (get t m.0) m.2 q node none) ∙ more later
