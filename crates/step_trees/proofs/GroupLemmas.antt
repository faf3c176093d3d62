-- A group of steps that are apart: the trees with some of them done, and what each step, done or undone, makes of such a tree.
use Rattle.std.proofs.Common.{◌≡◌, inl, inr, ◌⊎◌, ℕ, ◌==◌, Bool, true, false, List, [], ◌∷◌, refl, sym, ◌∙◌, ap, subst, Option, Some, None, IsTrue, if◌then◌else◌}
use Rattle.std.proofs.lemmas.Bool.{cond-true, eqb-true, eq-eqb}
use Rattle.std.proofs.lemmas.Option.{same_Some}
use Rattle.std.specs.Option.{option_map}
use Rattle.std.specs.FinMap.{get}
use Rattle.dired_text.specs.Paths.{Names, parent}
use Rattle.tree_core.specs.declared.node.Node.{Node}
use Rattle.tree_core.specs.declared.node.Node.TheVariants.{Dir, Link, File}
use Rattle.tree_core.specs.FileTree.{FileTree, IsTree, IsAbsent, Stands, IsDir, done, set_mode_of, with_nodes, with_file_mode, is_dir_node, has_mode_node, mode_of}
use Rattle.tree_core.specs.History.{is_write}
use Rattle.tree_core.proofs.TreeLemmas.{same_tree, absent_below, absent_not, get-with_nodes}
use Rattle.tree_core.proofs.Sound.{get-inserted, by_place, tree_kept}
use Rattle.commit_steps.specs.declared.step.Step.{Step}
use Rattle.commit_steps.specs.declared.step.Step.TheVariants.{MakeDir, Rename, Mode}
use Rattle.step_trees.proofs.CommuteLemmas.{IsOut, apart_turned, out_of, out_parent_of, some_kept, dir_kept, number_kept, absent_there, absent_back, same_step, commute, other_turned}
use Rattle.step_trees.proofs.StepLemmas.{IsClearStep, can_step}
use Rattle.step_trees.proofs.UndoLemmas.{undone_step, can_undo}
use Rattle.step_trees.specs.Groups.{ComesBySome}
use Rattle.step_trees.specs.Leads.{file_of, SetOther}
use Rattle.step_trees.specs.Steps.{call_of, undo_of, step_done, IsBefore, IsAfter, IsStep}
use Rattle.step_trees.specs.Apart.{AreApart}

-- ---- one step apart from another

pub apart_other : (s u : Step) → AreApart s u → AreApart u s
apart_other (MakeDir p) (MakeDir q) apart = apart_turned p q apart
apart_other (MakeDir p) (Rename from to) apart = (apart_turned p from apart.0, apart_turned p to apart.1)
apart_other (MakeDir p) (Mode q old new) apart = apart_turned p q apart
apart_other (Rename from to) (MakeDir q) apart = (apart_turned from q apart.0, apart_turned to q apart.1)
apart_other (Rename from to) (Rename c d) apart = ((apart_turned from c apart.0.0, apart_turned to c apart.1.0), (apart_turned from d apart.0.1, apart_turned to d apart.1.1))
apart_other (Rename from to) (Mode q old new) apart = (apart_turned from q apart.0, apart_turned to q apart.1)
apart_other (Mode p old new) (MakeDir q) apart = apart_turned p q apart
apart_other (Mode p old new) (Rename from to) apart = (apart_turned p from apart.0, apart_turned p to apart.1)
apart_other (Mode p old new) (Mode q old2 new2) apart = apart_turned p q apart

-- s was done in t
module _ (s : Step) (t : FileTree) (clear : IsClearStep s t) where
  stands_there : (q : Names) → IsOut s q → Stands t q → Stands (step_done s t) q
  stands_there q out stands = some_kept s t q clear out ∙ stands

  stands_back : (q : Names) → IsOut s q → Stands (step_done s t) q → Stands t q
  stands_back q out stands = sym (some_kept s t q clear out) ∙ stands

  dir_there : (q : Names) → IsOut s q → IsDir t q → IsDir (step_done s t) q
  dir_there q out dir = dir_kept s t q clear out ∙ dir

  dir_back : (q : Names) → IsOut s q → IsDir (step_done s t) q → IsDir t q
  dir_back q out dir = sym (dir_kept s t q clear out) ∙ dir

  -- the looks at another are as they were
  pub before_there : (u : Step) → AreApart u s → SetOther t s u → IsBefore u t → IsBefore u (step_done s t)
  before_there (MakeDir q) apart other before = (absent_there s t q clear (out_of s q apart) before.0, dir_there (parent q) (out_parent_of s q (out_of s q apart)) before.1)
  before_there (Rename from to) apart other before = (
    stands_there from (out_of s from apart.0) before.0,
    absent_there s t to clear (out_of s to apart.1) before.1,
    dir_there (parent to) (out_parent_of s to (out_of s to apart.1)) before.2,
  )
  before_there (Mode q old new) apart other before = subst (λ (o : Option Node). IsTrue (has_mode_node o) × (option_map mode_of o ≡ Some old)) (sym (same_step s t q clear (out_of s q apart) other)) before

  pub before_back : (u : Step) → AreApart u s → SetOther t s u → IsBefore u (step_done s t) → IsBefore u t
  before_back (MakeDir q) apart other before = (absent_back s t q clear (out_of s q apart) before.0, dir_back (parent q) (out_parent_of s q (out_of s q apart)) before.1)
  before_back (Rename from to) apart other before = (
    stands_back from (out_of s from apart.0) before.0,
    absent_back s t to clear (out_of s to apart.1) before.1,
    dir_back (parent to) (out_parent_of s to (out_of s to apart.1)) before.2,
  )
  before_back (Mode q old new) apart other before = subst (λ (o : Option Node). IsTrue (has_mode_node o) × (option_map mode_of o ≡ Some old)) (same_step s t q clear (out_of s q apart) other) before

  pub after_there : (u : Step) → AreApart u s → SetOther t s u → IsAfter u t → IsAfter u (step_done s t)
  after_there (MakeDir q) apart other behind = dir_there q (out_of s q apart) behind
  after_there (Rename from to) apart other behind = (
    absent_there s t from clear (out_of s from apart.0) behind.0,
    stands_there to (out_of s to apart.1) behind.1,
    dir_there (parent from) (out_parent_of s from (out_of s from apart.0)) behind.2,
  )
  after_there (Mode q old new) apart other behind = subst (λ (o : Option Node). IsTrue (has_mode_node o) × (option_map mode_of o ≡ Some new)) (sym (same_step s t q clear (out_of s q apart) other)) behind

  pub after_back : (u : Step) → AreApart u s → SetOther t s u → IsAfter u (step_done s t) → IsAfter u t
  after_back (MakeDir q) apart other behind = dir_back q (out_of s q apart) behind
  after_back (Rename from to) apart other behind = (
    absent_back s t from clear (out_of s from apart.0) behind.0,
    stands_back to (out_of s to apart.1) behind.1,
    dir_back (parent from) (out_parent_of s from (out_of s from apart.0)) behind.2,
  )
  after_back (Mode q old new) apart other behind = subst (λ (o : Option Node). IsTrue (has_mode_node o) × (option_map mode_of o ≡ Some new)) (same_step s t q clear (out_of s q apart) other) behind

  pub file_kept : (u : Step) → AreApart u s → file_of (step_done s t) u ≡ file_of t u
  file_kept (MakeDir q) apart = refl
  file_kept (Rename from to) apart = refl
  file_kept (Mode q old new) apart = number_kept s t q clear (out_of s q apart)

  pub other_there : (u v : Step) → AreApart u s → AreApart v s → SetOther t u v → SetOther (step_done s t) u v
  other_there u v apart_u apart_v other n e f = other n (sym (file_kept u apart_u) ∙ e) (sym (file_kept v apart_v) ∙ f)

  pub other_back : (u v : Step) → AreApart u s → AreApart v s → SetOther (step_done s t) u v → SetOther t u v
  other_back u v apart_u apart_v other n e f = other n (file_kept u apart_u ∙ e) (file_kept v apart_v ∙ f)

no_write : (s : Step) → is_write (call_of s) ≡ false
no_write (MakeDir q) = refl
no_write (Rename from to) = refl
no_write (Mode q old new) = refl

pub clear_before : (s : Step) (t : FileTree) → IsTree t → IsBefore s t → IsClearStep s t
clear_before (MakeDir q) t tree before = tt
clear_before (Rename from to) t tree before = absent_below t tree to before.1
clear_before (Mode q old new) t tree before = tt

pub tree_step : (s : Step) (t : FileTree) → IsTree t → IsStep s → IsBefore s t → IsTree (step_done s t)
tree_step s t tree lawful before = tree_kept (call_of s) t 0 (no_write s) tree (can_step s t lawful before)

-- ---- a step that was done, or wasn't

mode_now : (t : FileTree) (p : Names) (new : ℕ) (o : Option Node) → get t p ≡ o → IsTrue (has_mode_node o) → option_map mode_of (get (set_mode_of o t p new) p) ≡ Some new
mode_now t p new None e has = cc
mode_now t p new (Some (Link target)) e has = cc
mode_now t p new (Some (Dir m)) e has = ap (option_map mode_of) (get-inserted t p (Dir new))
mode_now t p new (Some (File n b m)) e has = ap (option_map mode_of) (get-with_nodes (with_file_mode n new) t p ∙ ap (option_map (with_file_mode n new)) e) ∙ ap (λ x. Some x) (cond-true (n == n) new m (eq-eqb n n refl))

-- it is after where it was done
pub after_own : (s : Step) (t : FileTree) → IsTree t → IsStep s → IsBefore s t → IsAfter s (step_done s t)
after_own (MakeDir p) t tree lawful before = (can_undo (MakeDir p) t tree lawful before).0
after_own (Rename from to) t tree lawful before = let can = can_undo (Rename from to) t tree lawful before in (can.absent, can.stands, can.parent_is_dir)
after_own (Mode p old new) t tree lawful before = ((can_undo (Mode p old new) t tree lawful before).0, mode_now t p new (get t p) refl before.0)

mode_file : (t : FileTree) → IsTree t → (p : Names) (n : ℕ) (b : List ℕ) (mode : ℕ) → get t p ≡ Some (File n b mode) → with_nodes (with_file_mode n mode) t ≡ t
mode_file t tree p n b mode at_p = same_tree _ _ (λ q. get-with_nodes (with_file_mode n mode) t q ∙ by_node q (get t q) refl)
  where
    by_number : (c : Bool) (m : ℕ) → (c ≡ true → m ≡ mode) → (if c then mode else m) ≡ m
    by_number true m same = sym (same refl)
    by_number false m same = refl

    by_node : (q : Names) (o : Option Node) → get t q ≡ o → option_map (with_file_mode n mode) o ≡ o
    by_node q None e = refl
    by_node q (Some (Dir m)) e = refl
    by_node q (Some (Link target)) e = refl
    by_node q (Some (File k c m)) e = ap (λ x. Some (File k c x)) (by_number (k == n) m (λ same. (tree.alike q p k c b m mode e (at_p ∙ ap (λ x. Some (File x b mode)) (sym (eqb-true k n same)))).1))

-- to set a mode that stands changes nothing
mode_again : (t : FileTree) → IsTree t → (p : Names) (mode : ℕ) (o : Option Node) → get t p ≡ o → option_map mode_of o ≡ Some mode → set_mode_of o t p mode ≡ t
mode_again t tree p mode None e is = cc
mode_again t tree p mode (Some (Link target)) e is = refl
mode_again t tree p mode (Some (Dir m)) e is = same_tree _ _ (λ q. by_place t p (Dir mode) q (λ o. o ≡ get t q)
    (λ same. sym (ap (get t) same ∙ e ∙ ap (λ x. Some (Dir x)) (same_Some m mode is))) (λ other. refl))
mode_again t tree p mode (Some (File n b m)) e is = mode_file t tree p n b mode (e ∙ ap (λ x. Some (File n b x)) (same_Some m mode is))

-- what its call asks of the step's own paths
abbrev pub Tries : Step → FileTree → Type 0
Tries (MakeDir p) t = IsAbsent t p
Tries (Rename from to) t = Stands t from
Tries (Mode p old new) t = Unit {0}

abbrev pub TriesUndo : Step → FileTree → Type 0
TriesUndo (MakeDir p) t = IsDir t p
TriesUndo (Rename from to) t = Stands t to
TriesUndo (Mode p old new) t = Unit {0}

-- done once more it changes nothing
again : (s : Step) (t : FileTree) → IsTree t → IsAfter s t → Tries s t → step_done s t ≡ t
again (MakeDir p) t tree behind tries = let no : is_dir_node None ≡ true = ap is_dir_node (sym tries) ∙ behind in cc
again (Rename from to) t tree behind tries = absurd (absent_not (get t from) behind.0 tries)
again (Mode p old new) t tree behind tries = mode_again t tree p new (get t p) refl behind.1

-- nor undone where it wasn't done
undone_again : (s : Step) (t : FileTree) → IsTree t → IsBefore s t → TriesUndo s t → done (undo_of s) 0 t ≡ t
undone_again (MakeDir p) t tree before tries = let no : is_dir_node None ≡ true = ap is_dir_node (sym before.0) ∙ tries in cc
undone_again (Rename from to) t tree before tries = absurd (absent_not (get t to) before.1 tries)
undone_again (Mode p old new) t tree before tries = mode_again t tree p old (get t p) refl before.1

-- ---- a group

-- s is apart from each of them
abbrev pub ApartFrom : Step → List Step → FileTree → Type 0
ApartFrom s [] t = Unit {0}
ApartFrom s (u ∷ g) t = AreApart s u × SetOther t s u × ApartFrom s g t

-- each step is before in t, and any two are apart
abbrev pub Free : List Step → FileTree → Type 0
Free [] t = Unit {0}
Free (s ∷ g) t = IsStep s × IsBefore s t × ApartFrom s g t × Free g t

module _ (s : Step) (t : FileTree) (clear : IsClearStep s t) where
  apart_there : (u : Step) (g : List Step) → AreApart u s → ApartFrom s g t → ApartFrom u g t → ApartFrom u g (step_done s t)
  apart_there u [] apart of_s of_u = tt
  apart_there u (v ∷ g) apart of_s of_u = (of_u.0, other_there s t clear u v apart (apart_other s v of_s.0) of_u.1, apart_there u g apart of_s.2 of_u.2)

  apart_back : (u : Step) (g : List Step) → AreApart u s → ApartFrom s g t → ApartFrom u g (step_done s t) → ApartFrom u g t
  apart_back u [] apart of_s of_u = tt
  apart_back u (v ∷ g) apart of_s of_u = (of_u.0, other_back s t clear u v apart (apart_other s v of_s.0) of_u.1, apart_back u g apart of_s.2 of_u.2)

  pub free_there : (g : List Step) → ApartFrom s g t → Free g t → Free g (step_done s t)
  free_there [] of_s free = tt
  free_there (u ∷ g) of_s free =
      let apart = apart_other s u of_s.0 in
      (free.0, before_there s t clear u apart of_s.1 free.1, apart_there u g apart of_s.2 free.2, free_there g of_s.2 free.3)

  pub free_back : (g : List Step) → ApartFrom s g t → Free g (step_done s t) → Free g t
  free_back [] of_s free = tt
  free_back (u ∷ g) of_s free =
      let apart = apart_other s u of_s.0 in
      (free.0, before_back s t clear u apart of_s.1 free.1, apart_back u g apart of_s.2 free.2, free_back g of_s.2 free.3)

-- s is before in t, and so are the others of the group
module _ (s : Step) where
  pub record Joins (g : List Step) (t : FileTree) : Type 0 where
    pub tree : IsTree t
    pub lawful : IsStep s
    pub before : IsBefore s t
    pub apart : ApartFrom s g t
    pub free : Free g t

  -- with another one done
  pub joins_next : (u : Step) (g : List Step) (t : FileTree) → Joins (u ∷ g) t → Joins g (step_done u t)
  joins_next u g t j =
      let clear = clear_before u t j.tree j.free.1 in
      record {
        tree = tree_step u t j.tree j.free.0 j.free.1;
        lawful = j.lawful;
        before = before_there u t clear s j.apart.0 (other_turned t s u j.apart.1) j.before;
        apart = apart_there u t clear s g j.apart.0 j.free.2 j.apart.2;
        free = free_there u t clear g j.free.2 j.free.3;
      }

  pub joins_left : (u : Step) (g : List Step) (t : FileTree) → Joins (u ∷ g) t → Joins g t
  joins_left u g t j = record { tree = j.tree; lawful = j.lawful; before = j.before; apart = j.apart.2; free = j.free.3 }

  pub swapped : (u : Step) (g : List Step) (t : FileTree) → Joins (u ∷ g) t → step_done u (step_done s t) ≡ step_done s (step_done u t)
  swapped u g t j = commute s u t (clear_before s t j.tree j.before) (clear_before u t j.tree j.free.1) j.apart.0 j.apart.1

  -- s done besides
  pub with_step : (g : List Step) (t w : FileTree) → Joins g t → ComesBySome g t w → ComesBySome g (step_done s t) (step_done s w)
  with_step [] t w j is = ap (step_done s) is
  with_step (u ∷ g) t w j (inl left) = inl (with_step g t w (joins_left u g t j) left)
  with_step (u ∷ g) t w j (inr taken) = inr (subst (λ x. ComesBySome g x (step_done s w)) (sym (swapped u g t j)) (with_step g (step_done u t) w (joins_next u g t j) taken))

  -- and the other way
  pub record WithStep (g : List Step) (t c : FileTree) : Type 0 where
    pub from : FileTree
    pub comes : ComesBySome g t from
    pub is : c ≡ step_done s from

  pub without_step : (g : List Step) (t c : FileTree) → Joins g t → ComesBySome g (step_done s t) c → WithStep g t c
  without_step [] t c j is = record { from = t; comes = refl; is = is }
  without_step (u ∷ g) t c j (inl left) = let w = without_step g t c (joins_left u g t j) left in record { from = w.from; comes = inl w.comes; is = w.is }
  without_step (u ∷ g) t c j (inr taken) =
      let w = without_step g (step_done u t) c (joins_next u g t j) (subst (λ x. ComesBySome g x c) (swapped u g t j) taken) in
      record { from = w.from; comes = inr w.comes; is = w.is }

  -- it stays before, or after
  pub stays_before : (g : List Step) (t c : FileTree) → Joins g t → ComesBySome g t c → IsBefore s c
  stays_before [] t c j is = subst (IsBefore s) (sym is) j.before
  stays_before (u ∷ g) t c j (inl left) = stays_before g t c (joins_left u g t j) left
  stays_before (u ∷ g) t c j (inr taken) = stays_before g (step_done u t) c (joins_next u g t j) taken

pub tree_comes : (g : List Step) (t c : FileTree) → IsTree t → Free g t → ComesBySome g t c → IsTree c
tree_comes [] t c tree free is = subst IsTree (sym is) tree
tree_comes (u ∷ g) t c tree free (inl left) = tree_comes g t c tree free.3 left
tree_comes (u ∷ g) t c tree free (inr taken) = tree_comes g (step_done u t) c (tree_step u t tree free.0 free.1) (free_there u t (clear_before u t tree free.1) g free.2 free.3) taken

pub joins : (s : Step) (g : List Step) (t : FileTree) → IsTree t → Free (s ∷ g) t → Joins s g t
joins s g t tree free = record { tree = tree; lawful = free.0; before = free.1; apart = free.2; free = free.3 }

pub tree_joins : (s : Step) (g : List Step) (t c : FileTree) → Joins s g t → ComesBySome g t c → IsTree c
tree_joins s g t c j comes = tree_comes g t c j.tree j.free comes

pub stays_after : (s : Step) (g : List Step) (t c : FileTree) → Joins s g t → ComesBySome g (step_done s t) c → IsAfter s c
stays_after s g t c j comes =
    let w = without_step s g t c j comes in
    subst (IsAfter s) (sym w.is) (after_own s w.from (tree_joins s g t w.from j w.comes) j.lawful (stays_before s g t w.from j w.comes))

-- ---- what a call makes of such a tree

abbrev pub IsOf : Step → List Step → Type 0
IsOf s [] = ⊥
IsOf s (u ∷ g) = (s ≡ u) ⊎ IsOf s g

pub free_next : (u : Step) (g : List Step) (t : FileTree) → IsTree t → Free (u ∷ g) t → Free g (step_done u t)
free_next u g t tree free = free_there u t (clear_before u t tree free.1) g free.2 free.3

-- a step of the group is done
pub comes_done : (g : List Step) (t c : FileTree) (s : Step) → IsTree t → Free g t → ComesBySome g t c → IsOf s g → Tries s c → ComesBySome g t (step_done s c)
comes_done [] t c s tree free comes of tries = absurd of
comes_done (u ∷ g) t c s tree free (inl left) (inl same) tries = inr (subst (λ x. ComesBySome g (step_done u t) (step_done x c)) (sym same) (with_step u g t c (joins u g t tree free) left))
comes_done (u ∷ g) t c s tree free (inr taken) (inl same) tries =
    let j = joins u g t tree free in
    let tree_c = tree_comes g (step_done u t) c (tree_step u t tree free.0 free.1) (free_next u g t tree free) taken in
    let is : step_done s c ≡ c = again s c tree_c (subst (λ x. IsAfter x c) (sym same) (stays_after u g t c j taken)) tries in
    inr (subst (ComesBySome g (step_done u t)) (sym is) taken)
comes_done (u ∷ g) t c s tree free (inl left) (inr more) tries = inl (comes_done g t c s tree free.3 left more tries)
comes_done (u ∷ g) t c s tree free (inr taken) (inr more) tries = inr (comes_done g (step_done u t) c s (tree_step u t tree free.0 free.1) (free_next u g t tree free) taken more tries)

-- a step of the group is undone
pub comes_undone : (g : List Step) (t c : FileTree) (s : Step) → IsTree t → Free g t → ComesBySome g t c → IsOf s g → TriesUndo s c → ComesBySome g t (done (undo_of s) 0 c)
comes_undone [] t c s tree free comes of tries = absurd of
comes_undone (u ∷ g) t c s tree free (inl left) (inl same) tries =
    let j = joins u g t tree free in
    let is : done (undo_of s) 0 c ≡ c = undone_again s c (tree_comes g t c tree free.3 left) (subst (λ x. IsBefore x c) (sym same) (stays_before u g t c j left)) tries in
    inl (subst (ComesBySome g t) (sym is) left)
comes_undone (u ∷ g) t c s tree free (inr taken) (inl same) tries =
    let j = joins u g t tree free in
    let w = without_step u g t c j taken in
    let is : done (undo_of s) 0 c ≡ w.from = ap (λ x. done (undo_of x) 0 c) same ∙ ap (done (undo_of u) 0) w.is ∙ undone_step u 0 w.from (tree_joins u g t w.from j w.comes) free.0 (stays_before u g t w.from j w.comes) in
    inl (subst (ComesBySome g t) (sym is) w.comes)
comes_undone (u ∷ g) t c s tree free (inl left) (inr more) tries = inl (comes_undone g t c s tree free.3 left more tries)
comes_undone (u ∷ g) t c s tree free (inr taken) (inr more) tries = inr (comes_undone g (step_done u t) c s (tree_step u t tree free.0 free.1) (free_next u g t tree free) taken more tries)
