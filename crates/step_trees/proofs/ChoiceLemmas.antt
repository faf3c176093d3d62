-- What is left of a group to do, and what of it was done.
use Rattle.std.proofs.Common.{◌≡◌, inl, inr, List, [], ◌∷◌, ◌++◌, refl, sym, ◌∙◌, ap, subst, None, true}
use Rattle.std.proofs.lemmas.Option.{same_Some}
use Rattle.std.specs.FinMap.{get}
use Rattle.tree_core.specs.FileTree.{FileTree, IsTree, is_dir_node}
use Rattle.tree_core.proofs.TreeLemmas.{absent_not}
use Rattle.commit_steps.specs.declared.step.Step.{Step}
use Rattle.commit_steps.specs.declared.step.Step.TheVariants.{MakeDir, Rename, Mode}
use Rattle.step_trees.proofs.GroupLemmas.{file_kept, clear_before, tree_step, ApartFrom, Free, Joins, joins, joins_next, joins_left, swapped, stays_before, stays_after, free_next, tree_comes, IsOf}
use Rattle.step_trees.specs.Groups.{ComesBySome, left_of, taken_of}
use Rattle.step_trees.specs.Leads.{file_of, SetOther}
use Rattle.step_trees.specs.Steps.{step_done, after, IsStep, IsBefore, IsAfter}
use Rattle.step_trees.specs.Apart.{AreApart}

-- nothing done, everything done
abbrev pub none_done : (g : List Step) (t : FileTree) → ComesBySome g t t
none_done [] t = refl
none_done (s ∷ g) t = inl (none_done g t)

abbrev pub all_done : (g : List Step) (t : FileTree) → ComesBySome g t (after g t)
all_done [] t = refl
all_done (s ∷ g) t = inr (all_done g (step_done s t))

pub left_none : (g : List Step) (t : FileTree) → left_of g t t (none_done g t) ≡ g
left_none [] t = refl
left_none (s ∷ g) t = ap (λ (l : List Step). s ∷ l) (left_none g t)

pub taken_all : (g : List Step) (t : FileTree) → taken_of g t (after g t) (all_done g t) ≡ g
taken_all [] t = refl
taken_all (s ∷ g) t = ap (λ (l : List Step). s ∷ l) (taken_all g (step_done s t))

-- a part that was done, and some of the rest
pub comes_behind : (f g : List Step) (t c : FileTree) → ComesBySome g (after f t) c → ComesBySome (f ++ g) t c
comes_behind [] g t c comes = comes
comes_behind (s ∷ f) g t c comes = inr (comes_behind f g (step_done s t) c comes)

-- some of the first part, and nothing of the rest
pub comes_before : (f g : List Step) (t c : FileTree) → ComesBySome f t c → ComesBySome (f ++ g) t c
comes_before [] g t c is = subst (ComesBySome g t) (sym is) (none_done g t)
comes_before (s ∷ f) g t c (inl left) = inl (comes_before f g t c left)
comes_before (s ∷ f) g t c (inr taken) = inr (comes_before f g (step_done s t) c taken)

-- the tree is the one with the taken steps done, in order
pub taken_is : (g : List Step) (t c : FileTree) (comes : ComesBySome g t c) → c ≡ after (taken_of g t c comes) t
taken_is [] t c is = is
taken_is (s ∷ g) t c (inl left) = taken_is g t c left
taken_is (s ∷ g) t c (inr taken) = taken_is g (step_done s t) c taken

-- s can be done before the others or behind them
pub after_commute : (s : Step) (g : List Step) (t : FileTree) → Joins s g t → after g (step_done s t) ≡ step_done s (after g t)
after_commute s [] t j = refl
after_commute s (u ∷ g) t j = ap (after g) (swapped s u g t j) ∙ after_commute s g (step_done u t) (joins_next s u g t j)

file_comes : (s : Step) (g : List Step) (t c : FileTree) → Joins s g t → ComesBySome g t c → file_of c s ≡ file_of t s
file_comes s [] t c j is = ap (λ x. file_of x s) is
file_comes s (u ∷ g) t c j (inl left) = file_comes s g t c (joins_left s u g t j) left
file_comes s (u ∷ g) t c j (inr taken) = file_comes s g (step_done u t) c (joins_next s u g t j) taken ∙ file_kept u t (clear_before u t j.tree j.free.1) s j.apart.0

apart_left : (s : Step) (g : List Step) (t c : FileTree) → Joins s g t → (comes : ComesBySome g t c) → ApartFrom s (left_of g t c comes) c
apart_left s [] t c j is = tt
apart_left s (u ∷ g) t c j (inl left) =
    let of_s = joins_left s u g t j in
    let of_u = joins u g t j.tree j.free in
    (j.apart.0, (λ n e f. j.apart.1 n (sym (file_comes s g t c of_s left) ∙ e) (sym (file_comes u g t c of_u left) ∙ f)), apart_left s g t c of_s left)
apart_left s (u ∷ g) t c j (inr taken) = apart_left s g (step_done u t) c (joins_next s u g t j) taken

-- Each step is before exactly where it wasn't done: those left are before, and apart.
pub free_left : (g : List Step) (t c : FileTree) → IsTree t → Free g t → (comes : ComesBySome g t c) → Free (left_of g t c comes) c
free_left [] t c tree free is = tt
free_left (s ∷ g) t c tree free (inl left) =
    let j = joins s g t tree free in
    (free.0, stays_before s g t c j left, apart_left s g t c j left, free_left g t c tree free.3 left)
free_left (s ∷ g) t c tree free (inr taken) = free_left g (step_done s t) c (tree_step s t tree free.0 free.1) (free_next s g t tree free) taken

-- to do those left is to have all done
pub after_left : (g : List Step) (t c : FileTree) → IsTree t → Free g t → (comes : ComesBySome g t c) → after (left_of g t c comes) c ≡ after g t
after_left [] t c tree free is = is
after_left (s ∷ g) t c tree free (inl left) =
    let j = joins s g t tree free in
    let more = free_left (s ∷ g) t c tree free (inl left) in
    after_commute s (left_of g t c left) c (joins s (left_of g t c left) c (tree_comes g t c tree free.3 left) more)
    ∙ ap (step_done s) (after_left g t c tree free.3 left) ∙ sym (after_commute s g t j)
after_left (s ∷ g) t c tree free (inr taken) = after_left g (step_done s t) c (tree_step s t tree free.0 free.1) (free_next s g t tree free) taken

apart_taken : (s : Step) (g : List Step) (t t0 c : FileTree) (comes : ComesBySome g t0 c) → ((u : Step) → IsOf u g → AreApart s u × SetOther t s u) → ApartFrom s (taken_of g t0 c comes) t
apart_taken s [] t t0 c is each = tt
apart_taken s (u ∷ g) t t0 c (inl left) each = apart_taken s g t t0 c left (λ v of. each v (inr of))
apart_taken s (u ∷ g) t t0 c (inr taken) each = ((each u (inl refl)).0, (each u (inl refl)).1, apart_taken s g t (step_done u t0) c taken (λ v of. each v (inr of)))

each_apart : (s : Step) (g : List Step) (t : FileTree) → ApartFrom s g t → (u : Step) → IsOf u g → AreApart s u × SetOther t s u
each_apart s [] t apart u of = absurd of
each_apart s (v ∷ g) t apart u (inl same) = subst (λ x. AreApart s x × SetOther t s x) (sym same) (apart.0, apart.1)
each_apart s (v ∷ g) t apart u (inr more) = each_apart s g t apart.2 u more

-- of a group, those that were done are one too
pub free_taken : (g : List Step) (t t0 c : FileTree) → Free g t → (comes : ComesBySome g t0 c) → Free (taken_of g t0 c comes) t
free_taken [] t t0 c free is = tt
free_taken (s ∷ g) t t0 c free (inl left) = free_taken g t t0 c free.3 left
free_taken (s ∷ g) t t0 c free (inr taken) = (free.0, free.1, apart_taken s g t (step_done s t0) c taken (each_apart s g t free.2), free_taken g t (step_done s t0) c free.3 taken)

-- membership
pub of_left : (g : List Step) (t c : FileTree) (comes : ComesBySome g t c) (s : Step) → IsOf s (left_of g t c comes) → IsOf s g
of_left [] t c is s of = of
of_left (u ∷ g) t c (inl left) s (inl same) = inl same
of_left (u ∷ g) t c (inl left) s (inr more) = inr (of_left g t c left s more)
of_left (u ∷ g) t c (inr taken) s of = inr (of_left g (step_done u t) c taken s of)

pub of_taken : (g : List Step) (t c : FileTree) (comes : ComesBySome g t c) (s : Step) → IsOf s (taken_of g t c comes) → IsOf s g
of_taken [] t c is s of = of
of_taken (u ∷ g) t c (inl left) s of = inr (of_taken g t c left s of)
of_taken (u ∷ g) t c (inr taken) s (inl same) = inl same
of_taken (u ∷ g) t c (inr taken) s (inr more) = inr (of_taken g (step_done u t) c taken s more)

-- parts of a group
pub free_first : (f g : List Step) (t : FileTree) → Free (f ++ g) t → Free f t
free_first [] g t free = tt
free_first (s ∷ f) g t free = (free.0, free.1, part f free.2, free_first f g t free.3)
  where
    part : (f : List Step) → ApartFrom s (f ++ g) t → ApartFrom s f t
    part [] apart = tt
    part (u ∷ f) apart = (apart.0, apart.1, part f apart.2)

pub free_rest : (f g : List Step) (t : FileTree) → IsTree t → Free (f ++ g) t → Free g (after f t)
free_rest [] g t tree free = free
free_rest (s ∷ f) g t tree free = free_rest f g (step_done s t) (tree_step s t tree free.0 free.1) (free_next s (f ++ g) t tree free)

pub tree_after : (g : List Step) (t : FileTree) → IsTree t → Free g t → IsTree (after g t)
tree_after g t tree free = tree_comes g t (after g t) tree free (all_done g t)

-- ---- the looks tell which were done

before_of : (s : Step) (g : List Step) (t : FileTree) → Free g t → IsOf s g → IsBefore s t
before_of s [] t free of = absurd of
before_of s (u ∷ g) t free (inl same) = subst (λ x. IsBefore x t) (sym same) free.1
before_of s (u ∷ g) t free (inr more) = before_of s g t free.3 more

-- each step that wasn't done is before
pub look_left : (g : List Step) (t c : FileTree) → IsTree t → Free g t → (comes : ComesBySome g t c) → (s : Step) → IsOf s (left_of g t c comes) → IsBefore s c
look_left g t c tree free comes s of = before_of s (left_of g t c comes) c (free_left g t c tree free comes) of

-- each that was done is after
pub look_taken : (g : List Step) (t c : FileTree) → IsTree t → Free g t → (comes : ComesBySome g t c) → (s : Step) → IsOf s (taken_of g t c comes) → IsAfter s c
look_taken [] t c tree free is s of = absurd of
look_taken (u ∷ g) t c tree free (inl left) s of = look_taken g t c tree free.3 left s of
look_taken (u ∷ g) t c tree free (inr taken) s (inl same) = subst (λ x. IsAfter x c) (sym same) (stays_after u g t c (joins u g t tree free) taken)
look_taken (u ∷ g) t c tree free (inr taken) s (inr more) = look_taken g (step_done u t) c (tree_step u t tree free.0 free.1) (free_next u g t tree free) taken s more

-- none is both
pub not_both : (s : Step) (t : FileTree) → IsStep s → IsBefore s t → IsAfter s t → ⊥
not_both (MakeDir p) t lawful before behind = let no : is_dir_node None ≡ true = ap is_dir_node (sym before.0) ∙ behind in cc
not_both (Rename from to) t lawful before behind = absent_not (get t from) behind.0 before.0
not_both (Mode p old new) t lawful before behind = lawful.lawful.3 (same_Some old new (sym before.1 ∙ behind.1))
