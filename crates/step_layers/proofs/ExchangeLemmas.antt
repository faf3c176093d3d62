-- Steps lead where they led in each order that keeps that of related steps.
use Rattle.std.proofs.Common.{◌≡◌, inl, inr, ℕ, List, [], ◌∷◌, ◌++◌, refl, sym, ◌∙◌, subst, Option, Some, IsPermutation}
use Rattle.std.proofs.lemmas.List.Sorted.{IsPermutation-cons, IsPermutation-middle, IsPermutation-refl, IsPermutation-sym, IsPermutation-trans, length_permutation}
use Rattle.std.specs.List.{AllByRecursion}
use Rattle.tree_core.specs.FileTree.{FileTree}
use Rattle.commit_steps.specs.Steps.{HasPaths}
use Rattle.commit_steps.specs.declared.step.Step.{Step}
use Rattle.step_trees.proofs.CommuteLemmas.{commute, other_turned}
use Rattle.step_trees.proofs.CutLemmas.{ApartFromAll, first_apart, groups_groups, joined_groups}
use Rattle.step_trees.proofs.GroupLemmas.{apart_other, before_back, before_there, clear_before, file_kept, other_back}
use Rattle.step_trees.proofs.StepLemmas.{IsClearStep}
use Rattle.step_trees.specs.Apart.{AreApart}
use Rattle.step_trees.specs.Groups.{AreGroups, Independent, IsGroup, groups, joined}
use Rattle.step_trees.specs.Leads.{start, file_of, Ends, GroupsSetOthers, HoldsEntries, LeadsFrom, SetApart, SetOther, SetOthers}
use Rattle.step_trees.specs.Steps.{after, step_done, IsBefore, IsStep}
use Rattle.step_layers.specs.Laws.{OrdersEndAlike, OrdersHaveAll, OrdersLead}
use Rattle.step_layers.specs.Order.{KeepsOrder, none, placed, SetNever, SetOnce}
use Rattle.step_layers.proofs.EntryLemmas.{entries_between}

-- Each step is before; each tree on the way holds only entries; no two steps set the mode of one file; the last tree has P.
abbrev pub Runs : (FileTree → Type 0) → FileTree → List Step → Type 0
Runs P t [] = HoldsEntries t × P t
Runs P t (s ∷ steps) = HoldsEntries t × IsStep s × IsBefore s t × SetNever (step_done s t) (file_of t s) steps × Runs P (step_done s t) steps

module _ (P : FileTree → Type 0) where
  holds_first : (t : FileTree) (steps : List Step) → Runs P t steps → HoldsEntries t
  holds_first t [] run = run.0
  holds_first t (s ∷ steps) run = run.0

  -- the steps run in another order, and set only the modes that they set
  pub record Reordered (t : FileTree) (steps others : List Step) : Type 0 where
    pub runs : Runs P t others
    pub sets : (file : Option ℕ) → SetNever t file steps → SetNever t file others

  -- ---- two steps

  module _ (s u : Step) (rest : List Step) (t : FileTree) (apart : AreApart s u) (run : Runs P t (s ∷ u ∷ rest)) where
    behind_s : Runs P (step_done s t) (u ∷ rest)
    behind_s = run.4

    clear_s : IsClearStep s t
    clear_s = clear_before s t (run.0).tree run.2

    file_u : file_of (step_done s t) u ≡ file_of t u
    file_u = file_kept s t clear_s u (apart_other s u apart)

    other : SetOther t s u
    other n e f = run.3.0 n e (file_u ∙ f)

    before_u : IsBefore u t
    before_u = before_back s t clear_s u (apart_other s u apart) other behind_s.2

    clear_u : IsClearStep u t
    clear_u = clear_before u t (run.0).tree before_u

    before_s : IsBefore s (step_done u t)
    before_s = before_there u t clear_u s apart (other_turned t s u other) run.2

    file_s : file_of (step_done u t) s ≡ file_of t s
    file_s = file_kept u t clear_u s apart

    same : step_done u (step_done s t) ≡ step_done s (step_done u t)
    same = commute s u t clear_s clear_u apart other

    rest_behind : Runs P (step_done s (step_done u t)) rest
    rest_behind = subst (λ x. Runs P x rest) same behind_s.4

    between : HoldsEntries (step_done u t)
    between = entries_between s u t apart run.1 behind_s.1 before_u before_s run.0 (holds_first (step_done s (step_done u t)) rest rest_behind)

    never : (file o : Option ℕ) → file ≡ o → SetNever (step_done u (step_done s t)) file rest → SetNever (step_done s (step_done u t)) o rest
    never file o e unset = subst (λ x. SetNever (step_done s (step_done u t)) x rest) e (subst (λ x. SetNever x file rest) same unset)

    pub exchanged : Reordered t (s ∷ u ∷ rest) (u ∷ s ∷ rest)
    exchanged = record {
      runs = (
        run.0,
        behind_s.1,
        before_u,
        (λ n e f. other n (sym file_s ∙ f) e, never (file_of (step_done s t) u) (file_of t u) file_u behind_s.3),
        (between, run.1, before_s, never (file_of t s) (file_of (step_done u t) s) (sym file_s) run.3.1, rest_behind),
      );
      sets = λ file unset. (λ n e f. unset.1.0 n e (file_u ∙ f), (λ n e f. unset.0 n e (sym file_s ∙ f), never file file refl unset.1.1));
    }

  -- ---- a step and those before which it is put

  with_first : (s : Step) (t : FileTree) (steps others : List Step) → Runs P t (s ∷ steps) → Reordered (step_done s t) steps others → Reordered t (s ∷ steps) (s ∷ others)
  with_first s t steps others run more = record {
    runs = (run.0, run.1, run.2, more.sets (file_of t s) run.3, more.runs);
    sets = λ file unset. (unset.0, more.sets file unset.1);
  }

  followed : (t : FileTree) (a b c : List Step) → Reordered t a b → Reordered t b c → Reordered t a c
  followed t a b c one two = record { runs = two.runs; sets = λ file unset. two.sets file (one.sets file unset) }

  same_order : (t : FileTree) (a : List Step) → Runs P t a → Reordered t a a
  same_order t a run = record { runs = run; sets = λ file unset. unset }

  put_behind : (s : Step) (before rest : List Step) (t : FileTree) → AllByRecursion (AreApart s) before → Runs P t (s ∷ before ++ rest) → Reordered t (s ∷ before ++ rest) (before ++ s ∷ rest)
  put_behind s [] rest t apart run = same_order t (s ∷ rest) run
  put_behind s (u ∷ before) rest t apart run =
      let one = exchanged s u (before ++ rest) t apart.0 run in
      let more = put_behind s before rest (step_done u t) apart.1 (one.runs).4 in
      followed t (s ∷ u ∷ before ++ rest) (u ∷ s ∷ before ++ rest) (u ∷ before ++ s ∷ rest) one (with_first u t (s ∷ before ++ rest) (before ++ s ∷ rest) one.runs more)

  pub reordered : (steps others : List Step) → KeepsOrder steps others → (t : FileTree) → Runs P t steps → Reordered t steps others
  reordered _ _ none t run = same_order t [] run
  reordered _ _ (placed s steps before behind apart keeps) t run =
      let more = with_first s t steps (before ++ behind) run (reordered steps (before ++ behind) keeps (step_done s t) run.4) in
      followed t (s ∷ steps) (s ∷ before ++ behind) (before ++ s ∷ behind) more (put_behind s before behind t apart more.runs)

-- ---- the groups

-- none of these steps sets the mode of this file, each in this tree
abbrev NoneSets : FileTree → Option ℕ → List Step → Type 0
NoneSets t file [] = Unit {0}
NoneSets t file (u ∷ g) = ((n : ℕ) → file ≡ Some n → file_of t u ≡ Some n → ⊥) × NoneSets t file g

module _ (s : Step) (t : FileTree) (clear : IsClearStep s t) where
  none_back : (file : Option ℕ) (g : List Step) → ApartFromAll s g → NoneSets (step_done s t) file g → NoneSets t file g
  none_back file [] apart unset = tt
  none_back file (u ∷ g) apart unset = (λ n e f. unset.0 n e (file_kept s t clear u (apart_other s u apart.0) ∙ f), none_back file g apart.1 unset.1)

  apart_back : (u : Step) (g : List Step) → AreApart u s → ApartFromAll s g → SetApart (step_done s t) u g → SetApart t u g
  apart_back u [] apart all others = tt
  apart_back u (v ∷ g) apart all others = (other_back s t clear u v apart (apart_other s v all.0) others.0, apart_back u g apart all.1 others.1)

  others_back : (g : List Step) → ApartFromAll s g → SetOthers (step_done s t) g → SetOthers t g
  others_back [] all others = tt
  others_back (u ∷ g) all others = (apart_back u g (apart_other s u all.0) all.1 others.0, others_back g all.1 others.1)

set_apart : (t : FileTree) (s : Step) (g : List Step) → NoneSets t (file_of t s) g → SetApart t s g
set_apart t s [] unset = tt
set_apart t s (u ∷ g) unset = (unset.0, set_apart t s g unset.1)

module _ (P : FileTree → Type 0) where
  -- what none of a group sets in its turn, none sets in the tree at its cut
  none_at_cut : (file : Option ℕ) (g rest : List Step) (t : FileTree) → Independent g → Runs P t (g ++ rest) → SetNever t file (g ++ rest) → NoneSets t file g
  none_at_cut file [] rest t free run unset = tt
  none_at_cut file (u ∷ g) rest t free run unset =
      let first = first_apart u g free in
      (unset.0, none_back u t (clear_before u t (run.0).tree run.2) file g first.0 (none_at_cut file g rest (step_done u t) first.1 run.4 unset.1))

  group_others : (g rest : List Step) (t : FileTree) → Independent g → Runs P t (g ++ rest) → SetOthers t g
  group_others [] rest t free run = tt
  group_others (s ∷ g) rest t free run =
      let first = first_apart s g free in
      let clear = clear_before s t (run.0).tree run.2 in (
        set_apart t s g (none_back s t clear (file_of t s) g first.0 (none_at_cut (file_of t s) g rest (step_done s t) first.1 run.4 run.3)),
        others_back s t clear g first.0 (group_others g rest (step_done s t) first.1 run.4),
      )

  any_others : (g rest : List Step) (t : FileTree) → IsGroup g → Runs P t (g ++ rest) → SetOthers t g
  any_others g rest t (some, inl free) run = group_others g rest t free run
  any_others g rest t (some, inr (s, is)) run = subst (SetOthers t) (sym is) (tt, tt)

  runs_behind : (g rest : List Step) (t : FileTree) → Runs P t (g ++ rest) → Runs P (after g t) rest
  runs_behind [] rest t run = run
  runs_behind (s ∷ g) rest t run = runs_behind g rest (step_done s t) run.4

  groups_others : (gs : List (List Step)) (t : FileTree) → AreGroups gs → Runs P t (joined gs) → GroupsSetOthers t gs
  groups_others [] t are run = tt
  groups_others (g ∷ gs) t are run = (any_others g (joined gs) t are.0 run, groups_others gs (after g t) are.1 (runs_behind g (joined gs) t run))

-- ---- from the old tree to the edited one

runs_of : (new t : FileTree) (steps : List Step) → LeadsFrom t steps new → AllByRecursion HasPaths steps → SetOnce t steps → Runs (Ends new) t steps
runs_of new t [] leads paths once = leads
runs_of new t (s ∷ steps) leads paths once = (leads.0, record { paths = paths.0; lawful = leads.1 }, leads.2, once.0, runs_of new (step_done s t) steps leads.3 paths.1 once.1)

leads_of : (new t : FileTree) (steps : List Step) → Runs (Ends new) t steps → LeadsFrom t steps new
leads_of new t [] run = run
leads_of new t (s ∷ steps) run = (run.0, (run.1).lawful, run.2, leads_of new (step_done s t) steps run.4)

pub orders_lead : OrdersLead
orders_lead steps sorted old new fresh leads paths once keeps = record {
  from = leads_of new (start old fresh) sorted runs;
  others = groups_others (Ends new) (groups sorted) (start old fresh) (groups_groups sorted) (subst (Runs (Ends new) (start old fresh)) (sym (joined_groups sorted)) runs);
}
  where
    runs : Runs (Ends new) (start old fresh) sorted
    runs = (reordered (Ends new) steps sorted keeps (start old fresh) (runs_of new (start old fresh) steps leads.from paths once)).runs

-- ---- the last tree

module _ (P : FileTree → Type 0) where
  runs_to : (new t : FileTree) (steps : List Step) → LeadsFrom t steps new → AllByRecursion HasPaths steps → SetOnce t steps → P (after steps t) → Runs P t steps
  runs_to new t [] leads paths once last = (leads.0, last)
  runs_to new t (s ∷ steps) leads paths once last = (leads.0, record { paths = paths.0; lawful = leads.1 }, leads.2, once.0, runs_to new (step_done s t) steps leads.3 paths.1 once.1 last)

  last_is : (t : FileTree) (steps : List Step) → Runs P t steps → P (after steps t)
  last_is t [] run = run.1
  last_is t (s ∷ steps) run = last_is (step_done s t) steps run.4

pub orders_end_alike : OrdersEndAlike
orders_end_alike steps others old new fresh leads paths once keeps =
    last_is (λ t. t ≡ after steps (start old fresh)) (start old fresh) others
    (reordered (λ t. t ≡ after steps (start old fresh)) steps others keeps (start old fresh)
    (runs_to (λ t. t ≡ after steps (start old fresh)) new (start old fresh) steps leads.from paths once refl)).runs

-- ---- the same steps

permuted : (steps others : List Step) → KeepsOrder steps others → IsPermutation steps others
permuted _ _ none = IsPermutation-refl []
permuted _ _ (placed s steps before behind apart keeps) =
    IsPermutation-trans (s ∷ steps) (s ∷ before ++ behind) (before ++ s ∷ behind)
    (IsPermutation-cons s steps (before ++ behind) (permuted steps (before ++ behind) keeps))
    (IsPermutation-sym (before ++ s ∷ behind) (s ∷ before ++ behind) (IsPermutation-middle before s behind))

pub orders_have_all : OrdersHaveAll
orders_have_all steps others keeps =
    let same = permuted steps others keeps in
    (same, length_permutation steps others same)
