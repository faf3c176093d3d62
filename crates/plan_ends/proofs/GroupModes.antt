-- In each group of a plan no two steps set the mode of one file.
use Rattle.std.proofs.Common.{◌≡◌, inl, inr, ℕ, List, [], ◌∷◌, ◌++◌, sym, ◌∙◌, subst}
use Rattle.std.proofs.lemmas.Option.{none-some}
use Rattle.std.specs.FinMap.{get}
use Rattle.dired_text.specs.Paths.{Names}
use Rattle.commit_steps.specs.declared.step.Step.{Step}
use Rattle.commit_steps.specs.declared.step.Step.TheVariants.{MakeDir, Rename, Mode}
use Rattle.tree_core.specs.FileTree.{FileTree}
use Rattle.step_trees.specs.Groups.{Independent, joined, IsGroup, AreGroups}
use Rattle.step_trees.specs.Apart.{AreApart}
use Rattle.step_trees.specs.Leads.{SetOther, SetApart, SetOthers, GroupsSetOthers, number_of}
use Rattle.step_trees.specs.Steps.{step_done, after}
use Rattle.step_trees.proofs.CutLemmas.{ApartFromAll, first_apart}
use Rattle.step_trees.proofs.GroupLemmas.{apart_other, other_back, clear_before}
use Rattle.plan_ends.specs.Runs.{IsRun}
use Rattle.plan_ends.proofs.ModeSteps.{numbers_kept, one_number}

abbrev pub AllModes : List Step → Type 0
AllModes [] = Unit {0}
AllModes (MakeDir p ∷ steps) = ⊥
AllModes (Rename from to ∷ steps) = ⊥
AllModes (Mode p old new ∷ steps) = AllModes steps

-- behind the other steps only modes change, each once
abbrev pub ChangesLast : FileTree → List Step → Type 0
ChangesLast t [] = Unit {0}
ChangesLast t (MakeDir p ∷ steps) = ChangesLast (step_done (MakeDir p) t) steps
ChangesLast t (Rename from to ∷ steps) = ChangesLast (step_done (Rename from to) t) steps
ChangesLast t (Mode p old new ∷ steps) = AllModes steps × SetOthers t (Mode p old new ∷ steps)

apart_front : (t : FileTree) (s : Step) (g rest : List Step) → SetApart t s (g ++ rest) → SetApart t s g
apart_front t s [] rest all = tt
apart_front t s (u ∷ g) rest all = (all.0, apart_front t s g rest all.1)

others_front : (t : FileTree) (g rest : List Step) → SetOthers t (g ++ rest) → SetOthers t g
others_front t [] rest all = tt
others_front t (s ∷ g) rest all = (apart_front t s g rest all.0, others_front t g rest all.1)

module _ (s : Step) (t : FileTree) (back : (u v : Step) → AreApart u s → AreApart v s → SetOther (step_done s t) u v → SetOther t u v) where
  apart_back : (u : Step) (g : List Step) → AreApart u s → ApartFromAll s g → SetApart (step_done s t) u g → SetApart t u g
  apart_back u [] apart all others = tt
  apart_back u (v ∷ g) apart all others = (back u v apart (apart_other s v all.0) others.0, apart_back u g apart all.1 others.1)

  others_back : (g : List Step) → ApartFromAll s g → SetOthers (step_done s t) g → SetOthers t g
  others_back [] all others = tt
  others_back (u ∷ g) all others = (apart_back u g (apart_other s u all.0) all.1 others.0, others_back g all.1 others.1)

-- a change of a mode keeps the numbers
module _ (p : Names) (old new : ℕ) (t : FileTree) where
  number_still : (q : Names) → number_of (get (step_done (Mode p old new) t) q) ≡ number_of (get t q)
  number_still q = one_number _ ∙ numbers_kept t (p, old, new) q ∙ sym (one_number _)

  apart_still : (u : Step) (g : List Step) → AllModes (u ∷ []) → AllModes g → SetApart t u g → SetApart (step_done (Mode p old new) t) u g
  apart_still (MakeDir _) g is all others = absurd is
  apart_still (Rename _ _) g is all others = absurd is
  apart_still (Mode a b c) [] is all others = tt
  apart_still (Mode a b c) (MakeDir _ ∷ g) is all others = absurd all
  apart_still (Mode a b c) (Rename _ _ ∷ g) is all others = absurd all
  apart_still (Mode a b c) (Mode d e f ∷ g) is all others = (λ n at_a at_d. others.0 n (sym (number_still a) ∙ at_a) (sym (number_still d) ∙ at_d), apart_still (Mode a b c) g is all others.1)

  others_still : (g : List Step) → AllModes g → SetOthers t g → SetOthers (step_done (Mode p old new) t) g
  others_still [] all others = tt
  others_still (MakeDir _ ∷ g) all others = absurd all
  others_still (Rename _ _ ∷ g) all others = absurd all
  others_still (Mode a b c ∷ g) all others = (apart_still (Mode a b c) g tt all others.0, others_still g all others.1)

modes_last : (t : FileTree) (g rest : List Step) → AllModes (g ++ rest) → SetOthers t (g ++ rest) → ChangesLast (after g t) rest
modes_last t [] [] all others = tt
modes_last t [] (MakeDir _ ∷ rest) all others = absurd all
modes_last t [] (Rename _ _ ∷ rest) all others = absurd all
modes_last t (MakeDir _ ∷ g) rest all others = absurd all
modes_last t (Rename _ _ ∷ g) rest all others = absurd all
modes_last t [] (Mode a b c ∷ rest) all others = (all, others)
modes_last t (Mode a b c ∷ g) rest all others = modes_last (step_done (Mode a b c) t) g rest all (others_still a b c t (g ++ rest) all others.1)

none_apart : (t : FileTree) (s : Step) (g : List Step) → ((u : Step) → SetOther t s u) → SetApart t s g
none_apart t s [] none = tt
none_apart t s (u ∷ g) none = (none u, none_apart t s g none)

of_group : (g rest : List Step) (t : FileTree) → IsRun t (g ++ rest) → Independent g → ChangesLast t (g ++ rest) → SetOthers t g × ChangesLast (after g t) rest
of_group [] rest t run free last = (tt, last)
of_group (MakeDir p ∷ g) rest t run free last =
    let first = first_apart (MakeDir p) g free in
    let more = of_group g rest (step_done (MakeDir p) t) run.3 first.1 last in
    ((none_apart t (MakeDir p) g (λ u n e f. none-some n e), others_back (MakeDir p) t (other_back (MakeDir p) t (clear_before (MakeDir p) t (run.0).tree run.2)) g first.0 more.0), more.1)
of_group (Rename from to ∷ g) rest t run free last =
    let first = first_apart (Rename from to) g free in
    let more = of_group g rest (step_done (Rename from to) t) run.3 first.1 last in
    ((none_apart t (Rename from to) g (λ u n e f. none-some n e), others_back (Rename from to) t (other_back (Rename from to) t (clear_before (Rename from to) t (run.0).tree run.2)) g first.0 more.0), more.1)
of_group (Mode p old new ∷ g) rest t run free last = (others_front t (Mode p old new ∷ g) rest last.1, modes_last t (Mode p old new ∷ g) rest last.0 last.1)

of_one : (s : Step) (rest : List Step) (t : FileTree) → ChangesLast t (s ∷ rest) → ChangesLast (step_done s t) rest
of_one (MakeDir p) rest t last = last
of_one (Rename from to) rest t last = last
of_one (Mode p old new) rest t last = modes_last t (Mode p old new ∷ []) rest last.0 last.1

of_any : (g rest : List Step) (t : FileTree) → IsRun t (g ++ rest) → IsGroup g → ChangesLast t (g ++ rest) → SetOthers t g × ChangesLast (after g t) rest
of_any g rest t run (some, inl free) last = of_group g rest t run free last
of_any g rest t run (some, inr (s, is)) last = subst (λ (l : List Step). SetOthers t l × ChangesLast (after l t) rest) (sym is)
    ((tt, tt), of_one s rest t (subst (λ (l : List Step). ChangesLast t (l ++ rest)) is last))

run_behind : (g rest : List Step) (t : FileTree) → IsRun t (g ++ rest) → IsRun (after g t) rest
run_behind [] rest t run = run
run_behind (s ∷ g) rest t run = run_behind g rest (step_done s t) run.3

pub groups_others : (gs : List (List Step)) (t : FileTree) → IsRun t (joined gs) → AreGroups gs → ChangesLast t (joined gs) → GroupsSetOthers t gs
groups_others [] t run are last = tt
groups_others (g ∷ gs) t run are last =
    let first = of_any g (joined gs) t run are.0 last in
    (first.0, groups_others gs (after g t) (run_behind g (joined gs) t run) are.1 first.1)

-- ---- steps that change no mode

abbrev pub ChangeNone : List Step → Type 0
ChangeNone [] = Unit {0}
ChangeNone (MakeDir p ∷ steps) = ChangeNone steps
ChangeNone (Rename from to ∷ steps) = ChangeNone steps
ChangeNone (Mode p old new ∷ steps) = ⊥

pub none_before : (xs ys : List Step) (t : FileTree) → ChangeNone xs → ChangesLast (after xs t) ys → ChangesLast t (xs ++ ys)
none_before [] ys t none last = last
none_before (MakeDir p ∷ xs) ys t none last = none_before xs ys (step_done (MakeDir p) t) none last
none_before (Rename from to ∷ xs) ys t none last = none_before xs ys (step_done (Rename from to) t) none last
none_before (Mode p old new ∷ xs) ys t none last = absurd none

pub modes_at_last : (t : FileTree) (steps : List Step) → AllModes steps → SetOthers t steps → ChangesLast t steps
modes_at_last t steps all others = modes_last t [] steps all others
