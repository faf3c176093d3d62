-- The cut of a list of steps into groups.
use Rattle.std.proofs.Common.{◌≡◌, inl, inr, ⊎_elim, ◌≤◌, ◌<◌, Bool, true, false, ◌&&◌, nat_le, List, [], ◌∷◌, ◌++◌, length, refl, sym, ◌∙◌, ap, subst, arith, append_assoc, length-append, Option, Some, None, is_none, IsTrue, if◌then◌else◌}
use Rattle.std.proofs.lemmas.Bool.{cond-true, cond-false, cases_Bool, le-leb, lt-leb}
use Rattle.std.specs.List.{list_all}
use Rattle.dired_text.specs.Paths.{Names, rest_below}
use Rattle.tree_core.specs.FileTree.{FileTree}
use Rattle.commit_steps.specs.Tests.{are_apart}
use Rattle.commit_steps.specs.declared.step.Step.{Step}
use Rattle.commit_steps.specs.declared.step.Step.TheVariants.{MakeDir, Rename, Mode}
use Rattle.step_trees.proofs.GroupLemmas.{apart_other, other_there, clear_before, ApartFrom, Free, free_back}
use Rattle.step_trees.specs.Groups.{paths_of, all_paths, all_apart, Independent, grow, longest, singly, groups, joined, IsGroup, AreGroups}
use Rattle.step_trees.specs.Leads.{SetOther, SetApart, SetOthers, GroupsSetOthers}
use Rattle.step_trees.specs.Steps.{step_done, after}
use Rattle.step_trees.specs.Apart.{AreApart, IsApartStep, IsApart}
use Rattle.step_trees.proofs.LeadLemmas.{LedFrom}
use Rattle.step_trees.specs.Laws.{IsFull, AreFull}

-- ---- the groups joined give the list

joined_grow : (g steps : List Step) → joined (grow g steps) ≡ g ++ steps
joined_grow g [] = refl
joined_grow g (s ∷ steps) = elim (all_apart (all_paths (g ++ s ∷ []))) as (λ b. joined (if b then grow (g ++ s ∷ []) steps else g ∷ grow (s ∷ []) steps) ≡ g ++ s ∷ steps) [
  | true ↦ joined_grow (g ++ s ∷ []) steps ∙ append_assoc g (s ∷ []) steps
  | false ↦ ap (λ (l : List Step). g ++ l) (joined_grow (s ∷ []) steps)
]

joined_longest : (steps : List Step) → joined (longest steps) ≡ steps
joined_longest [] = refl
joined_longest (s ∷ steps) = joined_grow (s ∷ []) steps

joined_singly : (steps : List Step) → joined (singly steps) ≡ steps
joined_singly [] = refl
joined_singly (s ∷ steps) = ap (λ (l : List Step). s ∷ l) (joined_singly steps)

by_length : (steps : List Step) (P : List (List Step) → Type 0) → P (singly steps) → P (longest steps) → P (groups steps)
unfolding groups
by_length steps P few many = elim (nat_le (length steps) 8) as (λ b. P (if b then singly steps else longest steps)) [ true ↦ few | false ↦ many ]

pub joined_groups : (steps : List Step) → joined (groups steps) ≡ steps
joined_groups steps = by_length steps (λ gs. joined gs ≡ steps) (joined_singly steps) (joined_longest steps)

-- ---- no group is empty, and each is independent or one step

grow_groups : (g steps : List Step) → IsGroup g → AreGroups (grow g steps)
grow_groups g [] is = (is, tt)
grow_groups g (s ∷ steps) is =
    let alone = grow_groups (s ∷ []) steps (omega arith, inr (s, refl)) in
    ⊎_elim
    (λ more. subst AreGroups (sym (cond-true (all_apart (all_paths (g ++ s ∷ []))) (grow (g ++ s ∷ []) steps) (g ∷ grow (s ∷ []) steps) more)) (grow_groups (g ++ s ∷ []) steps ((let n = length-append g (s ∷ []) in omega arith), inl more)))
    (λ ends. subst AreGroups (sym (cond-false (all_apart (all_paths (g ++ s ∷ []))) (grow (g ++ s ∷ []) steps) (g ∷ grow (s ∷ []) steps) ends)) (is, alone))
    (cases_Bool (all_apart (all_paths (g ++ s ∷ []))))

longest_groups : (steps : List Step) → AreGroups (longest steps)
longest_groups [] = tt
longest_groups (s ∷ steps) = grow_groups (s ∷ []) steps (omega arith, inr (s, refl))

singly_groups : (steps : List Step) → AreGroups (singly steps)
singly_groups [] = tt
singly_groups (s ∷ steps) = ((omega arith, inr (s, refl)), singly_groups steps)

pub groups_groups : (steps : List Step) → AreGroups (groups steps)
groups_groups steps = by_length steps AreGroups (singly_groups steps) (longest_groups steps)

-- ---- each goes on as long as it can

record Begins (x : Step) (gs : List (List Step)) : Type 0 where
  pub others : List Step
  pub later : List (List Step)
  pub is : gs ≡ (x ∷ others) ∷ later

grow_begins : (x : Step) (g steps : List Step) → Begins x (grow (x ∷ g) steps)
grow_begins x g [] = record { others = g; later = []; is = refl }
grow_begins x g (s ∷ steps) =
    let more = grow_begins x (g ++ s ∷ []) steps in
    elim (all_apart (all_paths (x ∷ g ++ s ∷ []))) as (λ b. Begins x (if b then grow (x ∷ g ++ s ∷ []) steps else (x ∷ g) ∷ grow (s ∷ []) steps)) [
      | true ↦ more
      | false ↦ record { others = g; later = grow (s ∷ []) steps; is = refl }
    ]

grow_full : (g steps : List Step) → AreFull (grow g steps)
grow_full g [] = (tt, tt)
grow_full g (s ∷ steps) =
    let alone = grow_full (s ∷ []) steps in
    let next = grow_begins s [] steps in
    ⊎_elim
    (λ more. subst AreFull (sym (cond-true (all_apart (all_paths (g ++ s ∷ []))) (grow (g ++ s ∷ []) steps) (g ∷ grow (s ∷ []) steps) more)) (grow_full (g ++ s ∷ []) steps))
    (λ ends. subst AreFull (sym (cond-false (all_apart (all_paths (g ++ s ∷ []))) (grow (g ++ s ∷ []) steps) (g ∷ grow (s ∷ []) steps) ends))
    (subst (IsFull g) (sym next.is) (λ independent. let e : true ≡ false = sym independent ∙ ends in cc), alone))
    (cases_Bool (all_apart (all_paths (g ++ s ∷ []))))

longest_full : (steps : List Step) → AreFull (longest steps)
longest_full [] = tt
longest_full (s ∷ steps) = grow_full (s ∷ []) steps

pub groups_longest : (steps : List Step) → (8 < length steps → AreFull (groups steps)) × (length steps ≤ 8 → groups steps ≡ singly steps)
unfolding groups
groups_longest steps = (
  λ many. subst AreFull (sym (cond-false (nat_le (length steps) 8) (singly steps) (longest steps) (lt-leb (length steps) 8 many))) (longest_full steps),
  λ few. cond-true (nat_le (length steps) 8) (singly steps) (longest steps) (le-leb (length steps) 8 few),
)

-- ---- what independence says of two steps

and_left : (a b : Bool) → IsTrue (a && b) → IsTrue a
and_left true b e = refl
and_left false b e = cc

and_right : (a b : Bool) → IsTrue (a && b) → IsTrue b
and_right true b e = e
and_right false b e = cc

none_is : (o : Option Names) → IsTrue (is_none o) → o ≡ None
none_is None e = refl
none_is (Some r) e = cc

apart_is : (p q : Names) → IsTrue (are_apart p q) → IsApart p q
apart_is p q e = (
  none_is (rest_below p q) (and_left (is_none (rest_below p q)) (is_none (rest_below q p)) e),
  none_is (rest_below q p) (and_right (is_none (rest_below p q)) (is_none (rest_below q p)) e),
)

-- p is apart from each path of the steps
apart_paths : (p : Names) (s : Step) (ps : List Names) → IsTrue (list_all (are_apart p) (paths_of s ++ ps)) → IsApartStep p s × IsTrue (list_all (are_apart p) ps)
apart_paths p (MakeDir q) ps e = (apart_is p q (and_left (are_apart p q) (list_all (are_apart p) ps) e), and_right (are_apart p q) (list_all (are_apart p) ps) e)
apart_paths p (Rename from to) ps e =
    let more = and_right (are_apart p from) (are_apart p to && list_all (are_apart p) ps) e in
    ((apart_is p from (and_left (are_apart p from) (are_apart p to && list_all (are_apart p) ps) e), apart_is p to (and_left (are_apart p to) (list_all (are_apart p) ps) more)), and_right (are_apart p to) (list_all (are_apart p) ps) more)
apart_paths p (Mode q old new) ps e = (apart_is p q (and_left (are_apart p q) (list_all (are_apart p) ps) e), and_right (are_apart p q) (list_all (are_apart p) ps) e)

abbrev pub ApartFromAll : Step → List Step → Type 0
ApartFromAll s [] = Unit {0}
ApartFromAll s (u ∷ g) = AreApart s u × ApartFromAll s g

one_path : (p : Names) (u : Step) (g : List Step) → IsTrue (list_all (are_apart p) (all_paths (u ∷ g))) → IsApartStep p u × IsTrue (list_all (are_apart p) (all_paths g))
one_path p u g e = apart_paths p u (all_paths g) e

apart_from_each : (s : Step) (g : List Step) (p : Names) → ((u : Step) → IsApartStep p u → AreApart s u) → IsTrue (list_all (are_apart p) (all_paths g)) → ApartFromAll s g
apart_from_each s [] p gives e = tt
apart_from_each s (u ∷ g) p gives e = let one = one_path p u g e in (gives u one.0, apart_from_each s g p gives one.1)

two_apart : (from to : Names) (g : List Step) → IsTrue (list_all (are_apart from) (all_paths g)) → IsTrue (list_all (are_apart to) (all_paths g)) → ApartFromAll (Rename from to) g
two_apart from to [] e f = tt
two_apart from to (u ∷ g) e f = let one = one_path from u g e in let two = one_path to u g f in ((one.0, two.0), two_apart from to g one.1 two.1)

-- the first is apart from the others, and they are independent
pub first_apart : (s : Step) (g : List Step) → Independent (s ∷ g) → ApartFromAll s g × Independent g
first_apart (MakeDir p) g e = (apart_from_each (MakeDir p) g p (λ u a. a) (and_left (list_all (are_apart p) (all_paths g)) (all_apart (all_paths g)) e), and_right (list_all (are_apart p) (all_paths g)) (all_apart (all_paths g)) e)
first_apart (Rename from to) g e =
    let all = and_left (list_all (are_apart from) (to ∷ all_paths g)) (all_apart (to ∷ all_paths g)) e in
    let more = and_right (list_all (are_apart from) (to ∷ all_paths g)) (all_apart (to ∷ all_paths g)) e in
    (two_apart from to g (and_right (are_apart from to) (list_all (are_apart from) (all_paths g)) all) (and_left (list_all (are_apart to) (all_paths g)) (all_apart (all_paths g)) more), and_right (list_all (are_apart to) (all_paths g)) (all_apart (all_paths g)) more)
first_apart (Mode p old new) g e = (apart_from_each (Mode p old new) g p (λ u a. a) (and_left (list_all (are_apart p) (all_paths g)) (all_apart (all_paths g)) e), and_right (list_all (are_apart p) (all_paths g)) (all_apart (all_paths g)) e)

-- ---- a group is free in the tree at its cut

apart_from : (s : Step) (g : List Step) (t : FileTree) → ApartFromAll s g → SetApart t s g → ApartFrom s g t
apart_from s [] t apart others = tt
apart_from s (u ∷ g) t apart others = (apart.0, others.0, apart_from s g t apart.1 others.1)

module _ (s : Step) (t : FileTree) where
  others_there : (u : Step) (g : List Step) → ((v w : Step) → AreApart v s → AreApart w s → SetOther t v w → SetOther (step_done s t) v w) → AreApart u s → ApartFromAll s g → SetApart t u g → SetApart (step_done s t) u g
  others_there u [] there apart all others = tt
  others_there u (v ∷ g) there apart all others = (there u v apart (apart_other s v all.0) others.0, others_there u g there apart all.1 others.1)

  set_there : (g : List Step) → ((v w : Step) → AreApart v s → AreApart w s → SetOther t v w → SetOther (step_done s t) v w) → ApartFromAll s g → SetOthers t g → SetOthers (step_done s t) g
  set_there [] there all others = tt
  set_there (u ∷ g) there all others = (others_there u g there (apart_other s u all.0) all.1 others.0, set_there g there all.1 others.1)

free_group : (g rest : List Step) (t new : FileTree) → LedFrom t (g ++ rest) new → Independent g → SetOthers t g → Free g t
free_group [] rest t new leads independent others = tt
free_group (s ∷ g) rest t new leads independent others =
    let first = first_apart s g independent in
    let clear = clear_before s t (leads.0).tree leads.2 in
    let from = apart_from s g t first.0 others.0 in
    let more = free_group g rest (step_done s t) new leads.3 first.1 (set_there s t g (other_there s t clear) first.0 others.1) in
    (leads.1, leads.2, from, free_back s t clear g from more)

free_is : (g rest : List Step) (t new : FileTree) → LedFrom t (g ++ rest) new → IsGroup g → SetOthers t g → Free g t
free_is g rest t new leads (some, inl independent) others = free_group g rest t new leads independent others
free_is g rest t new leads (some, inr (s, is)) others = subst (λ l. Free l t) (sym is) (let l : LedFrom t (s ∷ rest) new = subst (λ x. LedFrom t (x ++ rest) new) is leads in (l.1, l.2, tt, tt))

-- each group is, in the tree at its cut
abbrev pub FreeGroups : List (List Step) → FileTree → Type 0
FreeGroups [] t = Unit {0}
FreeGroups (g ∷ gs) t = Free g t × FreeGroups gs (after g t)

leads_rest : (g rest : List Step) (t new : FileTree) → LedFrom t (g ++ rest) new → LedFrom (after g t) rest new
leads_rest [] rest t new leads = leads
leads_rest (s ∷ g) rest t new leads = leads_rest g rest (step_done s t) new leads.3

pub free_groups : (gs : List (List Step)) (t new : FileTree) → LedFrom t (joined gs) new → AreGroups gs → GroupsSetOthers t gs → FreeGroups gs t
free_groups [] t new leads are others = tt
free_groups (g ∷ gs) t new leads are others = (free_is g (joined gs) t new leads are.0 others.0, free_groups gs (after g t) new (leads_rest g (joined gs) t new leads) are.1 others.1)
