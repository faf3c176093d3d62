-- The parts of a way back, the last one first.
use Rattle.std.proofs.Common.{◌≡◌, ⊎_elim, ℕ, ◌+◌, ◌-◌, ◌≤◌, ◌<◌, ◌==◌, List, [], ◌∷◌, ◌++◌, length, take, refl, sym, ◌∙◌, ap, arith, append_assoc, length-append, Option, Some, None}
use Rattle.std.proofs.lemmas.Bool.{cases_Bool, cond-true, cond-false}
use Rattle.std.proofs.lemmas.Bool.Decides.{nat_tests}
use Rattle.std.proofs.lemmas.List.{append-nil, take_more}
use Rattle.commit_calls.specs.Cuts.{group_at}
use Rattle.commit_steps.specs.declared.step.Step.{Step}
use Rattle.recovery_calls.specs.Works.{parts_before, place_of}
use Rattle.recovery_calls.proofs.CutLemmas.{before_cut}
use Rattle.recovery_courses.specs.Course.{Course, and_then, going_on, these}
use Rattle.recovery_courses.specs.Parts.{undone_from, undone_part, undone_parts}
use Rattle.step_trees.specs.Groups.{from_last_cut, groups, joined, whole_before}
use Rattle.tree_core.specs.declared.node.Change.{Change}
use Rattle.tree_core.specs.History.{History}
use Rattle.tree_core.specs.Runs.{then_all}
use Rattle.tree_core.proofs.Runs.{then_all-append}

course_is : (cs ds : List Change) (o : Option ℕ) → cs ≡ ds → ◌≡◌ {A = Course} record { calls = cs; strange = o } record { calls = ds; strange = o }
course_is cs ds o same = ap (λ (l : List Change). record { calls = l; strange = o }) same

-- nothing behind it
pub and_nothing : (c : Course) (h : History) → and_then c h (λ _. these []) ≡ c
and_nothing c h = by_strange c.calls c.strange
  where
    by_strange : (cs : List Change) (o : Option ℕ) → going_on cs o (these []) ≡ record { calls = cs; strange = o }
    by_strange cs None = course_is (cs ++ []) cs None (append-nil cs)
    by_strange cs (Some k) = refl

going_assoc : (cs ds : List Change) (o : Option ℕ) (h : History) (g : History → Course)
    → going_on (cs ++ ds) o (g (then_all h (cs ++ ds)))
    ≡ record { calls = cs ++ (going_on ds o (g (then_all (then_all h cs) ds))).calls; strange = (going_on ds o (g (then_all (then_all h cs) ds))).strange }
going_assoc cs ds (Some k) h g = refl
going_assoc cs ds None h g =
    ap (λ (x : History). record { calls = (cs ++ ds) ++ (g x).calls; strange = (g x).strange }) (then_all-append h cs ds)
    ∙ course_is ((cs ++ ds) ++ (g (then_all (then_all h cs) ds)).calls) (cs ++ (ds ++ (g (then_all (then_all h cs) ds)).calls)) (g (then_all (then_all h cs) ds)).strange
    (append_assoc cs ds (g (then_all (then_all h cs) ds)).calls)

-- three behind one another
pub and_assoc : (c : Course) (h : History) (f g : History → Course) → and_then (and_then c h f) h g ≡ and_then c h (λ x. and_then (f x) x g)
and_assoc c h f g = by_strange c.calls c.strange
  where
    by_strange : (cs : List Change) (o : Option ℕ) → and_then (going_on cs o (f (then_all h cs))) h g ≡ going_on cs o (and_then (f (then_all h cs)) (then_all h cs) g)
    by_strange cs None = going_assoc cs (f (then_all h cs)).calls (f (then_all h cs)).strange h g
    by_strange cs (Some k) = refl

-- the last one comes first
pub undone_push : (k : ℕ) (front : List (List Step)) (g : List Step) (h : History)
    → undone_parts k (front ++ g ∷ []) h ≡ and_then (undone_part (k + length (joined front)) g h) h (undone_parts k front)
undone_push k [] g h =
    let e : k + 0 ≡ k = omega arith in
    ap (λ n. undone_part n g h) (sym e) ∙ sym (and_nothing (undone_part (k + 0) g h) h)
undone_push k (p ∷ front) g h =
    let n = length-append p (joined front) in
    let place : k + length p + length (joined front) ≡ k + length (p ++ joined front) = omega arith in
    ap (λ (c : Course). and_then c h (undone_part k p)) (undone_push (k + length p) front g h)
    ∙ and_assoc (undone_part (k + length p + length (joined front)) g h) h (undone_parts (k + length p) front) (undone_part k p)
    ∙ ap (λ m. and_then (undone_part m g h) h (undone_parts k (p ∷ front))) place

-- part number i comes before those before it
pub undone_more : (gs : List (List Step)) (i : ℕ) (h : History) → i < length gs
    → undone_parts 0 (take (i + 1) gs) h ≡ and_then (undone_part (place_of 0 gs i) (group_at i gs) h) h (undone_parts 0 (take i gs))
undone_more gs i h lt = ap (λ (l : List (List Step)). undone_parts 0 l h) (take_more gs i [] lt) ∙ undone_push 0 (take i gs) (group_at i gs) h

abbrev last_part : List Step → ℕ → List Step
last_part steps m = from_last_cut m (groups steps)

abbrev front_parts : List Step → ℕ → List (List Step)
front_parts steps m = whole_before (m - length (from_last_cut m (groups steps))) (groups steps)

-- the way back from a place
pub undone_is : (steps : List Step) (m : ℕ) (h : History) → m ≤ length steps → undone_from steps m h ≡ undone_parts 0 (parts_before steps m) h
undone_is steps m h le = ⊎_elim
    (λ none.
    cond-true (m == 0) (these []) (and_then (undone_part (m - length (last_part steps m)) (last_part steps m) h) h (undone_parts 0 (front_parts steps m))) none
    ∙ sym (ap (λ (l : List (List Step)). undone_parts 0 l h) (cond-true (m == 0) [] (front_parts steps m ++ last_part steps m ∷ []) none)))
    (λ some.
    let positive : 0 < m = grind (arith, nat_tests) in
    cond-false (m == 0) (these []) (and_then (undone_part (m - length (last_part steps m)) (last_part steps m) h) h (undone_parts 0 (front_parts steps m))) some
    ∙ ap (λ n. and_then (undone_part n (last_part steps m) h) h (undone_parts 0 (front_parts steps m))) (before_cut steps m le positive)
    ∙ sym (undone_push 0 (front_parts steps m) (last_part steps m) h)
    ∙ sym (ap (λ (l : List (List Step)). undone_parts 0 l h) (cond-false (m == 0) [] (front_parts steps m ++ last_part steps m ∷ []) some)))
    (cases_Bool (m == 0))
