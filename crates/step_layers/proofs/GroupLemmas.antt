-- Steps that stand layer by layer have at most as many groups as layers.
use Rattle.std.proofs.Common.{◌≡◌, ◌⊎◌, inl, inr, ℕ, ◌+◌, ◌<◌, ◌≤◌, Bool, true, false, ◌&&◌, nat_le, List, [], ◌∷◌, ◌++◌, length, refl, sym, ◌∙◌, ap, subst, arith, append_assoc}
use Rattle.std.proofs.lemmas.Bool.{cases_Bool, cond-true, cond-false, le-leb, lt-leb}
use Rattle.std.proofs.lemmas.List.{append-nil}
use Rattle.std.proofs.lemmas.List.Folds.{list_all-append}
use Rattle.std.specs.List.{AllByRecursion, list_all}
use Rattle.dired_text.specs.Paths.{Names}
use Rattle.commit_steps.specs.Tests.{are_apart}
use Rattle.commit_steps.specs.declared.step.Step.{Step}
use Rattle.step_trees.specs.Groups.{all_apart, all_paths, paths_of, groups, grow, joined, longest, Independent}
use Rattle.step_cuts.proofs.CutLemmas.{groups_many}
use Rattle.step_layers.specs.Laws.{GroupsAreFew}
use Rattle.step_layers.specs.Layers.{by_layer, layers}
use Rattle.step_layers.proofs.ExchangeLemmas.{orders_have_all}
use Rattle.step_layers.proofs.LayerLemmas.{layers_are_independent, layers_keep_order}

-- ---- the first of independent steps are independent

and_left : (a b : Bool) → (a && b) ≡ true → a ≡ true
and_left true b e = refl
and_left false b e = cc

and_right : (a b : Bool) → (a && b) ≡ true → b ≡ true
and_right true b e = e
and_right false b e = cc

and_both : (a b : Bool) → a ≡ true → b ≡ true → (a && b) ≡ true
and_both true b e f = f
and_both false b e f = cc

paths_both : (g h : List Step) → all_paths (g ++ h) ≡ all_paths g ++ all_paths h
paths_both [] h = refl
paths_both (s ∷ g) h = ap (λ (ps : List Names). paths_of s ++ ps) (paths_both g h) ∙ sym (append_assoc (paths_of s) (all_paths g) (all_paths h))

apart_first : (ps qs : List Names) → all_apart (ps ++ qs) ≡ true → all_apart ps ≡ true
apart_first [] qs e = refl
apart_first (p ∷ ps) qs e = and_both (list_all (are_apart p) ps) (all_apart ps)
    (and_left (list_all (are_apart p) ps) (list_all (are_apart p) qs) (sym (list_all-append (are_apart p) ps qs) ∙ and_left (list_all (are_apart p) (ps ++ qs)) (all_apart (ps ++ qs)) e))
    (apart_first ps qs (and_right (list_all (are_apart p) (ps ++ qs)) (all_apart (ps ++ qs)) e))

first_free : (g h : List Step) → Independent (g ++ h) → Independent g
first_free g h free = apart_first (all_paths g) (all_paths h) (sym (ap all_apart (paths_both g h)) ∙ free)

later_apart : (ps qs : List Names) → all_apart (ps ++ qs) ≡ true → all_apart qs ≡ true
later_apart [] qs e = e
later_apart (p ∷ ps) qs e = later_apart ps qs (and_right (list_all (are_apart p) (ps ++ qs)) (all_apart (ps ++ qs)) e)

later_free : (s : Step) (l : List Step) → Independent (s ∷ l) → Independent l
later_free s l free = later_apart (paths_of s) (all_paths l) free

-- ---- a layer begins one group at most

goes_on : (g : List Step) (s : Step) (steps : List Step) → Independent (g ++ s ∷ []) → grow g (s ∷ steps) ≡ grow (g ++ s ∷ []) steps
goes_on g s steps free = cond-true (all_apart (all_paths (g ++ s ∷ []))) (grow (g ++ s ∷ []) steps) (g ∷ grow (s ∷ []) steps) free

ends_there : (g : List Step) (s : Step) (steps : List Step) → all_apart (all_paths (g ++ s ∷ [])) ≡ false → grow g (s ∷ steps) ≡ g ∷ grow (s ∷ []) steps
ends_there g s steps differs = cond-false (all_apart (all_paths (g ++ s ∷ []))) (grow (g ++ s ∷ []) steps) (g ∷ grow (s ∷ []) steps) differs

-- a group that goes on through all of a layer
through : (l g rest : List Step) → Independent (g ++ l) → grow g (l ++ rest) ≡ grow (g ++ l) rest
through [] g rest free = ap (λ (h : List Step). grow h rest) (sym (append-nil g))
through (s ∷ l) g rest free =
    let whole : Independent ((g ++ s ∷ []) ++ l) = subst Independent (sym (append_assoc g (s ∷ []) l)) free in
    goes_on g s (l ++ rest) (first_free (g ++ s ∷ []) l whole)
    ∙ through l (g ++ s ∷ []) rest whole
    ∙ ap (λ (h : List Step). grow h rest) (append_assoc g (s ∷ []) l)

-- a group, and of each layer one at most
layer_few : (l g : List Step) (n : ℕ) (rest : List Step) → Independent l → ((h : List Step) → length (grow h rest) ≤ n) → length (grow g (l ++ rest)) ≤ n + 1
layer_few [] g n rest free few = let k = few g in omega (arith, k)
layer_few (s ∷ l) g n rest free few = by (layer_few l (g ++ s ∷ []) n rest (later_free s l free) few) (cases_Bool (all_apart (all_paths (g ++ s ∷ []))))
  where
    by : length (grow (g ++ s ∷ []) (l ++ rest)) ≤ n + 1 → (all_apart (all_paths (g ++ s ∷ [])) ≡ true) ⊎ (all_apart (all_paths (g ++ s ∷ [])) ≡ false) → length (grow g (s ∷ l ++ rest)) ≤ n + 1
    by more (inl e) = subst (λ (gs : List (List Step)). length gs ≤ n + 1) (sym (goes_on g s (l ++ rest) e)) more
    by more (inr e) =
        let k = few (s ∷ l) in
        let one : length (grow (s ∷ []) (l ++ rest)) ≡ length (grow (s ∷ l) rest) = ap length (through l (s ∷ []) rest free) in
        subst (λ (gs : List (List Step)). length gs ≤ n + 1) (sym (ends_there g s (l ++ rest) e)) (omega (arith, k, one))

layers_few : (ls : List (List Step)) (g : List Step) → AllByRecursion Independent ls → length (grow g (joined ls)) ≤ length ls + 1
layers_few [] g free = omega arith
layers_few (l ∷ ls) g free = let k = layer_few l g (length ls + 1) (joined ls) free.0 (λ h. layers_few ls h free.1) in omega (arith, k)

longest_few : (ls : List (List Step)) → AllByRecursion Independent ls → length (longest (joined ls)) ≤ length ls
longest_few [] free = omega arith
longest_few ([] ∷ ls) free = let k = longest_few ls free.1 in omega (arith, k)
longest_few ((s ∷ l) ∷ ls) free =
    let one : length (grow (s ∷ []) (l ++ joined ls)) ≡ length (grow (s ∷ l) (joined ls)) = ap length (through l (s ∷ []) (joined ls) free.0) in
    let k = layers_few ls (s ∷ l) free.1 in
    omega (arith, one, k)

pub sorted_few : (steps : List Step) → length steps ≤ 8 → by_layer steps ≡ steps
unfolding by_layer
sorted_few steps few = cond-true (nat_le (length steps) 8) steps (joined (layers steps)) (le-leb (length steps) 8 few)

pub sorted_is : (steps : List Step) → 8 < length steps → by_layer steps ≡ joined (layers steps)
unfolding by_layer
sorted_is steps many = cond-false (nat_le (length steps) 8) steps (joined (layers steps)) (lt-leb (length steps) 8 many)

pub groups_are_few : GroupsAreFew
groups_are_few steps lawful many =
    let all = (orders_have_all steps (by_layer steps) (layers_keep_order steps)).1 in
    let still : 8 < length (by_layer steps) = omega (arith, all, many) in
    let one : length (groups (by_layer steps)) ≡ length (longest (joined (layers steps))) = ap length (groups_many (by_layer steps) still) ∙ ap (λ (l : List Step). length (longest l)) (sorted_is steps many) in
    let few = longest_few (layers steps) (layers_are_independent steps lawful) in
    omega (arith, one, few)
