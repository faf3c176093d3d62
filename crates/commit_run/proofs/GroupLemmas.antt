-- The groups of what was prepared, and the markers at their cuts, by number.
use Rattle.std.proofs.Common.{◌≡◌, ℕ, zero, suc, ◌+◌, ◌-◌, ◌≤◌, ◌<◌, List, [], ◌∷◌, ◌++◌, length, take, drop, map, get_or, refl, sym, ◌∙◌, ap, subst, arith}
use Rattle.std.specs.List.{AllByRecursion}
use Rattle.std.proofs.lemmas.List.{drop_all, get_or-map, length-map, take-map}
use Rattle.commit_calls.specs.Cuts.{cut_at, group_at}
use Rattle.commit_calls.proofs.EndLemmas.{Group, Here, group_here, here_first}
use Rattle.commit_calls.proofs.RunLemmas.{item_is}
use Rattle.commit_run.specs.declared.prepared.Prepared.{Prepared}
use Rattle.commit_run.specs.Preparing.{IsPrepared}
use Rattle.commit_run.specs.WayBack.{at_cut, back_at_cut}
use Rattle.commit_steps.specs.declared.step.Step.{Step}
use Rattle.commit_steps.specs.Staging.{staged, at_marker, back_marker}
use Rattle.dired_text.specs.Paths.{Names}
use Rattle.step_cuts.specs.Cuts.{ends_of}
use Rattle.step_looks.specs.declared.parent_paths.Parents.{Parents}
use Rattle.step_looks.specs.Looks.{AreParents, parents_of}
use Rattle.step_trees.specs.Groups.{groups, joined}
use Rattle.step_trees.specs.Steps.{IsStep}
use Rattle.step_trees.proofs.CutLemmas.{joined_groups}

length-ends_of : (k : ℕ) (gs : List (List Step)) → length (ends_of k gs) ≡ length gs
length-ends_of k [] = refl
length-ends_of k (g ∷ gs) = let e = length-ends_of (k + length g) gs in omega arith

here_at : (steps : List Step) (ends : List ℕ) (k : ℕ) → ends ≡ ends_of 0 (groups steps) → k ≤ length ends → Here steps ends k (get_or (0 ∷ ends) k 0)
here_at steps ends zero are le = here_first steps ends are
here_at steps ends (suc k) are le =
    let lt : k < length ends = omega arith in
    let h = here_at steps ends k are (omega arith) in
    let x = group_here steps ends k (get_or (0 ∷ ends) k 0) (get_or ends k 0) lt (item_is ends k 0 lt) h in
    let one_more : k + 1 ≡ suc k = omega arith in
    subst (λ n. Here steps ends n (get_or ends k 0)) one_more x.next

drop-map : {X Y : Type 0} (f : X → Y) (n : ℕ) (xs : List X) → drop n (map f xs) ≡ map f (drop n xs)
drop-map f zero xs = refl
drop-map f (suc n) [] = refl
drop-map f (suc n) (x ∷ xs) = drop-map f n xs

all_first : {X : Type 0} (P : X → Type 0) (xs ys : List X) → AllByRecursion P (xs ++ ys) → AllByRecursion P xs
all_first P [] ys all = tt
all_first P (x ∷ xs) ys all = (all.0, all_first P xs ys all.1)

all_last : {X : Type 0} (P : X → Type 0) (xs ys : List X) → AllByRecursion P (xs ++ ys) → AllByRecursion P ys
all_last P [] ys all = all
all_last P (x ∷ xs) ys all = all_last P xs ys all.1

all_group : (P : Step → Type 0) (gs : List (List Step)) (k : ℕ) → AllByRecursion P (joined gs) → AllByRecursion P (group_at k gs)
all_group P [] k all = tt
all_group P (g ∷ gs) zero all = all_first P g (joined gs) all
all_group P (g ∷ gs) (suc k) all = all_group P gs k (all_last P g (joined gs) all)

some_groups : (gs : List (List Step)) (steps : List Step) → joined gs ≡ steps → 0 < length steps → 0 < length gs
some_groups [] steps are some = absurd (let none : 0 ≡ length steps = ap length are in omega arith)
some_groups (g ∷ gs) steps are some = omega arith

pub has_groups : (steps : List Step) → 0 < length steps → 0 < length (groups steps)
has_groups steps some = some_groups (groups steps) steps (joined_groups steps) some

module _ (p : Prepared) (is : IsPrepared p) where
  abbrev steps : List Step
  steps = p.steps

  abbrev gs : List (List Step)
  gs = groups p.steps

  pub ends_many : length p.ends.items ≡ length gs
  ends_many = ap length is.ends ∙ length-ends_of 0 gs

  pub parents_many : length p.parents.items ≡ length steps
  parents_many = ap length is.parents ∙ length-map steps parents_of

  pub at_many : length p.at_markers.items ≡ suc (length gs)
  at_many = ap length is.at ∙ length-map (0 ∷ p.ends.items) (λ k. staged (at_marker k)) ∙ ap suc ends_many

  pub back_many : length p.back_markers.items ≡ suc (length gs)
  back_many = ap length is.back ∙ length-map (0 ∷ p.ends.items) (λ k. staged (back_marker k)) ∙ ap suc ends_many

  here : (k : ℕ) → k ≤ length gs → Here steps p.ends.items k (get_or (0 ∷ p.ends.items) k 0)
  here k le = let many = ends_many in here_at steps p.ends.items k is.ends (omega arith)

  pub cut_is : (k : ℕ) → k ≤ length gs → get_or (0 ∷ p.ends.items) k 0 ≡ cut_at k gs
  cut_is k le = (here k le).at

  pub cut_within : (k : ℕ) → k ≤ length gs → cut_at k gs ≤ length steps
  cut_within k le = let h = here k le in let count = h.count in let at = h.at in omega arith

  -- the last cut is the end of the steps
  pub cut_last : cut_at (length gs) gs ≡ length steps
  cut_last =
      let h = here (length gs) (omega arith) in
      let count = h.count in
      let at = h.at in
      let none : length (joined (drop (length gs) gs)) ≡ 0 = ap (λ (l : List (List Step)). length (joined l)) (drop_all (length gs) gs (omega arith)) in
      omega arith

  pub place_is : (k : ℕ) → k ≤ length gs → 0 < k → get_or p.ends.items (k - 1) 0 ≡ cut_at k gs
  place_is zero le some = absurd (omega arith)
  place_is (suc k) le some = let e : suc k - 1 ≡ k = omega arith in ap (λ n. get_or p.ends.items n 0) e ∙ cut_is (suc k) le

  pub end_is : (k : ℕ) → k < length gs → get_or p.ends.items k 0 ≡ cut_at (k + 1) gs
  end_is k lt = let e : suc k ≡ k + 1 = omega arith in cut_is (suc k) (omega arith) ∙ ap (λ n. cut_at n gs) e

  pub at_path : (k : ℕ) → k ≤ length gs → get_or p.at_markers.items k [] ≡ at_cut steps k
  at_path k le =
      let many = ends_many in
      ap (λ (l : List Names). get_or l k []) is.at ∙ get_or-map (λ n. staged (at_marker n)) (0 ∷ p.ends.items) k 0 [] (omega arith) ∙ ap (λ n. staged (at_marker n)) (cut_is k le)

  pub back_path : (k : ℕ) → k ≤ length gs → get_or p.back_markers.items k [] ≡ back_at_cut steps k
  back_path k le =
      let many = ends_many in
      ap (λ (l : List Names). get_or l k []) is.back ∙ get_or-map (λ n. staged (back_marker n)) (0 ∷ p.ends.items) k 0 [] (omega arith) ∙ ap (λ n. staged (back_marker n)) (cut_is k le)

  -- the steps of a group
  the_group : (k : ℕ) → k < length gs → Group steps p.ends.items k (get_or (0 ∷ p.ends.items) k 0) (get_or p.ends.items k 0)
  the_group k lt =
      let many = ends_many in
      let within : k < length p.ends.items = omega arith in
      group_here steps p.ends.items k (get_or (0 ∷ p.ends.items) k 0) (get_or p.ends.items k 0) within (item_is p.ends.items k 0 within) (here k (omega arith))

  pub cuts_rise : (k : ℕ) → k < length gs → cut_at k gs ≤ cut_at (k + 1) gs
  cuts_rise k lt =
      let x = the_group k lt in
      let end = x.end_is in
      let first = cut_is k (omega arith) in
      let last = x.next.at in
      omega arith

  pub group_slice : (k : ℕ) → k < length gs → take (cut_at (k + 1) gs - cut_at k gs) (drop (cut_at k gs) steps) ≡ group_at k gs
  group_slice k lt =
      let x = the_group k lt in
      ap (λ n. take (n - cut_at k gs) (drop (cut_at k gs) steps)) (sym x.next.at)
      ∙ ap (λ n. take (get_or p.ends.items k 0 - n) (drop n steps)) (sym (cut_is k (omega arith)))
      ∙ x.slice ∙ sym x.item

  pub parents_slice : (k : ℕ) → k < length gs → AreParents (group_at k gs) (take (cut_at (k + 1) gs - cut_at k gs) (drop (cut_at k gs) p.parents.items))
  parents_slice k lt =
      ap (λ (l : List Parents). take (cut_at (k + 1) gs - cut_at k gs) (drop (cut_at k gs) l)) is.parents
      ∙ ap (take (cut_at (k + 1) gs - cut_at k gs)) (drop-map parents_of (cut_at k gs) steps)
      ∙ take-map parents_of (cut_at (k + 1) gs - cut_at k gs) (drop (cut_at k gs) steps)
      ∙ ap (map parents_of) (group_slice k lt)

  pub group_steps : (k : ℕ) → AllByRecursion IsStep (group_at k gs)
  group_steps k = all_group IsStep gs k (subst (AllByRecursion IsStep) (sym (joined_groups steps)) is.steps)
