-- The places at which the groups end, step by step.
use Rattle.std.proofs.Common.{◌≡◌, ◌<◌, ◌≤◌, ◌+◌, ℕ, zero, suc, true, false, nat_le, List, [], ◌∷◌, ◌++◌, length, drop, refl, sym, ◌∙◌, ap, subst, arith, append_assoc, length-append}
use Rattle.std.proofs.lemmas.Bool.{cond-true, cond-false, lt-leb}
use Rattle.std.proofs.lemmas.List.{append-nil}
use Rattle.std.specs.List.{AllByRecursion}
use Rattle.commit_steps.specs.declared.step.Step.{Step}
use Rattle.step_trees.specs.Groups.{all_apart, all_paths, paths_of, grow, groups, longest, singly, joined, AreGroups}
use Rattle.step_trees.proofs.CutLemmas.{joined_groups, groups_groups, groups_longest}
use Rattle.step_cuts.specs.Cuts.{ends_of}
use Rattle.step_cuts.specs.Laws.{CutsAreWithin, CutsRise, LastCutIsTheEnd, Rise, last_of}
use Rattle.step_cuts.specs.Named.{Holds}
use Rattle.step_cuts.specs.declared.named_paths.NamedPaths.{NamedPaths}
use Rattle.step_cuts.proofs.ApartLemmas.{paths_pushed}

-- ---- one step in each group

one_more : (steps : List Step) (k : ℕ) → k < length steps → (s : Step) × (drop k steps ≡ s ∷ drop (suc k) steps)
one_more [] k less = absurd (omega (arith, less))
one_more (s ∷ steps) zero less = (s, refl)
one_more (s ∷ steps) (suc k) less = one_more steps k (omega (arith, less))

pub place_more : (steps : List Step) (k : ℕ) (ends : List ℕ) → k < length steps → (ends ++ (k + 1) ∷ []) ++ ends_of (k + 1) (singly (drop (k + 1) steps)) ≡ ends ++ ends_of k (singly (drop k steps))
place_more steps k ends less =
    let one = one_more steps k less in
    let next : suc k ≡ k + 1 = omega arith in
    let is : drop k steps ≡ one.0 ∷ drop (k + 1) steps = one.1 ∙ ap (λ (n : ℕ). one.0 ∷ drop n steps) next in
    append_assoc ends ((k + 1) ∷ []) (ends_of (k + 1) (singly (drop (k + 1) steps))) ∙ sym (ap (λ (l : List Step). ends ++ ends_of k (singly l)) is)

-- ---- which groups they are

pub groups_few : (steps : List Step) → length steps ≤ 8 → groups steps ≡ singly steps
groups_few steps few = (groups_longest steps).1 few

pub groups_many : (steps : List Step) → 8 < length steps → groups steps ≡ longest steps
unfolding groups
groups_many steps many = cond-false (nat_le (length steps) 8) (singly steps) (longest steps) (lt-leb (length steps) 8 many)

-- ---- a group goes on

-- behind the first step and k more: the paths of the group so far are held, and it began where the last one ended
pub record SoFar (rest : List Step) (all : List ℕ) (k : ℕ) (ends : List ℕ) (paths : NamedPaths) : Type 0 where
  pub start : ℕ
  pub group : List Step
  pub at : start + length group ≡ k + 1
  pub holds : Holds (all_paths group) paths
  pub cut : ends ++ ends_of start (grow group (drop k rest)) ≡ all

pub first_step : (first : Step) (rest : List Step) (paths : NamedPaths) → Holds (paths_of first) paths → SoFar rest (ends_of 0 (grow (first ∷ []) rest)) 0 [] paths
first_step first rest paths holds = record {
  start = 0;
  group = first ∷ [];
  at = refl;
  holds = subst (λ ps. Holds ps paths) (sym (append-nil (paths_of first))) holds;
  cut = refl;
}

module _ (rest : List Step) (all : List ℕ) (k : ℕ) (ends : List ℕ) (old new : NamedPaths) (s : Step) (is : drop k rest ≡ s ∷ drop (k + 1) rest) (so_far : SoFar rest all k ends old) where
  grown : ends ++ ends_of so_far.start (grow so_far.group (s ∷ drop (k + 1) rest)) ≡ all
  grown = sym (ap (λ (l : List Step). ends ++ ends_of so_far.start (grow so_far.group l)) is) ∙ so_far.cut

  module _ (holds : Holds (all_paths so_far.group ++ paths_of s) new) where
    apart : new.are_apart ≡ all_apart (all_paths (so_far.group ++ s ∷ []))
    apart = holds.apart ∙ sym (ap all_apart (paths_pushed so_far.group s))

    pub step_more : new.are_apart ≡ true → SoFar rest all (k + 1) ends new
    step_more goes_on = record {
      start = so_far.start;
      group = so_far.group ++ s ∷ [];
      at = (let n = length-append so_far.group (s ∷ []) in let a = so_far.at in omega (arith, n, a));
      holds = subst (λ ps. Holds ps new) (sym (paths_pushed so_far.group s)) holds;
      cut =
          sym (ap (λ (gs : List (List Step)). ends ++ ends_of so_far.start gs)
          (cond-true (all_apart (all_paths (so_far.group ++ s ∷ []))) (grow (so_far.group ++ s ∷ []) (drop (k + 1) rest)) (so_far.group ∷ grow (s ∷ []) (drop (k + 1) rest)) (sym apart ∙ goes_on)))
          ∙ grown;
    }

    pub group_more : (next : NamedPaths) → new.are_apart ≡ false → Holds (paths_of s) next → SoFar rest all (k + 1) (ends ++ (k + 1) ∷ []) next
    group_more next differs alone = record {
      start = k + 1;
      group = s ∷ [];
      at = omega arith;
      holds = subst (λ ps. Holds ps next) (sym (append-nil (paths_of s))) alone;
      cut =
          append_assoc ends ((k + 1) ∷ []) (ends_of (k + 1) (grow (s ∷ []) (drop (k + 1) rest)))
          ∙ sym (ap (λ (n : ℕ). ends ++ n ∷ ends_of n (grow (s ∷ []) (drop (k + 1) rest))) so_far.at)
          ∙ sym (ap (λ (gs : List (List Step)). ends ++ ends_of so_far.start gs)
          (cond-false (all_apart (all_paths (so_far.group ++ s ∷ []))) (grow (so_far.group ++ s ∷ []) (drop (k + 1) rest)) (so_far.group ∷ grow (s ∷ []) (drop (k + 1) rest)) (sym apart ∙ differs)))
          ∙ grown;
    }

-- ---- laws

ends_rise : (k : ℕ) (gs : List (List Step)) → AreGroups gs → Rise k (ends_of k gs)
ends_rise k [] are = tt
ends_rise k (g ∷ gs) are = let some : 0 < length g = are.0.0 in (omega (arith, some), ends_rise (k + length g) gs are.1)

last_end : (k : ℕ) (gs : List (List Step)) → last_of k (ends_of k gs) ≡ k + length (joined gs)
last_end k [] = omega arith
last_end k (g ∷ gs) = last_end (k + length g) gs ∙ (let n = length-append g (joined gs) in omega (arith, n))

ends_within : (k all : ℕ) (gs : List (List Step)) → k + length (joined gs) ≤ all → AllByRecursion (λ end. end ≤ all) (ends_of k gs)
ends_within k all [] less = tt
ends_within k all (g ∷ gs) less = let n = length-append g (joined gs) in (omega (arith, n, less), ends_within (k + length g) all gs (omega (arith, n, less)))

pub cuts_rise : CutsRise
cuts_rise steps = ends_rise 0 (groups steps) (groups_groups steps)

pub last_cut : LastCutIsTheEnd
last_cut steps = last_end 0 (groups steps) ∙ (let n : length (joined (groups steps)) ≡ length steps = ap length (joined_groups steps) in omega (arith, n))

pub cuts_within : CutsAreWithin
cuts_within steps = ends_within 0 (length steps) (groups steps) (let n : length (joined (groups steps)) ≡ length steps = ap length (joined_groups steps) in omega (arith, n))
