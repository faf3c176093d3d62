-- The places of a way, and the steps between them.
use Rattle.std.proofs.Common.{◌≡◌, ℕ, zero, suc, ◌+◌, ◌-◌, ◌≤◌, ◌<◌, List, [], ◌∷◌, ◌++◌, length, take, drop, map, get_or, refl, sym, ◌∙◌, ap, arith, length-append, append_assoc}
use Rattle.std.proofs.lemmas.List.{get_or-map, take-map}
use Rattle.std.proofs.Math.Seq.{take-append_seam, drop-append_seam}
use Rattle.commit_calls.specs.Cuts.{group_at}
use Rattle.commit_calls.specs.Paths.{at_marker_paths, back_marker_paths}
use Rattle.commit_calls.proofs.EndLemmas.{cut_at-more}
use Rattle.commit_steps.specs.declared.step.Step.{Step}
use Rattle.commit_steps.specs.Staging.{staged, at_marker, back_marker}
use Rattle.dired_text.specs.Paths.{Names}
use Rattle.recovery_calls.specs.Works.{place_of}
use Rattle.step_cuts.specs.Cuts.{ends_of}
use Rattle.step_looks.specs.declared.parent_paths.Parents.{Parents}
use Rattle.step_looks.specs.Looks.{AreParents, parents_of}
use Rattle.step_trees.specs.Groups.{joined}
use Rattle.step_trees.proofs.PlaceLemmas.{drop-add}

length-ends_of : (k : ℕ) (gs : List (List Step)) → length (ends_of k gs) ≡ length gs
length-ends_of k [] = refl
length-ends_of k (g ∷ gs) = let e = length-ends_of (k + length g) gs in omega arith

pub place_more : (k : ℕ) (gs : List (List Step)) (i : ℕ) → i < length gs → place_of k gs (i + 1) ≡ place_of k gs i + length (group_at i gs)
place_more k gs i lt = let e = cut_at-more gs i (group_at i gs) lt refl in omega arith

-- the place of the first part, and of that behind it
place_zero : (k : ℕ) (gs : List (List Step)) → place_of k gs 0 ≡ k
place_zero k gs = omega arith

place_suc : (k : ℕ) (g : List Step) (gs : List (List Step)) (i : ℕ) → place_of k (g ∷ gs) (suc i) ≡ place_of (k + length g) gs i
place_suc k g gs i = let e = length-append g (joined (take i gs)) in omega arith

pub place_is : (k : ℕ) (gs : List (List Step)) (i : ℕ) → i ≤ length gs → get_or (k ∷ ends_of k gs) i 0 ≡ place_of k gs i
place_is k gs zero le = sym (place_zero k gs)
place_is k [] (suc i) le = absurd (omega arith)
place_is k (g ∷ gs) (suc i) le = place_is (k + length g) gs i (omega arith) ∙ sym (place_suc k g gs i)

-- the end of all
pub place_last : (k : ℕ) (gs : List (List Step)) → place_of k gs (length gs) ≡ k + length (joined gs)
place_last k [] = refl
place_last k (g ∷ gs) = place_suc k g gs (length gs) ∙ place_last (k + length g) gs ∙ (let e = length-append g (joined gs) in omega arith)

pub place_within : (k : ℕ) (gs : List (List Step)) (i : ℕ) → place_of k gs i ≤ k + length (joined gs)
place_within k gs zero = omega arith
place_within k [] (suc i) = omega arith
place_within k (g ∷ gs) (suc i) =
    let one = place_suc k g gs i in
    let two = place_within (k + length g) gs i in
    let e = length-append g (joined gs) in
    omega arith

-- the steps from place k on are those of the parts, and what comes behind
pub part_is : (steps : List Step) (k : ℕ) (gs : List (List Step)) (behind : List Step) (i : ℕ) → drop k steps ≡ joined gs ++ behind → i < length gs
    → take (length (group_at i gs)) (drop (place_of k gs i) steps) ≡ group_at i gs
part_is steps k [] behind i is lt = absurd (omega arith)
part_is steps k (g ∷ gs) behind zero is lt =
    ap (λ n. take (length g) (drop n steps)) (place_zero k (g ∷ gs))
    ∙ ap (take (length g)) (is ∙ append_assoc g (joined gs) behind)
    ∙ take-append_seam g (joined gs ++ behind)
part_is steps k (g ∷ gs) behind (suc i) is lt =
    let rest : drop (k + length g) steps ≡ joined gs ++ behind = drop-add k (length g) steps ∙ ap (drop (length g)) (is ∙ append_assoc g (joined gs) behind) ∙ drop-append_seam g (joined gs ++ behind) in
    ap (λ n. take (length (group_at i gs)) (drop n steps)) (place_suc k g gs i)
    ∙ part_is steps (k + length g) gs behind i rest (omega arith)

-- ---- the slices that code takes

drop-map : {X Y : Type 0} (f : X → Y) (n : ℕ) (xs : List X) → drop n (map f xs) ≡ map f (drop n xs)
drop-map f zero xs = refl
drop-map f (suc n) [] = refl
drop-map f (suc n) (x ∷ xs) = drop-map f n xs

pub slice_parents : (steps : List Step) (parents : List Parents) (count from : ℕ) (part : List Step) → AreParents steps parents → take count (drop from steps) ≡ part
    → AreParents part (take count (drop from parents))
slice_parents steps parents count from part are is =
    ap (λ (l : List Parents). take count (drop from l)) are
    ∙ ap (take count) (drop-map parents_of from steps)
    ∙ take-map parents_of count (drop from steps)
    ∙ ap (map parents_of) is

module _ (steps : List Step) (k : ℕ) (gs : List (List Step)) (behind : List Step) (is : drop k steps ≡ joined gs ++ behind) (i : ℕ) (lt : i < length gs) where
  -- between two places that lie one behind the other
  pub slice_steps : (from end : ℕ) → from ≡ place_of k gs i → end ≡ place_of k gs (i + 1) → take (end - from) (drop from steps) ≡ group_at i gs
  slice_steps from end from_is end_is =
      let more = place_more k gs i lt in
      let count : end - from ≡ length (group_at i gs) = omega arith in
      ap (λ n. take n (drop from steps)) count ∙ ap (λ n. take (length (group_at i gs)) (drop n steps)) from_is ∙ part_is steps k gs behind i is lt

-- ---- the paths of the markers

pub at_path : (places : List ℕ) (markers : List Names) (i place : ℕ) → markers ≡ at_marker_paths places → i < length places → get_or places i 0 ≡ place → get_or markers i [] ≡ staged (at_marker place)
at_path places markers i place are lt is =
    ap (λ (l : List Names). get_or l i []) are ∙ get_or-map (λ n. staged (at_marker n)) places i 0 [] lt ∙ ap (λ n. staged (at_marker n)) is

pub back_path : (places : List ℕ) (markers : List Names) (i place : ℕ) → markers ≡ back_marker_paths places → i < length places → get_or places i 0 ≡ place → get_or markers i [] ≡ staged (back_marker place)
back_path places markers i place are lt is =
    ap (λ (l : List Names). get_or l i []) are ∙ get_or-map (λ n. staged (back_marker n)) places i 0 [] lt ∙ ap (λ n. staged (back_marker n)) is

pub places_many : (places : List ℕ) (k : ℕ) (first : ℕ) (gs : List (List Step)) → places ≡ first ∷ ends_of k gs → length places ≡ suc (length gs)
places_many places k first gs is = ap length is ∙ ap suc (length-ends_of k gs)

-- the last path is the only one
pub last_one : (ps rest : List Names) (p q : Names) → ps ≡ q ∷ [] → ps ≡ rest ++ p ∷ [] → p ≡ q
last_one ps [] p q one split = let e : q ∷ [] ≡ p ∷ [] = sym one ∙ split in cc
last_one ps (x ∷ []) p q one split = let e : q ∷ [] ≡ x ∷ p ∷ [] = sym one ∙ split in cc
last_one ps (x ∷ y ∷ rest) p q one split = let e : q ∷ [] ≡ x ∷ y ∷ (rest ++ p ∷ []) = sym one ∙ split in cc
