-- The groups of a list, by where they end.
use Rattle.std.proofs.Common.{◌≡◌, ℕ, zero, suc, ◌+◌, ◌-◌, ◌<◌, ◌≤◌, List, [], ◌∷◌, ◌++◌, length, take, drop, get_or, refl, sym, ◌∙◌, ap, subst, arith, length-append, append_assoc}
use Rattle.std.proofs.lemmas.List.{drop_more, take_more, get_or_default, get_or-map, drop_all, take-append-drop, append-nil}
use Rattle.std.proofs.Math.Seq.{take-append_seam, drop-append_seam}
use Rattle.dired_text.specs.Paths.{Names}
use Rattle.tree_core.specs.declared.node.Change.{Change}
use Rattle.tree_core.specs.declared.node.CallName.{CallName}
use Rattle.tree_core.specs.FileTree.{FileTree}
use Rattle.tree_core.specs.History.{History}
use Rattle.tree_core.specs.Runs.{then_all, CanAll, FailedIn}
use Rattle.tree_core.proofs.Runs.{then_all-append, can_first, can_rest, failed_first, failed_rest}
use Rattle.commit_steps.specs.declared.step.Step.{Step}
use Rattle.commit_steps.specs.Staging.{staged, at_marker}
use Rattle.step_trees.specs.Groups.{groups, joined}
use Rattle.step_trees.proofs.CutLemmas.{joined_groups}
use Rattle.step_trees.proofs.PlaceLemmas.{drop-add}
use Rattle.commit_states.specs.Calls.{calls_from, group_calls, marked_calls}
use Rattle.commit_calls.specs.declared.group.Stopped.{Stopped}
use Rattle.commit_calls.specs.Cuts.{StoppedIn, cut_at, group_at}
use Rattle.step_cuts.specs.Cuts.{ends_of}
use Rattle.commit_calls.specs.Paths.{at_marker_paths}

-- k groups are behind, and the next one begins at `from`
pub record Here (steps : List Step) (ends : List ℕ) (k from : ℕ) : Type 0 where
  pub ends_are : drop k ends ≡ ends_of from (drop k (groups steps))
  pub rest : drop from steps ≡ joined (drop k (groups steps))
  pub count : from + length (joined (drop k (groups steps))) ≡ length steps
  pub at : from ≡ cut_at k (groups steps)
  pub cut : from ≡ get_or (0 ∷ ends) k 0

pub here_first : (steps : List Step) (ends : List ℕ) → ends ≡ ends_of 0 (groups steps) → Here steps ends 0 0
here_first steps ends is = record {
  ends_are = is;
  rest = sym (joined_groups steps);
  count = let e : length (joined (groups steps)) ≡ length steps = ap length (joined_groups steps) in omega arith;
  at = refl;
  cut = refl;
}

-- the group from there
pub record Group (steps : List Step) (ends : List ℕ) (k from end : ℕ) : Type 0 where
  pub g : List Step
  pub is : drop k (groups steps) ≡ g ∷ drop (k + 1) (groups steps)
  pub number : k < length (groups steps)
  pub item : group_at k (groups steps) ≡ g
  pub end_is : end ≡ from + length g
  pub within : end ≤ length steps
  pub slice : take (end - from) (drop from steps) ≡ g
  pub next : Here steps ends (k + 1) end

drop-one : {X : Type 0} (k : ℕ) (xs : List X) (x : X) (more : List X) → drop k xs ≡ x ∷ more → drop (k + 1) xs ≡ more
drop-one zero [] x more is = cc
drop-one zero (y ∷ xs) x more is = cc
drop-one (suc k) [] x more is = cc
drop-one (suc k) (y ∷ xs) x more is = let e : suc k + 1 ≡ suc (k + 1) = omega arith in ap (λ n. drop n (y ∷ xs)) e ∙ drop-one k xs x more is

drop-has : {X : Type 0} (k : ℕ) (xs : List X) (x : X) (more : List X) → drop k xs ≡ x ∷ more → k < length xs
drop-has zero [] x more is = cc
drop-has zero (y ∷ xs) x more is = omega arith
drop-has (suc k) [] x more is = cc
drop-has (suc k) (y ∷ xs) x more is = let n = drop-has k xs x more is in omega arith

drop-head : {X : Type 0} (k : ℕ) (xs : List X) (x d : X) (more : List X) → drop k xs ≡ x ∷ more → get_or xs k d ≡ x
drop-head zero [] x d more is = cc
drop-head zero (y ∷ xs) x d more is = cc
drop-head (suc k) [] x d more is = cc
drop-head (suc k) (y ∷ xs) x d more is = drop-head k xs x d more is

joined-append : (xs ys : List (List Step)) → joined (xs ++ ys) ≡ joined xs ++ joined ys
joined-append [] ys = refl
joined-append (x ∷ xs) ys = ap (λ l. x ++ l) (joined-append xs ys) ∙ sym (append_assoc x (joined xs) (joined ys))

pub cut_at-more : (gs : List (List Step)) (k : ℕ) (g : List Step) → k < length gs → group_at k gs ≡ g → cut_at (k + 1) gs ≡ cut_at k gs + length g
cut_at-more gs k g lt is =
    let e : joined (take (k + 1) gs) ≡ joined (take k gs) ++ (group_at k gs ++ []) = ap joined (take_more gs k [] lt) ∙ joined-append (take k gs) (group_at k gs ∷ []) in
    let n : length (joined (take (k + 1) gs)) ≡ length (joined (take k gs) ++ (group_at k gs ++ [])) = ap length e in
    let a = length-append (joined (take k gs)) (group_at k gs ++ []) in
    let b : length (group_at k gs ++ []) ≡ length g = ap length (append-nil (group_at k gs) ∙ is) in
    omega arith

pub group_here : (steps : List Step) (ends : List ℕ) (k from end : ℕ) → k < length ends → end ≡ get_or ends k end → Here steps ends k from → Group steps ends k from end
group_here steps ends k from end lt is h = by_groups (drop k (groups steps)) refl
  where
    first : end ∷ drop (k + 1) ends ≡ ends_of from (drop k (groups steps))
    first = ap (λ x. x ∷ drop (k + 1) ends) is ∙ sym (drop_more ends k end lt) ∙ h.ends_are

    by_groups : (gs : List (List Step)) → drop k (groups steps) ≡ gs → Group steps ends k from end
    by_groups [] e = let no : end ∷ drop (k + 1) ends ≡ ends_of from [] = first ∙ ap (ends_of from) e in cc
    by_groups (g ∷ gs) e =
        let both : end ∷ drop (k + 1) ends ≡ (from + length g) ∷ ends_of (from + length g) gs = first ∙ ap (ends_of from) e in
        let end_is : end ≡ from + length g = cc in
        let more : drop (k + 1) ends ≡ ends_of (from + length g) gs = cc in
        let others : drop (k + 1) (groups steps) ≡ gs = drop-one k (groups steps) g gs e in
        let rest : drop from steps ≡ g ++ joined gs = h.rest ∙ ap joined e in
        let n = length-append g (joined gs) in
        let all : length (joined (drop k (groups steps))) ≡ length (g ++ joined gs) = ap (λ (l : List (List Step)). length (joined l)) e in
        let count = h.count in
        let size : end - from ≡ length g = omega arith in
        let number : k < length (groups steps) = drop-has k (groups steps) g gs e in
        let item : group_at k (groups steps) ≡ g = drop-head k (groups steps) g [] gs e in
        record {
          g = g;
          is = e ∙ ap (λ l. g ∷ l) (sym others);
          number = number;
          item = item;
          end_is = end_is;
          within = omega arith;
          slice = ap (λ m. take m (drop from steps)) size ∙ ap (take (length g)) rest ∙ take-append_seam g (joined gs);
          next = record {
            ends_are = more ∙ ap (λ m. ends_of m gs) (sym end_is) ∙ ap (ends_of end) (sym others);
            rest = ap (λ m. drop m steps) end_is ∙ drop-add from (length g) steps ∙ ap (drop (length g)) rest ∙ drop-append_seam g (joined gs) ∙ ap joined (sym others);
            count = let left : length (joined (drop (k + 1) (groups steps))) ≡ length (joined gs) = ap (λ (l : List (List Step)). length (joined l)) others in omega arith;
            at = end_is ∙ ap (λ n. n + length g) h.at ∙ sym (cut_at-more (groups steps) k g number item);
            cut = is ∙ get_or_default ends k end 0 lt ∙ let e : k + 1 ≡ suc k = omega arith in ap (λ n. get_or (0 ∷ ends) n 0) (sym e);
          };
        }

-- the path of a marker, by its number
pub marker_at : (cuts : List ℕ) (markers : List Names) (k cut : ℕ) (p : Names) → markers ≡ at_marker_paths cuts → k < length cuts → k < length markers → p ≡ get_or markers k p → cut ≡ get_or cuts k 0 → p ≡ staged (at_marker cut)
marker_at cuts markers k cut p are lt within is at =
    is ∙ get_or_default markers k p [] within ∙ ap (λ (l : List Names). get_or l k []) are ∙ get_or-map (λ n. staged (at_marker n)) cuts k 0 [] lt ∙ ap (λ n. staged (at_marker n)) (sym at)

-- ---- the calls of the groups

calls_append : (p : ℕ) (xs ys : List (List Step)) → calls_from p (xs ++ ys) ≡ calls_from p xs ++ calls_from (p + length (joined xs)) ys
calls_append p [] ys = let e : p ≡ p + 0 = omega arith in ap (λ n. calls_from n ys) e
calls_append p (x ∷ xs) ys =
    let n = length-append x (joined xs) in
    let e : (p + length x) + length (joined xs) ≡ p + length (x ++ joined xs) = omega arith in
    ap (λ l. group_calls p x ++ l) (calls_append (p + length x) xs ys)
    ∙ sym (append_assoc (group_calls p x) (calls_from (p + length x) xs) (calls_from ((p + length x) + length (joined xs)) ys))
    ∙ ap (λ m. (group_calls p x ++ calls_from (p + length x) xs) ++ calls_from m ys) e

-- The first k groups were done, and these are the calls of the next one.
module _ (gs : List (List Step)) (k : ℕ) (lt : k < length gs) (began now : History) (done : now ≡ then_all began (calls_from 0 (take k gs))) (cs : List Change) (are : cs ≡ group_calls (cut_at k gs) (group_at k gs)) where
  front : calls_from 0 (take (k + 1) gs) ≡ calls_from 0 (take k gs) ++ cs
  front =
      ap (calls_from 0) (take_more gs k [] lt) ∙ calls_append 0 (take k gs) (group_at k gs ∷ [])
      ∙ ap (λ n. calls_from 0 (take k gs) ++ calls_from n (group_at k gs ∷ [])) (let e : 0 + cut_at k gs ≡ cut_at k gs = omega arith in e)
      ∙ ap (λ l. calls_from 0 (take k gs) ++ l) (append-nil (group_calls (cut_at k gs) (group_at k gs)) ∙ sym are)

  abbrev behind : List Change
  behind = calls_from (0 + length (joined (take (k + 1) gs))) (drop (k + 1) gs)

  whole : calls_from 0 gs ≡ calls_from 0 (take k gs) ++ (cs ++ behind)
  whole =
      ap (calls_from 0) (sym (take-append-drop (k + 1) gs)) ∙ calls_append 0 (take (k + 1) gs) (drop (k + 1) gs)
      ∙ ap (λ l. l ++ behind) front ∙ append_assoc (calls_from 0 (take k gs)) cs behind

  pub group_can : CanAll (calls_from 0 gs) began → CanAll cs now
  group_can can = subst (CanAll cs) (sym done)
      (can_first (then_all began (calls_from 0 (take k gs))) cs behind
      (can_rest began (calls_from 0 (take k gs)) (cs ++ behind) (subst (λ (l : List Change). CanAll l began) whole can)))

  pub group_done : (new : History) → new ≡ then_all now cs → new ≡ then_all began (calls_from 0 (take (k + 1) gs))
  group_done new is =
      is ∙ ap (λ (h : History). then_all h cs) done ∙ sym (then_all-append began (calls_from 0 (take k gs)) cs)
      ∙ ap (then_all began) (sym front)

  pub group_failed : (new : History) (before : FileTree) (first : CallName) → FailedIn cs now new before first
      → FailedIn (group_calls (cut_at k gs) (group_at k gs)) (then_all began (calls_from 0 (take k gs))) new before first
  group_failed new before first failed =
      subst (λ (l : List Change). FailedIn l (then_all began (calls_from 0 (take k gs))) new before first) are
      (subst (λ (h : History). FailedIn cs h new before first) done failed)

-- a call of the whole list failed, where one of a group did
pub stopped_among : (gs : List (List Step)) (s : Stopped) (old new : History) (before : FileTree) → s.group < length gs → StoppedIn gs s old new before → FailedIn (calls_from 0 gs) old new before s.first
stopped_among gs s old new before lt failed =
    subst (λ (l : List Change). FailedIn l old new before s.first)
    (sym (whole gs s.group lt old (then_all old (calls_from 0 (take s.group gs))) refl (group_calls (cut_at s.group gs) (group_at s.group gs)) refl))
    (failed_rest (calls_from 0 (take s.group gs)) (group_calls (cut_at s.group gs) (group_at s.group gs) ++ calls_from (0 + length (joined (take (s.group + 1) gs))) (drop (s.group + 1) gs)) old new before s.first
    (failed_first (group_calls (cut_at s.group gs) (group_at s.group gs)) (calls_from (0 + length (joined (take (s.group + 1) gs))) (drop (s.group + 1) gs)) (then_all old (calls_from 0 (take s.group gs))) new before s.first failed))

-- the calls of a group, as the code makes them
pub calls_here : (steps : List Step) (ends : List ℕ) (k from end : ℕ) (marker next : Names) → Here steps ends k from → Group steps ends k from end → marker ≡ staged (at_marker from) → next ≡ staged (at_marker end)
    → marked_calls (take (end - from) (drop from steps)) marker next ≡ group_calls (cut_at k (groups steps)) (group_at k (groups steps))
calls_here steps ends k from end marker next h x m n =
    ap (λ g. marked_calls g marker next) (x.slice ∙ sym x.item)
    ∙ ap (λ p. marked_calls (group_at k (groups steps)) p next) (m ∙ ap (λ p. staged (at_marker p)) h.at)
    ∙ ap (λ p. marked_calls (group_at k (groups steps)) (staged (at_marker (cut_at k (groups steps)))) p)
    (n ∙ ap (λ p. staged (at_marker p)) (x.end_is ∙ ap (λ p. p + length x.g) h.at ∙ ap (λ g. cut_at k (groups steps) + length g) (sym x.item)))

-- at the end all were done
pub all_taken : (steps : List Step) (ends : List ℕ) (k from : ℕ) → length ends ≤ k → Here steps ends k from → take k (groups steps) ≡ groups steps
all_taken steps ends k from le h = by_groups (drop k (groups steps)) refl
  where
    by_groups : (gs : List (List Step)) → drop k (groups steps) ≡ gs → take k (groups steps) ≡ groups steps
    by_groups [] e = sym (append-nil (take k (groups steps))) ∙ ap (λ l. take k (groups steps) ++ l) (sym e) ∙ take-append-drop k (groups steps)
    by_groups (g ∷ gs) e = let no : [] ≡ (from + length g) ∷ ends_of (from + length g) gs = sym (drop_all k ends le) ∙ h.ends_are ∙ ap (ends_of from) e in cc
