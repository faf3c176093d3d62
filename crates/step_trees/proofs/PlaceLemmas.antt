-- Where a place in the list of steps lies among its groups.
use Rattle.std.proofs.Common.{◌≡◌, ⊎_elim, ℕ, zero, suc, ◌+◌, ◌-◌, ◌<◌, ◌≤◌, nat_lt, nat_le, List, [], ◌∷◌, ◌++◌, length, take, drop, refl, sym, ◌∙◌, ap, subst, arith, length-append, append_assoc}
use Rattle.std.proofs.lemmas.Bool.{cond-true, cond-false, lt-ltb, le-ltb, ltb-true, ltb-false, le-leb, lt-leb, leb-true, leb-false, cases_Bool}
use Rattle.std.proofs.lemmas.List.{take-append-drop, length-take-le, length-drop}
use Rattle.std.proofs.Math.Seq.{take-append_seam, drop-append_seam, take-length}
use Rattle.tree_core.specs.declared.node.Node.{Node}
use Rattle.tree_core.specs.FileTree.{FileTree}
use Rattle.commit_steps.specs.declared.step.Step.{Step}
use Rattle.step_trees.proofs.ChoiceLemmas.{free_rest, free_first, comes_behind, all_done}
use Rattle.step_trees.proofs.CutLemmas.{FreeGroups, free_groups, groups_groups, joined_groups}
use Rattle.step_trees.proofs.GroupLemmas.{Free}
use Rattle.step_trees.proofs.LeadLemmas.{LedFrom, Led, entries_at}
use Rattle.step_trees.specs.Groups.{groups, joined, to_next_cut, whole_behind, from_last_cut, whole_before, ComesBySome, AreGroups}
use Rattle.step_trees.specs.Leads.{start}
use Rattle.step_trees.specs.Steps.{step_done, after}

pub after-append : (f g : List Step) (t : FileTree) → after (f ++ g) t ≡ after g (after f t)
after-append [] g t = refl
after-append (s ∷ f) g t = after-append f g (step_done s t)

take-nil : (n : ℕ) → ◌≡◌ {A = List Step} (take n []) []
take-nil zero = refl
take-nil (suc n) = refl

drop-nil : (n : ℕ) → ◌≡◌ {A = List Step} (drop n []) []
drop-nil zero = refl
drop-nil (suc n) = refl

pub take-add : (k n : ℕ) (xs : List Step) → take (k + n) xs ≡ take k xs ++ take n (drop k xs)
take-add zero n xs = ap (λ m. take m xs) (omega arith)
take-add (suc k) n [] = take-nil (suc k + n) ∙ sym (take-nil n)
take-add (suc k) n (x ∷ xs) =
    let e : suc k + n ≡ suc (k + n) = omega arith in
    ap (λ m. take m (x ∷ xs)) e ∙ ap (λ (l : List Step). x ∷ l) (take-add k n xs)

pub drop-add : (k n : ℕ) (xs : List Step) → drop (k + n) xs ≡ drop n (drop k xs)
drop-add zero n xs = ap (λ m. drop m xs) (omega arith)
drop-add (suc k) n [] = drop-nil (suc k + n) ∙ sym (drop-nil n)
drop-add (suc k) n (x ∷ xs) =
    let e : suc k + n ≡ suc (k + n) = omega arith in
    ap (λ m. drop m (x ∷ xs)) e ∙ drop-add k n xs

pub to_next_cut-in : (m : ℕ) (g : List Step) (gs : List (List Step)) → m < length g → to_next_cut m (g ∷ gs) ≡ drop m g
to_next_cut-in m g gs lt = cond-true (nat_lt m (length g)) (drop m g) (to_next_cut (m - length g) gs) (lt-ltb m (length g) lt)

pub to_next_cut-out : (i : ℕ) (g : List Step) (gs : List (List Step)) → to_next_cut (length g + i) (g ∷ gs) ≡ to_next_cut i gs
to_next_cut-out i g gs =
    let e : length g + i - length g ≡ i = omega arith in
    cond-false (nat_lt (length g + i) (length g)) (drop (length g + i) g) (to_next_cut (length g + i - length g) gs) (le-ltb (length g + i) (length g) (omega arith)) ∙ ap (λ n. to_next_cut n gs) e

pub whole_behind-in : (m : ℕ) (g : List Step) (gs : List (List Step)) → m < length g → whole_behind m (g ∷ gs) ≡ gs
whole_behind-in m g gs lt = cond-true (nat_lt m (length g)) gs (whole_behind (m - length g) gs) (lt-ltb m (length g) lt)

pub whole_behind-out : (i : ℕ) (g : List Step) (gs : List (List Step)) → whole_behind (length g + i) (g ∷ gs) ≡ whole_behind i gs
whole_behind-out i g gs =
    let e : length g + i - length g ≡ i = omega arith in
    cond-false (nat_lt (length g + i) (length g)) gs (whole_behind (length g + i - length g) gs) (le-ltb (length g + i) (length g) (omega arith)) ∙ ap (λ n. whole_behind n gs) e

pub from_last_cut-in : (m : ℕ) (g : List Step) (gs : List (List Step)) → m ≤ length g → from_last_cut m (g ∷ gs) ≡ take m g
from_last_cut-in m g gs le = cond-true (nat_le m (length g)) (take m g) (from_last_cut (m - length g) gs) (le-leb m (length g) le)

pub from_last_cut-out : (i : ℕ) (g : List Step) (gs : List (List Step)) → 0 < i → from_last_cut (length g + i) (g ∷ gs) ≡ from_last_cut i gs
from_last_cut-out i g gs some =
    let e : length g + i - length g ≡ i = omega arith in
    cond-false (nat_le (length g + i) (length g)) (take (length g + i) g) (from_last_cut (length g + i - length g) gs) (lt-leb (length g + i) (length g) (omega arith)) ∙ ap (λ n. from_last_cut n gs) e

pub to_next_cut-end : (gs : List (List Step)) (m : ℕ) → m ≡ length (joined gs) → to_next_cut m gs ≡ []
to_next_cut-end [] m is = refl
to_next_cut-end (g ∷ gs) m is =
    let n = length-append g (joined gs) in
    let m_is : m ≡ length g + length (joined gs) = omega arith in
    ap (λ k. to_next_cut k (g ∷ gs)) m_is ∙ to_next_cut-out (length (joined gs)) g gs ∙ to_next_cut-end gs (length (joined gs)) refl

pub from_last_cut-zero : (gs : List (List Step)) → from_last_cut 0 gs ≡ []
from_last_cut-zero [] = refl
from_last_cut-zero (g ∷ gs) = from_last_cut-in 0 g gs (omega arith)

module _ (steps : List Step) (old new : FileTree) (fresh : List Node) (leads : Led steps old new fresh) where
  abbrev at : ℕ → FileTree
  at k = after (take k steps) (start old fresh)

  -- from place k on these groups come
  pub record Remains (k : ℕ) (gs : List (List Step)) : Type 0 where
    pub places : (i : ℕ) → to_next_cut (k + i) (groups steps) ≡ to_next_cut i gs
    pub wholes : (i : ℕ) → whole_behind (k + i) (groups steps) ≡ whole_behind i gs
    pub places_back : (i : ℕ) → 0 < i → from_last_cut (k + i) (groups steps) ≡ from_last_cut i gs
    pub are : AreGroups gs
    pub free : FreeGroups gs (after (take k steps) (start old fresh))
    pub rest : drop k steps ≡ joined gs
    pub count : k + length (joined gs) ≡ length steps

  pub all_remain : Remains 0 (groups steps)
  all_remain = record {
    places = λ i. ap (λ n. to_next_cut n (groups steps)) (omega arith);
    wholes = λ i. ap (λ n. whole_behind n (groups steps)) (omega arith);
    places_back = λ i some. ap (λ n. from_last_cut n (groups steps)) (omega arith);
    are = groups_groups steps;
    free = free_groups (groups steps) (start old fresh) new (subst (λ l. LedFrom (start old fresh) l new) (sym (joined_groups steps)) leads.from) (groups_groups steps) leads.others;
    rest = sym (joined_groups steps);
    count = let e : length (joined (groups steps)) ≡ length steps = ap length (joined_groups steps) in omega arith;
  }

  -- g is what comes from place m to the next cut
  pub record Stretch (m : ℕ) (g : List Step) : Type 0 where
    pub some : 0 < length g
    pub is : to_next_cut m (groups steps) ≡ g
    pub more : after (take (m + length g) steps) (start old fresh) ≡ after g (after (take m steps) (start old fresh))
    pub within : m + length g ≤ length steps
    pub free : Free g (after (take m steps) (start old fresh))

  at_more : (k : ℕ) (g : List Step) (others : List Step) → drop k steps ≡ g ++ others → at (k + length g) ≡ after g (at k)
  at_more k g others is =
      ap (λ l. after l (start old fresh)) (take-add k (length g) steps ∙ ap (λ l. take k steps ++ l) (ap (take (length g)) is ∙ take-append_seam g others)) ∙ after-append (take k steps) g (start old fresh)

  pub remains_next : (k : ℕ) (g : List Step) (gs : List (List Step)) → Remains k (g ∷ gs) → Remains (k + length g) gs
  remains_next k g gs r = record {
    places = λ i. ap (λ n. to_next_cut n (groups steps)) (omega arith) ∙ r.places (length g + i) ∙ to_next_cut-out i g gs;
    wholes = λ i. ap (λ n. whole_behind n (groups steps)) (omega arith) ∙ r.wholes (length g + i) ∙ whole_behind-out i g gs;
    places_back = λ i some. ap (λ n. from_last_cut n (groups steps)) (omega arith) ∙ r.places_back (length g + i) (omega arith) ∙ from_last_cut-out i g gs some;
    are = (r.are).1;
    free = subst (FreeGroups gs) (sym (at_more k g (joined gs) r.rest)) (r.free).1;
    rest = drop-add k (length g) steps ∙ ap (drop (length g)) r.rest ∙ drop-append_seam g (joined gs);
    count = let e = length-append g (joined gs) in let c = r.count in omega arith;
  }

  -- the group itself
  pub first_stretch : (k : ℕ) (g : List Step) (gs : List (List Step)) → Remains k (g ∷ gs) → Stretch k g
  first_stretch k g gs r = record {
    some = ((r.are).0).0;
    is = ap (λ n. to_next_cut n (groups steps)) (omega arith) ∙ r.places 0 ∙ to_next_cut-in 0 g gs ((r.are).0).0;
    more = at_more k g (joined gs) r.rest;
    within = let e = length-append g (joined gs) in let c = r.count in omega arith;
    free = (r.free).0;
  }

  -- g is what comes from the last cut, k, to a place behind it
  pub record Back (k : ℕ) (g : List Step) : Type 0 where
    pub some : 0 < length g
    pub is : from_last_cut (k + length g) (groups steps) ≡ g
    pub more : after (take (k + length g) steps) (start old fresh) ≡ after g (after (take k steps) (start old fresh))
    pub within : k + length g ≤ length steps
    pub free : Free g (after (take k steps) (start old fresh))

  first_back : (k : ℕ) (g : List Step) (gs : List (List Step)) → Remains k (g ∷ gs) → Back k g
  first_back k g gs r =
      let h = first_stretch k g gs r in
      record { some = h.some; is = r.places_back (length g) h.some ∙ from_last_cut-in (length g) g gs (omega arith) ∙ take-length g; more = h.more; within = h.within; free = h.free }

  -- from place k on these whole groups come
  abbrev pub AllBack : ℕ → List (List Step) → Type 0
  AllBack k [] = Unit {0}
  AllBack k (g ∷ gs) = Back k g × AllBack (k + length g) gs

  -- Place m, which isn't the first: what comes before it from the last cut on, and the groups before that.
  pub record Found (gs : List (List Step)) (k m : ℕ) : Type 0 where
    pub front : List (List Step)
    pub fronts : AllBack k front
    pub cut : ℕ
    pub cut_is : cut ≡ k + length (joined front)
    pub g : List Step
    pub m_is : m ≡ cut + length g
    pub front_is : front ≡ whole_before (cut - k) gs
    pub back : Back cut g

  part_back : (k i : ℕ) (g : List Step) (gs : List (List Step)) → Remains k (g ∷ gs) → 0 < i → i ≤ length g → Back k (take i g)
  part_back k i g gs r some le =
      let len : length (take i g) ≡ i = length-take-le i g le in
      let split : g ≡ take i g ++ drop i g = sym (take-append-drop i g) in
      record {
        some = omega arith;
        is = ap (λ n. from_last_cut (k + n) (groups steps)) len ∙ r.places_back i some ∙ from_last_cut-in i g gs le;
        more = at_more k (take i g) (drop i g ++ joined gs) (r.rest ∙ ap (λ l. l ++ joined gs) split ∙ append_assoc (take i g) (drop i g) (joined gs));
        within = let e = length-append g (joined gs) in let c = r.count in omega arith;
        free = free_first (take i g) (drop i g) (at k) (subst (λ l. Free l (at k)) split (r.free).0);
      }

  find_back : (gs : List (List Step)) (k i : ℕ) → Remains k gs → 0 < i → i ≤ length (joined gs) → Found gs k (k + i)
  find_back [] k i r some le = absurd (omega arith)
  find_back (g ∷ gs) k i r some le =
      let e = length-append g (joined gs) in
      ⊎_elim
      (λ short.
      let within : i ≤ length g = leb-true i (length g) short in
      let len : length (take i g) ≡ i = length-take-le i g within in
      record {
        front = [];
        fronts = tt;
        cut = k;
        cut_is = omega arith;
        g = take i g;
        m_is = omega arith;
        back = part_back k i g gs r some within;
        front_is = let zero_is : k - k ≡ 0 = omega arith in sym (ap (λ n. whole_before n (g ∷ gs)) zero_is ∙ cond-false (nat_le (length g) 0) (g ∷ whole_before (0 - length g) gs) [] (lt-leb (length g) 0 ((r.are).0).0));
      })
      (λ long.
      let past : length g < i = leb-false i (length g) long in
      let more = find_back gs (k + length g) (i - length g) (remains_next k g gs r) (omega arith) (omega arith) in
      let c = more.cut_is in
      let m = more.m_is in
      let past_cut : length g ≤ more.cut - k = omega arith in
      let minus : more.cut - k - length g ≡ more.cut - (k + length g) = omega arith in
      record {
        front_is = ap (λ l. g ∷ l) (more.front_is ∙ ap (λ n. whole_before n gs) (sym minus)) ∙ sym (cond-true (nat_le (length g) (more.cut - k)) (g ∷ whole_before (more.cut - k - length g) gs) [] (le-leb (length g) (more.cut - k) past_cut));
        front = g ∷ more.front;
        fronts = (first_back k g gs r, more.fronts);
        cut = more.cut;
        cut_is = (let n = length-append g (joined more.front) in omega arith);
        g = more.g;
        m_is = omega arith;
        back = more.back;
      })
      (cases_Bool (nat_le i (length g)))

  -- what is left of it behind i of its steps
  pub record Inside (m : ℕ) : Type 0 where
    pub g : List Step
    pub gs : List (List Step)
    pub stretch : Stretch m g
    pub rest : Remains (m + length g) gs
    pub behind_is : whole_behind m (groups steps) ≡ gs
    -- the whole group, from the last cut at or before m
    pub from : ℕ
    pub whole : List Step
    pub back : Back from whole
    pub next : m + length g ≡ from + length whole
    pub widen : (u : FileTree) → ComesBySome g (after (take m steps) (start old fresh)) u → ComesBySome whole (after (take from steps) (start old fresh)) u

  inside : (k i : ℕ) (g : List Step) (gs : List (List Step)) → Remains k (g ∷ gs) → i < length g → Inside (k + i)
  inside k i g gs r lt =
      let len : length (drop i g) ≡ length g - i = length-drop i g in
      let first : length (take i g) ≡ i = length-take-le i g (omega arith) in
      let split : g ≡ take i g ++ drop i g = sym (take-append-drop i g) in
      let base : at (k + i) ≡ after (take i g) (at k) =
      ap (λ l. after l (start old fresh)) (take-add k i steps ∙ ap (λ l. take k steps ++ l) (ap (take i) r.rest ∙ take-first i g (joined gs) lt)) ∙ after-append (take k steps) (take i g) (start old fresh) in
      let dropped : drop (k + i) steps ≡ drop i g ++ joined gs = drop-add k i steps ∙ ap (drop i) r.rest ∙ drop-first i g (joined gs) lt in
      let next : k + i + length (drop i g) ≡ k + length g = omega arith in
      record {
        g = drop i g;
        gs = gs;
        stretch = record {
          some = omega arith;
          is = r.places i ∙ to_next_cut-in i g gs lt;
          more = at_more (k + i) (drop i g) (joined gs) dropped;
          within = let e = length-append g (joined gs) in let c = r.count in omega arith;
          free = subst (Free (drop i g)) (sym base) (free_rest (take i g) (drop i g) (at k) (entries_at steps old new fresh leads k).tree (subst (λ l. Free l (at k)) split (r.free).0));
        };
        rest = subst (λ n. Remains n gs) (sym next) (remains_next k g gs r);
        behind_is = r.wholes i ∙ whole_behind-in i g gs lt;
        from = k;
        whole = g;
        back = first_back k g gs r;
        next = next;
        widen = λ u comes. subst (λ l. ComesBySome l (at k) u) (sym split) (comes_behind (take i g) (drop i g) (at k) u (subst (λ b. ComesBySome (drop i g) b u) base comes));
      }
    where
      take-first : (i : ℕ) (g j : List Step) → i < length g → take i (g ++ j) ≡ take i g
      take-first zero g j lt = refl
      take-first (suc i) [] j lt = absurd (omega arith)
      take-first (suc i) (x ∷ g) j lt = ap (λ (l : List Step). x ∷ l) (take-first i g j (omega arith))

      drop-first : (i : ℕ) (g j : List Step) → i < length g → drop i (g ++ j) ≡ drop i g ++ j
      drop-first zero g j lt = refl
      drop-first (suc i) [] j lt = absurd (omega arith)
      drop-first (suc i) (x ∷ g) j lt = drop-first i g j (omega arith)

  find : (gs : List (List Step)) (k i : ℕ) → Remains k gs → i < length (joined gs) → Inside (k + i)
  find [] k i r lt = absurd (omega arith)
  find (g ∷ gs) k i r lt =
      let e = length-append g (joined gs) in
      ⊎_elim
      (λ short. inside k i g gs r (ltb-true i (length g) short))
      (λ long.
      let le : length g ≤ i = ltb-false i (length g) long in
      let is : k + length g + (i - length g) ≡ k + i = omega arith in
      subst Inside is (find gs (k + length g) (i - length g) (remains_next k g gs r) (omega arith)))
      (cases_Bool (nat_lt i (length g)))

  -- each place but the end lies in a group
  pub inside_at : (m : ℕ) → m < length steps → Inside m
  inside_at m lt =
      let e : length (joined (groups steps)) ≡ length steps = ap length (joined_groups steps) in
      let is : 0 + m ≡ m = omega arith in
      subst Inside is (find (groups steps) 0 m all_remain (omega arith))

  pub found_at : (m : ℕ) → 0 < m → m ≤ length steps → Found (groups steps) 0 m
  found_at m some le =
      let e : length (joined (groups steps)) ≡ length steps = ap length (joined_groups steps) in
      let is : 0 + m ≡ m = omega arith in
      subst (Found (groups steps) 0) is (find_back (groups steps) 0 m all_remain some (omega arith))

  -- the same, where the last cut is known
  pub record Cut (k m : ℕ) : Type 0 where
    pub back : Back k (from_last_cut m (groups steps))
    pub fronts : AllBack 0 (whole_before k (groups steps))
    pub count : k ≡ 0 + length (joined (whole_before k (groups steps)))

  pub cut_at : (k m : ℕ) → 0 < m → m ≤ length steps → m ≡ k + length (from_last_cut m (groups steps)) → Cut k m
  cut_at k m some le is =
      let f = found_at m some le in
      let g_is : from_last_cut m (groups steps) ≡ f.g = ap (λ n. from_last_cut n (groups steps)) f.m_is ∙ f.back.is in
      let m_is = f.m_is in
      let same : length (from_last_cut m (groups steps)) ≡ length f.g = ap length g_is in
      let k_is : f.cut ≡ k = omega arith in
      let zero_is : f.cut - 0 ≡ k = omega arith in
      let front_is : f.front ≡ whole_before k (groups steps) = f.front_is ∙ ap (λ n. whole_before n (groups steps)) zero_is in
      record {
        back = subst (λ n. Back n (from_last_cut m (groups steps))) k_is (subst (Back f.cut) (sym g_is) f.back);
        fronts = subst (AllBack 0) front_is f.fronts;
        count = sym k_is ∙ f.cut_is ∙ ap (λ (l : List (List Step)). 0 + length (joined l)) front_is;
      }

  -- all that comes before place m, from the last cut on, is done there
  pub record CutOf (m : ℕ) : Type 0 where
    pub k : ℕ
    pub cut : m ≡ k + length (from_last_cut m (groups steps))
    pub all : ComesBySome (from_last_cut m (groups steps)) (after (take k steps) (start old fresh)) (after (take m steps) (start old fresh))

  pub cut_of : (m : ℕ) → m ≤ length steps → CutOf m
  cut_of zero le =
      let is : from_last_cut 0 (groups steps) ≡ [] = from_last_cut-zero (groups steps) in
      let none : length (from_last_cut 0 (groups steps)) ≡ 0 = ap length is in
      record { k = 0; cut = omega arith; all = subst (λ l. ComesBySome l (at 0) (at 0)) (sym is) refl }
  cut_of (suc m) le =
      let f = found_at (suc m) (omega arith) le in
      let g_is : from_last_cut (suc m) (groups steps) ≡ f.g = ap (λ n. from_last_cut n (groups steps)) f.m_is ∙ f.back.is in
      let same : length (from_last_cut (suc m) (groups steps)) ≡ length f.g = ap length g_is in
      let m_is = f.m_is in
      record {
        k = f.cut;
        cut = omega arith;
        all = subst (λ l. ComesBySome l (at f.cut) (at (suc m))) (sym g_is) (subst (ComesBySome f.g (at f.cut)) (ap at (sym f.m_is)) (subst (ComesBySome f.g (at f.cut)) (sym f.back.more) (all_done f.g (at f.cut))));
      }

  pub end_behind : to_next_cut (length steps) (groups steps) ≡ []
  end_behind = to_next_cut-end (groups steps) (length steps) (sym (ap length (joined_groups steps)))
