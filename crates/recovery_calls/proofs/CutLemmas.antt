-- The parts behind a place and before it, as the ends of groups tell them.
use Rattle.std.proofs.Common.{◌≡◌, ⊎_elim, ℕ, zero, suc, ◌+◌, ◌-◌, ◌≤◌, ◌<◌, ◌==◌, true, false, nat_lt, nat_le, List, [], ◌∷◌, ◌++◌, length, take, drop, get_or, refl, sym, ◌∙◌, ap, subst, arith, length-append, if◌then◌else◌}
use Rattle.std.proofs.lemmas.Bool.{cases_Bool, cond-true, cond-false, eqb-true, le-leb, le-ltb, lt-leb, lt-ltb, ltb-true, ltb-false, leb-true, leb-false}
use Rattle.std.proofs.lemmas.Bool.Decides.{nat_tests}
use Rattle.std.proofs.lemmas.List.{append-nil, drop_all, length-drop, length-take-le}
use Rattle.std.specs.List.{filter}
use Rattle.commit_calls.specs.Cuts.{group_at}
use Rattle.commit_steps.specs.declared.step.Step.{Step}
use Rattle.recovery_calls.specs.Works.{parts_before}
use Rattle.recovery_courses.specs.Parts.{parts_behind}
use Rattle.step_cuts.specs.Cuts.{ends_of}
use Rattle.step_trees.specs.Groups.{AreGroups, from_last_cut, groups, joined, to_next_cut, whole_before, whole_behind}
use Rattle.step_trees.proofs.CutLemmas.{groups_groups, joined_groups}
use Rattle.step_trees.proofs.PlaceLemmas.{to_next_cut-end}

-- ---- behind a place

-- the parts from place m on, of these groups
abbrev behind_in : ℕ → List (List Step) → List (List Step)
behind_in m gs = to_next_cut m gs ∷ whole_behind m gs

behind_first : (m : ℕ) (g : List Step) (gs : List (List Step)) → nat_lt m (length g) ≡ true → behind_in m (g ∷ gs) ≡ drop m g ∷ gs
behind_first m g gs is =
    ap (λ (x : List Step). x ∷ whole_behind m (g ∷ gs)) (cond-true (nat_lt m (length g)) (drop m g) (to_next_cut (m - length g) gs) is)
    ∙ ap (λ (xs : List (List Step)). drop m g ∷ xs) (cond-true (nat_lt m (length g)) gs (whole_behind (m - length g) gs) is)

behind_next : (m : ℕ) (g : List Step) (gs : List (List Step)) → nat_lt m (length g) ≡ false → behind_in m (g ∷ gs) ≡ behind_in (m - length g) gs
behind_next m g gs is =
    ap (λ (x : List Step). x ∷ whole_behind m (g ∷ gs)) (cond-false (nat_lt m (length g)) (drop m g) (to_next_cut (m - length g) gs) is)
    ∙ ap (λ (xs : List (List Step)). to_next_cut (m - length g) gs ∷ xs) (cond-false (nat_lt m (length g)) gs (whole_behind (m - length g) gs) is)

drop-first : (m : ℕ) (g more : List Step) → m ≤ length g → drop m (g ++ more) ≡ drop m g ++ more
drop-first zero g more le = refl
drop-first (suc m) [] more le = absurd (omega arith)
drop-first (suc m) (x ∷ g) more le = drop-first m g more (omega arith)

drop-past : (m : ℕ) (g more : List Step) → length g ≤ m → drop m (g ++ more) ≡ drop (m - length g) more
drop-past m [] more le = let e : m - 0 ≡ m = omega arith in ap (λ n. drop n more) (sym e)
drop-past zero (x ∷ g) more le = absurd (omega arith)
drop-past (suc m) (x ∷ g) more le = let e : suc m - length (x ∷ g) ≡ m - length g = omega arith in drop-past m g more (omega arith) ∙ ap (λ n. drop n more) (sym e)

-- together they are the steps behind it
joined_behind : (gs : List (List Step)) (m : ℕ) → m < length (joined gs) → joined (behind_in m gs) ≡ drop m (joined gs)
joined_behind [] m lt = absurd (omega arith)
joined_behind (g ∷ gs) m lt =
    let e = length-append g (joined gs) in
    ⊎_elim
    (λ short.
    let within : m < length g = ltb-true m (length g) short in
    ap joined (behind_first m g gs short) ∙ sym (drop-first m g (joined gs) (omega arith)))
    (λ long.
    let past : length g ≤ m = ltb-false m (length g) long in
    ap joined (behind_next m g gs long) ∙ joined_behind gs (m - length g) (omega arith) ∙ sym (drop-past m g (joined gs) past))
    (cases_Bool (nat_lt m (length g)))

-- ends that lie behind it all
keeps_all : (k m : ℕ) (gs : List (List Step)) → AreGroups gs → m ≤ k → filter (nat_lt m) (ends_of k gs) ≡ ends_of k gs
keeps_all k m [] are le = refl
keeps_all k m (g ∷ gs) are le =
    let some : 0 < length g = are.0.0 in
    let test : nat_lt m (k + length g) ≡ true = lt-ltb m (k + length g) (omega (arith, some)) in
    cond-true (nat_lt m (k + length g)) ((k + length g) ∷ filter (nat_lt m) (ends_of (k + length g) gs)) (filter (nat_lt m) (ends_of (k + length g) gs)) test
    ∙ ap (λ (l : List ℕ). (k + length g) ∷ l) (keeps_all (k + length g) m gs are.1 (omega arith))

ends_behind : (k m : ℕ) (gs : List (List Step)) → AreGroups gs → m < length (joined gs) → filter (nat_lt (k + m)) (ends_of k gs) ≡ ends_of (k + m) (behind_in m gs)
ends_behind k m [] are lt = absurd (omega arith)
ends_behind k m (g ∷ gs) are lt =
    let e = length-append g (joined gs) in
    ⊎_elim
    (λ short.
    let within : m < length g = ltb-true m (length g) short in
    let test : nat_lt (k + m) (k + length g) ≡ true = lt-ltb (k + m) (k + length g) (omega arith) in
    let left = length-drop m g in
    let place : k + m + length (drop m g) ≡ k + length g = omega arith in
    cond-true (nat_lt (k + m) (k + length g)) ((k + length g) ∷ filter (nat_lt (k + m)) (ends_of (k + length g) gs)) (filter (nat_lt (k + m)) (ends_of (k + length g) gs)) test
    ∙ ap (λ (l : List ℕ). (k + length g) ∷ l) (keeps_all (k + length g) (k + m) gs are.1 (omega arith))
    ∙ ap (λ n. n ∷ ends_of n gs) (sym place)
    ∙ ap (ends_of (k + m)) (sym (behind_first m g gs short)))
    (λ long.
    let past : length g ≤ m = ltb-false m (length g) long in
    let test : nat_lt (k + m) (k + length g) ≡ false = le-ltb (k + m) (k + length g) (omega arith) in
    let place : k + length g + (m - length g) ≡ k + m = omega arith in
    cond-false (nat_lt (k + m) (k + length g)) ((k + length g) ∷ filter (nat_lt (k + m)) (ends_of (k + length g) gs)) (filter (nat_lt (k + m)) (ends_of (k + length g) gs)) test
    ∙ ap (λ n. filter (nat_lt n) (ends_of (k + length g) gs)) (sym place)
    ∙ ends_behind (k + length g) (m - length g) gs are.1 (omega arith)
    ∙ ap (λ n. ends_of n (behind_in (m - length g) gs)) place
    ∙ ap (ends_of (k + m)) (sym (behind_next m g gs long)))
    (cases_Bool (nat_lt m (length g)))

-- none
keeps_none : (k m : ℕ) (gs : List (List Step)) → k + length (joined gs) ≤ m → filter (nat_lt m) (ends_of k gs) ≡ []
keeps_none k m [] le = refl
keeps_none k m (g ∷ gs) le =
    let e = length-append g (joined gs) in
    let test : nat_lt m (k + length g) ≡ false = le-ltb m (k + length g) (omega arith) in
    cond-false (nat_lt m (k + length g)) ((k + length g) ∷ filter (nat_lt m) (ends_of (k + length g) gs)) (filter (nat_lt m) (ends_of (k + length g) gs)) test
    ∙ keeps_none (k + length g) m gs (omega arith)

module _ (steps : List Step) (m : ℕ) where
  all_long : length (joined (groups steps)) ≡ length steps
  all_long = ap length (joined_groups steps)

  parts_some : m < length steps → parts_behind steps m ≡ behind_in m (groups steps)
  parts_some lt = cond-true (nat_lt m (length steps)) (behind_in m (groups steps)) [] (lt-ltb m (length steps) lt)

  parts_none : length steps ≤ m → parts_behind steps m ≡ []
  parts_none le = cond-false (nat_lt m (length steps)) (behind_in m (groups steps)) [] (le-ltb m (length steps) le)

  -- the places of a way forward are the ends behind its first
  pub places_ahead : m ≤ length steps → filter (nat_lt m) (ends_of 0 (groups steps)) ≡ ends_of m (parts_behind steps m)
  places_ahead le = ⊎_elim
      (λ some.
      let lt : m < length steps = ltb-true m (length steps) some in
      let long = all_long in
      let zero_is : 0 + m ≡ m = omega arith in
      ap (λ n. filter (nat_lt n) (ends_of 0 (groups steps))) (sym zero_is)
      ∙ ends_behind 0 m (groups steps) (groups_groups steps) (omega arith)
      ∙ ap (λ n. ends_of n (behind_in m (groups steps))) zero_is
      ∙ ap (ends_of m) (sym (parts_some lt)))
      (λ none.
      let past : length steps ≤ m = ltb-false m (length steps) none in
      let long = all_long in
      keeps_none 0 m (groups steps) (omega arith) ∙ ap (ends_of m) (sym (parts_none past)))
      (cases_Bool (nat_lt m (length steps)))

  -- and together its parts are the steps behind it
  pub joined_ahead : m ≤ length steps → joined (parts_behind steps m) ≡ drop m steps
  joined_ahead le = ⊎_elim
      (λ some.
      let lt : m < length steps = ltb-true m (length steps) some in
      let long = all_long in
      ap joined (parts_some lt) ∙ joined_behind (groups steps) m (omega arith) ∙ ap (drop m) (joined_groups steps))
      (λ none.
      let past : length steps ≤ m = ltb-false m (length steps) none in
      ap joined (parts_none past) ∙ sym (drop_all m steps past))
      (cases_Bool (nat_lt m (length steps)))

-- ---- before a place

-- the parts before place m, of these groups
abbrev before_in : ℕ → List (List Step) → List (List Step)
before_in m gs = whole_before (m - length (from_last_cut m gs)) gs ++ from_last_cut m gs ∷ []

last_short : (m : ℕ) (gs : List (List Step)) → length (from_last_cut m gs) ≤ m
last_short m [] = omega arith
last_short m (g ∷ gs) = ⊎_elim
    (λ short.
    let is : from_last_cut m (g ∷ gs) ≡ take m g = cond-true (nat_le m (length g)) (take m g) (from_last_cut (m - length g) gs) short in
    let count : length (from_last_cut m (g ∷ gs)) ≡ length (take m g) = ap length is in
    let within = length-take-le m g (leb-true m (length g) short) in
    omega arith)
    (λ long.
    let is : from_last_cut m (g ∷ gs) ≡ from_last_cut (m - length g) gs = cond-false (nat_le m (length g)) (take m g) (from_last_cut (m - length g) gs) long in
    let count : length (from_last_cut m (g ∷ gs)) ≡ length (from_last_cut (m - length g) gs) = ap length is in
    let less = last_short (m - length g) gs in
    omega arith)
    (cases_Bool (nat_le m (length g)))

before_first : (m : ℕ) (g : List Step) (gs : List (List Step)) → 0 < length g → nat_le m (length g) ≡ true → before_in m (g ∷ gs) ≡ take m g ∷ []
before_first m g gs some short =
    let is : from_last_cut m (g ∷ gs) ≡ take m g = cond-true (nat_le m (length g)) (take m g) (from_last_cut (m - length g) gs) short in
    let within = length-take-le m g (leb-true m (length g) short) in
    let none : m - length (take m g) ≡ 0 = omega arith in
    ap (λ (x : List Step). whole_before (m - length x) (g ∷ gs) ++ x ∷ []) is
    ∙ ap (λ n. whole_before n (g ∷ gs) ++ take m g ∷ []) none
    ∙ ap (λ (xs : List (List Step)). xs ++ take m g ∷ []) (cond-false (nat_le (length g) 0) (g ∷ whole_before (0 - length g) gs) [] (lt-leb (length g) 0 some))

before_next : (m : ℕ) (g : List Step) (gs : List (List Step)) → nat_le m (length g) ≡ false → before_in m (g ∷ gs) ≡ g ∷ before_in (m - length g) gs
before_next m g gs long =
    let is : from_last_cut m (g ∷ gs) ≡ from_last_cut (m - length g) gs = cond-false (nat_le m (length g)) (take m g) (from_last_cut (m - length g) gs) long in
    let past : length g < m = leb-false m (length g) long in
    let less = last_short (m - length g) gs in
    let test : nat_le (length g) (m - length (from_last_cut (m - length g) gs)) ≡ true = le-leb (length g) (m - length (from_last_cut (m - length g) gs)) (omega arith) in
    let minus : m - length (from_last_cut (m - length g) gs) - length g ≡ m - length g - length (from_last_cut (m - length g) gs) = omega arith in
    ap (λ (y : List Step). whole_before (m - length y) (g ∷ gs) ++ y ∷ []) is
    ∙ ap (λ (ys : List (List Step)). ys ++ from_last_cut (m - length g) gs ∷ [])
    (cond-true (nat_le (length g) (m - length (from_last_cut (m - length g) gs))) (g ∷ whole_before (m - length (from_last_cut (m - length g) gs) - length g) gs) [] test
    ∙ ap (λ n. g ∷ whole_before n gs) minus)

take-first : (m : ℕ) (g more : List Step) → m ≤ length g → take m (g ++ more) ≡ take m g
take-first zero g more le = refl
take-first (suc m) [] more le = absurd (omega arith)
take-first (suc m) (x ∷ g) more le = ap (λ (l : List Step). x ∷ l) (take-first m g more (omega arith))

take-past : (m : ℕ) (g more : List Step) → length g ≤ m → take m (g ++ more) ≡ g ++ take (m - length g) more
take-past m [] more le = let e : m - 0 ≡ m = omega arith in ap (λ n. take n more) (sym e)
take-past zero (x ∷ g) more le = absurd (omega arith)
take-past (suc m) (x ∷ g) more le = let e : suc m - length (x ∷ g) ≡ m - length g = omega arith in ap (λ (l : List Step). x ∷ l) (take-past m g more (omega arith) ∙ ap (λ n. g ++ take n more) (sym e))

joined_before : (gs : List (List Step)) (m : ℕ) → AreGroups gs → 0 < m → m ≤ length (joined gs) → joined (before_in m gs) ≡ take m (joined gs)
joined_before [] m are some le = absurd (omega arith)
joined_before (g ∷ gs) m are some le =
    let e = length-append g (joined gs) in
    ⊎_elim
    (λ short. ap joined (before_first m g gs are.0.0 short) ∙ append-nil (take m g) ∙ sym (take-first m g (joined gs) (leb-true m (length g) short)))
    (λ long.
    let past : length g < m = leb-false m (length g) long in
    ap joined (before_next m g gs long)
    ∙ ap (λ (l : List Step). g ++ l) (joined_before gs (m - length g) are.1 (omega arith) (omega arith))
    ∙ sym (take-past m g (joined gs) (omega arith)))
    (cases_Bool (nat_le m (length g)))

drops_all : (k m : ℕ) (gs : List (List Step)) → m ≤ k → filter (λ end. nat_lt end m) (ends_of k gs) ≡ []
drops_all k m [] le = refl
drops_all k m (g ∷ gs) le =
    let test : nat_lt (k + length g) m ≡ false = le-ltb (k + length g) m (omega arith) in
    cond-false (nat_lt (k + length g) m) ((k + length g) ∷ filter (λ end. nat_lt end m) (ends_of (k + length g) gs)) (filter (λ end. nat_lt end m) (ends_of (k + length g) gs)) test
    ∙ drops_all (k + length g) m gs (omega arith)

ends_before : (k m : ℕ) (gs : List (List Step)) → AreGroups gs → 0 < m → m ≤ length (joined gs)
    → filter (λ end. nat_lt end (k + m)) (ends_of k gs) ++ (k + m) ∷ [] ≡ ends_of k (before_in m gs)
ends_before k m [] are some le = absurd (omega arith)
ends_before k m (g ∷ gs) are some le =
    let e = length-append g (joined gs) in
    ⊎_elim
    (λ short.
    let within : m ≤ length g = leb-true m (length g) short in
    let count = length-take-le m g within in
    let test : nat_lt (k + length g) (k + m) ≡ false = le-ltb (k + length g) (k + m) (omega arith) in
    let place : k + m ≡ k + length (take m g) = omega arith in
    ap (λ (l : List ℕ). l ++ (k + m) ∷ [])
    (cond-false (nat_lt (k + length g) (k + m)) ((k + length g) ∷ filter (λ end. nat_lt end (k + m)) (ends_of (k + length g) gs)) (filter (λ end. nat_lt end (k + m)) (ends_of (k + length g) gs)) test
    ∙ drops_all (k + length g) (k + m) gs (omega arith))
    ∙ ap (λ (n : ℕ). n ∷ []) place
    ∙ ap (ends_of k) (sym (before_first m g gs are.0.0 short)))
    (λ long.
    let past : length g < m = leb-false m (length g) long in
    let test : nat_lt (k + length g) (k + m) ≡ true = lt-ltb (k + length g) (k + m) (omega arith) in
    let place : k + length g + (m - length g) ≡ k + m = omega arith in
    ap (λ (l : List ℕ). l ++ (k + m) ∷ [])
    (cond-true (nat_lt (k + length g) (k + m)) ((k + length g) ∷ filter (λ end. nat_lt end (k + m)) (ends_of (k + length g) gs)) (filter (λ end. nat_lt end (k + m)) (ends_of (k + length g) gs)) test)
    ∙ ap (λ (n : ℕ). (k + length g) ∷ (filter (λ end. nat_lt end n) (ends_of (k + length g) gs) ++ n ∷ [])) (sym place)
    ∙ ap (λ (l : List ℕ). (k + length g) ∷ l) (ends_before (k + length g) (m - length g) gs are.1 (omega arith) (omega arith))
    ∙ ap (ends_of k) (sym (before_next m g gs long)))
    (cases_Bool (nat_le m (length g)))

not_zero : (m : ℕ) → (m == 0) ≡ false → 0 < m
not_zero m is = grind (arith, nat_tests)

joined_push : (front : List (List Step)) (g : List Step) → length (joined (front ++ g ∷ [])) ≡ length (joined front) + length g
joined_push [] g = let e = length-append g [] in omega arith
joined_push (f ∷ front) g =
    let more = joined_push front g in
    let one = length-append f (joined (front ++ g ∷ [])) in
    let two = length-append f (joined front) in
    omega arith

module _ (steps : List Step) (m : ℕ) where
  before_none : (m == 0) ≡ true → parts_before steps m ≡ []
  before_none is = cond-true (m == 0) [] (before_in m (groups steps)) is

  before_some : (m == 0) ≡ false → parts_before steps m ≡ before_in m (groups steps)
  before_some is = cond-false (m == 0) [] (before_in m (groups steps)) is

  -- the places of a way back behind its first: the ends before its begin, and that
  pub places_left : m ≤ length steps → (if m == 0 then [] else filter (λ end. nat_lt end m) (ends_of 0 (groups steps)) ++ m ∷ []) ≡ ends_of 0 (parts_before steps m)
  places_left le = ⊎_elim
      (λ none. cond-true (m == 0) [] (filter (λ end. nat_lt end m) (ends_of 0 (groups steps)) ++ m ∷ []) none ∙ ap (ends_of 0) (sym (before_none none)))
      (λ some.
      let long : length (joined (groups steps)) ≡ length steps = ap length (joined_groups steps) in
      let positive : 0 < m = not_zero m some in
      let zero_is : 0 + m ≡ m = omega arith in
      cond-false (m == 0) [] (filter (λ end. nat_lt end m) (ends_of 0 (groups steps)) ++ m ∷ []) some
      ∙ ap (λ n. filter (λ end. nat_lt end n) (ends_of 0 (groups steps)) ++ n ∷ []) (sym zero_is)
      ∙ ends_before 0 m (groups steps) (groups_groups steps) positive (omega arith)
      ∙ ap (ends_of 0) (sym (before_some some)))
      (cases_Bool (m == 0))

  -- and together its parts are the steps before it
  pub joined_left : m ≤ length steps → joined (parts_before steps m) ≡ take m steps
  joined_left le = ⊎_elim
      (λ none. let zero_is : m ≡ 0 = eqb-true m 0 none in ap joined (before_none none) ∙ ap (λ n. take n steps) (sym zero_is))
      (λ some.
      let long : length (joined (groups steps)) ≡ length steps = ap length (joined_groups steps) in
      ap joined (before_some some) ∙ joined_before (groups steps) m (groups_groups steps) (not_zero m some) (omega arith) ∙ ap (take m) (joined_groups steps))
      (cases_Bool (m == 0))

-- the place before which a part of a way back ends
pub before_cut : (steps : List Step) (m : ℕ) → m ≤ length steps → 0 < m
    → m - length (from_last_cut m (groups steps)) ≡ 0 + length (joined (whole_before (m - length (from_last_cut m (groups steps))) (groups steps)))
before_cut steps m le some =
    let front = whole_before (m - length (from_last_cut m (groups steps))) (groups steps) in
    let all : length (joined (groups steps)) ≡ length steps = ap length (joined_groups steps) in
    let e : joined (before_in m (groups steps)) ≡ take m (joined (groups steps)) = joined_before (groups steps) m (groups_groups steps) some (omega arith) in
    let n : length (joined (before_in m (groups steps))) ≡ length (take m (joined (groups steps))) = ap length e in
    let t = length-take-le m (joined (groups steps)) (omega arith) in
    let j : length (joined (before_in m (groups steps))) ≡ length (joined front) + length (from_last_cut m (groups steps)) = joined_push front (from_last_cut m (groups steps)) in
    omega arith

-- ---- no part is empty

abbrev pub AllSome : List (List Step) → Type 0
AllSome [] = Unit {0}
AllSome (g ∷ gs) = (0 < length g) × AllSome gs

pub some_at : (gs : List (List Step)) (i : ℕ) → AllSome gs → i < length gs → 0 < length (group_at i gs)
some_at [] i some lt = absurd (omega arith)
some_at (g ∷ gs) zero some lt = some.0
some_at (g ∷ gs) (suc i) some lt = some_at gs i some.1 (omega arith)

groups_some : (gs : List (List Step)) → AreGroups gs → AllSome gs
groups_some [] are = tt
groups_some (g ∷ gs) are = (are.0.0, groups_some gs are.1)

behind_some : (gs : List (List Step)) (m : ℕ) → AreGroups gs → m < length (joined gs) → AllSome (behind_in m gs)
behind_some [] m are lt = absurd (omega arith)
behind_some (g ∷ gs) m are lt =
    let e = length-append g (joined gs) in
    ⊎_elim
    (λ short.
    let within : m < length g = ltb-true m (length g) short in
    let n = length-drop m g in
    subst AllSome (sym (behind_first m g gs short)) (omega arith, groups_some gs are.1))
    (λ long.
    let past : length g ≤ m = ltb-false m (length g) long in
    subst AllSome (sym (behind_next m g gs long)) (behind_some gs (m - length g) are.1 (omega arith)))
    (cases_Bool (nat_lt m (length g)))

before_all : (gs : List (List Step)) (m : ℕ) → AreGroups gs → 0 < m → m ≤ length (joined gs) → AllSome (before_in m gs)
before_all [] m are some le = absurd (omega arith)
before_all (g ∷ gs) m are some le =
    let e = length-append g (joined gs) in
    ⊎_elim
    (λ short.
    let n = length-take-le m g (leb-true m (length g) short) in
    subst AllSome (sym (before_first m g gs are.0.0 short)) (omega arith, tt))
    (λ long.
    let past : length g < m = leb-false m (length g) long in
    subst AllSome (sym (before_next m g gs long)) (are.0.0, before_all gs (m - length g) are.1 (omega arith) (omega arith)))
    (cases_Bool (nat_le m (length g)))

pub ahead_some : (steps : List Step) (m : ℕ) → AllSome (parts_behind steps m)
ahead_some steps m = ⊎_elim
    (λ some.
    let lt : m < length steps = ltb-true m (length steps) some in
    let long = all_long steps m in
    subst AllSome (sym (parts_some steps m lt)) (behind_some (groups steps) m (groups_groups steps) (omega arith)))
    (λ none. subst AllSome (sym (parts_none steps m (ltb-false m (length steps) none))) tt)
    (cases_Bool (nat_lt m (length steps)))

pub left_some : (steps : List Step) (m : ℕ) → m ≤ length steps → AllSome (parts_before steps m)
left_some steps m le = ⊎_elim
    (λ none. subst AllSome (sym (before_none steps m none)) tt)
    (λ some.
    let long = all_long steps m in
    subst AllSome (sym (before_some steps m some)) (before_all (groups steps) m (groups_groups steps) (not_zero m some) (omega arith)))
    (cases_Bool (m == 0))

-- ---- the next cut

pub next_cut_is : (steps : List Step) (m : ℕ) → m ≤ length steps → get_or (filter (nat_lt m) (ends_of 0 (groups steps))) 0 m ≡ m + length (to_next_cut m (groups steps))
next_cut_is steps m le =
    ap (λ (l : List ℕ). get_or l 0 m) (places_ahead steps m le)
    ∙ ⊎_elim
    (λ some. ap (λ (gs : List (List Step)). get_or (ends_of m gs) 0 m) (parts_some steps m (ltb-true m (length steps) some)))
    (λ none.
    let past : length steps ≤ m = ltb-false m (length steps) none in
    let long = all_long steps m in
    let nothing : length (to_next_cut m (groups steps)) ≡ 0 = ap length (to_next_cut-end (groups steps) m (omega arith)) in
    ap (λ (gs : List (List Step)). get_or (ends_of m gs) 0 m) (parts_none steps m past) ∙ omega arith)
    (cases_Bool (nat_lt m (length steps)))

pub next_cut_within : (steps : List Step) (m : ℕ) → m ≤ length steps → m + length (to_next_cut m (groups steps)) ≤ length steps
next_cut_within steps m le = ⊎_elim
    (λ some.
    let e : length (joined (behind_in m (groups steps))) ≡ length (drop m steps) = ap length (ap joined (sym (parts_some steps m (ltb-true m (length steps) some))) ∙ joined_ahead steps m le) in
    let a = length-append (to_next_cut m (groups steps)) (joined (whole_behind m (groups steps))) in
    let d = length-drop m steps in
    omega arith)
    (λ none.
    let past : length steps ≤ m = ltb-false m (length steps) none in
    let long = all_long steps m in
    let nothing : length (to_next_cut m (groups steps)) ≡ 0 = ap length (to_next_cut-end (groups steps) m (omega arith)) in
    omega arith)
    (cases_Bool (nat_lt m (length steps)))
