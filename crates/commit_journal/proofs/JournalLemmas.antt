-- What is read as a journal is one, what is one is read, and a fault stands where reading stops.
use Rattle.std.proofs.Common.{◌≡◌, ◌≢◌, ◌⊎◌, ℕ, zero, suc, ◌+◌, ◌-◌, ◌^◌, ◌<◌, Bool, true, false, cond, eqb, ltb, List, [], ◌∷◌, ◌++◌, length, take, drop, Option, Some, None, Result, Ok, Err, refl, sym, ap, subst, ◌∙◌, append_assoc, arith, inl, inr, zero-add}
use Rattle.std.specs.List.{AllByRecursion}
use Rattle.std.specs.Int.{w32, from_be_bytes}
use Rattle.std.specs.Str.{bytes_eq}
use Rattle.std.proofs.lemmas.Bool.{cases_Bool, eqb-true, ltb-true}
use Rattle.std.proofs.lemmas.Bool.Decides.{nat_tests}
use Rattle.std.proofs.lemmas.List.{append-nil, nil_from_length, length-append, append_cancel_left}
use Rattle.std.proofs.lemmas.Option.{none-some, some_pair_parts}
use Rattle.std.proofs.lemmas.Slice.Eq.{bytes_eq-Decides}
use Rattle.dired_text.specs.Paths.{joined}
use Rattle.commit_steps.specs.declared.step.Step.{Step}
use Rattle.commit_steps.specs.Steps.{IsLawfulStep, HasPaths, first_path, step_bytes, all_bytes}
use Rattle.commit_journal.specs.declared.version.Version.{Version}
use Rattle.commit_journal.specs.declared.version.Version.TheVariants.{One, Two}
use Rattle.commit_journal.specs.Faults.{HasNoMagic, CanRead, HasNoStep, IsFault}
use Rattle.commit_journal.specs.Grammar.{four_bytes, magic, max_all_bytes, IsWithin, AreSpelled}
use Rattle.commit_journal.specs.Spelling.{step_text, steps_text, journal_text, CanSpell}
use Rattle.commit_journal.specs.Reading.{front_at, number_at, fits, next_at, with_front, or_stop, steps_at, magic_at, journal_at}
use Rattle.commit_journal.proofs.TextLemmas.{le_is, le_holds, all_push}
use Rattle.commit_journal.proofs.ReadLemmas.{IsBytes, bind_some, Takes, wide32, number_takes, number_again, front_takes, front_again, rest_bytes}
use Rattle.commit_journal.proofs.StepLemmas.{NextRead, next_takes, next_again}
use Rattle.commit_journal.proofs.GrammarLemmas.{base_after, steps_spell, steps_spelled, steps_text-push, all_bytes-push, all_last}

-- ---- the sum of the paths' bytes

within_first : (v : Version) (left : ℕ) (step : Step) (steps : List Step) → fits v left (step_bytes step) ≡ true → IsWithin v (left - step_bytes step) steps → IsWithin v left (step ∷ steps)
within_first One left step steps fitting h = tt
within_first Two left step steps fitting h = let room = le_is (step_bytes step) left fitting in omega arith

fits_first : (v : Version) (left : ℕ) (step : Step) (steps : List Step) → IsWithin v left (step ∷ steps) → fits v left (step_bytes step) ≡ true
fits_first One left step steps h = refl
fits_first Two left step steps h = le_holds (step_bytes step) left (omega arith)

within_others : (v : Version) (left : ℕ) (step : Step) (steps : List Step) → IsWithin v left (step ∷ steps) → IsWithin v (left - step_bytes step) steps
within_others One left step steps h = tt
within_others Two left step steps h = omega arith

within_push : (v : Version) (left : ℕ) (steps : List Step) (step : Step) → IsWithin v left steps → fits v (left - all_bytes steps) (step_bytes step) ≡ true → IsWithin v left (steps ++ step ∷ [])
within_push One left steps step h fitting = tt
within_push Two left steps step h fitting = let room = le_is (step_bytes step) (left - all_bytes steps) fitting in omega (arith, all_bytes-push steps step)

fits_last : (v : Version) (left : ℕ) (steps : List Step) (step : Step) → IsWithin v left (steps ++ step ∷ []) → fits v (left - all_bytes steps) (step_bytes step) ≡ true
fits_last One left steps step h = refl
fits_last Two left steps step h = le_holds (step_bytes step) (left - all_bytes steps) (omega (arith, all_bytes-push steps step))

-- ---- steps in turn

-- steps that were read from the front of bytes, with a base before them and some bytes of paths left
pub record StepsRead (v : Version) (base : List ℕ) (left : ℕ) (bytes : List ℕ) (steps : List Step) (rest : List ℕ) : Type 0 where
  pub parts : bytes ≡ steps_text v base steps ++ rest
  pub lawful : AllByRecursion IsLawfulStep steps
  pub paths : AllByRecursion HasPaths steps
  pub within : IsWithin v left steps

-- where reading stops, of so many steps
pub record Stopped (v : Version) (base : List ℕ) (left n : ℕ) (bytes rest : List ℕ) : Type 0 where
  pub steps : List Step
  pub read : StepsRead v base left bytes steps rest
  pub stops : ((length steps < n) × (next_at v (base_after base steps) (left - all_bytes steps) rest ≡ None)) ⊎ ((length steps ≡ n) × (rest ≢ []))

abbrev pub Reads : Version → List ℕ → ℕ → ℕ → List ℕ → Result (List Step) (List ℕ) → Type 0
Reads v base left n bytes (Ok steps) = StepsRead v base left bytes steps [] × (length steps ≡ n)
Reads v base left n bytes (Err rest) = Stopped v base left n bytes rest

nothing_read : (v : Version) (base : List ℕ) (left : ℕ) (bytes : List ℕ) → StepsRead v base left bytes [] bytes
unfolding steps_text
nothing_read One base left bytes = record { parts = refl; lawful = tt; paths = tt; within = tt }
nothing_read Two base left bytes = record { parts = refl; lawful = tt; paths = tt; within = omega arith }

one_more : (v : Version) (base : List ℕ) (left : ℕ) (bytes : List ℕ) (step : Step) (first behind : List ℕ) (steps : List Step) (rest : List ℕ) → NextRead v base left bytes step first behind
    → StepsRead v first (left - step_bytes step) behind steps rest → StepsRead v base left bytes (step ∷ steps) rest
unfolding steps_text
one_more v base left bytes step first behind steps rest next others = record {
  parts = next.read.takes.parts ∙ ap (λ (l : List ℕ). step_text v base step ++ l) (others.parts ∙ ap (λ (b : List ℕ). steps_text v b steps ++ rest) (sym next.read.is))
      ∙ sym (append_assoc (step_text v base step) (steps_text v (joined (first_path step)) steps) rest);
  lawful = (next.lawful, others.lawful);
  paths = (next.read.paths, others.paths);
  within = within_first v left step steps next.fitting others.within;
}

first_read : (v : Version) (base : List ℕ) (left n : ℕ) (bytes : List ℕ) (step : Step) (first behind : List ℕ) (r : Result (List Step) (List ℕ)) → NextRead v base left bytes step first behind
    → Reads v first (left - step_bytes step) n behind r → Reads v base left (suc n) bytes (with_front (step ∷ []) r)
first_read v base left n bytes step first behind (Ok steps) next read = (one_more v base left bytes step first behind steps [] next read.0, ap suc read.1)
first_read v base left n bytes step first behind (Err rest) next read = record {
  steps = step ∷ read.steps;
  read = one_more v base left bytes step first behind read.steps rest next read.read;
  stops = elim read.stops [
    | inl due ↦ inl (
      omega arith,
      (let less : left - (step_bytes step + all_bytes read.steps) ≡ left - step_bytes step - all_bytes read.steps = omega arith in
          rw (less, next.read.is) due.1),
    )
    | inr over ↦ inr (ap suc over.0, over.1)
  ];
}

pub steps_read : (v : Version) (n : ℕ) (base : List ℕ) (left : ℕ) (bytes : List ℕ) → IsBytes bytes → Reads v base left n bytes (steps_at v base left n bytes)
unfolding steps_at
steps_read v zero base left bytes fit = elim (cases_Bool (eqb (length bytes) 0)) [
  | inl none ↦ rw none (subst (λ (l : List ℕ). StepsRead v base left bytes [] l) (nil_from_length bytes (eqb-true _ _ none)) (nothing_read v base left bytes), refl)
  | inr some ↦ rw some (record { steps = []; read = nothing_read v base left bytes; stops = inr (refl, λ e. (let clash : eqb (length bytes) 0 ≡ true = ap (λ (l : List ℕ). eqb (length l) 0) e in let wrong : true ≡ false = sym clash ∙ some in cc)) })
]
steps_read v (suc n) base left bytes fit = by_next (λ b k bs f. steps_read v n b k bs f) (next_at v base left bytes) refl
  where
    by_next : ((b : List ℕ) (k : ℕ) (bs : List ℕ) → IsBytes bs → Reads v b k n bs (steps_at v b k n bs)) → (o : Option (Step × List ℕ × List ℕ)) → next_at v base left bytes ≡ o
        → Reads v base left (suc n) bytes (or_stop bytes o (λ x. with_front (x.0 ∷ []) (steps_at v x.1 (left - step_bytes x.0) n x.2)))
    by_next others None e = record { steps = []; read = nothing_read v base left bytes; stops = inl (omega arith, ap (λ (k : ℕ). next_at v base k bytes) (omega arith) ∙ e) }
    by_next others (Some x) e =
        let next = next_takes v base left bytes x fit e in
        first_read v base left n bytes x.0 x.1 x.2 (steps_at v x.1 (left - step_bytes x.0) n x.2) next (others x.1 (left - step_bytes x.0) x.2 next.read.takes.rest_fits)

pub front_nothing : (r : Result (List Step) (List ℕ)) → with_front [] r ≡ r
front_nothing (Ok steps) = refl
front_nothing (Err rest) = refl

pub front_front : (front steps : List Step) (r : Result (List Step) (List ℕ)) → with_front front (with_front steps r) ≡ with_front (front ++ steps) r
front_front front steps (Ok others) = ap (λ (l : List Step). Ok l) (sym (append_assoc front steps others))
front_front front steps (Err rest) = refl

pub steps_again : (v : Version) (steps : List Step) (n : ℕ) (base : List ℕ) (left : ℕ) (rest : List ℕ) → AllByRecursion IsLawfulStep steps → AllByRecursion HasPaths steps → IsWithin v left steps
    → steps_at v base left (length steps + n) (steps_text v base steps ++ rest) ≡ with_front steps (steps_at v (base_after base steps) (left - all_bytes steps) n rest)
unfolding steps_at steps_text
steps_again v [] n base left rest lawful paths within =
    ap (λ (k : ℕ). steps_at v base left k rest) (zero-add n) ∙ ap (λ (k : ℕ). steps_at v base k n rest) (omega arith) ∙ sym (front_nothing (steps_at v base (left - 0) n rest))
steps_again v (step ∷ steps) n base left rest lawful paths within =
    let count : suc (length steps) + n ≡ suc (length steps + n) = omega arith in
    let grouped = append_assoc (step_text v base step) (steps_text v (joined (first_path step)) steps) rest in
    let next = next_again v base left step (steps_text v (joined (first_path step)) steps ++ rest) lawful.0 paths.0 (fits_first v left step steps within) in
    let less : left - step_bytes step - all_bytes steps ≡ left - (step_bytes step + all_bytes steps) = omega arith in
    let others = steps_again v steps n (joined (first_path step)) (left - step_bytes step) rest lawful.1 paths.1 (within_others v left step steps within) in
    rw (count, grouped, next, others, less) (front_front (step ∷ []) steps (steps_at v (base_after (joined (first_path step)) steps) (left - (step_bytes step + all_bytes steps)) n rest))

-- ---- the magic and the count

pub magic_again : (v : Version) (rest : List ℕ) → magic_at (magic v ++ rest) ≡ Some (v, rest)
unfolding magic_at
magic_again One rest = rw (front_again (magic One) rest 4 refl) refl
magic_again Two rest = rw (front_again (magic Two) rest 4 refl) refl

pub magic_takes : (bytes : List ℕ) (v : Version) (rest : List ℕ) → IsBytes bytes → magic_at bytes ≡ Some (v, rest) → Takes bytes (magic v) rest
unfolding magic_at
magic_takes bytes v rest fit e =
    let a = bind_some (front_at 4 bytes) (λ f. cond (bytes_eq f.0 (magic One)) (Some (One, f.1)) (cond (bytes_eq f.0 (magic Two)) (Some (Two, f.1)) None)) (v, rest) e in
    let t = front_takes 4 bytes a.0.0 a.0.1 fit a.1 in
    elim (cases_Bool (bytes_eq a.0.0 (magic One))) [
      | inl one ↦ named bytes a.0.0 a.0.1 One v rest t.0 ((bytes_eq-Decides a.0.0 (magic One)).0 one) (rw one at a.2)
      | inr no_one ↦ elim (cases_Bool (bytes_eq a.0.0 (magic Two))) [
        | inl two ↦ named bytes a.0.0 a.0.1 Two v rest t.0 ((bytes_eq-Decides a.0.0 (magic Two)).0 two) (rw (no_one, two) at a.2)
        | inr no_two ↦ let none : None ≡ Some (v, rest) = rw (no_one, no_two) at a.2 in absurd cc
      ]
    ]
  where
    named : (bytes front behind : List ℕ) (w v : Version) (rest : List ℕ) → Takes bytes front behind → front ≡ magic w → ◌≡◌ {A = Option (Version × List ℕ)} (Some (w, behind)) (Some (v, rest)) → Takes bytes (magic v) rest
    named bytes front behind w v rest t is e =
        let parts = some_pair_parts w v behind rest e in
        subst (λ (l : List ℕ). Takes bytes (magic v) l) parts.1 (subst (λ (l : List ℕ). Takes bytes l behind) (is ∙ ap magic parts.0) t)

magic_none : (bytes : List ℕ) → magic_at bytes ≡ None → HasNoMagic bytes
magic_none bytes e v rest is = none-some (v, rest) (sym e ∙ ap magic_at is ∙ magic_again v rest)

none_magic : (bytes : List ℕ) → HasNoMagic bytes → IsBytes bytes → magic_at bytes ≡ None
none_magic bytes h fit = by_magic (magic_at bytes) refl
  where
    by_magic : (o : Option (Version × List ℕ)) → magic_at bytes ≡ o → magic_at bytes ≡ None
    by_magic None e = e
    by_magic (Some x) e = absurd (h x.0 x.1 (magic_takes bytes x.0 x.1 fit e).parts)

number_none : (bytes : List ℕ) → number_at w32 bytes ≡ None → length bytes < 4
number_none bytes e = by_test (ltb (length bytes) 4) refl e
  where
    by_test : (b : Bool) → ltb (length bytes) 4 ≡ b → cond {A = Option (ℕ × List ℕ)} b None (Some (from_be_bytes w32 (take 4 bytes), drop 4 bytes)) ≡ None → length bytes < 4
    by_test true is e = ltb-true _ _ is
    by_test false is e = cc

none_number : (bytes : List ℕ) → length bytes < 4 → number_at w32 bytes ≡ None
none_number bytes h = let short : ltb (length bytes) 4 ≡ true = grind (arith, nat_tests) in rw short refl

-- ---- faults

-- with nothing read behind these steps, no step stands there
no_step : (v : Version) (steps : List Step) (text rest : List ℕ) → AreSpelled v steps text → next_at v (base_after [] steps) (max_all_bytes - all_bytes steps) rest ≡ None → HasNoStep v steps text rest
no_step v steps text rest spelled none step next more e all =
    let whole = steps_spelled v [] (steps ++ step ∷ []) (text ++ next) all.texts ∙ steps_text-push v [] steps step in
    let front = steps_spelled v [] steps text spelled.texts in
    let next_is : next ≡ step_text v (base_after [] steps) step = append_cancel_left (steps_text v [] steps) next (step_text v (base_after [] steps) step) (ap (λ (l : List ℕ). l ++ next) (sym front) ∙ whole) in
    let read = next_again v (base_after [] steps) (max_all_bytes - all_bytes steps) step more (all_last IsLawfulStep steps step all.lawful) (all_last HasPaths steps step all.paths) (fits_last v max_all_bytes steps step all.within) in
    none-some (step, joined (first_path step), more) (sym none ∙ ap (next_at v (base_after [] steps) (max_all_bytes - all_bytes steps)) (e ∙ ap (λ (l : List ℕ). l ++ more) next_is) ∙ read)

-- and where no step stands, none is read
step_none : (v : Version) (steps : List Step) (text rest : List ℕ) → IsBytes rest → AreSpelled v steps text → HasNoStep v steps text rest → next_at v (base_after [] steps) (max_all_bytes - all_bytes steps) rest ≡ None
step_none v steps text rest fit spelled none = by_next (next_at v (base_after [] steps) (max_all_bytes - all_bytes steps) rest) refl
  where
    by_next : (o : Option (Step × List ℕ × List ℕ)) → next_at v (base_after [] steps) (max_all_bytes - all_bytes steps) rest ≡ o → next_at v (base_after [] steps) (max_all_bytes - all_bytes steps) rest ≡ None
    by_next None e = e
    by_next (Some x) e =
        let next = next_takes v (base_after [] steps) (max_all_bytes - all_bytes steps) rest x fit e in
        let text_is : steps_text v [] (steps ++ x.0 ∷ []) ≡ text ++ step_text v (base_after [] steps) x.0 =
        steps_text-push v [] steps x.0 ∙ ap (λ (l : List ℕ). l ++ step_text v (base_after [] steps) x.0) (sym (steps_spelled v [] steps text spelled.texts)) in
        absurd (none x.0 (step_text v (base_after [] steps) x.0) x.2 next.read.takes.parts
        (subst (λ (l : List ℕ). AreSpelled v (steps ++ x.0 ∷ []) l) text_is (record {
          lawful = all_push IsLawfulStep steps x.0 spelled.lawful next.lawful;
          paths = all_push HasPaths steps x.0 spelled.paths next.read.paths;
          within = within_push v max_all_bytes steps x.0 spelled.within next.fitting;
          texts = steps_spell v [] (steps ++ x.0 ∷ []);
        })))

magic_len : (v : Version) → length (magic v) ≡ 4
magic_len One = refl
magic_len Two = refl

-- a fault where this rest begins
abbrev pub FaultBefore : List ℕ → List ℕ → Type 0
FaultBefore bytes rest = (offset : ℕ) → offset + length rest ≡ length bytes → IsFault bytes offset

abbrev pub IsRead : List ℕ → Result (List Step) (List ℕ) → Type 0
IsRead bytes (Ok steps) = (v : Version) × CanSpell v steps × (bytes ≡ journal_text v steps)
IsRead bytes (Err rest) = FaultBefore bytes rest

-- the place of what stands behind the text of some steps
place : (v : Version) (count : ℕ) (bytes text rest : List ℕ) (offset : ℕ) → bytes ≡ magic v ++ four_bytes count ++ text ++ rest → offset + length rest ≡ length bytes → offset ≡ 8 + length text
place v count bytes text rest offset is e =
    let len = ap (λ (l : List ℕ). length l) is ∙ length-append (magic v ++ four_bytes count ++ text) rest ∙ ap (λ (k : ℕ). k + length rest) (length-append (magic v ++ four_bytes count) text ∙ ap (λ (k : ℕ). k + length text) (length-append (magic v) (four_bytes count))) in
    let four : length (four_bytes count) ≡ 4 = refl in
    omega (arith, magic_len v, len, four)

steps_outcome : (v : Version) (count : ℕ) (bytes from : List ℕ) (r : Result (List Step) (List ℕ)) → count < 2 ^ 32 → bytes ≡ magic v ++ four_bytes count ++ from → Reads v [] max_all_bytes count from r → IsRead bytes r
unfolding journal_text
steps_outcome v count bytes from (Ok steps) small is read = (
  v,
  record { few = omega (arith, read.1); lawful = read.0.lawful; paths = read.0.paths; within = read.0.within },
  is ∙ ap (λ (l : List ℕ). magic v ++ four_bytes count ++ l) (read.0.parts ∙ append-nil (steps_text v [] steps)) ∙ ap (λ (k : ℕ). magic v ++ four_bytes k ++ steps_text v [] steps) (sym read.1),
)
steps_outcome v count bytes from (Err rest) small is stopped = λ offset e. inr (inr (
    let parts : bytes ≡ magic v ++ four_bytes count ++ steps_text v [] stopped.steps ++ rest =
    is ∙ ap (λ (l : List ℕ). magic v ++ four_bytes count ++ l) stopped.read.parts ∙ sym (append_assoc (magic v ++ four_bytes count) (steps_text v [] stopped.steps) rest) in
    let spelled : AreSpelled v stopped.steps (steps_text v [] stopped.steps) = record { lawful = stopped.read.lawful; paths = stopped.read.paths; within = stopped.read.within; texts = steps_spell v [] stopped.steps } in
    record {
      version = v;
      count = count;
      steps = stopped.steps;
      text = steps_text v [] stopped.steps;
      rest = rest;
      read = record { small = small; spelled = spelled; is = parts };
      place = place v count bytes (steps_text v [] stopped.steps) rest offset parts e;
      stops = elim stopped.stops [
        | inl due ↦ inl (due.0, no_step v stopped.steps (steps_text v [] stopped.steps) rest spelled due.1)
        | inr over ↦ inr over
      ];
    }))

-- ---- journals

pub journal_read : (bytes : List ℕ) → IsBytes bytes → IsRead bytes (journal_at bytes)
unfolding journal_at
journal_read bytes fit = by_magic (magic_at bytes) refl
  where
    by_count : (v : Version) (behind : List ℕ) → Takes bytes (magic v) behind → (o : Option (ℕ × List ℕ)) → number_at w32 behind ≡ o
        → IsRead bytes (or_stop behind o (λ n. steps_at v [] max_all_bytes n.0 n.1))
    by_count v behind t None e = λ offset at. inr (inl (
      (let len = ap (λ (l : List ℕ). length l) t.parts ∙ length-append (magic v) behind in omega (arith, magic_len v, len)),
      record { version = v; rest = behind; is = t.parts; short = number_none behind e },
    ))
    by_count v behind t (Some n) e =
        let number = number_takes w32 (2 ^ 32) wide32 behind n.0 n.1 t.rest_fits e in
        steps_outcome v n.0 bytes n.1 (steps_at v [] max_all_bytes n.0 n.1) number.1
        (t.parts ∙ ap (λ (l : List ℕ). magic v ++ l) number.0.parts ∙ sym (append_assoc (magic v) (four_bytes n.0) n.1))
        (steps_read v n.0 [] max_all_bytes n.1 number.0.rest_fits)

    by_magic : (o : Option (Version × List ℕ)) → magic_at bytes ≡ o → IsRead bytes (or_stop bytes o (λ m. or_stop m.1 (number_at w32 m.1) (λ n. steps_at m.0 [] max_all_bytes n.0 n.1)))
    by_magic None e = λ offset at. inl (omega arith, magic_none bytes e)
    by_magic (Some m) e = by_count m.0 m.1 (magic_takes bytes m.0 m.1 fit e) (number_at w32 m.1) refl

-- behind a magic and a count the steps are read
pub journal_from : (v : Version) (count : ℕ) (from : List ℕ) → count < 2 ^ 32 → journal_at (magic v ++ four_bytes count ++ from) ≡ steps_at v [] max_all_bytes count from
unfolding journal_at
journal_from v count from small =
    ap journal_of (append_assoc (magic v) (four_bytes count) from) ∙ rw (magic_again v (four_bytes count ++ from), number_again w32 (2 ^ 32) wide32 count from small) refl
  where
    journal_of : List ℕ → Result (List Step) (List ℕ)
    journal_of bytes = or_stop bytes (magic_at bytes) (λ m. or_stop m.1 (number_at w32 m.1) (λ n. steps_at m.0 [] max_all_bytes n.0 n.1))

pub journal_again : (v : Version) (steps : List Step) → CanSpell v steps → journal_at (journal_text v steps) ≡ Ok steps
unfolding journal_text steps_at
journal_again v steps h =
    let count : length steps + 0 ≡ length steps = omega arith in
    journal_from v (length steps) (steps_text v [] steps) h.few
    ∙ ap (λ (k : ℕ). steps_at v [] max_all_bytes k (steps_text v [] steps)) (sym count)
    ∙ ap (steps_at v [] max_all_bytes (length steps + 0)) (sym (append-nil (steps_text v [] steps)))
    ∙ steps_again v steps 0 [] max_all_bytes [] h.lawful h.paths h.within
    ∙ ap (λ (l : List Step). Ok l) (append-nil steps)

-- ---- a fault is where reading stops

pub record StopsBefore (bytes : List ℕ) (offset : ℕ) : Type 0 where
  pub rest : List ℕ
  pub is : journal_at bytes ≡ Err rest
  pub place : offset + length rest ≡ length bytes

stops_due : (v : Version) (count : ℕ) (bytes : List ℕ) (steps : List Step) (text rest : List ℕ) → IsBytes rest → CanRead bytes v count steps text rest
    → ((length steps < count) × HasNoStep v steps text rest) ⊎ ((length steps ≡ count) × (rest ≢ [])) → journal_at bytes ≡ Err rest
unfolding steps_at
stops_due v count bytes steps text rest fit read stops =
    let front = steps_spelled v [] steps text read.spelled.texts in
    let parts : bytes ≡ magic v ++ four_bytes count ++ (steps_text v [] steps ++ rest) =
    read.is ∙ append_assoc (magic v ++ four_bytes count) text rest ∙ ap (λ (l : List ℕ). magic v ++ four_bytes count ++ (l ++ rest)) front in
    let again = λ (n : ℕ). steps_again v steps n [] max_all_bytes rest read.spelled.lawful read.spelled.paths read.spelled.within in
    ap journal_at parts ∙ journal_from v count (steps_text v [] steps ++ rest) read.small ∙ elim stops [
      | inl due ↦
          let n : count ≡ length steps + suc (count - length steps - 1) = omega arith in
          ap (λ (k : ℕ). steps_at v [] max_all_bytes k (steps_text v [] steps ++ rest)) n ∙ again (suc (count - length steps - 1))
          ∙ rw (step_none v steps text rest fit read.spelled due.1) refl
      | inr over ↦
          let n : count ≡ length steps + 0 = omega arith in
          ap (λ (k : ℕ). steps_at v [] max_all_bytes k (steps_text v [] steps ++ rest)) n ∙ again 0
          ∙ rw (some_left rest over.1) refl
    ]
  where
    some_left : (l : List ℕ) → l ≢ [] → eqb (length l) 0 ≡ false
    some_left [] h = absurd (h refl)
    some_left (x ∷ l) h = grind (arith, nat_tests)

pub fault_stops : (bytes : List ℕ) (offset : ℕ) → IsBytes bytes → IsFault bytes offset → StopsBefore bytes offset
unfolding journal_at
fault_stops bytes offset fit (inl no_magic) = record { rest = bytes; is = rw (none_magic bytes no_magic.1 fit) refl; place = omega (arith, no_magic.0) }
fault_stops bytes offset fit (inr (inl no_count)) =
    let h = no_count.1 in
    record {
      rest = h.rest;
      is = by_parts bytes h.is;
      place = (let len = ap (λ (l : List ℕ). length l) h.is ∙ length-append (magic h.version) h.rest in omega (arith, magic_len h.version, len, no_count.0));
    }
  where
    by_parts : (bs : List ℕ) → bs ≡ magic no_count.1.version ++ no_count.1.rest → journal_at bs ≡ Err no_count.1.rest
    by_parts bs e = ap journal_at e ∙ rw (magic_again no_count.1.version no_count.1.rest, none_number no_count.1.rest no_count.1.short) refl
fault_stops bytes offset fit (inr (inr stops)) = record {
  rest = stops.rest;
  is = stops_due stops.version stops.count bytes stops.steps stops.text stops.rest (rest_bytes bytes (magic stops.version ++ four_bytes stops.count ++ stops.text) stops.rest fit stops.read.is) stops.read stops.stops;
  place = (let len = ap (λ (l : List ℕ). length l) stops.read.is ∙ length-append (magic stops.version ++ four_bytes stops.count ++ stops.text) stops.rest
      ∙ ap (λ (k : ℕ). k + length stops.rest) (length-append (magic stops.version ++ four_bytes stops.count) stops.text ∙ ap (λ (k : ℕ). k + length stops.text) (length-append (magic stops.version) (four_bytes stops.count))) in
      let four : length (four_bytes stops.count) ≡ 4 = refl in
      omega (arith, magic_len stops.version, len, four, stops.place));
}
