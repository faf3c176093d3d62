-- The number of the steps of a plan.
use Rattle.std.proofs.Common.{◌≡◌, ◌⊎◌, inl, inr, ℕ, ◌+◌, ◌<◌, Bool, true, false, cond, not, ◌&&◌, ◌||◌, List, [], ◌∷◌, ◌++◌, map, filter, length, refl, sym, ◌∙◌, ap, subst, arith, length-append, Option, Some, None, is_some, count_by}
use Rattle.std.specs.Prelude.{Contains}
use Rattle.std.specs.List.{flat_map, filter_map, cons_option}
use Rattle.std.specs.Option.{option_map}
use Rattle.std.proofs.lemmas.Bool.{cond-true, cond-false, cases_Bool}
use Rattle.std.proofs.lemmas.List.{length-map}
use Rattle.std.proofs.lemmas.List.Sums.{length-filter}
use Rattle.dired_text.specs.Paths.{Names}
use Rattle.commit_steps.specs.declared.step.Step.{Step}
use Rattle.commit_steps.specs.declared.step.Step.TheVariants.{MakeDir}
use Rattle.tree_core.specs.declared.changes.Changes.{Changes}
use Rattle.tree_core.specs.declared.changes.Changes.TheVariants.{Edits, Removals, Creations}
use Rattle.edit_words.specs.declared.row.Row.{Row}
use Rattle.edit_words.specs.Rows.{rows, edit_row, removal_row, creation_row}
use Rattle.edit_words.specs.Edited.{is_fresh}
use Rattle.edit_words.specs.Refusals.{victim_of}
use Rattle.edit_words.specs.Sight.{Sight}
use Rattle.edit_words.specs.WellFormed.{LinesRise}
use Rattle.edit_words.proofs.FirstLemmas.{rise_rest, rise_first}
use Rattle.edit_rules.specs.Plans.{mode_changes, victims_of, victim_line}
use Rattle.edit_laws.proofs.ListLemmas.{contains_head, contains_tail, contains_cases, contains_none, map_parts}
use Rattle.plan_moves.specs.Waiting.{Waiting, waiting, knots, HasDifferentLines}
use Rattle.plan_moves.specs.Plan.{IsPlan, held_by, held_paths, holds, is_given_up, is_moving, listed, mode_step, step_count}
use Rattle.plan_moves.proofs.Fuel.{number}

length-holds : (n : ℕ) (ps : List Names) → length (holds n ps) ≡ length ps
length-holds n [] = refl
length-holds n (p ∷ ps) = let more = length-holds (n + 1) ps in omega arith

-- ---- what is put aside

-- what is given up has a source
abbrev pub HasSources : List Row → Type 0
HasSources rs = (r : Row) → Contains rs r → is_given_up r ≡ true → (p : Names) × (r.source ≡ Some p)

pub given_up_have_sources : (changes : Changes) → HasSources (rows changes)
given_up_have_sources (Edits edits) r c given = let e = map_parts edit_row edits r c in (e.0.source, ap (λ (x : Row). x.source) (sym e.2))
given_up_have_sources (Removals removals) r c given = let e = map_parts removal_row removals r c in (e.0.path, ap (λ (x : Row). x.source) (sym e.2))
given_up_have_sources (Creations creations) r c given =
    let e = map_parts creation_row creations r c in
    let both : true ≡ false = sym given ∙ ap is_given_up (sym e.2) in
    absurd cc

sources_rest : (r : Row) (rs : List Row) → HasSources (r ∷ rs) → HasSources rs
sources_rest r rs has o c = has o (contains_tail r o rs c)

first_counted : {X : Type 0} (p : X → Bool) (x : X) (xs : List X) → length (filter p (x ∷ xs)) ≡ cond (p x) 1 0 + length (filter p xs)
first_counted p x xs = elim (cases_Bool (p x)) [
  | inl is ↦ let one = ap (λ (n : ℕ). n + length (filter p xs)) (cond-true (p x) 1 0 is) in let e = ap length (cond-true (p x) (x ∷ filter p xs) (filter p xs) is) in omega arith
  | inr isnt ↦ let one = ap (λ (n : ℕ). n + length (filter p xs)) (cond-false (p x) 1 0 isnt) in let e = ap length (cond-false (p x) (x ∷ filter p xs) (filter p xs) isnt) in omega arith
]

swapped : (a b c d : ℕ) → (a + b) + (c + d) ≡ (a + c) + (b + d)
swapped a b c d = omega arith

module _ (sight : Sight) (all : List Row) where
  given_up : (r : Row) → (is_given_up r ≡ true → (p : Names) × (r.source ≡ Some p)) → length (cond (is_given_up r) (listed r.source) []) ≡ cond (is_given_up r) 1 0
  given_up r has = elim (cases_Bool (is_given_up r)) [
    | inl is ↦ ap length (cond-true (is_given_up r) (listed r.source) [] is) ∙ ap (λ (o : Option Names). length (listed o)) (has is).1 ∙ sym (cond-true (is_given_up r) 1 0 is)
    | inr isnt ↦ ap length (cond-false (is_given_up r) (listed r.source) [] isnt) ∙ sym (cond-false (is_given_up r) 1 0 isnt)
  ]

  victim_counted : (line : ℕ) (o : Option Names) (rest : List (ℕ × Names)) → length (cons_option (option_map (λ (p : Names). (line, p)) o) rest) ≡ length (listed o) + length rest
  victim_counted line None rest = omega arith
  victim_counted line (Some p) rest = omega arith

  pub put_aside_counted : (rs : List Row) → HasSources rs → length (flat_map (held_by sight all) rs) ≡ length (filter_map (victim_line sight all) rs) + length (filter is_given_up rs)
  put_aside_counted [] has = refl
  put_aside_counted (r ∷ rs) has =
      length-append (held_by sight all r) (flat_map (held_by sight all) rs)
      ∙ ap (λ (n : ℕ). n + length (flat_map (held_by sight all) rs)) (length-append (listed (victim_of sight all r)) (cond (is_given_up r) (listed r.source) [])
      ∙ ap (λ (n : ℕ). length (listed (victim_of sight all r)) + n) (given_up r (has r (contains_head r rs))))
      ∙ ap (λ (n : ℕ). (length (listed (victim_of sight all r)) + cond (is_given_up r) 1 0) + n) (put_aside_counted rs (sources_rest r rs has))
      ∙ swapped (length (listed (victim_of sight all r))) (cond (is_given_up r) 1 0) (length (filter_map (victim_line sight all) rs)) (length (filter is_given_up rs))
      ∙ ap (λ (n : ℕ). n + (cond (is_given_up r) 1 0 + length (filter is_given_up rs))) (sym (victim_counted r.line (victim_of sight all r) (filter_map (victim_line sight all) rs)))
      ∙ ap (λ (n : ℕ). length (filter_map (victim_line sight all) (r ∷ rs)) + n) (sym (first_counted is_given_up r rs))

-- ---- what waits

one_more : {X : Type 0} (b : Bool) (x : X) (xs ys : List X) → length ys ≡ length xs → length (cond b (x ∷ xs) ys) ≡ cond b 1 0 + length xs
one_more true x xs ys e = omega arith
one_more false x xs ys e = omega arith

first_waiting : (r : Row) (rs : List Row) → length (waiting (r ∷ rs)) ≡ cond (is_fresh r || is_some r.to) 1 0 + length (waiting rs)
first_waiting r rs = one_more (is_fresh r || is_some r.to) (record { row = r; is_away = is_fresh r }) (waiting rs) (waiting rs) refl

either_one : (made moves : Bool) → cond (made || moves) 1 0 ≡ cond (moves && not made) 1 0 + cond made 1 0
either_one true true = refl
either_one true false = refl
either_one false true = refl
either_one false false = refl

pub waiting_counted : (rs : List Row) → length (waiting rs) ≡ length (filter is_moving rs) + length (filter is_fresh rs)
waiting_counted [] = refl
waiting_counted (r ∷ rs) =
    first_waiting r rs
    ∙ ap (λ (n : ℕ). n + length (waiting rs)) (either_one (is_fresh r) (is_some r.to))
    ∙ ap (λ (n : ℕ). (cond (is_moving r) 1 0 + cond (is_fresh r) 1 0) + n) (waiting_counted rs)
    ∙ swapped (cond (is_moving r) 1 0) (cond (is_fresh r) 1 0) (length (filter is_moving rs)) (length (filter is_fresh rs))
    ∙ ap (λ (n : ℕ). n + (cond (is_fresh r) 1 0 + length (filter is_fresh rs))) (sym (first_counted is_moving r rs))
    ∙ ap (λ (n : ℕ). length (filter is_moving (r ∷ rs)) + n) (sym (first_counted is_fresh r rs))

-- what waits is of these rows
pub waiting_listed : (rs : List Row) (w : Waiting) → Contains (waiting rs) w → Contains rs w.row
waiting_listed [] w c = absurd (contains_none w c)
waiting_listed (r ∷ rs) w c = go (waiting_listed rs w) (cases_Bool (is_fresh r || is_some r.to))
  where
    go : (Contains (waiting rs) w → Contains rs w.row) → ((is_fresh r || is_some r.to) ≡ true) ⊎ ((is_fresh r || is_some r.to) ≡ false) → Contains (r ∷ rs) w.row
    go more (inl waits) = elim (contains_cases (record { row = r; is_away = is_fresh r }) w (waiting rs)
        (subst (λ (l : List Waiting). Contains l w) (cond-true _ ((record { row = r; is_away = is_fresh r }) ∷ waiting rs) (waiting rs) waits) c)) [
          | inl same ↦ subst (λ (o : Row). Contains (r ∷ rs) o) (ap (λ (x : Waiting). x.row) same) (contains_head r rs)
          | inr later ↦ contains_tail r w.row rs (more later)
        ]
    go more (inr stays) = contains_tail r w.row rs (more (subst (λ (l : List Waiting). Contains l w) (cond-false _ ((record { row = r; is_away = is_fresh r }) ∷ waiting rs) (waiting rs) stays) c))

-- and their lines differ
pub waiting_different : (rs : List Row) → LinesRise rs → HasDifferentLines (waiting rs)
waiting_different [] rise = tt
waiting_different (r ∷ rs) rise = go (waiting_different rs (rise_rest r rs rise)) (cases_Bool (is_fresh r || is_some r.to))
  where
    go : HasDifferentLines (waiting rs) → ((is_fresh r || is_some r.to) ≡ true) ⊎ ((is_fresh r || is_some r.to) ≡ false) → HasDifferentLines (waiting (r ∷ rs))
    go more (inl waits) = subst HasDifferentLines (sym (cond-true _ ((record { row = r; is_away = is_fresh r }) ∷ waiting rs) (waiting rs) waits))
        ((λ v c same. let less : r.line < v.row.line = rise_first r v.row rs rise (waiting_listed rs v c) in omega arith), more)
    go more (inr stays) = subst HasDifferentLines (sym (cond-false _ ((record { row = r; is_away = is_fresh r }) ∷ waiting rs) (waiting rs) stays)) more

-- ---- all steps

filter_every : {X : Type 0} (xs : List X) → length (filter (λ (x : X). true) xs) ≡ length xs
filter_every [] = refl
filter_every (x ∷ xs) = let more = filter_every xs in omega arith

same_length : {X : Type 0} (xs ys : List X) → count_by (λ (x : X). true) xs ≡ count_by (λ (x : X). true) ys → length xs ≡ length ys
same_length xs ys e = sym (filter_every xs) ∙ length-filter (λ (x : _). true) xs ∙ e ∙ sym (length-filter (λ (x : _). true) ys) ∙ filter_every ys

in_order : (v g d m f k c : ℕ) → (v + g) + (d + ((m + f + k) + c)) ≡ v + g + d + m + f + c + k
in_order v g d m f k c = omega arith

pub steps_counted : (sight : Sight) (rs : List Row) (steps : List Step) → LinesRise rs → HasSources rs → (plan : IsPlan sight rs steps) → length steps ≡ step_count sight rs plan.dirs
steps_counted sight rs steps rise has plan =
    ap length plan.steps_are
    ∙ length-append (holds 0 (held_paths sight rs)) (map MakeDir plan.dirs ++ (plan.moves ++ map mode_step plan.modes))
    ∙ ap (λ (n : ℕ). n + length (map MakeDir plan.dirs ++ (plan.moves ++ map mode_step plan.modes))) (length-holds 0 (held_paths sight rs) ∙ put_aside_counted sight rs rs has ∙ ap (λ (n : ℕ). length (victims_of sight rs) + n) (length-filter is_given_up rs))
    ∙ ap (λ (n : ℕ). (length (victims_of sight rs) + count_by is_given_up rs) + n) (length-append (map MakeDir plan.dirs) (plan.moves ++ map mode_step plan.modes)
    ∙ ap (λ (n : ℕ). n + length (plan.moves ++ map mode_step plan.modes)) (length-map plan.dirs MakeDir)
    ∙ ap (λ (n : ℕ). length plan.dirs + n) (length-append plan.moves (map mode_step plan.modes)
    ∙ ap (λ (n : ℕ). n + length (map mode_step plan.modes)) (number 0 _ (waiting rs) plan.moves (waiting_different rs rise) plan.moved
    ∙ ap (λ (n : ℕ). n + knots (waiting rs)) (waiting_counted rs ∙ ap (λ (n : ℕ). n + length (filter is_fresh rs)) (length-filter is_moving rs) ∙ ap (λ (n : ℕ). count_by is_moving rs + n) (length-filter is_fresh rs)))
    ∙ ap (λ (n : ℕ). (count_by is_moving rs + count_by is_fresh rs + knots (waiting rs)) + n)
    (length-map plan.modes mode_step ∙ same_length plan.modes (mode_changes sight rs) (plan.changed.same (λ m. true)))))
    ∙ in_order (length (victims_of sight rs)) (count_by is_given_up rs) (length plan.dirs) (count_by is_moving rs) (count_by is_fresh rs) (knots (waiting rs)) (length (mode_changes sight rs))
