-- Where no test fails nothing is foreign.
use Rattle.std.proofs.Common.{◌≡◌, ◌≢◌, ℕ, ◌+◌, Bool, true, false, not, ◌&&◌, List, [], ◌∷◌, cond, Option, Some, None, is_some, refl, sym, ◌∙◌, ap}
use Rattle.std.specs.Prelude.{is_none, IsTrue}
use Rattle.std.specs.List.{AllByRecursion, find, position, position_from}
use Rattle.std.specs.Option.{option_or}
use Rattle.std.proofs.lemmas.Iterator.Adapters.{position_from-zero}
use Rattle.staging_names.specs.declared.standing.Found as found
use Rattle.staging_names.specs.declared.staged_name.Journal as journal
use Rattle.staging_names.specs.declared.staged_name.Journal.TheVariants.{Plan, Done, Undone}
use Rattle.staging_names.specs.declared.staged_name.Marker as marker
use Rattle.staging_names.specs.Laws.{IsInOrder}
use Rattle.staging_names.specs.Tests.{fits, foreign_place, is_journal, is_marker, journal_at, journal_of, marker_at, marker_of, beyond_place, counts_more, behind_place, second_position, of_two_journals, unfit, second_marker, unmarked, wants_marker}

-- ---- options

either_none : (a b : Option ℕ) → option_or a b ≡ None → (a ≡ None) × (b ≡ None)
either_none None b e = (refl, e)
either_none (Some n) b e = cc

none_either : (a b : Option ℕ) → a ≡ None → b ≡ None → option_or a b ≡ None
none_either a b p q = ap (λ (o : Option ℕ). option_or o b) p ∙ q

-- ---- first places

some_nowhere_by : {X : Type 0} (p : X → Bool) (i : ℕ) (x : X) (xs : List X) (b : Bool) → p x ≡ b → (position_from p (i + 1) xs ≡ None → AllByRecursion (λ y. p y ≡ false) xs)
    → cond b (Some i) (position_from p (i + 1) xs) ≡ None → AllByRecursion (λ y. p y ≡ false) (x ∷ xs)
some_nowhere_by p i x xs true e rest none = cc
some_nowhere_by p i x xs false e rest none = (e, rest none)

some_nowhere : {X : Type 0} (p : X → Bool) (i : ℕ) (xs : List X) → position_from p i xs ≡ None → AllByRecursion (λ x. p x ≡ false) xs
some_nowhere p i [] e = tt
some_nowhere p i (x ∷ xs) e = some_nowhere_by p i x xs (p x) refl (some_nowhere p (i + 1) xs) e

nowhere_some : {X : Type 0} (p : X → Bool) (i : ℕ) (xs : List X) → AllByRecursion (λ x. p x ≡ false) xs → position_from p i xs ≡ None
nowhere_some p i [] all = refl
nowhere_some p i (x ∷ xs) all = ap (λ (b : Bool). cond b (Some i) (position_from p (i + 1) xs)) all.0 ∙ nowhere_some p (i + 1) xs all.1

not_found : {X : Type 0} (p : X → Bool) (xs : List X) → AllByRecursion (λ x. p x ≡ false) xs → find p xs ≡ None
not_found p [] all = refl
not_found p (x ∷ xs) all = ap (λ (b : Bool). cond b (Some x) (find p xs)) all.0 ∙ not_found p xs all.1

pub none_at : {X : Type 0} (p : X → Bool) (xs : List X) → position p xs ≡ None → AllByRecursion (λ x. p x ≡ false) xs
none_at p xs e = some_nowhere p 0 xs (sym (position_from-zero p xs) ∙ e)

at_none : {X : Type 0} (p : X → Bool) (xs : List X) → AllByRecursion (λ x. p x ≡ false) xs → position p xs ≡ None
at_none p xs all = position_from-zero p xs ∙ nowhere_some p 0 xs all

-- ---- each fits

fit_by : (b : Bool) → not b ≡ false → IsTrue b
fit_by true e = refl
fit_by false e = cc

all_fit : (row : Option journal.Journal) (fs : List found.Found) → AllByRecursion (λ f. not (fits row f) ≡ false) fs → AllByRecursion (λ f. IsTrue (fits row f)) fs
all_fit row [] all = tt
all_fit row (f ∷ fs) all = (fit_by (fits row f) all.0, all_fit row fs all.1)

no_fit_by : (b : Bool) → IsTrue b → not b ≡ false
no_fit_by b e = ap not e

none_unfit : (row : Option journal.Journal) (fs : List found.Found) → AllByRecursion (λ f. IsTrue (fits row f)) fs → AllByRecursion (λ f. not (fits row f) ≡ false) fs
none_unfit row [] all = tt
none_unfit row (f ∷ fs) all = (no_fit_by (fits row f) all.0, none_unfit row fs all.1)

-- ---- two journals

second_of : (o s : Option ℕ) → (o ≡ None → s ≡ None) → cond (is_some s) o None ≡ None → s ≡ None
second_of o None first e = refl
second_of o (Some j) first e = first e

no_first : (fs : List found.Found) → position is_journal fs ≡ None → second_position is_journal fs ≡ None
no_first fs e = ap (behind_place is_journal fs) e

one : (fs : List found.Found) → of_two_journals fs ≡ None → second_position is_journal fs ≡ None
one fs e = second_of (position is_journal fs) (second_position is_journal fs) (no_first fs) e

no_two : (fs : List found.Found) → second_position is_journal fs ≡ None → of_two_journals fs ≡ None
no_two fs e = ap (λ (s : Option ℕ). cond (is_some s) (position is_journal fs) None) e

-- ---- a marker beside `plan`

pub nowhere_journal : (fs : List found.Found) → position is_journal fs ≡ None → journal_of fs ≡ None
nowhere_journal fs e = ap journal_at (not_found is_journal fs (none_at is_journal fs e))

no_plan : (j : Option journal.Journal) → j ≡ None → j ≡ Some Plan → ⊥
no_plan j e is = cc

done_plan : Some Done ≡ Some Plan → ⊥
done_plan e = cc

undone_plan : Some Undone ≡ Some Plan → ⊥
undone_plan e = cc

must_be_marked : (o : Option ℕ) (j : Option journal.Journal) (m : Option marker.Marker) → (o ≡ None → j ≡ None) → cond (wants_marker j && is_none m) o None ≡ None → j ≡ Some Plan → m ≢ None
must_be_marked o None m first e is = absurd (no_plan None refl is)
must_be_marked o (Some Plan) None first e is = λ none. no_plan (Some Plan) (first e) refl
must_be_marked o (Some Plan) (Some m) first e is = λ none. cc
must_be_marked o (Some Done) m first e is = absurd (done_plan is)
must_be_marked o (Some Undone) m first e is = absurd (undone_plan is)

marked_well : (o : Option ℕ) (j : Option journal.Journal) (m : Option marker.Marker) → (j ≡ Some Plan → m ≢ None) → cond (wants_marker j && is_none m) o None ≡ None
marked_well o None m h = refl
marked_well o (Some Plan) None h = absurd (h refl refl)
marked_well o (Some Plan) (Some m) h = refl
marked_well o (Some Done) m h = refl
marked_well o (Some Undone) m h = refl

-- ---- all tests

pub in_order : (fs : List found.Found) → foreign_place fs ≡ None → IsInOrder fs
unfolding foreign_place
in_order fs e =
    let a = either_none (of_two_journals fs) (option_or (unfit fs) (option_or (second_marker fs) (unmarked fs))) e in
    let b = either_none (unfit fs) (option_or (second_marker fs) (unmarked fs)) a.1 in
    let d = either_none (second_marker fs) (unmarked fs) b.1 in
    record {
      one_journal = one fs a.0;
      fit = all_fit (journal_of fs) fs (none_at (λ f. not (fits (journal_of fs) f)) fs b.0);
      one_marker = d.0;
      marked = must_be_marked (position is_journal fs) (journal_of fs) (marker_of fs) (nowhere_journal fs) d.1;
    }

pub not_foreign : (fs : List found.Found) → IsInOrder fs → foreign_place fs ≡ None
unfolding foreign_place
not_foreign fs h =
    none_either (of_two_journals fs) (option_or (unfit fs) (option_or (second_marker fs) (unmarked fs))) (no_two fs h.one_journal)
    (none_either (unfit fs) (option_or (second_marker fs) (unmarked fs)) (at_none (λ f. not (fits (journal_of fs) f)) fs (none_unfit (journal_of fs) fs h.fit))
    (none_either (second_marker fs) (unmarked fs) h.one_marker (marked_well (position is_journal fs) (journal_of fs) (marker_of fs) h.marked)))

-- ---- a marker that counts too many

pub nowhere_marker : (fs : List found.Found) → position is_marker fs ≡ None → marker_of fs ≡ None
nowhere_marker fs e = ap marker_at (not_found is_marker fs (none_at is_marker fs e))

none_beyond : (m : Option marker.Marker) (o : Option ℕ) (steps : ℕ) → (o ≡ None → m ≡ None) → (b : Bool) → counts_more m steps ≡ b → cond b o None ≡ None → b ≡ false
none_beyond m o steps first true e none = sym e ∙ ap (λ (n : Option marker.Marker). counts_more n steps) (first none)
none_beyond m o steps first false e none = refl

pub counted : (fs : List found.Found) (steps : ℕ) → beyond_place fs steps ≡ None → counts_more (marker_of fs) steps ≡ false
counted fs steps e = none_beyond (marker_of fs) (position is_marker fs) steps (nowhere_marker fs) (counts_more (marker_of fs) steps) refl e

pub not_beyond : (fs : List found.Found) (steps : ℕ) → counts_more (marker_of fs) steps ≡ false → beyond_place fs steps ≡ None
not_beyond fs steps e = ap (λ (b : Bool). cond b (position is_marker fs) None) e
