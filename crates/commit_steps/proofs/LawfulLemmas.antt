-- The tests of steps hold of just the lawful ones.
use Rattle.std.proofs.Common.{◌≡◌, ◌≢◌, ◌⊎◌, inl, inr, ℕ, ◌≤◌, ◌==◌, nat_le, Bool, true, false, ◌&&◌, ◌||◌, not, List, [], ◌∷◌, Option, None, Some, decimal, refl, sym, ap, ◌∙◌, arith}
use Rattle.std.specs.Prelude.{is_none}
use Rattle.std.specs.Str.{bytes_eq}
use Rattle.std.proofs.lemmas.Bool.{cases_Bool}
use Rattle.std.proofs.lemmas.Bool.Decides.{nat_tests}
use Rattle.std.proofs.lemmas.Slice.Eq.{bytes_eq-Decides}
use Rattle.dired_text.specs.Paths.{Names, rest_below}
use Rattle.commit_steps.specs.declared.step.Step.{Step}
use Rattle.commit_steps.specs.declared.step.Step.TheVariants.{MakeDir, Rename, Mode}
use Rattle.commit_steps.specs.Numbers.{is_number, IsNumber}
use Rattle.commit_steps.specs.Staging.{staging_name, temporary, held, fresh_name, IsEntryName}
use Rattle.commit_steps.specs.Steps.{IsOutside, IsEntryPath, IsStepPath, IsLawfulStep}
use Rattle.commit_steps.specs.Tests.{is_letter, is_entry_name, is_outside, is_entry_path, is_step_path, are_apart, is_lawful_step}
use Rattle.commit_steps.proofs.NumberLemmas.{and_both, and_make, number_is, number_holds}

or_either : (a b : Bool) → (a || b) ≡ true → (a ≡ true) ⊎ (b ≡ true)
or_either true b e = inl refl
or_either false b e = inr e

or_left : (a b : Bool) → a ≡ true → (a || b) ≡ true
or_left a b p = cc

or_right : (a b : Bool) → b ≡ true → (a || b) ≡ true
or_right true b p = refl
or_right false b p = p

eq_is : (m n : ℕ) → (m == n) ≡ true → m ≡ n
eq_is m n e = grind (arith, nat_tests)

ne_is : (m n : ℕ) → not (m == n) ≡ true → m ≢ n
ne_is m n e same = grind (arith, nat_tests)

ne_holds : (m n : ℕ) → m ≢ n → not (m == n) ≡ true
ne_holds m n h = grind (arith, nat_tests)

le_is : (m n : ℕ) → nat_le m n ≡ true → m ≤ n
le_is m n e = grind (arith, nat_tests)

le_holds : (m n : ℕ) → m ≤ n → nat_le m n ≡ true
le_holds m n h = grind (arith, nat_tests)

none_is : {A : Type 0} (o : Option A) → is_none o ≡ true → o ≡ None
none_is None e = refl
none_is (Some x) e = cc

-- ---- names of entries

named : (b : ℕ) (ds : List ℕ) → is_letter b ≡ true → (n : IsNumber ds) → IsEntryName (b ∷ ds)
unfolding temporary held fresh_name
named b ds letter n = elim (or_either (b == 116 || b == 104) (b == 102) letter) [
  | inl first ↦ elim (or_either (b == 116) (b == 104) first) [
    | inl t ↦ record { number = n.number; small = n.small; named = inl (rw (eq_is b 116 t, n.is) refl) }
    | inr h ↦ record { number = n.number; small = n.small; named = inr (inl (rw (eq_is b 104 h, n.is) refl)) }
  ]
  | inr f ↦ record { number = n.number; small = n.small; named = inr (inr (rw (eq_is b 102 f, n.is) refl)) }
]

entry_is : (n : List ℕ) → is_entry_name n ≡ true → IsEntryName n
entry_is [] e = cc
entry_is (b ∷ ds) e = let p = and_both (is_letter b) (is_number ds) e in named b ds p.0 (number_is ds p.1)

spelled : (n : List ℕ) (entry : IsEntryName n) → is_entry_name n ≡ true
unfolding temporary held fresh_name
spelled n entry =
    let number : IsNumber (decimal entry.number) = record { number = entry.number; small = entry.small; is = refl } in
    let digits = number_holds (decimal entry.number) number in
    elim entry.named [
      | inl t ↦ rw t digits
      | inr other ↦ elim other [ inl h ↦ rw h digits | inr f ↦ rw f digits ]
    ]

-- ---- paths

outside_is : (p : Names) → is_outside p ≡ true → IsOutside p
outside_is [] e = cc
outside_is (x ∷ p) e = λ same. let t = (bytes_eq-Decides x staging_name).1 same in let clash : false ≡ true = sym (ap not t) ∙ e in cc

outside_holds : (p : Names) → IsOutside p → is_outside p ≡ true
outside_holds [] h = absurd h
outside_holds (x ∷ p) h = elim (cases_Bool (bytes_eq x staging_name)) [
  | inl same ↦ absurd (h ((bytes_eq-Decides x staging_name).0 same))
  | inr other ↦ ap not other
]

entry_path_is : (p : Names) → is_entry_path p ≡ true → IsEntryPath p
entry_path_is [] e = cc
entry_path_is (x ∷ []) e = cc
entry_path_is (x ∷ n ∷ []) e =
    let p = and_both (bytes_eq x staging_name) (is_entry_name n) e in
    record { name = n; is = ap (λ (m : List ℕ). m ∷ n ∷ []) ((bytes_eq-Decides x staging_name).0 p.0); entry = entry_is n p.1 }
entry_path_is (x ∷ n ∷ m ∷ p) e = cc

entry_path_holds : (p : Names) → IsEntryPath p → is_entry_path p ≡ true
entry_path_holds p h =
    ap is_entry_path h.is ∙ and_make (bytes_eq staging_name staging_name) (is_entry_name h.name) ((bytes_eq-Decides staging_name staging_name).1 refl) (spelled h.name h.entry)

step_path_is : (p : Names) → is_step_path p ≡ true → IsStepPath p
step_path_is p e = elim (or_either (is_outside p) (is_entry_path p) e) [ inl o ↦ inl (outside_is p o) | inr s ↦ inr (entry_path_is p s) ]

step_path_holds : (p : Names) → IsStepPath p → is_step_path p ≡ true
step_path_holds p (inl o) = or_left (is_outside p) (is_entry_path p) (outside_holds p o)
step_path_holds p (inr s) = or_right (is_outside p) (is_entry_path p) (entry_path_holds p s)

-- ---- steps

pub lawful_is : (step : Step) → is_lawful_step step ≡ true → IsLawfulStep step
lawful_is (MakeDir p) e = outside_is p e
lawful_is (Rename from to) e =
    let a = and_both (is_step_path from && is_step_path to) (are_apart from to) e in
    let b = and_both (is_step_path from) (is_step_path to) a.0 in
    let d = and_both (is_none (rest_below from to)) (is_none (rest_below to from)) a.1 in
    (step_path_is from b.0, step_path_is to b.1, none_is (rest_below from to) d.0, none_is (rest_below to from) d.1)
lawful_is (Mode p old new) e =
    let a = and_both (is_outside p && nat_le old 0o7777 && nat_le new 0o7777) (not (old == new)) e in
    let b = and_both (is_outside p && nat_le old 0o7777) (nat_le new 0o7777) a.0 in
    let d = and_both (is_outside p) (nat_le old 0o7777) b.0 in
    (outside_is p d.0, le_is old 0o7777 d.1, le_is new 0o7777 b.1, ne_is old new a.1)

pub lawful_holds : (step : Step) → IsLawfulStep step → is_lawful_step step ≡ true
lawful_holds (MakeDir p) h = outside_holds p h
lawful_holds (Rename from to) h =
    and_make (is_step_path from && is_step_path to) (are_apart from to)
    (and_make (is_step_path from) (is_step_path to) (step_path_holds from h.0) (step_path_holds to h.1))
    (and_make (is_none (rest_below from to)) (is_none (rest_below to from)) (ap is_none h.2) (ap is_none h.3))
lawful_holds (Mode p old new) h =
    and_make (is_outside p && nat_le old 0o7777 && nat_le new 0o7777) (not (old == new))
    (and_make (is_outside p && nat_le old 0o7777) (nat_le new 0o7777)
    (and_make (is_outside p) (nat_le old 0o7777) (outside_holds p h.0) (le_holds old 0o7777 h.1)) (le_holds new 0o7777 h.2))
    (ne_holds old new h.3)
