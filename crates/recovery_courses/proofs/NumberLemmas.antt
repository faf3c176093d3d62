-- Names of entries differ, and small facts on tests of lists.
use Rattle.std.proofs.Common.{◌≡◌, ◌≢◌, ℕ, ◌<◌, ◌^◌, Bool, false, ◌||◌, List, [], ◌∷◌, refl, sym, ◌∙◌, ap}
use Rattle.std.proofs.lemmas.Fmt.{decimal_is_IsNumeral}
use Rattle.std.specs.List.{list_any}
use Rattle.std.specs.Prelude.{decimal}
use Rattle.std.specs.Str.Parse.{digits_value}
use Rattle.commit_steps.specs.Staging.{temporary, held, fresh_name}
use Rattle.step_trees.proofs.NameLemmas.{differ, i-temporary, i-held, i-fresh}

decimal_injects : (m n : ℕ) → m < 2 ^ 64 → n < 2 ^ 64 → decimal m ≡ decimal n → m ≡ n
decimal_injects m n lm ln e = sym (decimal_is_IsNumeral m lm).1 ∙ ap (digits_value 10) e ∙ (decimal_is_IsNumeral n ln).1

pub held_injects : (m n : ℕ) → m < 2 ^ 64 → n < 2 ^ 64 → held m ≡ held n → m ≡ n
unfolding held
held_injects m n lm ln e = decimal_injects m n lm ln (cc)

pub fresh_not_held : (m n : ℕ) → fresh_name m ≢ held n
fresh_not_held m n = differ (fresh_name m) (held n) 102 104 (i-fresh m) (i-held n) refl

pub temporary_not_held : (m n : ℕ) → temporary m ≢ held n
temporary_not_held m n = differ (temporary m) (held n) 116 104 (i-temporary m) (i-held n) refl

pub held_not_fresh : (m n : ℕ) → held m ≢ fresh_name n
held_not_fresh m n = differ (held m) (fresh_name n) 104 102 (i-held m) (i-fresh n) refl

pub temporary_not_fresh : (m n : ℕ) → temporary m ≢ fresh_name n
temporary_not_fresh m n = differ (temporary m) (fresh_name n) 116 102 (i-temporary m) (i-fresh n) refl

pub none_of_any : {X : Type 0} (test : X → Bool) (xs : List X) → ((x : X) → test x ≡ false) → list_any test xs ≡ false
none_of_any test [] none = refl
none_of_any test (x ∷ xs) none = ap (λ b. b || list_any test xs) (none x) ∙ none_of_any test xs none
