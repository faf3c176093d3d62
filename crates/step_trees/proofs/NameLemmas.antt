-- Names in the staging directory differ, and the paths of steps are apart from all in it that are no entries.
use Rattle.std.proofs.Common.{◌≡◌, ◌≢◌, inl, inr, ⊎_elim, ℕ, ◌<◌, ◌^◌, ◌==◌, ◌&&◌, Bool, true, false, List, [], ◌∷◌, ◌++◌, refl, sym, ◌∙◌, ap, subst, get_or, Option, Some, None, IsTrue}
use Rattle.std.proofs.lemmas.Bool.{eq-eqb}
use Rattle.std.proofs.lemmas.Fmt.{decimal_is_IsNumeral}
use Rattle.std.specs.Str.Parse.{digits_value}
use Rattle.std.specs.Prelude.{decimal}
use Rattle.std.specs.List.{AllByRecursion, list_all}
use Rattle.std.specs.Str.{is_utf8}
use Rattle.std.proofs.lemmas.Str.{is_utf8-from_IsUtf8}
use Rattle.dired_text.specs.Paths.{Names, AreNames, is_name, rest_below}
use Rattle.dired_text.proofs.PathLemmas.{rest_below-some}
use Rattle.commit_steps.specs.Staging.{staging_name, staged, at_marker, back_marker, temporary, held, fresh_name, new_journal, plan, sealed, undone, IsEntryName}
use Rattle.commit_steps.specs.Steps.{IsName, IsOutside, IsStepPath}
use Rattle.step_trees.specs.Apart.{IsApart}

-- the first byte tells all kinds of names apart
abbrev pub initial : List ℕ → ℕ
initial xs = get_or xs 0 0

pub differ : (xs ys : List ℕ) (a b : ℕ) → initial xs ≡ a → initial ys ≡ b → (a == b) ≡ false → xs ≢ ys
differ xs ys a b ea eb test same = let one : a ≡ b = sym ea ∙ ap initial same ∙ eb in let yes : (a == b) ≡ true = eq-eqb a b one in cc

pub i-plan : initial plan ≡ 112
unfolding plan
i-plan = refl

pub i-sealed : initial sealed ≡ 100
unfolding sealed
i-sealed = refl

pub i-undone : initial undone ≡ 117
unfolding undone
i-undone = refl

pub i-new : initial new_journal ≡ 110
unfolding new_journal
i-new = refl

pub i-at : (m : ℕ) → initial (at_marker m) ≡ 97
unfolding at_marker
i-at m = refl

pub i-back : (m : ℕ) → initial (back_marker m) ≡ 98
unfolding back_marker
i-back m = refl

pub i-temporary : (n : ℕ) → initial (temporary n) ≡ 116
unfolding temporary
i-temporary n = refl

pub i-held : (n : ℕ) → initial (held n) ≡ 104
unfolding held
i-held n = refl

pub i-fresh : (n : ℕ) → initial (fresh_name n) ≡ 102
unfolding fresh_name
i-fresh n = refl

decimal_injects : (m n : ℕ) → m < 2 ^ 64 → n < 2 ^ 64 → decimal m ≡ decimal n → m ≡ n
decimal_injects m n lm ln e = sym (decimal_is_IsNumeral m lm).1 ∙ ap (digits_value 10) e ∙ (decimal_is_IsNumeral n ln).1

pub at_injects : (m n : ℕ) → m < 2 ^ 64 → n < 2 ^ 64 → at_marker m ≡ at_marker n → m ≡ n
unfolding at_marker
at_injects m n lm ln e = decimal_injects m n lm ln (cc)

pub back_injects : (m n : ℕ) → m < 2 ^ 64 → n < 2 ^ 64 → back_marker m ≡ back_marker n → m ≡ n
unfolding back_marker
back_injects m n lm ln e = decimal_injects m n lm ln (cc)

pub fresh_injects : (m n : ℕ) → m < 2 ^ 64 → n < 2 ^ 64 → fresh_name m ≡ fresh_name n → m ≡ n
unfolding fresh_name
fresh_injects m n lm ln e = decimal_injects m n lm ln (cc)

-- a name that is no entry's: its first byte is none of theirs
pub record IsOwn (x : List ℕ) : Type 0 where
  pub no_temporary : (initial x == 116) ≡ false
  pub no_held : (initial x == 104) ≡ false
  pub no_fresh : (initial x == 102) ≡ false

own_by : (x : List ℕ) (b : ℕ) → initial x ≡ b → (b == 116) ≡ false → (b == 104) ≡ false → (b == 102) ≡ false → IsOwn x
own_by x b e t h f = record { no_temporary = ap (λ k. k == 116) e ∙ t; no_held = ap (λ k. k == 104) e ∙ h; no_fresh = ap (λ k. k == 102) e ∙ f }

pub own-plan : IsOwn plan
own-plan = own_by plan 112 i-plan refl refl refl

pub own-sealed : IsOwn sealed
own-sealed = own_by sealed 100 i-sealed refl refl refl

pub own-undone : IsOwn undone
own-undone = own_by undone 117 i-undone refl refl refl

pub own-at : (m : ℕ) → IsOwn (at_marker m)
own-at m = own_by (at_marker m) 97 (i-at m) refl refl refl

pub own-back : (m : ℕ) → IsOwn (back_marker m)
own-back m = own_by (back_marker m) 98 (i-back m) refl refl refl

pub own-new : IsOwn new_journal
own-new = own_by new_journal 110 i-new refl refl refl

pub not_temporary : (x : List ℕ) (n : ℕ) → IsOwn x → x ≢ temporary n
not_temporary x n own = differ x (temporary n) (initial x) 116 refl (i-temporary n) own.no_temporary

pub not_held : (x : List ℕ) (n : ℕ) → IsOwn x → x ≢ held n
not_held x n own = differ x (held n) (initial x) 104 refl (i-held n) own.no_held

pub not_fresh : (x : List ℕ) (n : ℕ) → IsOwn x → x ≢ fresh_name n
not_fresh x n own = differ x (fresh_name n) (initial x) 102 refl (i-fresh n) own.no_fresh

pub not_entry : (x name : List ℕ) → IsOwn x → IsEntryName name → x ≢ name
not_entry x name own entry same = ⊎_elim (λ e. not_temporary x entry.number own (same ∙ e))
    (λ more. ⊎_elim (λ e. not_held x entry.number own (same ∙ e)) (λ e. not_fresh x entry.number own (same ∙ e)) more) entry.named

-- ---- paths

pub are_names : (p : Names) → AllByRecursion IsName p → AreNames p
are_names [] all = refl
are_names (n ∷ p) all = both (is_name n) (is_utf8 n) (list_all (λ x. is_name x && is_utf8 x) p) (all.0).name (is_utf8-from_IsUtf8 n (all.0).utf8) (are_names p all.1)
  where
    both : (a b c : Bool) → IsTrue a → b ≡ true → IsTrue c → IsTrue ((a && b) && c)
    both true true c ea eb ec = ec
    both true false c ea eb ec = cc
    both false b c ea eb ec = cc

pub none_below : (p q : Names) → ((r : Names) → q ≢ p ++ r) → rest_below p q ≡ None
none_below p q other = by_rest (rest_below p q) refl
  where
    by_rest : (o : Option Names) → rest_below p q ≡ o → o ≡ None
    by_rest None e = refl
    by_rest (Some r) e = absurd (other r (rest_below-some p q r e))

pub apart_staged : (x y : List ℕ) → x ≢ y → IsApart (staged x) (staged y)
apart_staged x y other = (none_below (staged x) (staged y) (λ r e. other (let k : y ≡ x = cc in sym k)), none_below (staged y) (staged x) (λ r e. other (let k : x ≡ y = cc in k)))

pub apart_outside : (x : List ℕ) (p : Names) → IsOutside p → IsApart (staged x) p
apart_outside x [] outside = absurd outside
apart_outside x (y ∷ p) outside = (none_below (staged x) (y ∷ p) (λ r e. outside (let k : y ≡ staging_name = cc in k)), none_below (y ∷ p) (staged x) (λ r e. outside (let k : staging_name ≡ y = cc in sym k)))

pub apart_step : (x : List ℕ) (p : Names) → IsOwn x → IsStepPath p → IsApart (staged x) p
apart_step x p own (inl outside) = apart_outside x p outside
apart_step x p own (inr entry) = subst (IsApart (staged x)) (sym entry.is) (apart_staged x entry.name (not_entry x entry.name own entry.entry))

pub not_root_outside : (p : Names) → IsOutside p → p ≢ []
not_root_outside [] outside e = outside
not_root_outside (x ∷ p) outside e = cc

pub not_root : (p : Names) → IsStepPath p → p ≢ []
not_root p (inl outside) e = not_root_outside p outside e
not_root p (inr entry) e = let k : staged entry.name ≡ [] = sym entry.is ∙ e in cc
