-- A step that is read stands there, and one that stands there is read again.
use Rattle.std.proofs.Common.{◌≡◌, ◌≢◌, ℕ, suc, ◌^◌, true, cond, eqb, ◌&&◌, List, [], ◌∷◌, ◌++◌, Some, None, refl, sym, ap, subst, ◌∙◌, append_assoc, arith, inl, inr}
use Rattle.std.specs.Int.{w16}
use Rattle.std.proofs.lemmas.Bool.{cases_Bool, eqb-true}
use Rattle.dired_text.specs.Paths.{Names, joined}
use Rattle.commit_steps.specs.declared.step.Step.{Step}
use Rattle.commit_steps.specs.declared.step.Step.TheVariants.{MakeDir, Rename, Mode}
use Rattle.commit_steps.specs.Steps.{IsOutside, IsStepPath, IsLawfulStep, HasPaths, first_path, step_bytes}
use Rattle.commit_steps.specs.Tests.{is_lawful_step}
use Rattle.commit_steps.proofs.LawfulLemmas.{lawful_is, lawful_holds}
use Rattle.commit_journal.specs.declared.version.Version.{Version}
use Rattle.commit_journal.specs.Grammar.{two_bytes}
use Rattle.commit_journal.specs.Spelling.{path_text, step_text}
use Rattle.commit_journal.specs.Reading.{◌>>=◌, number_at, path_at, make_dir_at, rename_at, mode_at, step_at, fits, next_at}
use Rattle.commit_journal.proofs.TextLemmas.{and_both}
use Rattle.commit_journal.proofs.ReadLemmas.{IsBytes, bind_some, test_some, some_is, Takes, Takes-then, wide16, number_takes, number_again, path_takes, path_again}

-- ---- paths of lawful steps are not the root

outside_some : (p : Names) → IsOutside p → p ≢ []
outside_some [] h e = h
outside_some (x ∷ p) h e = cc

step_path_some : (p : Names) → IsStepPath p → p ≢ []
step_path_some p (inl o) = outside_some p o
step_path_some p (inr s) = λ e. (let clash = sym s.is ∙ e in cc)

-- ---- steps

pub record StepRead (v : Version) (base bytes : List ℕ) (step : Step) (first rest : List ℕ) : Type 0 where
  pub takes : Takes bytes (step_text v base step) rest
  pub paths : HasPaths step
  pub is : joined (first_path step) ≡ first

behind : (b : ℕ) (bytes text rest : List ℕ) → Takes bytes text rest → Takes (b ∷ bytes) (b ∷ text) rest
behind b bytes text rest t = record { parts = ap (λ (l : List ℕ). b ∷ l) t.parts; rest_fits = t.rest_fits }

make_dir_takes : (v : Version) (base bytes : List ℕ) (x : Step × List ℕ × List ℕ) → IsBytes bytes → make_dir_at v base bytes ≡ Some x → StepRead v base (68 ∷ bytes) x.0 x.1 x.2
unfolding make_dir_at step_text
make_dir_takes v base bytes x fit e =
    let a = bind_some (path_at v base bytes) (λ p. Some (MakeDir p.0, p.1, p.2)) x e in
    let p = path_takes v base bytes a.0 fit a.1 in
    let made : Step × List ℕ × List ℕ = (MakeDir a.0.0, a.0.1, a.0.2) in
    subst (λ (y : Step × List ℕ × List ℕ). StepRead v base (68 ∷ bytes) y.0 y.1 y.2) (some_is made x a.2) (record {
      takes = behind 68 bytes (path_text v base a.0.0) a.0.2 p.takes;
      paths = p.path;
      is = p.is;
    })

rename_takes : (v : Version) (base bytes : List ℕ) (x : Step × List ℕ × List ℕ) → IsBytes bytes → rename_at v base bytes ≡ Some x → StepRead v base (82 ∷ bytes) x.0 x.1 x.2
unfolding rename_at step_text
rename_takes v base bytes x fit e =
    let a = bind_some (path_at v base bytes) (λ from. path_at v from.1 from.2 >>= λ to. Some (Rename from.0 to.0, from.1, to.2)) x e in
    let b = bind_some (path_at v a.0.1 a.0.2) (λ to. Some (Rename a.0.0 to.0, a.0.1, to.2)) x a.2 in
    let p = path_takes v base bytes a.0 fit a.1 in
    let q = path_takes v a.0.1 a.0.2 b.0 p.takes.rest_fits b.1 in
    let second : Takes a.0.2 (path_text v (joined a.0.0) b.0.0) b.0.2 = rw p.is q.takes in
    let made : Step × List ℕ × List ℕ = (Rename a.0.0 b.0.0, a.0.1, b.0.2) in
    subst (λ (y : Step × List ℕ × List ℕ). StepRead v base (82 ∷ bytes) y.0 y.1 y.2) (some_is made x b.2) (record {
      takes = behind 82 bytes (path_text v base a.0.0 ++ path_text v (joined a.0.0) b.0.0) b.0.2 (Takes-then bytes (path_text v base a.0.0) a.0.2 (path_text v (joined a.0.0) b.0.0) b.0.2 p.takes second);
      paths = (p.path, q.path);
      is = p.is;
    })

mode_takes : (v : Version) (base bytes : List ℕ) (x : Step × List ℕ × List ℕ) → IsBytes bytes → mode_at v base bytes ≡ Some x → StepRead v base (77 ∷ bytes) x.0 x.1 x.2
unfolding mode_at step_text
mode_takes v base bytes x fit e =
    let a = bind_some (path_at v base bytes) (λ p. number_at w16 p.2 >>= λ old. number_at w16 old.1 >>= λ new. Some (Mode p.0 old.0 new.0, p.1, new.1)) x e in
    let b = bind_some (number_at w16 a.0.2) (λ old. number_at w16 old.1 >>= λ new. Some (Mode a.0.0 old.0 new.0, a.0.1, new.1)) x a.2 in
    let d = bind_some (number_at w16 b.0.1) (λ new. Some (Mode a.0.0 b.0.0 new.0, a.0.1, new.1)) x b.2 in
    let p = path_takes v base bytes a.0 fit a.1 in
    let t1 = number_takes w16 (2 ^ 16) wide16 a.0.2 b.0.0 b.0.1 p.takes.rest_fits b.1 in
    let t2 = number_takes w16 (2 ^ 16) wide16 b.0.1 d.0.0 d.0.1 t1.0.rest_fits d.1 in
    let e01 = Takes-then bytes (path_text v base a.0.0) a.0.2 (two_bytes b.0.0) b.0.1 p.takes t1.0 in
    let e02 = Takes-then bytes (path_text v base a.0.0 ++ two_bytes b.0.0) b.0.1 (two_bytes d.0.0) d.0.1 e01 t2.0 in
    let made : Step × List ℕ × List ℕ = (Mode a.0.0 b.0.0 d.0.0, a.0.1, d.0.1) in
    subst (λ (y : Step × List ℕ × List ℕ). StepRead v base (77 ∷ bytes) y.0 y.1 y.2) (some_is made x d.2) (record {
      takes = behind 77 bytes (path_text v base a.0.0 ++ two_bytes b.0.0 ++ two_bytes d.0.0) d.0.1 e02;
      paths = p.path;
      is = p.is;
    })

pub step_takes : (v : Version) (base bytes : List ℕ) (x : Step × List ℕ × List ℕ) → IsBytes bytes → step_at v base bytes ≡ Some x → StepRead v base bytes x.0 x.1 x.2
unfolding step_at
step_takes v base [] x fit e = absurd cc
step_takes v base (b ∷ bytes) x fit e = elim (cases_Bool (eqb b 68)) [
  | inl d ↦ subst (λ (n : ℕ). StepRead v base (n ∷ bytes) x.0 x.1 x.2) (sym (eqb-true b 68 d)) (make_dir_takes v base bytes x (rest_fits b bytes fit) (rw d at e))
  | inr no_d ↦ elim (cases_Bool (eqb b 82)) [
    | inl r ↦ subst (λ (n : ℕ). StepRead v base (n ∷ bytes) x.0 x.1 x.2) (sym (eqb-true b 82 r)) (rename_takes v base bytes x (rest_fits b bytes fit) (rw (no_d, r) at e))
    | inr no_r ↦ elim (cases_Bool (eqb b 77)) [
      | inl m ↦ subst (λ (n : ℕ). StepRead v base (n ∷ bytes) x.0 x.1 x.2) (sym (eqb-true b 77 m)) (mode_takes v base bytes x (rest_fits b bytes fit) (rw (no_d, no_r, m) at e))
      | inr no_m ↦ let none : None ≡ Some x = rw (no_d, no_r, no_m) at e in absurd cc
    ]
  ]
]
  where
    rest_fits : (b : ℕ) (bytes : List ℕ) → IsBytes (b ∷ bytes) → IsBytes bytes
    rest_fits b bytes h i = h (suc i)

pub step_again : (v : Version) (base : List ℕ) (step : Step) (rest : List ℕ) → IsLawfulStep step → HasPaths step → step_at v base (step_text v base step ++ rest) ≡ Some (step, joined (first_path step), rest)
unfolding step_at make_dir_at rename_at mode_at step_text
step_again v base (MakeDir p) rest lawful paths = rw (path_again v base p rest (outside_some p lawful) paths) refl
step_again v base (Rename from to) rest lawful paths =
    rw (
      append_assoc (path_text v base from) (path_text v (joined from) to) rest,
      path_again v base from (path_text v (joined from) to ++ rest) (step_path_some from lawful.0) paths.0,
      path_again v (joined from) to rest (step_path_some to lawful.1) paths.1,
    ) refl
step_again v base (Mode p old new) rest lawful paths =
    let grouped : (path_text v base p ++ two_bytes old ++ two_bytes new) ++ rest ≡ path_text v base p ++ (two_bytes old ++ (two_bytes new ++ rest)) =
    append_assoc (path_text v base p ++ two_bytes old) (two_bytes new) rest ∙ append_assoc (path_text v base p) (two_bytes old) (two_bytes new ++ rest) in
    ap (mode_at v base) grouped
    ∙ rw (
      path_again v base p (two_bytes old ++ (two_bytes new ++ rest)) (outside_some p lawful.0) paths,
      number_again w16 (2 ^ 16) wide16 old (two_bytes new ++ rest) (omega (arith, lawful.1)),
      number_again w16 (2 ^ 16) wide16 new rest (omega (arith, lawful.2)),
    ) refl

-- ---- lawful steps that don't pass the sum

pub record NextRead (v : Version) (base : List ℕ) (left : ℕ) (bytes : List ℕ) (step : Step) (first rest : List ℕ) : Type 0 where
  pub read : StepRead v base bytes step first rest
  pub lawful : IsLawfulStep step
  pub fitting : fits v left (step_bytes step) ≡ true

pub next_takes : (v : Version) (base : List ℕ) (left : ℕ) (bytes : List ℕ) (x : Step × List ℕ × List ℕ) → IsBytes bytes → next_at v base left bytes ≡ Some x → NextRead v base left bytes x.0 x.1 x.2
unfolding next_at
next_takes v base left bytes x fit e =
    let a = bind_some (step_at v base bytes) (λ step. cond (is_lawful_step step.0 && fits v left (step_bytes step.0)) (Some step) None) x e in
    let g = test_some (is_lawful_step a.0.0 && fits v left (step_bytes a.0.0)) a.0 x a.2 in
    let both = and_both (is_lawful_step a.0.0) (fits v left (step_bytes a.0.0)) g.0 in
    subst (λ (y : Step × List ℕ × List ℕ). NextRead v base left bytes y.0 y.1 y.2) g.1 (record {
      read = step_takes v base bytes a.0 fit a.1;
      lawful = lawful_is a.0.0 both.0;
      fitting = both.1;
    })

pub next_again : (v : Version) (base : List ℕ) (left : ℕ) (step : Step) (rest : List ℕ) → IsLawfulStep step → HasPaths step → fits v left (step_bytes step) ≡ true
    → next_at v base left (step_text v base step ++ rest) ≡ Some (step, joined (first_path step), rest)
unfolding next_at
next_again v base left step rest lawful paths fitting =
    rw (step_again v base step rest lawful paths, lawful_holds step lawful, fitting) refl
