-- What is put aside, as the victims come with their lines.
use Rattle.std.proofs.Common.{◌≡◌, ℕ, zero, suc, ◌==◌, ◌*◌, ◌≤◌, Bool, true, false, if◌then◌else◌, List, [], ◌∷◌, ◌++◌, length, refl, ◌∙◌, ap, arith, append_assoc, length-append, Option, Some, None}
use Rattle.std.specs.List.{cons_option, filter_map, flat_map, slice_get}
use Rattle.std.specs.Option.{option_map}
use Rattle.dired_text.specs.Paths.{Names}
use Rattle.commit_steps.specs.declared.step.Step.{Step}
use Rattle.edit_words.specs.declared.row.Row.{Row}
use Rattle.edit_words.specs.Refusals.{victim_of}
use Rattle.edit_words.specs.Sight.{Sight}
use Rattle.edit_words.specs.WellFormed.{LinesRise}
use Rattle.edit_rules.specs.Plans.{victim_line, victims_of}
use Rattle.plan_moves.specs.Plan.{held_by, held_paths, is_given_up, listed}
use Rattle.commit_plan.specs.Holding.{held_from, victims_at, victims_past}
use Rattle.commit_plan.proofs.ChangeLemmas.{other_line, same_line}
use Rattle.commit_plan.proofs.FirstLemmas.{rise_tail, rises}

-- the first victim is not of this line
abbrev FirstOther : ℕ → List (ℕ × Names) → Type 0
FirstOther line [] = Unit {0}
FirstOther line (v ∷ vs) = v.0 ≡ line → ⊥

no_victim : (line : ℕ) (vs : List (ℕ × Names)) → FirstOther line vs → (victims_at line vs ≡ []) × (victims_past line vs ≡ vs)
no_victim line [] h = (refl, refl)
no_victim line (v ∷ vs) h = let e = other_line v.0 line h in (rw e refl, rw e refl)

pub one_held : (r : Row) (v : Option Names) (vs : List (ℕ × Names)) → FirstOther r.line vs
    → (victims_at r.line (cons_option (option_map (λ (p : Names). (r.line, p)) v) vs) ≡ listed v) × (victims_past r.line (cons_option (option_map (λ (p : Names). (r.line, p)) v) vs) ≡ vs)
one_held r None vs h = no_victim r.line vs h
one_held r (Some p) vs h = let e = same_line r.line in (rw e refl, rw e refl)

first_other_by : (line : ℕ) (r : Row) (v : Option Names) (vs : List (ℕ × Names)) → (r.line ≡ line → ⊥) → FirstOther line vs → FirstOther line (cons_option (option_map (λ (p : Names). (r.line, p)) v) vs)
first_other_by line r None vs n h = h
first_other_by line r (Some p) vs n h = n

pub first_other : (sight : Sight) (all : List Row) (line : ℕ) (rs : List Row) → ((k : ℕ) (o : Row) → slice_get rs k ≡ Some o → o.line ≡ line → ⊥) → FirstOther line (filter_map (victim_line sight all) rs)
first_other sight all line [] n = tt
first_other sight all line (r ∷ rs) n = first_other_by line r (victim_of sight all r) (filter_map (victim_line sight all) rs) (n zero r refl) (first_other sight all line rs (λ k. n (suc k)))

all_held : (sight : Sight) (all rs : List Row) → LinesRise rs → held_from (filter_map (victim_line sight all) rs) rs ≡ flat_map (held_by sight all) rs
all_held sight all [] h = refl
all_held sight all (r ∷ rs) h =
    let vs = filter_map (victim_line sight all) rs in
    let one = one_held r (victim_of sight all r) vs (first_other sight all r.line rs (rises r rs h)) in
    ap (λ (l : List Names). l ++ (if is_given_up r then listed r.source else []) ++ held_from (victims_past r.line (cons_option (victim_line sight all r) vs)) rs) one.0
    ∙ (ap (λ (l : List (ℕ × Names)). listed (victim_of sight all r) ++ (if is_given_up r then listed r.source else []) ++ held_from l rs) one.1
    ∙ ap (λ (l : List Names). listed (victim_of sight all r) ++ (if is_given_up r then listed r.source else []) ++ l) (all_held sight all rs (rise_tail r rs h)))

-- what is put aside by the victims that a check found
pub held_are : (sight : Sight) (rs : List Row) → LinesRise rs → held_from (victims_of sight rs) rs ≡ held_paths sight rs
held_are sight rs h = all_held sight rs rs h

few_at : (line : ℕ) (vs : List (ℕ × Names)) → length (victims_at line vs) ≤ 1
few_at line [] = omega arith
few_at line (v ∷ vs) = go (v.0 == line)
  where
    go : (b : Bool) → length (if b then v.1 ∷ [] else []) ≤ 1
    go true = omega arith
    go false = omega arith

few_given : (b : Bool) (o : Option Names) → length (if b then listed o else []) ≤ 1
few_given true None = omega arith
few_given true (Some p) = omega arith
few_given false o = omega arith

pub few_held : (vs : List (ℕ × Names)) (rs : List Row) → length (held_from vs rs) ≤ 2 * length rs
few_held vs [] = omega arith
few_held vs (r ∷ rs) =
    let a = victims_at r.line vs in
    let b = if is_given_up r then listed r.source else [] in
    let rest = held_from (victims_past r.line vs) rs in
    omega (arith, length-append (a ++ b) rest, length-append a b, few_at r.line vs, few_given (is_given_up r) r.source, few_held (victims_past r.line vs) rs)

-- steps that are added one list after the other
pub steps_are : (s0 s1 s2 s3 s4 h d m o : List Step) → s0 ≡ [] → s1 ≡ s0 ++ h → s2 ≡ s1 ++ d → s3 ≡ s2 ++ m → s4 ≡ s3 ++ o → s4 ≡ h ++ (d ++ (m ++ o))
steps_are s0 s1 s2 s3 s4 h d m o e0 e1 e2 e3 e4 =
    e4 ∙ (ap (λ (l : List Step). l ++ o) (e3 ∙ ap (λ (l : List Step). l ++ m) (e2 ∙ ap (λ (l : List Step). l ++ d) (e1 ∙ ap (λ (l : List Step). l ++ h) e0)))
    ∙ (append_assoc (h ++ d) m o ∙ append_assoc h d (m ++ o)))
