-- What the least line of paths is.
use Rattle.std.proofs.Common.{◌≡◌, inl, inr, ◌↔◌, ℕ, ◌≤◌, List, [], ◌∷◌, refl, sym, ◌∙◌, ap, arith, Option, Some, None, Contains, min}
use Rattle.std.proofs.lemmas.Bool.{cases_lt}
use Rattle.std.proofs.lemmas.Option.{none-some, same_Some}
use Rattle.dired_text.specs.Paths.{Names}
use Rattle.edit_rules.specs.Claims.{lesser, least_line}
use Rattle.edit_words.proofs.FindLemmas.{contains_head, contains_tail, contains_none, contains_cases}

-- the line of a path of a list, where no path there has a lesser one
pub record IsLeastOf (line : Names → Option ℕ) (ps : List Names) (n : ℕ) : Type 0 where
  pub path : Names
  pub listed : Contains ps path
  pub here : line path ≡ Some n
  pub least : (q : Names) (m : ℕ) → Contains ps q → line q ≡ Some m → n ≤ m

lesser_assoc : (a b c : Option ℕ) → lesser (lesser a b) c ≡ lesser a (lesser b c)
lesser_assoc None b c = refl
lesser_assoc (Some k) None c = refl
lesser_assoc (Some k) (Some m) None = refl
lesser_assoc (Some k) (Some m) (Some n) = let is : min (min k m) n ≡ min k (min m n) = omega arith in ap (λ (l : ℕ). Some l) is

lesser_none : (a : Option ℕ) → lesser a None ≡ a
lesser_none None = refl
lesser_none (Some k) = refl

least_from : (line : Names → Option ℕ) (a b : Option ℕ) (ps : List Names) → least_line line (lesser a b) ps ≡ lesser a (least_line line b ps)
least_from line a b [] = refl
least_from line a b (p ∷ ps) = ap (λ (o : Option ℕ). least_line line o ps) (lesser_assoc a b (line p)) ∙ least_from line a (lesser b (line p)) ps

least_step : (line : Names → Option ℕ) (p : Names) (ps : List Names) → least_line line None (p ∷ ps) ≡ lesser (line p) (least_line line None ps)
least_step line p ps = ap (λ (o : Option ℕ). least_line line o ps) (sym (lesser_none (line p))) ∙ least_from line (line p) None ps

-- no path has a line where none is found, and only there
pub no_least : (line : Names → Option ℕ) (ps : List Names) → (least_line line None ps ≡ None) ↔ ((p : Names) → Contains ps p → line p ≡ None)
no_least line [] = (λ e p c. absurd (contains_none p c), λ all. refl)
no_least line (p ∷ ps) = (
  λ e q c. let parts = neither (line p) (least_line line None ps) (sym (least_step line p ps) ∙ e) in
      elim (contains_cases p q ps c) [
        | inl same ↦ ap line (sym same) ∙ parts.0
        | inr later ↦ (no_least line ps).0 parts.1 q later
      ],
  λ all. least_step line p ps ∙ ap (λ (o : Option ℕ). lesser o (least_line line None ps)) (all p (contains_head p ps)) ∙ (no_least line ps).1 (λ q later. all q (contains_tail p q ps later)),
)
  where
    neither : (a b : Option ℕ) → lesser a b ≡ None → (a ≡ None) × (b ≡ None)
    neither None b e = (refl, e)
    neither (Some k) None e = absurd (none-some k (sym e))
    neither (Some k) (Some m) e = absurd (none-some (min k m) (sym e))

least_is : (line : Names → Option ℕ) (ps : List Names) (n : ℕ) → least_line line None ps ≡ Some n → IsLeastOf line ps n
least_is line [] n e = absurd (none-some n e)
least_is line (p ∷ ps) n e = by_lines (line p) (least_line line None ps) refl refl (sym (least_step line p ps) ∙ e) (λ m found. least_is line ps m found)
  where
    by_lines : (a b : Option ℕ) → line p ≡ a → least_line line None ps ≡ b → lesser a b ≡ Some n → ((m : ℕ) → least_line line None ps ≡ Some m → IsLeastOf line ps m) → IsLeastOf line (p ∷ ps) n
    by_lines None b first rest e later =
        let more = later n (rest ∙ e) in
        record {
          path = more.path;
          listed = contains_tail p more.path ps more.listed;
          here = more.here;
          least = λ q m c has. elim (contains_cases p q ps c) [
            | inl same ↦ absurd (none-some m (sym first ∙ ap line same ∙ has))
            | inr after ↦ more.least q m after has
          ];
        }
    by_lines (Some k) None first rest e later =
        let is : k ≡ n = same_Some k n e in
        record {
          path = p;
          listed = contains_head p ps;
          here = first ∙ e;
          least = λ q m c has. elim (contains_cases p q ps c) [
            | inl same ↦ let lines : k ≡ m = same_Some k m (sym first ∙ ap line same ∙ has) in omega arith
            | inr after ↦ absurd (none-some m (sym ((no_least line ps).0 rest q after) ∙ has))
          ];
        }
    by_lines (Some k) (Some l) first rest e later =
        let more = later l rest in
        let is : min k l ≡ n = same_Some (min k l) n e in
        let low : (q : Names) (m : ℕ) → Contains (p ∷ ps) q → line q ≡ Some m → n ≤ m = λ q m c has. elim (contains_cases p q ps c) [
          | inl same ↦ let lines : k ≡ m = same_Some k m (sym first ∙ ap line same ∙ has) in omega arith
          | inr after ↦ let under : l ≤ m = more.least q m after has in omega arith
        ] in
        elim (cases_lt l k) [
          | inl less ↦
              let lines : l ≡ n = omega arith in
              record { path = more.path; listed = contains_tail p more.path ps more.listed; here = more.here ∙ ap (λ (m : ℕ). Some m) lines; least = low }
          | inr most ↦
              let lines : k ≡ n = omega arith in
              record { path = p; listed = contains_head p ps; here = first ∙ ap (λ (m : ℕ). Some m) lines; least = low }
        ]

-- what is found is the least of the lines of the paths
pub least_of_lines : (line : Names → Option ℕ) (ps : List Names) (n : ℕ) → (least_line line None ps ≡ Some n) ↔ IsLeastOf line ps n
least_of_lines line ps n = (least_is line ps n, λ h. back h (least_line line None ps) refl)
  where
    back : IsLeastOf line ps n → (o : Option ℕ) → least_line line None ps ≡ o → least_line line None ps ≡ Some n
    back h None is = absurd (none-some n (sym ((no_least line ps).0 is h.path h.listed) ∙ h.here))
    back h (Some m) is =
        let found = least_is line ps m is in
        let low : m ≤ n = found.least h.path n h.listed h.here in
        let high : n ≤ m = h.least found.path m found.listed found.here in
        let same : m ≡ n = omega arith in
        is ∙ ap (λ (k : ℕ). Some k) same
