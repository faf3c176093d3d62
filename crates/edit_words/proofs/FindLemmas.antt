-- What it means that nothing is found.
use Rattle.std.proofs.Common.{◌≡◌, ◌⊎◌, inl, inr, ◌↔◌, ℕ, ◌<◌, Bool, true, false, cond, List, [], ◌∷◌, map, refl, sym, ◌∙◌, ap, subst, arith, Option, Some, None, Contains, Decides, option_map}
use Rattle.std.specs.List.{find}
use Rattle.std.specs.Option.{option_or}
use Rattle.std.proofs.lemmas.Bool.{cond-true, cond-false, cases_Bool, both_ways, false≢true, false_from_ne_true}
use Rattle.std.proofs.lemmas.Option.{none-some, same_Some}
use Rattle.std.proofs.lemmas.List.Elements.{Contains-append_right, Contains-append_left, Contains-push, Contains-append_cases, Contains-push_cases}
use Rattle.edit_words.specs.declared.row.Row.{Row}
use Rattle.edit_words.specs.declared.fault.CheckFault.{CheckFault}
use Rattle.edit_words.specs.Rows.{line_where}
use Rattle.edit_words.specs.Refusals.{first_fault, then_at}

-- ---- elements of a list

pub contains_head : {X : Type 0} (x : X) (xs : List X) → Contains (x ∷ xs) x
contains_head x xs = Contains-append_left (x ∷ []) xs x (Contains-push [] x)

pub contains_tail : {X : Type 0} (x y : X) (xs : List X) → Contains xs y → Contains (x ∷ xs) y
contains_tail x y xs c = Contains-append_right (x ∷ []) xs y c

pub contains_none : {X : Type 0} (x : X) → Contains [] x → ⊥
contains_none x (k, below, at) = let no : k < 0 = below in omega arith

pub contains_cases : {X : Type 0} (x y : X) (xs : List X) → Contains (x ∷ xs) y → (x ≡ y) ⊎ Contains xs y
contains_cases x y xs c = elim (Contains-append_cases (x ∷ []) xs y c) [
  | inl first ↦ elim (Contains-push_cases [] x y first) [
    | inl none ↦ absurd (contains_none y none)
    | inr same ↦ inl same
  ]
  | inr later ↦ inr later
]

pub contains_map : {X Y : Type 0} (f : X → Y) (x : X) (xs : List X) → Contains xs x → Contains (map f xs) (f x)
contains_map f x [] c = absurd (contains_none x c)
contains_map f x (y ∷ xs) c = elim (contains_cases y x xs c) [
  | inl same ↦ subst (λ z. Contains (map f (y ∷ xs)) (f z)) same (contains_head (f y) (map f xs))
  | inr later ↦ contains_tail (f y) (f x) (map f xs) (contains_map f x xs later)
]

pub contains_map_from : {X Y : Type 0} (f : X → Y) (y : Y) (xs : List X) → Contains (map f xs) y → (x : X) × Contains xs x × (f x ≡ y)
contains_map_from f y [] c = absurd (contains_none y c)
contains_map_from f y (x ∷ xs) c = elim (contains_cases (f x) y (map f xs) c) [
  | inl same ↦ (x, contains_head x xs, same)
  | inr later ↦ let more = contains_map_from f y xs later in (more.0, contains_tail x more.0 xs more.1, more.2)
]

-- ---- None

pub or_none : {A : Type 0} (a b : Option A) → (option_or a b ≡ None) ↔ ((a ≡ None) × (b ≡ None))
or_none None b = (λ e. (refl, e), λ both. both.1)
or_none (Some x) b = (λ e. absurd (none-some x (sym e)), λ both. both.0)

pub map_none : {A B : Type 0} (f : A → B) (o : Option A) → (option_map f o ≡ None) ↔ (o ≡ None)
map_none f None = (λ e. refl, λ e. refl)
map_none f (Some x) = (λ e. absurd (none-some (f x) (sym e)), λ e. absurd (none-some x (sym e)))

pub then_none : {A B : Type 0} (o : Option A) (f : A → Option B) → (then_at o f ≡ None) ↔ ((x : A) → o ≡ Some x → f x ≡ None)
then_none None f = (λ e x is. absurd (none-some x is), λ all. refl)
then_none (Some y) f = (λ e x is. ap f (sym (same_Some y x is)) ∙ e, λ all. all y refl)

pub if_none : {A P : Type 0} (b : Bool) (x : A) → Decides b P → (cond b (Some x) None ≡ None) ↔ (P → ⊥)
if_none true x d = (λ e p. none-some x (sym e), λ never. absurd (never (d.0 refl)))
if_none false x d = (λ e p. both_ways false refl (d.1 p), λ never. refl)

pub unless_none : {A : Type 0} (b : Bool) (o : Option A) → (cond b o None ≡ None) ↔ (b ≡ true → o ≡ None)
unless_none true o = (λ e t. e, λ rest. rest refl)
unless_none false o = (λ e t. absurd (false≢true t), λ rest. refl)

pub find_none : {X : Type 0} (test : X → Bool) (xs : List X) → (find test xs ≡ None) ↔ ((x : X) → Contains xs x → test x ≡ false)
find_none test [] = (λ e x c. absurd (contains_none x c), λ all. refl)
find_none test (y ∷ xs) = (
  λ e x c. elim (cases_Bool (test y)) [
    | inl passes ↦ absurd (none-some y (sym e ∙ cond-true (test y) (Some y) (find test xs) passes))
    | inr fails ↦ elim (contains_cases y x xs c) [
      | inl same ↦ ap test (sym same) ∙ fails
      | inr later ↦ (find_none test xs).0 (sym (cond-false (test y) (Some y) (find test xs) fails) ∙ e) x later
    ]
  ],
  λ all. cond-false (test y) (Some y) (find test xs) (all y (contains_head y xs)) ∙ (find_none test xs).1 (λ x later. all x (contains_tail y x xs later)),
)

pub fault_none : (rule : Row → Option CheckFault) (rs : List Row) → (first_fault rule rs ≡ None) ↔ ((r : Row) → Contains rs r → rule r ≡ None)
fault_none rule [] = (λ e r c. absurd (contains_none r c), λ all. refl)
fault_none rule (o ∷ rs) = (
  λ e r c.
      let parts = (or_none (rule o) (first_fault rule rs)).0 e in
      elim (contains_cases o r rs c) [
        | inl same ↦ ap rule (sym same) ∙ parts.0
        | inr later ↦ (fault_none rule rs).0 parts.1 r later
      ],
  λ all. (or_none (rule o) (first_fault rule rs)).1 (all o (contains_head o rs), (fault_none rule rs).1 (λ r later. all r (contains_tail o r rs later))),
)

-- no row is a clash, where a test decides what one is
pub no_clash : {P : Row → Type 0} (fault : ℕ → CheckFault) (test : Row → Bool) (rs : List Row) → ((o : Row) → Decides (test o) (P o))
    → (option_map fault (line_where test rs) ≡ None) ↔ ((o : Row) → Contains rs o → P o → ⊥)
no_clash fault test rs d = (
  λ e o c p. both_ways (test o) ((find_none test rs).0 ((map_none (λ (r : Row). r.line) (find test rs)).0 ((map_none fault (line_where test rs)).0 e)) o c) ((d o).1 p),
  λ none. (map_none fault (line_where test rs)).1 ((map_none (λ (r : Row). r.line) (find test rs)).1 ((find_none test rs).1 (λ o c. false_from_ne_true (test o) (λ passes. none o c ((d o).0 passes))))),
)
