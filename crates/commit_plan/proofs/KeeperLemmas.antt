-- The keepers, after one change left its place.
use Rattle.std.proofs.Common.{◌≡◌, ◌⊎◌, ◌↔◌, inl, inr, ℕ, zero, suc, ◌+◌, ◌<◌, ◌≤◌, Bool, true, false, ◌&&◌, if◌then◌else◌, not, List, [], ◌∷◌, length, refl, sym, ◌∙◌, ap, subst, arith, Option, Some, None}
use Rattle.std.proofs.Math.ListN.{set}
use Rattle.std.specs.List.{slice_get}
use Rattle.std.specs.BTreeMap.{BTreeMap, get}
use Rattle.std.proofs.lemmas.Option.{same_Some, slice_get_within}
use Rattle.std.proofs.lemmas.Bool.{cases_Bool}
use Rattle.std.proofs.lemmas.Bool.Decides.{eqb_tells}
use Rattle.dired_text.specs.Paths.{Names, path_cmp}
use Rattle.edit_words.specs.declared.row.Row.{Row}
use Rattle.edit_words.specs.WellFormed.{IsNoRoot}
use Rattle.edit_words.specs.Rows.{is_same_path}
use Rattle.edit_words.proofs.SameLemmas.{same_path, same_itself}
use Rattle.plan_moves.specs.Waiting.{is_in_place}
use Rattle.commit_plan.specs.declared.changes.Stand.{Stand}
use Rattle.commit_plan.specs.declared.changes.Stand.TheVariants.{Left, Waits}
use Rattle.commit_plan.specs.declared.changes.Change.{Change}
use Rattle.commit_plan.specs.Stands.{change, waits_at_source}
use Rattle.commit_plan.specs.Boards.{AreRooted, HasKeepers, HasOwnSources, IsAtSource, IsKeeper, is_from, keeps_above}

-- ---- a list with one element set

module _ {X : Type 0} where
  pub set_here : (xs : List X) (i : ℕ) (c d : X) → slice_get xs i ≡ Some c → slice_get (set xs i d) i ≡ Some d
  set_here [] i c d e = cc
  set_here (x ∷ xs) zero c d e = refl
  set_here (x ∷ xs) (suc i) c d e = set_here xs i c d e

  pub set_apart : (xs : List X) (i k : ℕ) (d : X) → (k ≡ i → ⊥) → slice_get (set xs i d) k ≡ slice_get xs k
  set_apart [] i k d n = refl
  set_apart (x ∷ xs) zero zero d n = absurd (n refl)
  set_apart (x ∷ xs) zero (suc k) d n = refl
  set_apart (x ∷ xs) (suc i) zero d n = refl
  set_apart (x ∷ xs) (suc i) (suc k) d n = set_apart xs i k d (λ e. n (ap suc e))

  pub set_long : (xs : List X) (i : ℕ) (d : X) → length (set xs i d) ≡ length xs
  set_long [] i d = refl
  set_long (x ∷ xs) zero d = refl
  set_long (x ∷ xs) (suc i) d = ap suc (set_long xs i d)

pub here_or_apart : (k i : ℕ) → (k ≡ i) ⊎ (k ≡ i → ⊥)
here_or_apart k i = elim (eqb_tells k i) [ inl p ↦ inl p.1 | inr p ↦ inr p.1 ]

pub rooted_set : (cs : List Change) (i : ℕ) (c : Change) (s : Stand) → slice_get cs i ≡ Some c → AreRooted cs → AreRooted (set cs i (change c.row s))
rooted_set cs i c s e rooted k d f = elim (here_or_apart k i) [
  | inl here ↦
      let at : slice_get (set cs i (change c.row s)) i ≡ Some d = subst (λ (x : ℕ). slice_get (set cs i (change c.row s)) x ≡ Some d) here f in
      let is : change c.row s ≡ d = same_Some _ _ (sym (set_here cs i c (change c.row s) e) ∙ at) in
      subst (λ (x : Change). IsNoRoot x.row) is (rooted i c e)
  | inr apart ↦ rooted k d (sym (set_apart cs i k (change c.row s) apart) ∙ f)
]

-- ---- the keepers

is_from_itself : (o : Option Names) (p : Names) → o ≡ Some p → is_from o p ≡ true
is_from_itself None p e = cc
is_from_itself (Some q) p e = subst (λ (x : Names). is_same_path q x ≡ true) (same_Some q p e) (same_itself q)

from_is : (o : Option Names) (p : Names) → is_from o p ≡ true → o ≡ Some p
from_is None p e = cc
from_is (Some q) p e = ap (λ (x : Names). Some x) (same_path q p e)

module _ {X : Type 0} where
  if_gone : (b : Bool) (x y : Option X) (v : X) → b ≡ true → x ≡ (if b then None else y) → x ≡ Some v → ⊥
  if_gone true x y v e f g = let no : None ≡ Some v = sym f ∙ g in cc
  if_gone false x y v e f g = cc

  if_kept : (b : Bool) (x y : Option X) → b ≡ false → x ≡ (if b then None else y) → x ≡ y
  if_kept true x y e f = cc
  if_kept false x y e f = f

both : (a b : Bool) → (a && b) ≡ true → (a ≡ true) × (b ≡ true)
both true true h = (refl, refl)
both true false h = cc
both false b h = cc

-- The change i stands otherwise now: it is no longer among the keepers where it keeps nothing more.
module _ (cs : List Change) (i : ℕ) (c : Change) (s : Stand) (m n : BTreeMap Names ℕ) (gone : Bool) (at : slice_get cs i ≡ Some c) (has : HasKeepers cs m)
    (stops : gone ≡ true → (keeps_above c.row c.stand ≡ true) × (keeps_above c.row s ≡ false)) (goes : gone ≡ false → keeps_above c.row s ≡ keeps_above c.row c.stand)
    (updated : (p : Names) → get path_cmp n p ≡ (if gone && is_from c.row.source p then None else get path_cmp m p)) where
  down : (p : Names) (k : ℕ) → get path_cmp n p ≡ Some k → IsKeeper (set cs i (change c.row s)) k p
  down p k e = elim (cases_Bool (gone && is_from c.row.source p)) [
    | inl yes_gone ↦ absurd (if_gone _ _ _ k yes_gone (updated p) e)
    | inr kept ↦
        let was : get path_cmp m p ≡ Some k = sym (if_kept _ _ _ kept (updated p)) ∙ e in
        let keeper = (has p k).0 was in
        elim (here_or_apart k i) [
          | inl here ↦
              let same : keeper.0 ≡ c = same_Some _ _ (sym keeper.1 ∙ (ap (slice_get cs) here ∙ at)) in
              here_still keeper.0 same keeper.2 keeper.3 here kept
          | inr apart ↦ (keeper.0, set_apart cs i k (change c.row s) apart ∙ keeper.1, keeper.2, keeper.3)
        ]
  ]
    where
      none_gone : (g f : Bool) → (g && f) ≡ false → f ≡ true → g ≡ false
      none_gone true true a b = cc
      none_gone true false a b = cc
      none_gone false f a b = refl

      here_still : (x : Change) → x ≡ c → keeps_above x.row x.stand ≡ true → x.row.source ≡ Some p → k ≡ i → (gone && is_from c.row.source p) ≡ false → IsKeeper (set cs i (change c.row s)) k p
      here_still x same keeps source here kept =
          let own : c.row.source ≡ Some p = subst (λ (y : Change). y.row.source ≡ Some p) same source in
          let keeps_c : keeps_above c.row c.stand ≡ true = subst (λ (y : Change). keeps_above y.row y.stand ≡ true) same keeps in
          let stays : gone ≡ false = none_gone gone (is_from c.row.source p) kept (is_from_itself c.row.source p own) in
          (change c.row s, ap (slice_get (set cs i (change c.row s))) here ∙ set_here cs i c (change c.row s) at, goes stays ∙ keeps_c, own)

  up : (p : Names) (k : ℕ) → IsKeeper (set cs i (change c.row s)) k p → get path_cmp n p ≡ Some k
  up p k keeper = elim (here_or_apart k i) [
    | inl here ↦
        let is : change c.row s ≡ keeper.0 = same_Some _ _ (sym (ap (slice_get (set cs i (change c.row s))) here ∙ set_here cs i c (change c.row s) at) ∙ keeper.1) in
        here_still (subst (λ (x : Change). keeps_above x.row x.stand ≡ true) (sym is) keeper.2) (subst (λ (x : Change). x.row.source ≡ Some p) (sym is) keeper.3) here (cases_Bool gone)
    | inr apart ↦
        let was : get path_cmp m p ≡ Some k = (has p k).1 (keeper.0, sym (set_apart cs i k (change c.row s) apart) ∙ keeper.1, keeper.2, keeper.3) in
        elim (cases_Bool (gone && is_from c.row.source p)) [
          | inl yes_gone ↦
              let g = both gone (is_from c.row.source p) yes_gone in
              let other : get path_cmp m p ≡ Some i = (has p i).1 (c, at, (stops g.0).0, from_is c.row.source p g.1) in
              absurd (apart (same_Some k i (sym was ∙ other)))
          | inr kept ↦ if_kept _ _ _ kept (updated p) ∙ was
        ]
  ]
    where
      not_gone : (f : Bool) → gone ≡ false → (gone && f) ≡ false
      not_gone f e = ap (λ (g : Bool). g && f) e

      here_still : keeps_above c.row s ≡ true → c.row.source ≡ Some p → k ≡ i → (gone ≡ true) ⊎ (gone ≡ false) → get path_cmp n p ≡ Some k
      here_still keeps source here (inl g) = let no : true ≡ false = sym keeps ∙ (stops g).1 in cc
      here_still keeps source here (inr g) =
          if_kept _ _ _ (not_gone (is_from c.row.source p) g) (updated p) ∙ (has p k).1 (c, ap (slice_get cs) here ∙ at, sym (goes g) ∙ keeps, source)

  pub keepers_after : HasKeepers (set cs i (change c.row s)) n
  keepers_after p k = (down p k, up p k)

-- a change that departs,
pub keepers_departed : (cs : List Change) (i : ℕ) (c : Change) (m n : BTreeMap Names ℕ) → slice_get cs i ≡ Some c → HasKeepers cs m
    → ((p : Names) → get path_cmp n p ≡ (if keeps_above c.row c.stand && is_from c.row.source p then None else get path_cmp m p)) → HasKeepers (set cs i (change c.row Left)) n
keepers_departed cs i c m n at has updated =
    keepers_after cs i c Left m n (keeps_above c.row c.stand) at has (λ g. (g, refl)) (λ g. sym g) updated

-- and one that is put away
pub keepers_put_away : (cs : List Change) (i : ℕ) (r : Row) (at to spot : Names) (m n : BTreeMap Names ℕ) → slice_get cs i ≡ Some (change r (Waits false at to)) → HasKeepers cs m
    → ((p : Names) → get path_cmp n p ≡ (if not (is_in_place r) && is_from r.source p then None else get path_cmp m p)) → HasKeepers (set cs i (change r (Waits true spot to))) n
keepers_put_away cs i r at to spot m n is has updated =
    keepers_after cs i (change r (Waits false at to)) (Waits true spot to) m n (not (is_in_place r)) is has (λ g. (refl, not_true (is_in_place r) g)) (λ g. not_false (is_in_place r) g) updated
  where
    not_true : (b : Bool) → not b ≡ true → b ≡ false
    not_true true e = cc
    not_true false e = refl

    not_false : (b : Bool) → not b ≡ false → b ≡ true
    not_false true e = refl
    not_false false e = cc

-- who waits at its source is a keeper
pub at_source_keeps : (cs : List Change) (k : ℕ) (p : Names) → IsAtSource cs k p → IsKeeper cs k p
at_source_keeps cs k p m = (m.0, m.1, by_stand m.0.stand m.2, m.3)
  where
    by_stand : (s : Stand) → waits_at_source s ≡ true → keeps_above m.0.row s ≡ true
    by_stand Left w = cc
    by_stand (Waits true at to) w = cc
    by_stand (Waits false at to) w = refl

-- ---- the keepers at first

-- those below a number
abbrev pub HasKeepersBelow : ℕ → List Change → BTreeMap Names ℕ → Type 0
HasKeepersBelow n cs m = (p : Names) (k : ℕ) → (get path_cmp m p ≡ Some k) ↔ ((k < n) × IsKeeper cs k p)

module _ {X : Type 0} where
  if_noted : (b : Bool) (x y : Option X) (v : X) → b ≡ true → x ≡ (if b then Some v else y) → x ≡ Some v
  if_noted true x y v e f = f
  if_noted false x y v e f = cc

  if_other : (b : Bool) (x y : Option X) (v : X) → b ≡ false → x ≡ (if b then Some v else y) → x ≡ y
  if_other true x y v e f = cc
  if_other false x y v e f = f

pub keepers_noted : (cs : List Change) (i : ℕ) (c : Change) (m n : BTreeMap Names ℕ) → slice_get cs i ≡ Some c → HasOwnSources cs → HasKeepersBelow i cs m
    → ((p : Names) → get path_cmp n p ≡ (if keeps_above c.row c.stand && is_from c.row.source p then Some i else get path_cmp m p)) → HasKeepersBelow (i + 1) cs n
keepers_noted cs i c m n at own has updated p k = (down, up)
  where
    down : get path_cmp n p ≡ Some k → (k < i + 1) × IsKeeper cs k p
    down e = elim (cases_Bool (keeps_above c.row c.stand && is_from c.row.source p)) [
      | inl noted ↦
          let g = both _ _ noted in
          let is : i ≡ k = same_Some i k (sym (if_noted _ _ _ i noted (updated p)) ∙ e) in
          (omega (arith, is), subst (λ (x : ℕ). IsKeeper cs x p) is (c, at, g.0, from_is c.row.source p g.1))
      | inr other ↦
          let was = (has p k).0 (sym (if_other _ _ _ i other (updated p)) ∙ e) in
          let less : k < i = was.0 in
          (omega (arith, less), was.1)
    ]

    up : (k < i + 1) × IsKeeper cs k p → get path_cmp n p ≡ Some k
    up h =
        let keeper = h.1 in
        elim (cases_Bool (keeps_above c.row c.stand && is_from c.row.source p)) [
          | inl noted ↦
              let g = both _ _ noted in
              let is : i ≡ k = own i k c keeper.0 p at keeper.1 (from_is c.row.source p g.1) keeper.3 in
              if_noted _ _ _ i noted (updated p) ∙ ap (λ (x : ℕ). Some x) is
          | inr other ↦ elim (here_or_apart k i) [
            | inl here ↦
                let same : keeper.0 ≡ c = same_Some _ _ (sym keeper.1 ∙ (ap (slice_get cs) here ∙ at)) in
                let no : (keeps_above c.row c.stand && is_from c.row.source p) ≡ true =
                ap (λ (b : Bool). b && is_from c.row.source p) (subst (λ (x : Change). keeps_above x.row x.stand ≡ true) same keeper.2)
                ∙ is_from_itself c.row.source p (subst (λ (x : Change). x.row.source ≡ Some p) same keeper.3) in
                let both_ways : true ≡ false = sym no ∙ other in absurd cc
            | inr apart ↦
                let less : k < i + 1 = h.0 in
                if_other _ _ _ i other (updated p) ∙ (has p k).1 (omega (arith, less, apart), keeper)
          ]
        ]

pub keepers_all : (cs : List Change) (n : ℕ) (m : BTreeMap Names ℕ) → length cs ≤ n → HasKeepersBelow n cs m → HasKeepers cs m
keepers_all cs n m long has p k = (
  (λ e. ((has p k).0 e).1),
  (λ keeper. let less = slice_get_within cs k keeper.0 keeper.1 in (has p k).1 (omega (arith, less, long), keeper)),
)
