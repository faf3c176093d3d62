-- What is kept of steps that are put into layers, call by call.
use Rattle.std.proofs.Common.{◌≡◌, ◌⊎◌, inl, inr, ℕ, zero, suc, ◌+◌, ◌<◌, max, Bool, true, false, ◌&&◌, not, cond, List, [], ◌∷◌, ◌++◌, length, length-append, map, get_or, set, Option, Some, None, is_some, refl, sym, ◌∙◌, ap, ap₂, subst, arith, IsTrue, IfOk, OnOk, Result, Ok, Err, if◌then◌else◌}
use Rattle.std.proofs.lemmas.Bool.{cases_Bool}
use Rattle.std.proofs.lemmas.Option.{same_Some}
use Rattle.std.specs.Global.{Vec}
use Rattle.std.specs.List.{AllByRecursion, list_all}
use Rattle.std.specs.Ordering.{eq_by_cmp}
use Rattle.dired_text.proofs.PathLemmas.{path_decides}
use Rattle.dired_text.specs.Paths.{Names, path_cmp}
use Rattle.path_map.specs.Walks.{IsPathMap, firsts, is_above, value_at}
use Rattle.path_map.specs.declared.map.PathMap.{PathMap}
use Rattle.commit_steps.specs.Tests.{are_apart}
use Rattle.commit_steps.specs.declared.step.Step.{Step}
use Rattle.step_trees.specs.Groups.{paths_of}
use Rattle.step_layers.specs.Floors.{floor_at, highest_of, raised_all, raised_at}
use Rattle.step_layers.specs.Layers.{free_from, put}
use Rattle.step_layers.specs.Layering.{contents, HasFloors, HasNumber, HasNumbers, IsNumbered, IsRaised, IsSound}
use Rattle.step_layers.specs.declared.layering.Layering.{Layering}
use Rattle.step_layers.proofs.FloorLemmas.{free_related, highest_named, put_free}
use Rattle.step_layers.proofs.PutLemmas.{put_in}
use Rattle.step_layers.proofs.RaiseLemmas.{aboves, highest_is, raised_all_length, raised_here, raised_length, raised_under}

-- ---- a path more

zero_more : (xs : List ℕ) (i : ℕ) → get_or (xs ++ 0 ∷ []) i 0 ≡ get_or xs i 0
zero_more [] zero = refl
zero_more [] (suc i) = refl
zero_more (x ∷ xs) zero = refl
zero_more (x ∷ xs) (suc i) = zero_more xs i

zero_past : (xs : List ℕ) → get_or xs (length xs) 0 ≡ 0
zero_past [] = refl
zero_past (x ∷ xs) = zero_past xs

module _ (old new : Layering) (path : Names) (sound : IsSound old) (none : value_at old.numbers path ≡ None) (no_layers : old.layers.items ≡ [])
    (is : IsPathMap new.numbers)
    (given : (p : Names) → value_at new.numbers p ≡ cond (eq_by_cmp path_cmp path p) (Some (length old.at.items)) (value_at old.numbers p))
    (at_is : new.at.items ≡ old.at.items ++ 0 ∷ []) (under_is : new.under.items ≡ old.under.items ++ 0 ∷ []) (layers_are : new.layers.items ≡ old.layers.items) where
  more_cases : (p : Names) (i : ℕ) → value_at new.numbers p ≡ Some i → ((path ≡ p) × (i ≡ length old.at.items)) ⊎ (value_at old.numbers p ≡ Some i)
  more_cases p i e = by (cases_Bool (eq_by_cmp path_cmp path p))
    where
      by : (eq_by_cmp path_cmp path p ≡ true) ⊎ (eq_by_cmp path_cmp path p ≡ false) → ((path ≡ p) × (i ≡ length old.at.items)) ⊎ (value_at old.numbers p ≡ Some i)
      by (inl same) = inl ((path_decides path p).0 same, same_Some i (length old.at.items) (sym e ∙ given p ∙ ap (λ (b : Bool). cond b (Some (length old.at.items)) (value_at old.numbers p)) same))
      by (inr differs) = inr (sym (given p ∙ ap (λ (b : Bool). cond b (Some (length old.at.items)) (value_at old.numbers p)) differs) ∙ e)

  long : length new.at.items ≡ length old.at.items + 1
  long = ap length at_is ∙ length-append old.at.items (0 ∷ [])

  long_under : length new.under.items ≡ length old.under.items + 1
  long_under = ap length under_is ∙ length-append old.under.items (0 ∷ [])

  old_within : (p : Names) (i : ℕ) → value_at old.numbers p ≡ Some i → i < length old.at.items
  old_within = sound.numbered.within

  old_floor : (p : Names) (i : ℕ) → value_at old.numbers p ≡ Some i → get_or old.at.items i 0 ≡ 0
  old_floor p i e = ap (floor_at old.at.items) (sym e) ∙ (subst (λ ls. HasFloors (contents ls) old) no_layers sound.floors).at p

  old_under : (p : Names) (i : ℕ) → value_at old.numbers p ≡ Some i → get_or old.under.items i 0 ≡ 0
  old_under p i e = (subst (λ ls. HasFloors (contents ls) old) no_layers sound.floors).under p i e

  as_many : length old.under.items ≡ length old.at.items
  as_many = sound.numbered.as_many

  floor_zero : (p : Names) (i : ℕ) → value_at new.numbers p ≡ Some i → get_or new.at.items i 0 ≡ 0
  floor_zero p i e = ap (λ (xs : List ℕ). get_or xs i 0) at_is ∙ zero_more old.at.items i ∙ by (more_cases p i e)
    where
      by : ((path ≡ p) × (i ≡ length old.at.items)) ⊎ (value_at old.numbers p ≡ Some i) → get_or old.at.items i 0 ≡ 0
      by (inl same) = ap (λ (k : ℕ). get_or old.at.items k 0) same.1 ∙ zero_past old.at.items
      by (inr before) = old_floor p i before

  under_zero : (p : Names) (i : ℕ) → value_at new.numbers p ≡ Some i → get_or new.under.items i 0 ≡ 0
  under_zero p i e = ap (λ (xs : List ℕ). get_or xs i 0) under_is ∙ zero_more old.under.items i ∙ by (more_cases p i e)
    where
      by : ((path ≡ p) × (i ≡ length old.at.items)) ⊎ (value_at old.numbers p ≡ Some i) → get_or old.under.items i 0 ≡ 0
      by (inl same) = ap (λ (k : ℕ). get_or old.under.items k 0) (same.1 ∙ sym as_many) ∙ zero_past old.under.items
      by (inr before) = old_under p i before

  within_more : (p : Names) (i : ℕ) → ((path ≡ p) × (i ≡ length old.at.items)) ⊎ (value_at old.numbers p ≡ Some i) → i < length new.at.items
  within_more p i (inl same) = let k : i ≡ length old.at.items = same.1 in omega (arith, k, long)
  within_more p i (inr before) = let k = old_within p i before in omega (arith, k, long)

  one_more : (p q : Names) (i : ℕ) → ((path ≡ p) × (i ≡ length old.at.items)) ⊎ (value_at old.numbers p ≡ Some i) → ((path ≡ q) × (i ≡ length old.at.items)) ⊎ (value_at old.numbers q ≡ Some i) → p ≡ q
  one_more p q i (inl a) (inl b) = sym a.0 ∙ b.0
  one_more p q i (inl a) (inr b) = let k : i ≡ length old.at.items = a.1 in let w = old_within q i b in absurd (omega (arith, k, w))
  one_more p q i (inr a) (inl b) = let k : i ≡ length old.at.items = b.1 in let w = old_within p i a in absurd (omega (arith, k, w))
  one_more p q i (inr a) (inr b) = sound.numbered.one p q i a b

  floor_none : (p : Names) → floor_at new.at.items (value_at new.numbers p) ≡ 0
  floor_none p = by (value_at new.numbers p) refl
    where
      by : (o : Option ℕ) → value_at new.numbers p ≡ o → floor_at new.at.items (value_at new.numbers p) ≡ 0
      by None e = ap (floor_at new.at.items) e
      by (Some i) e = ap (floor_at new.at.items) e ∙ floor_zero p i e

  pub sound_more : IsSound new
  sound_more = record {
    numbered = record {
      map = is;
      as_many = (let a = as_many in let b = long in let d = long_under in omega (arith, a, b, d));
      within = λ p i e. within_more p i (more_cases p i e);
      one = λ p q i e f. one_more p q i (more_cases p i e) (more_cases q i f);
    };
    floors = subst (λ ls. HasFloors (contents ls) new) (sym (layers_are ∙ no_layers)) (record { at = floor_none; under = under_zero });
  }

-- ---- a path whose floors are raised

some_number : (o : Option ℕ) → IsTrue (is_some o) → (i : ℕ) × (o ≡ Some i)
some_number None e = cc
some_number (Some i) e = (i, refl)

pub raised_path : (old new : Layering) (path : Names) (n : ℕ) → IsNumbered old → HasNumber old.numbers path → new.numbers ≡ old.numbers → new.layers ≡ old.layers
    → new.under.items ≡ raised_all n (map (value_at old.numbers) (aboves path)) old.under.items → new.at.items ≡ raised_at n (value_at old.numbers path) old.at.items
    → IsRaised (path ∷ []) n old new
raised_path old new path n numbered has numbers layers under_is at_is = record {
  numbers = numbers;
  layers = layers;
  numbered = record {
    map = subst IsPathMap (sym numbers) numbered.map;
    as_many = (let a = long_at in let b = long_under in let d : length old.under.items ≡ length old.at.items = numbered.as_many in omega (arith, a, b, d));
    within = λ p i e. (let k = numbered.within p i (sym (ap (λ m. value_at m p) numbers) ∙ e) in let a = long_at in omega (arith, k, a));
    one = λ p q i e f. numbered.one p q i (sym (ap (λ m. value_at m p) numbers) ∙ e) (sym (ap (λ m. value_at m q) numbers) ∙ f);
  };
  at = λ p. ap (λ (fs : List ℕ). floor_at fs (value_at old.numbers p)) at_is ∙ raised_here (value_at old.numbers) numbered.one n path p old.at.items here.0 (numbered.within p) here.1;
  under = λ p i e. ap (λ (fs : List ℕ). get_or fs i 0) under_is
      ∙ raised_under (value_at old.numbers) numbered.one n path p old.under.items i (let k = numbered.within p i e in let d : length old.under.items ≡ length old.at.items = numbered.as_many in omega (arith, k, d)) e;
}
  where
    here : (i : ℕ) × (value_at old.numbers path ≡ Some i)
    here = some_number (value_at old.numbers path) has

    long_at : length new.at.items ≡ length old.at.items
    long_at = ap length at_is ∙ raised_length n (value_at old.numbers path) old.at.items

    long_under : length new.under.items ≡ length old.under.items
    long_under = ap length under_is ∙ raised_all_length n (map (value_at old.numbers) (aboves path)) old.under.items

max_both : (a b : Bool) (n x y z : ℕ) → y ≡ max (if a && true then 0 else n) x → z ≡ max (if b && true then 0 else n) y → z ≡ max (if a && (b && true) then 0 else n) x
max_both true true n x y z e f = omega (arith, e, f)
max_both true false n x y z e f = omega (arith, e, f)
max_both false true n x y z e f = omega (arith, e, f)
max_both false false n x y z e f = omega (arith, e, f)

-- and another one
pub raised_both : (from to : Names) (n : ℕ) (old mid new : Layering) → IsRaised (from ∷ []) n old mid → IsRaised (to ∷ []) n mid new → IsRaised (from ∷ to ∷ []) n old new
raised_both from to n old mid new a b = record {
  numbers = b.numbers ∙ a.numbers;
  layers = b.layers ∙ a.layers;
  numbered = b.numbered;
  at = λ p. max_both (not (eq_by_cmp path_cmp from p)) (not (eq_by_cmp path_cmp to p)) n (floor_at old.at.items (value_at old.numbers p)) (floor_at mid.at.items (value_at old.numbers p)) (floor_at new.at.items (value_at old.numbers p))
      (a.at p)
      (subst (λ m. floor_at new.at.items (value_at m p) ≡ max (if not (eq_by_cmp path_cmp to p) && true then 0 else n) (floor_at mid.at.items (value_at m p))) a.numbers (b.at p));
  under = λ p i e. max_both (not (is_above p from)) (not (is_above p to)) n (get_or old.under.items i 0) (get_or mid.under.items i 0) (get_or new.under.items i 0)
      (a.under p i e) (b.under p i (ap (λ m. value_at m p) a.numbers ∙ e));
}

-- ---- a step that is put into its layer

put_free_first : (f : Names → Bool) (s : Step) (j : ℕ) (ls : List (List Step)) → free_from 0 f (put j s ls) ≡ max (if list_all f (paths_of s) then 0 else j + 1) (free_from 0 f ls)
put_free_first f s j ls = put_free f s j 0 ls ∙ ap (λ (m : ℕ). max (if list_all f (paths_of s) then 0 else m) (free_from 0 f ls)) (omega arith)

pub floors_put : (s : Step) (j : ℕ) (ls : List (List Step)) (old new : Layering) → HasFloors ls old → IsRaised (paths_of s) (j + 1) old new → HasFloors (put j s ls) new
floors_put s j ls old new floors raised = record {
  at = λ p.
      ap (λ m. floor_at new.at.items (value_at m p)) raised.numbers ∙ raised.at p
      ∙ ap (λ (x : ℕ). max (if list_all (λ q. not (eq_by_cmp path_cmp q p)) (paths_of s) then 0 else j + 1) x) (floors.at p)
      ∙ sym (put_free_first (λ q. not (eq_by_cmp path_cmp q p)) s j ls);
  under = λ p i e.
      raised.under p i (sym (ap (λ m. value_at m p) raised.numbers) ∙ e)
      ∙ ap (λ (x : ℕ). max (if list_all (λ q. not (is_above p q)) (paths_of s) then 0 else j + 1) x) (floors.under p i (sym (ap (λ m. value_at m p) raised.numbers) ∙ e))
      ∙ sym (put_free_first (λ q. not (is_above p q)) s j ls);
}

-- ---- the floor of a path

pub floor_is : (l : Layering) (ls : List (List Step)) (path : Names) (ids : List (Option ℕ)) (a b : ℕ) → IsNumbered l → HasFloors ls l → HasNumber l.numbers path
    → ids ≡ map (value_at l.numbers) (firsts path) → a ≡ highest_of l.at.items ids → b ≡ floor_at l.under.items (value_at l.numbers path) → max a b ≡ free_from 0 (are_apart path) ls
floor_is l ls path ids a b numbered floors has are a_is b_is =
    let here = some_number (value_at l.numbers path) has in
    let named : a ≡ highest_named 0 (firsts path) ls = a_is ∙ ap (highest_of l.at.items) are ∙ highest_is (value_at l.numbers) numbered.one l.at.items ls (firsts path) floors.at in
    let below : b ≡ free_from 0 (λ q. not (is_above path q)) ls = b_is ∙ ap (floor_at l.under.items) here.1 ∙ floors.under path here.0 here.1 in
    ap₂ (λ (x y : ℕ). max x y) named below ∙ sym (free_related 0 path ls)

-- ---- lists of steps

pub all_kept : (m n : PathMap ℕ) → ((p : Names) → HasNumber m p → HasNumber n p) → (steps : List Step) → AllByRecursion (HasNumbers m) steps → AllByRecursion (HasNumbers n) steps
all_kept m n kept [] all = tt
all_kept m n kept (s ∷ steps) all = (each (paths_of s) all.0, all_kept m n kept steps all.1)
  where
    each : (ps : List Names) → AllByRecursion (HasNumber m) ps → AllByRecursion (HasNumber n) ps
    each [] has = tt
    each (p ∷ ps) has = (kept p has.0, each ps has.1)

pub none_left : {X : Type 0} (xs : List X) → length xs ≡ 0 → xs ≡ []
none_left [] e = refl
none_left (x ∷ xs) e = cc

pub on_ok : {A E P Q : Type 0} (result : Result A E) → (P → Q) → OnOk result P → OnOk result Q
on_ok (Ok x) gives p = gives p
on_ok (Err e) gives p = tt

pub same_list : {E : Type 0} (result : Result (Vec Step) E) (xs ys : List Step) → IfOk result (λ v. v.items ≡ xs) → xs ≡ ys → IfOk result (λ v. v.items ≡ ys)
same_list (Ok v) xs ys is same = is ∙ same
same_list (Err e) xs ys is same = tt

-- a layer that is changed, and one more
pub contents_set : (ls : List (Vec Step)) (n : ℕ) (l : Vec Step) → contents (set ls n l) ≡ set (contents ls) n l.items
contents_set [] n l = refl
contents_set (x ∷ ls) zero l = refl
contents_set (x ∷ ls) (suc n) l = ap (λ (xs : List (List Step)). x.items ∷ xs) (contents_set ls n l)

pub contents_push : (ls : List (Vec Step)) (l : Vec Step) → contents (ls ++ l ∷ []) ≡ contents ls ++ l.items ∷ []
contents_push [] l = refl
contents_push (x ∷ ls) l = ap (λ (xs : List (List Step)). x.items ∷ xs) (contents_push ls l)

pub contents_length : (ls : List (Vec Step)) → length (contents ls) ≡ length ls
contents_length [] = refl
contents_length (x ∷ ls) = ap (λ (n : ℕ). suc n) (contents_length ls)

pub contents_at : (ls : List (Vec Step)) (n : ℕ) (l : Vec Step) → n < length ls → l ≡ get_or ls n l → get_or (contents ls) n l.items ≡ l.items
contents_at [] n l within is = absurd (omega (arith, within))
contents_at (x ∷ ls) zero l within is = ap (λ v. v.items) (sym is)
contents_at (x ∷ ls) (suc n) l within is = contents_at ls n l (omega (arith, within)) is

pub put_there : (ls : List (Vec Step)) (n : ℕ) (s : Step) (old new : Vec Step) → n < length ls → old ≡ get_or ls n old → new.items ≡ old.items ++ s ∷ [] → contents (set ls n new) ≡ put n s (contents ls)
put_there ls n s old new within is pushed =
    let long = contents_length ls in
    contents_set ls n new
    ∙ ap (λ (x : List Step). set (contents ls) n x) (pushed ∙ ap (λ (x : List Step). x ++ s ∷ []) (sym (contents_at ls n old within is)))
    ∙ sym (put_in s n (contents ls) old.items (omega (arith, long, within)))
