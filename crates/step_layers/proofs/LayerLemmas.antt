-- The layers of steps: their order, and that no two paths of a layer are related.
use Rattle.std.proofs.Common.{◌≡◌, ◌⊎◌, inl, inr, ℕ, zero, suc, ◌+◌, ◌≤◌, max, Bool, true, false, ◌&&◌, nat_le, List, [], ◌∷◌, ◌++◌, length, refl, sym, ◌∙◌, ap, subst, arith, append_assoc, Option, Some, None, is_none, if◌then◌else◌}
use Rattle.std.proofs.lemmas.Bool.{cases_Bool}
use Rattle.std.proofs.lemmas.List.{append-nil}
use Rattle.std.proofs.lemmas.List.Folds.{list_all-append}
use Rattle.std.specs.List.{AllByRecursion, list_all}
use Rattle.dired_text.specs.Paths.{Names, rest_below}
use Rattle.commit_steps.specs.Steps.{IsLawfulStep}
use Rattle.commit_steps.specs.Tests.{are_apart}
use Rattle.commit_steps.specs.declared.step.Step.{Step}
use Rattle.commit_steps.specs.declared.step.Step.TheVariants.{MakeDir, Rename, Mode}
use Rattle.step_trees.specs.Apart.{AreApart, IsApart, IsApartStep}
use Rattle.step_trees.specs.Groups.{all_apart, all_paths, paths_of, joined, Independent}
use Rattle.step_cuts.proofs.ApartLemmas.{apart_more, paths_pushed}
use Rattle.step_layers.specs.Laws.{LayersAreIndependent, LayersKeepOrder}
use Rattle.step_layers.specs.Layers.{by_layer, free_from, is_unrelated, layer_behind, layers, layers_behind, put}
use Rattle.step_layers.specs.Order.{KeepsOrder, none, placed}
use Rattle.step_layers.proofs.OrderLemmas.{all_both, put_last}

-- ---- tests

and_left : (a b : Bool) → (a && b) ≡ true → a ≡ true
and_left true b e = refl
and_left false b e = cc

and_right : (a b : Bool) → (a && b) ≡ true → b ≡ true
and_right true b e = e
and_right false b e = cc

and_both : (a b : Bool) → a ≡ true → b ≡ true → (a && b) ≡ true
and_both true b e f = f
and_both false b e f = cc

all_left : {X : Type 0} (f : X → Bool) (xs ys : List X) → list_all f (xs ++ ys) ≡ true → list_all f xs ≡ true
all_left f xs ys e = and_left (list_all f xs) (list_all f ys) (sym (list_all-append f xs ys) ∙ e)

all_right : {X : Type 0} (f : X → Bool) (xs ys : List X) → list_all f (xs ++ ys) ≡ true → list_all f ys ≡ true
all_right f xs ys e = and_right (list_all f xs) (list_all f ys) (sym (list_all-append f xs ys) ∙ e)

none_is : (o : Option Names) → is_none o ≡ true → o ≡ None
none_is None e = refl
none_is (Some r) e = cc

apart_is : (p q : Names) → are_apart p q ≡ true → IsApart p q
apart_is p q e = (none_is (rest_below p q) (and_left (is_none (rest_below p q)) (is_none (rest_below q p)) e), none_is (rest_below q p) (and_right (is_none (rest_below p q)) (is_none (rest_below q p)) e))

-- ---- a step that is related to none of a layer

-- one path of it
one_of : (p : Names) (s : Step) → list_all (λ q. are_apart p q) (paths_of s) ≡ true → IsApartStep p s
one_of p (MakeDir q) e = apart_is p q (and_left (are_apart p q) true e)
one_of p (Rename from to) e = (apart_is p from (and_left (are_apart p from) (are_apart p to && true) e), apart_is p to (and_left (are_apart p to) true (and_right (are_apart p from) (are_apart p to && true) e)))
one_of p (Mode q old new) e = apart_is p q (and_left (are_apart p q) true e)

implied : {X : Type 0} (f g : X → Bool) (xs : List X) → ((x : X) → f x ≡ true → g x ≡ true) → list_all f xs ≡ true → list_all g xs ≡ true
implied f g [] gives e = refl
implied f g (x ∷ xs) gives e = and_both (g x) (list_all g xs) (gives x (and_left (f x) (list_all f xs) e)) (implied f g xs gives (and_right (f x) (list_all f xs) e))

apart_steps : (s u : Step) → list_all (is_unrelated s) (paths_of u) ≡ true → AreApart s u
apart_steps (MakeDir p) u e = one_of p u (implied (is_unrelated (MakeDir p)) (are_apart p) (paths_of u) (λ q f. and_left (are_apart p q) true f) e)
apart_steps (Rename from to) u e = (
  one_of from u (implied (is_unrelated (Rename from to)) (are_apart from) (paths_of u) (λ q f. and_left (are_apart from q) (are_apart to q && true) f) e),
  one_of to u (implied (is_unrelated (Rename from to)) (are_apart to) (paths_of u) (λ q f. and_left (are_apart to q) true (and_right (are_apart from q) (are_apart to q && true) f)) e),
)
apart_steps (Mode p old new) u e = one_of p u (implied (is_unrelated (Mode p old new)) (are_apart p) (paths_of u) (λ q f. and_left (are_apart p q) true f) e)

apart_layer : (s : Step) (l : List Step) → list_all (is_unrelated s) (all_paths l) ≡ true → AllByRecursion (AreApart s) l
apart_layer s [] e = tt
apart_layer s (u ∷ l) e = (apart_steps s u (all_left (is_unrelated s) (paths_of u) (all_paths l) e), apart_layer s l (all_right (is_unrelated s) (paths_of u) (all_paths l) e))

-- ---- the layers from the one of a step on

module _ (is_free : Names → Bool) where
  first_free : (k : ℕ) (l : List Step) (ls : List (List Step)) → free_from k is_free (l ∷ ls) ≤ k → list_all is_free (all_paths l) ≡ true
  first_free k l ls less = by (cases_Bool (list_all is_free (all_paths l)))
    where
      by : (list_all is_free (all_paths l) ≡ true) ⊎ (list_all is_free (all_paths l) ≡ false) → list_all is_free (all_paths l) ≡ true
      by (inl e) = e
      by (inr e) =
          let high : max (k + 1) (free_from (k + 1) is_free ls) ≤ k = subst (λ (b : Bool). max (if b then 0 else k + 1) (free_from (k + 1) is_free ls) ≤ k) e less in
          absurd (omega (arith, high))

  rest_free : (k n : ℕ) (l : List Step) (ls : List (List Step)) → free_from k is_free (l ∷ ls) ≤ n → free_from (k + 1) is_free ls ≤ n
  rest_free k n l ls less =
      let whole : max (if list_all is_free (all_paths l) then 0 else k + 1) (free_from (k + 1) is_free ls) ≤ n = less in
      by (if list_all is_free (all_paths l) then 0 else k + 1) (free_from (k + 1) is_free ls) whole
    where
      by : (a b : ℕ) → max a b ≤ n → b ≤ n
      by a b e = omega (arith, e)

all_apart_from : (s : Step) (k n : ℕ) (ls : List (List Step)) → n ≤ k → free_from k (is_unrelated s) ls ≤ n → AllByRecursion (AreApart s) (joined ls)
all_apart_from s k n [] low less = tt
all_apart_from s k n (l ∷ ls) low less =
    all_both (AreApart s) l (joined ls)
    (apart_layer s l (first_free (is_unrelated s) k l ls (omega (arith, low, less))))
    (all_apart_from s (k + 1) n ls (omega (arith, low)) (rest_free (is_unrelated s) k n l ls less))

-- ---- a step that is put at the end of its layer

record IsPut (s : Step) (old new : List (List Step)) : Type 0 where
  pub before : List Step
  pub behind : List Step
  pub old_is : joined old ≡ before ++ behind
  pub new_is : joined new ≡ before ++ s ∷ behind
  pub apart : AllByRecursion (AreApart s) behind

put_is : (s : Step) (j k : ℕ) (ls : List (List Step)) → free_from k (is_unrelated s) ls ≤ k + j → IsPut s ls (put j s ls)
put_is s zero k [] less = record { before = []; behind = []; old_is = refl; new_is = refl; apart = tt }
put_is s zero k (l ∷ ls) less = record {
  before = l;
  behind = joined ls;
  old_is = refl;
  new_is = append_assoc l (s ∷ []) (joined ls);
  apart = all_apart_from s (k + 1) (k + 0) ls (omega arith) (rest_free (is_unrelated s) k (k + 0) l ls less);
}
put_is s (suc j) k [] less =
    let more = put_is s j (k + 1) [] (omega arith) in
    record { before = more.before; behind = more.behind; old_is = more.old_is; new_is = more.new_is; apart = more.apart }
put_is s (suc j) k (l ∷ ls) less =
    let rest = rest_free (is_unrelated s) k (k + suc j) l ls less in
    let more = put_is s j (k + 1) ls (omega (arith, rest)) in
    record {
      before = l ++ more.before;
      behind = more.behind;
      old_is = ap (λ (x : List Step). l ++ x) more.old_is ∙ sym (append_assoc l more.before more.behind);
      new_is = ap (λ (x : List Step). l ++ x) more.new_is ∙ sym (append_assoc l more.before (s ∷ more.behind));
      apart = more.apart;
    }

behind_keeps : (ls : List (List Step)) (done steps : List Step) → KeepsOrder done (joined ls) → KeepsOrder (done ++ steps) (joined (layers_behind ls steps))
behind_keeps ls done [] keeps = subst (λ (l : List Step). KeepsOrder l (joined ls)) (sym (append-nil done)) keeps
behind_keeps ls done (s ∷ steps) keeps =
    let p = put_is s (layer_behind ls s) 0 ls (omega arith) in
    let more : KeepsOrder (done ++ s ∷ []) (joined (put (layer_behind ls s) s ls)) =
    subst (KeepsOrder (done ++ s ∷ [])) (sym p.new_is) (put_last done (joined ls) keeps s p.before p.behind p.old_is p.apart) in
    subst (λ (l : List Step). KeepsOrder l (joined (layers_behind (put (layer_behind ls s) s ls) steps))) (append_assoc done (s ∷ []) steps)
    (behind_keeps (put (layer_behind ls s) s ls) (done ++ s ∷ []) steps more)

pub same_order : (steps : List Step) → KeepsOrder steps steps
same_order [] = none
same_order (s ∷ steps) = placed s steps [] steps tt (same_order steps)

pub layers_keep_order : LayersKeepOrder
unfolding by_layer
layers_keep_order steps = elim (nat_le (length steps) 8) as (λ b. KeepsOrder steps (if b then steps else joined (layers steps))) [
  | true ↦ same_order steps
  | false ↦ behind_keeps [] [] steps none
]

-- ---- no two paths of a layer are related

-- a path more
path_more : (ps : List Names) (p : Names) → all_apart ps ≡ true → list_all (are_apart p) ps ≡ true → all_apart (ps ++ p ∷ []) ≡ true
path_more ps p e f = sym (apart_more ps p true true (sym e) (sym f))

lawful_apart : (from to : Names) → IsLawfulStep (Rename from to) → are_apart to from ≡ true
lawful_apart from to lawful = and_both (is_none (rest_below to from)) (is_none (rest_below from to)) (ap is_none lawful.3) (ap is_none lawful.2)

step_more : (ps : List Names) (s : Step) → IsLawfulStep s → all_apart ps ≡ true → list_all (is_unrelated s) ps ≡ true → all_apart (ps ++ paths_of s) ≡ true
step_more ps (MakeDir p) lawful e f = path_more ps p e (implied (is_unrelated (MakeDir p)) (are_apart p) ps (λ q g. and_left (are_apart p q) true g) f)
step_more ps (Rename from to) lawful e f =
    let off_from = implied (is_unrelated (Rename from to)) (are_apart from) ps (λ q g. and_left (are_apart from q) (are_apart to q && true) g) f in
    let off_to = implied (is_unrelated (Rename from to)) (are_apart to) ps (λ q g. and_left (are_apart to q) true (and_right (are_apart from q) (are_apart to q && true) g)) f in
    let both : list_all (are_apart to) (ps ++ from ∷ []) ≡ true =
    list_all-append (are_apart to) ps (from ∷ []) ∙ and_both (list_all (are_apart to) ps) (are_apart to from && true) off_to (and_both (are_apart to from) true (lawful_apart from to lawful) refl) in
    sym (ap all_apart (append_assoc ps (from ∷ []) (to ∷ []))) ∙ path_more (ps ++ from ∷ []) to (path_more ps from e off_from) both
step_more ps (Mode p old new) lawful e f = path_more ps p e (implied (is_unrelated (Mode p old new)) (are_apart p) ps (λ q g. and_left (are_apart p q) true g) f)

layer_more : (l : List Step) (s : Step) → IsLawfulStep s → Independent l → list_all (is_unrelated s) (all_paths l) ≡ true → Independent (l ++ s ∷ [])
layer_more l s lawful free off = ap all_apart (paths_pushed l s) ∙ step_more (all_paths l) s lawful free off

put_independent : (s : Step) (j k : ℕ) (ls : List (List Step)) → IsLawfulStep s → free_from k (is_unrelated s) ls ≤ k + j → AllByRecursion Independent ls → AllByRecursion Independent (put j s ls)
put_independent s zero k [] lawful less all = (layer_more [] s lawful refl refl, tt)
put_independent s zero k (l ∷ ls) lawful less all = (layer_more l s lawful all.0 (first_free (is_unrelated s) k l ls (omega (arith, less))), all.1)
put_independent s (suc j) k [] lawful less all = (refl, put_independent s j (k + 1) [] lawful (omega arith) tt)
put_independent s (suc j) k (l ∷ ls) lawful less all =
    let rest = rest_free (is_unrelated s) k (k + suc j) l ls less in
    (all.0, put_independent s j (k + 1) ls lawful (omega (arith, rest)) all.1)

behind_independent : (ls : List (List Step)) (steps : List Step) → AllByRecursion IsLawfulStep steps → AllByRecursion Independent ls → AllByRecursion Independent (layers_behind ls steps)
behind_independent ls [] lawful all = all
behind_independent ls (s ∷ steps) lawful all =
    behind_independent (put (layer_behind ls s) s ls) steps lawful.1 (put_independent s (layer_behind ls s) 0 ls lawful.0 (omega arith) all)

pub layers_are_independent : LayersAreIndependent
layers_are_independent steps lawful = behind_independent [] steps lawful tt
