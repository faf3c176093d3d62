-- A last step that is put before steps to which it isn't related.
use Rattle.std.proofs.Common.{◌≡◌, ◌⊎◌, inl, inr, List, [], ◌∷◌, ◌++◌, refl, sym, ◌∙◌, ap, subst, append_assoc}
use Rattle.std.specs.List.{AllByRecursion}
use Rattle.commit_steps.specs.declared.step.Step.{Step}
use Rattle.step_trees.proofs.GroupLemmas.{apart_other}
use Rattle.step_trees.specs.Apart.{AreApart}
use Rattle.step_layers.specs.Order.{KeepsOrder, none, placed}

-- ---- steps that are split in two ways

-- x stands in the first part,
record InFirst (x : Step) (cs ds xs ys : List Step) : Type 0 where
  pub between : List Step
  pub first : xs ≡ cs ++ x ∷ between
  pub rest : ds ≡ between ++ ys

-- or in the second one
record InSecond (x : Step) (cs ds xs ys : List Step) : Type 0 where
  pub between : List Step
  pub first : cs ≡ xs ++ between
  pub rest : ys ≡ between ++ x ∷ ds

split : (x : Step) (cs ds xs ys : List Step) → cs ++ x ∷ ds ≡ xs ++ ys → InFirst x cs ds xs ys ⊎ InSecond x cs ds xs ys
split x cs ds [] ys e = inr (record { between = cs; first = refl; rest = sym e })
split x [] ds (a ∷ xs) ys e = inl (record { between = xs; first = (let k : a ≡ x = cc in ap (λ (y : Step). y ∷ xs) k); rest = cc })
split x (c ∷ cs) ds (a ∷ xs) ys e = by (split x cs ds xs ys cc)
  where
    same : a ≡ c
    same = cc

    by : InFirst x cs ds xs ys ⊎ InSecond x cs ds xs ys → InFirst x (c ∷ cs) ds (a ∷ xs) ys ⊎ InSecond x (c ∷ cs) ds (a ∷ xs) ys
    by (inl i) = inl (record { between = i.between; first = ap (λ (y : Step). y ∷ xs) same ∙ ap (λ (l : List Step). c ∷ l) i.first; rest = i.rest })
    by (inr i) = inr (record { between = i.between; first = ap (λ (y : Step). y ∷ cs) (sym same) ∙ ap (λ (l : List Step). a ∷ l) i.first; rest = i.rest })

-- ---- steps that are all apart from one

module _ (P : Step → Type 0) where
  pub all_both : (xs ys : List Step) → AllByRecursion P xs → AllByRecursion P ys → AllByRecursion P (xs ++ ys)
  all_both [] ys a b = b
  all_both (x ∷ xs) ys a b = (a.0, all_both xs ys a.1 b)

  pub all_first : (xs ys : List Step) → AllByRecursion P (xs ++ ys) → AllByRecursion P xs
  all_first [] ys all = tt
  all_first (x ∷ xs) ys all = (all.0, all_first xs ys all.1)

  pub all_second : (xs ys : List Step) → AllByRecursion P (xs ++ ys) → AllByRecursion P ys
  all_second [] ys all = all
  all_second (x ∷ xs) ys all = all_second xs ys all.1

-- ---- a last step

pub put_last : (steps others : List Step) → KeepsOrder steps others → (s : Step) (xs ys : List Step) → others ≡ xs ++ ys → AllByRecursion (AreApart s) ys → KeepsOrder (steps ++ s ∷ []) (xs ++ s ∷ ys)
put_last _ _ none s [] [] e apart = placed s [] [] [] tt none
put_last _ _ none s [] (b ∷ ys) e apart = cc
put_last _ _ none s (a ∷ xs) ys e apart = cc
put_last _ _ (placed x steps cs ds free keeps) s xs ys e apart = by (put_last steps (cs ++ ds) keeps s) (split x cs ds xs ys e)
  where
    by : ((fs gs : List Step) → cs ++ ds ≡ fs ++ gs → AllByRecursion (AreApart s) gs → KeepsOrder (steps ++ s ∷ []) (fs ++ s ∷ gs)) → InFirst x cs ds xs ys ⊎ InSecond x cs ds xs ys
        → KeepsOrder (x ∷ steps ++ s ∷ []) (xs ++ s ∷ ys)
    by later (inl i) =
        let there : cs ++ ds ≡ (cs ++ i.between) ++ ys = ap (λ (l : List Step). cs ++ l) i.rest ∙ sym (append_assoc cs i.between ys) in
        let more : KeepsOrder (steps ++ s ∷ []) ((cs ++ i.between) ++ s ∷ ys) = later (cs ++ i.between) ys there apart in
        let whole : cs ++ x ∷ (i.between ++ s ∷ ys) ≡ xs ++ s ∷ ys = sym (append_assoc cs (x ∷ i.between) (s ∷ ys)) ∙ sym (ap (λ (l : List Step). l ++ s ∷ ys) i.first) in
        subst (KeepsOrder (x ∷ steps ++ s ∷ [])) whole
        (placed x (steps ++ s ∷ []) cs (i.between ++ s ∷ ys) free (subst (KeepsOrder (steps ++ s ∷ [])) (append_assoc cs i.between (s ∷ ys)) more))
    by later (inr i) =
        let apart_there : AllByRecursion (AreApart s) (i.between ++ x ∷ ds) = subst (AllByRecursion (AreApart s)) i.rest apart in
        let behind = all_second (AreApart s) i.between (x ∷ ds) apart_there in
        let there : cs ++ ds ≡ xs ++ (i.between ++ ds) = ap (λ (l : List Step). l ++ ds) i.first ∙ append_assoc xs i.between ds in
        let more : KeepsOrder (steps ++ s ∷ []) (xs ++ s ∷ (i.between ++ ds)) =
        later xs (i.between ++ ds) there (all_both (AreApart s) i.between ds (all_first (AreApart s) i.between (x ∷ ds) apart_there) behind.1) in
        let free_there : AllByRecursion (AreApart x) (xs ++ i.between) = subst (AllByRecursion (AreApart x)) i.first free in
        let free_all : AllByRecursion (AreApart x) (xs ++ s ∷ i.between) =
        all_both (AreApart x) xs (s ∷ i.between) (all_first (AreApart x) xs i.between free_there) (apart_other s x behind.0, all_second (AreApart x) xs i.between free_there) in
        let whole : (xs ++ s ∷ i.between) ++ x ∷ ds ≡ xs ++ s ∷ ys = append_assoc xs (s ∷ i.between) (x ∷ ds) ∙ sym (ap (λ (l : List Step). xs ++ s ∷ l) i.rest) in
        subst (KeepsOrder (x ∷ steps ++ s ∷ [])) whole
        (placed x (steps ++ s ∷ []) (xs ++ s ∷ i.between) ds free_all (subst (KeepsOrder (steps ++ s ∷ [])) (sym (append_assoc xs (s ∷ i.between) ds)) more))
