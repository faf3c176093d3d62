-- What a plan of changes needs, list by list.
use Rattle.std.proofs.Common.{◌≡◌, ◌⊎◌, inl, inr, ◌+◌, ◌<◌, ℕ, Bool, true, false, List, [], ◌∷◌, ◌++◌, length, drop, get_or, refl, sym, ◌∙◌, ap, Option, Some, None, Contains}
use Rattle.std.specs.List.{flat_map, filter_map, list_any, dedup}
use Rattle.std.specs.List.Sorted.{IsPermutation}
use Rattle.std.specs.Cmp.{IsEquivalence, IsStrictWeakOrder, back_total, then_total, on_total, nat_cmp_total}
use Rattle.std.specs.Ordering.{is_lt}
use Rattle.std.proofs.lemmas.List.MinMax.{ranks_by}
use Rattle.std.proofs.lemmas.Bool.{false≢true}
use Rattle.std.proofs.lemmas.Cmp.{eq_by_cmp_equiv}
use Rattle.std.proofs.lemmas.List.Kept.{Contains-dedup, Contains-from_dedup}
use Rattle.std.proofs.lemmas.List.Sorted.{Contains-permutation, IsPermutation-sym}
use Rattle.std.proofs.lemmas.Map.Views.{Contains-from_any, list_any-from_Contains}
use Rattle.dired_text.specs.Paths.{Names, path_cmp}
use Rattle.dired_text.proofs.PathLemmas.{path_cmp-total}
use Rattle.edit_words.specs.Rows.{is_same_path}
use Rattle.edit_rules.specs.Plans.{ModeChange, deepest_first}
use Rattle.edit_words.proofs.SameLemmas.{same_path}

same_answer : (b c : Bool) → (b ≡ true → c ≡ true) → (c ≡ true → b ≡ true) → b ≡ c
same_answer true true to from = refl
same_answer true false to from = absurd (false≢true (to refl))
same_answer false true to from = absurd (false≢true (from refl))
same_answer false false to from = refl

-- sorted, and each once, paths are the same ones
pub sorted_same : {E : Names → Names → Bool} → IsEquivalence E → ((p q : Names) → E p q ≡ true → p ≡ q) → (ps qs rs : List Names) → IsPermutation ps qs → rs ≡ dedup E qs
    → (p : Names) → list_any (is_same_path p) rs ≡ list_any (is_same_path p) ps
sorted_same {E} equal exact ps qs rs moved is p = ap (λ (l : List Names). list_any (is_same_path p) l) is ∙ same_answer _ _
    (λ e. list_any-from_Contains (eq_by_cmp_equiv path_cmp-total) p ps (Contains-permutation _ _ p (IsPermutation-sym _ _ moved) (Contains-from_dedup E qs p (Contains-from_any (λ a b e. same_path a b e) p (dedup E qs) e))))
    (λ e. list_any-from_Contains (eq_by_cmp_equiv path_cmp-total) p (dedup E qs) (Contains-dedup equal exact qs p (Contains-permutation _ _ p moved (Contains-from_any (λ a b e. same_path a b e) p ps e))))

-- any two new modes compare
pub deepest_ranks : IsStrictWeakOrder (λ (x y : ModeChange). is_lt (deepest_first x y))
deepest_ranks = ranks_by (then_total (back_total (on_total (λ (m : ModeChange). length m.0) nat_cmp_total)) (on_total (λ (m : ModeChange). m.0) path_cmp-total)) (λ (m : ModeChange). m)
