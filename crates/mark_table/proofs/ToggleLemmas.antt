-- Marks toggled in place: what stands at each path on the way.
use Rattle.std.proofs.Common.{◌≡◌, ℕ, ◌+◌, ◌<◌, Bool, true, false, cond, ◌&&◌, ◌||◌, ◌==◌, List, [], ◌∷◌, map, filter, length, drop, get_or, refl, sym, ◌∙◌, ap, Option, Some, None}
use Rattle.std.specs.FinMap as fin
use Rattle.std.specs.List.{list_any}
use Rattle.std.specs.Option.{option_eq}
use Rattle.std.proofs.lemmas.List.{drop_more}
use Rattle.std.proofs.lemmas.List.Folds.{list_any_at}
use Rattle.std.proofs.lemmas.Map.Views.{any-filter_same}
use Rattle.dired_text.specs.Paths.{Names}
use Rattle.dired_text.proofs.PathLemmas.{path_decides}
use Rattle.mark_table.specs.PathMarks.{PathMarks, flipped, has_mark, is_among, marked, star, toggled, with_each}
use Rattle.mark_table.proofs.MarkLemmas.{tie, same_marks, get-marked, get-with_each}

abbrev emptied : List Names → PathMarks → PathMarks
emptied ps m = with_each (λ _. None) ps m

-- ---- one path after another gets a mark

pub given_next : {X : Type 0} (now : X → Names) (xs : List X) (i : ℕ) (x : X) (p : Names) (b : ℕ) (m n end : PathMarks) → i < length xs → x ≡ get_or xs i x → p ≡ now x
    → n ≡ marked m p (Some b) → with_each (λ _. Some b) (map now (drop i xs)) m ≡ end → with_each (λ _. Some b) (map now (drop (i + 1) xs)) n ≡ end
given_next now xs i x p b m n end within x_is p_is n_is so_far =
    ap (with_each (λ _. Some b) (map now (drop (i + 1) xs))) (n_is ∙ ap (λ (k : Names). marked m k (Some b)) (p_is ∙ ap now x_is))
    ∙ sym (ap (λ l. with_each (λ _. Some b) (map now l) m) (drop_more xs i x within))
    ∙ so_far

-- ---- a path among those that lose their marks

hidden : (t b : Bool) (w o : Option ℕ) → (t ≡ true → b ≡ true) → cond b None (cond t w o) ≡ cond b None o
hidden true b w o h = ap (λ (s : Bool). cond s None w) (h refl) ∙ sym (ap (λ (s : Bool). cond s None o) (h refl))
hidden false b w o h = refl

list_any-map : {X : Type 0} (f : Names → Bool) (now : X → Names) (xs : List X) → list_any (λ x. f (now x)) xs ≡ true → list_any f (map now xs) ≡ true
list_any-map f now [] e = e
list_any-map f now (x ∷ xs) e = found (f (now x)) _ _ e (list_any-map f now xs)
  where
    found : (t a b : Bool) → (t || a) ≡ true → (a ≡ true → b ≡ true) → (t || b) ≡ true
    found true a b e h = refl
    found false a b e h = h e

pub still_emptied : {X : Type 0} (now : X → Names) (xs : List X) (i : ℕ) (x : X) (p : Names) (b : ℕ) (m n end : PathMarks) → i < length xs → x ≡ get_or xs i x → p ≡ now x
    → n ≡ marked m p (Some b) → emptied (map now xs) m ≡ end → emptied (map now xs) n ≡ end
still_emptied now xs i x p b m n end within x_is p_is n_is so_far = same_marks _ _ (λ q.
    ap (λ (k : PathMarks). fin.get (emptied (map now xs) k) q) n_is
    ∙ get-with_each (λ _. None) (map now xs) (marked m p (Some b)) q
    ∙ ap (λ (o : Option ℕ). cond (is_among q (map now xs)) None o) (get-marked m p (Some b) q)
    ∙ hidden (tie q p) (is_among q (map now xs)) (Some b) (fin.get m q) (λ t.
    list_any-map (tie q) now xs (list_any_at (λ y. tie q (now y)) xs i x within (sym (ap (λ y. tie q (now y)) x_is) ∙ ap (tie q) (sym p_is) ∙ t)))
    ∙ sym (get-with_each (λ _. None) (map now xs) m q)
    ∙ ap (λ (k : PathMarks). fin.get k q) so_far)

-- ---- those of some paths that have a mark

among-those : (m : PathMarks) (mark : Option ℕ) (ps : List Names) (q : Names) → is_among q (filter (has_mark m mark) ps) ≡ (has_mark m mark q && is_among q ps)
among-those m mark ps q = any-filter_same (tie q) (has_mark m mark) (has_mark m mark q) (λ k t. ap (has_mark m mark) (sym ((path_decides q k).0 t))) ps

among : (m : PathMarks) (mark : Option ℕ) (ps some : List Names) (q : Names) → some ≡ filter (has_mark m mark) ps → is_among q some ≡ (has_mark m mark q && is_among q ps)
among m mark ps some q is = ap (is_among q) is ∙ among-those m mark ps q

none_there : (a : Bool) (o : Option ℕ) → cond (option_eq (λ x y. x == y) o None && a) None o ≡ o
none_there true None = refl
none_there false None = refl
none_there a (Some b) = refl

-- the inserted marks are removed again
pub taken_back : (shown bare again : List Names) (m n r : PathMarks) → bare ≡ filter (has_mark m None) shown → again ≡ bare → emptied bare n ≡ emptied bare m → r ≡ emptied again n → r ≡ m
taken_back shown bare again m n r bare_is again_is same r_is = same_marks r m (λ q.
    ap (λ (k : PathMarks). fin.get k q) (r_is ∙ ap (λ (l : List Names). emptied l n) again_is ∙ same)
    ∙ get-with_each (λ _. None) bare m q
    ∙ ap (λ (t : Bool). cond t None (fin.get m q)) (among m None shown bare q bare_is)
    ∙ none_there (is_among q shown) (fin.get m q))

turned : (a : Bool) (o : Option ℕ) → cond (option_eq (λ x y. x == y) o (Some star) && a) None (cond (option_eq (λ x y. x == y) o None && a) (Some star) o) ≡ cond a (flipped o) o
turned true None = refl
turned false None = refl
turned true (Some b) = elim (b == star) as (λ t. cond (t && true) None (Some b) ≡ cond t None (Some b)) [ true ↦ refl | false ↦ refl ]
turned false (Some b) = elim (b == star) as (λ t. cond (t && false) None (Some b) ≡ Some b) [ true ↦ refl | false ↦ refl ]

pub all_toggled : (shown bare starred : List Names) (m n r : PathMarks) → bare ≡ filter (has_mark m None) shown → starred ≡ filter (has_mark m (Some star)) shown
    → n ≡ with_each (λ _. Some star) bare m → r ≡ emptied starred n → r ≡ toggled shown m
all_toggled shown bare starred m n r bare_is starred_is n_is r_is = same_marks r (toggled shown m) (λ q.
    ap (λ (k : PathMarks). fin.get k q) r_is
    ∙ get-with_each (λ _. None) starred n q
    ∙ ap (λ (o : Option ℕ). cond (is_among q starred) None o) (ap (λ (k : PathMarks). fin.get k q) n_is ∙ get-with_each (λ _. Some star) bare m q)
    ∙ ap (λ (t : Bool). cond t None (cond (is_among q bare) (Some star) (fin.get m q))) (among m (Some star) shown starred q starred_is)
    ∙ ap (λ (t : Bool). cond (has_mark m (Some star) q && is_among q shown) None (cond t (Some star) (fin.get m q))) (among m None shown bare q bare_is)
    ∙ turned (is_among q shown) (fin.get m q)
    ∙ sym (get-with_each (λ p. flipped (fin.get m p)) shown m q))
