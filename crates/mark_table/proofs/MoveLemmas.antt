-- What moves do to the mark of a path.
use Rattle.std.proofs.Common.{◌≡◌, ℕ, ◌+◌, ◌<◌, ◌≤◌, Bool, true, false, cond, ◌||◌, [], ◌∷◌, ◌++◌, length, take, drop, get_or, refl, sym, ◌∙◌, ap, Option, Some, None}
use Rattle.std.specs.FinMap as fin
use Rattle.std.specs.Option.{option_or}
use Rattle.std.proofs.lemmas.List.{take_more, drop_all}
use Rattle.std.proofs.lemmas.List.Folds.{list_any-append}
use Rattle.std.specs.Ordering.{eq_by_cmp}
use Rattle.dired_text.specs.Paths.{Names, path_cmp}
use Rattle.mark_table.specs.PathMarks.{PathMarks, is_among, marked, with_each}
use Rattle.mark_table.specs.Moves.{Moves, sources, destinations, source_of, mark_from, mark_after, moved_marks}
use Rattle.mark_table.proofs.MarkLemmas.{tie, same_marks, get-marked, get-with_each, tie_laws}

-- ---- the sources lose their marks

abbrev pub emptied : Moves → PathMarks → PathMarks
emptied moves m = with_each (λ p. None) (sources moves) m

pub emptied_all : (moves : Moves) (i : ℕ) (m wanted : PathMarks) → length moves ≤ i → emptied (drop i moves) m ≡ wanted → m ≡ wanted
emptied_all moves i m wanted past so_far = sym (ap (λ (l : Moves). emptied l m) (drop_all i moves past)) ∙ so_far

pub get-emptied : (moves : Moves) (m n : PathMarks) → n ≡ emptied moves m → (q : Names) → fin.get n q ≡ cond (is_among q (sources moves)) None (fin.get m q)
get-emptied moves m n is q = ap (λ (k : PathMarks). fin.get k q) is ∙ get-with_each (λ p. None) (sources moves) m q

-- ---- the destinations get theirs

or_none : (o : Option Names) → option_or o None ≡ o
or_none None = refl
or_none (Some p) = refl

or_assoc : (a b c : Option Names) → option_or (option_or a b) c ≡ option_or a (option_or b c)
or_assoc None b c = refl
or_assoc (Some p) b c = refl

source_of-push : (moves : Moves) (e : Names × Names) (q : Names) → source_of (moves ++ e ∷ []) q ≡ option_or (cond (tie q e.1) (Some e.0) None) (source_of moves q)
source_of-push [] e q = sym (or_none _)
source_of-push (f ∷ moves) e q =
    let last = cond (tie q e.1) (Some e.0) None in
    let first = cond (tie q f.1) (Some f.0) None in
    ap (λ (o : Option Names). option_or o first) (source_of-push moves e q) ∙ or_assoc last (source_of moves q) first

later : (m : PathMarks) (t : Bool) (p : Names) (o : Option Names) (stays : Option ℕ) → cond t (fin.get m p) (mark_from m o stays) ≡ mark_from m (option_or (cond t (Some p) None) o) stays
later m true p o stays = refl
later m false p o stays = refl

pub arrived-step : (m : PathMarks) (moves : Moves) (i : ℕ) (e : Names × Names) (begin so_far n : PathMarks) → i < length moves → e ≡ get_or moves i e
    → ((q : Names) → fin.get so_far q ≡ mark_from m (source_of (take i moves) q) (fin.get begin q)) → n ≡ marked so_far e.1 (fin.get m e.0)
    → (q : Names) → fin.get n q ≡ mark_from m (source_of (take (i + 1) moves) q) (fin.get begin q)
arrived-step m moves i e begin so_far n within is shows put q =
    ap (λ (k : PathMarks). fin.get k q) put
    ∙ get-marked so_far e.1 (fin.get m e.0) q
    ∙ ap (λ (o : Option ℕ). cond (tie q e.1) (fin.get m e.0) o) (shows q)
    ∙ later m (tie q e.1) e.0 (source_of (take i moves) q) (fin.get begin q)
    ∙ ap (λ (o : Option Names). mark_from m o (fin.get begin q)) (sym (source_of-push (take i moves) e q))
    ∙ ap (λ (l : Moves). mark_from m (source_of l q) (fin.get begin q)) (sym (take_more moves i e within ∙ ap (λ x. take i moves ++ x ∷ []) (sym is)))

-- ---- both

last_is_none : (t : Bool) (p : Names) (o : Option Names) (b : Bool) → (t || b) ≡ false → (b ≡ false → o ≡ None) → option_or o (cond t (Some p) None) ≡ None
last_is_none true p o b e none = cc
last_is_none false p o b e none = ap (λ (r : Option Names). option_or r None) (none e)

no_source : (moves : Moves) (q : Names) → is_among q (destinations moves) ≡ false → source_of moves q ≡ None
no_source [] q none = refl
no_source (e ∷ moves) q none = last_is_none (tie q e.1) e.0 (source_of moves q) (is_among q (destinations moves)) none (no_source moves q)

untouched : (moves : Moves) (m : PathMarks) (q : Names) (a b : Bool) → is_among q (sources moves) ≡ a → is_among q (destinations moves) ≡ b
    → cond (a || b) (mark_after moves m q) (fin.get m q) ≡ mark_after moves m q
untouched moves m q true b s d = refl
untouched moves m q false true s d = refl
untouched moves m q false false s d =
    sym (ap (λ (o : Option Names). mark_from m o (cond (is_among q (sources moves)) None (fin.get m q))) (no_source moves q d) ∙ ap (λ (t : Bool). cond t None (fin.get m q)) s)

pub get-moved_marks : (moves : Moves) (m : PathMarks) (q : Names) → fin.get (moved_marks moves m) q ≡ mark_after moves m q
get-moved_marks moves m q =
    get-with_each (mark_after moves m) (sources moves ++ destinations moves) m q
    ∙ ap (λ (t : Bool). cond t (mark_after moves m q) (fin.get m q)) (list_any-append (eq_by_cmp path_cmp q) (sources moves) (destinations moves))
    ∙ untouched moves m q (is_among q (sources moves)) (is_among q (destinations moves)) refl refl

pub all_moved : (moves : Moves) (m n r : PathMarks) → ((q : Names) → fin.get n q ≡ cond (is_among q (sources moves)) None (fin.get m q))
    → ((q : Names) → fin.get r q ≡ mark_from m (source_of moves q) (fin.get n q)) → r ≡ moved_marks moves m
all_moved moves m n r left come = same_marks r (moved_marks moves m) (λ q.
    come q ∙ ap (mark_from m (source_of moves q)) (left q) ∙ sym (get-moved_marks moves m q))

-- ---- the laws

found_last : (back : Moves) (e : Names × Names) → is_among e.1 (destinations back) ≡ false → source_of (e ∷ back) e.1 ≡ Some e.0
found_last back e none =
    ap (λ (o : Option Names). option_or o (cond (tie e.1 e.1) (Some e.0) None)) (no_source back e.1 none)
    ∙ ap (λ (t : Bool). cond t (Some e.0) None) (tie_laws.refl e.1)

found_behind : (front back : Moves) (e : Names × Names) → is_among e.1 (destinations back) ≡ false → source_of (front ++ e ∷ back) e.1 ≡ Some e.0
found_behind [] back e none = found_last back e none
found_behind (f ∷ front) back e none = ap (λ (o : Option Names). option_or o (cond (tie e.1 f.1) (Some f.0) None)) (found_behind front back e none)

pub arrived_at : (moves front back : Moves) (m : PathMarks) (e : Names × Names) → moves ≡ front ++ e ∷ back → is_among e.1 (destinations back) ≡ false → fin.get (moved_marks moves m) e.1 ≡ fin.get m e.0
arrived_at moves front back m e is none =
    ap (λ (l : Moves). fin.get (moved_marks l m) e.1) is
    ∙ get-moved_marks (front ++ e ∷ back) m e.1
    ∙ ap (λ (o : Option Names). mark_from m o (cond (is_among e.1 (sources (front ++ e ∷ back))) None (fin.get m e.1))) (found_behind front back e none)

pub elsewhere : (moves : Moves) (m : PathMarks) (p : Names) (b : Bool) → is_among p (sources moves) ≡ b → is_among p (destinations moves) ≡ false → fin.get (moved_marks moves m) p ≡ cond b None (fin.get m p)
elsewhere moves m p b s d =
    get-moved_marks moves m p
    ∙ ap (λ (o : Option Names). mark_from m o (cond (is_among p (sources moves)) None (fin.get m p))) (no_source moves p d)
    ∙ ap (λ (t : Bool). cond t None (fin.get m p)) s
