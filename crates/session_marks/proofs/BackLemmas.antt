-- What is kept of a change leads back.
use Rattle.std.proofs.Common.{◌≡◌, ℕ, ◌+◌, ◌<◌, Bool, true, false, cond, not, ◌&&◌, ◌||◌, ◌==◌, List, [], ◌∷◌, ◌++◌, length, drop, get_or, reverse, refl, sym, ◌∙◌, ap, Option, Some, None}
use Rattle.std.specs.FinMap as fin
use Rattle.std.specs.Global.{Vec}
use Rattle.std.specs.List.{list_any}
use Rattle.std.specs.Option.{option_eq}
use Rattle.std.proofs.lemmas.Bool.{eqb-true, false≢true}
use Rattle.std.proofs.lemmas.List.{drop_more, reverse-append}
use Rattle.std.proofs.lemmas.List.Folds.{list_any_at}
use Rattle.std.proofs.lemmas.Map.Views.{any-filter_same}
use Rattle.dired_text.specs.Paths.{Names}
use Rattle.dired_text.proofs.PathLemmas.{path_decides}
use Rattle.mark_table.specs.PathMarks.{PathMarks, has_mark, is_among, marked, with_each}
use Rattle.mark_table.specs.Tables.{MarkTable, with_marks}
use Rattle.mark_table.proofs.MarkLemmas.{tie, same_marks, get-marked, get-with_each}
use Rattle.session_marks.specs.declared.kept.Kept.{Kept}
use Rattle.session_marks.specs.declared.kept.Kept.TheVariants.{Differences}
use Rattle.session_marks.specs.Histories.{gains, taken_back}
use Rattle.session_marks.specs.Keeping.{MarkPairs, back, differing, earlier_of, had, history_of, marks_back, paths_of}

-- ---- pair after pair

-- one more pair of a walk that marks the path of each
pub next_pair : (walked : MarkPairs → PathMarks → PathMarks) (mark_of : Names × Option ℕ → Option ℕ)
    → ((e : Names × Option ℕ) (es : MarkPairs) (m : PathMarks) → walked (e ∷ es) m ≡ walked es (marked m e.0 (mark_of e)))
    → (es : MarkPairs) (i : ℕ) (e : Names × Option ℕ) (t n end : MarkTable) → i < length es → e ≡ get_or es i e
    → n ≡ with_marks t (marked t.marks e.0 (mark_of e)) → with_marks t (walked (drop i es) t.marks) ≡ end → with_marks n (walked (drop (i + 1) es) n.marks) ≡ end
next_pair walked mark_of step es i e t n end within e_is n_is so_far =
    ap (λ (u : MarkTable). with_marks u (walked (drop (i + 1) es) u.marks)) (n_is ∙ ap (λ (x : Names × Option ℕ). with_marks t (marked t.marks x.0 (mark_of x))) e_is)
    ∙ ap (with_marks t) (sym (ap (λ (l : MarkPairs). walked l t.marks) (drop_more es i e within) ∙ step (get_or es i e) (drop (i + 1) es) t.marks))
    ∙ so_far

-- ---- what is kept of a change leads back

firsts : (m : PathMarks) (ps : List Names) → paths_of (had m ps) ≡ ps
firsts m [] = refl
firsts m (p ∷ ps) = ap (λ (l : List Names). p ∷ l) (firsts m ps)

same_else : (t a : Bool) (w o : Option ℕ) → (t ≡ true → o ≡ w) → cond (not t && a) w o ≡ cond a w o
same_else true true w o same = same refl
same_else true false w o same = refl
same_else false a w o same = refl

-- an equal mark is the mark
equal_mark : (o w : Option ℕ) → option_eq (λ a b. a == b) o w ≡ true → o ≡ w
equal_mark None None e = refl
equal_mark None (Some b) e = absurd (false≢true e)
equal_mark (Some a) None e = absurd (false≢true e)
equal_mark (Some a) (Some b) e = ap Some (eqb-true a b e)

among-differing : (m : PathMarks) (w : Option ℕ) (ps : List Names) (q : Names) → is_among q (differing m w ps) ≡ (not (has_mark m w q) && is_among q ps)
among-differing m w ps q = any-filter_same (tie q) (λ p. not (has_mark m w p)) (not (has_mark m w q)) (λ k t. ap (λ p. not (has_mark m w p)) (sym ((path_decides q k).0 t))) ps

-- to give a mark to those that have another one is to give it to all
pub given_to_others : (m : PathMarks) (w : Option ℕ) (ps : List Names) → with_each (λ _. w) (paths_of (had m (differing m w ps))) m ≡ with_each (λ _. w) ps m
given_to_others m w ps = ap (λ (l : List Names). with_each (λ _. w) l m) (firsts m (differing m w ps)) ∙ same_marks _ _ (λ q.
    get-with_each (λ _. w) (differing m w ps) m q
    ∙ ap (λ (t : Bool). cond t w (fin.get m q)) (among-differing m w ps q)
    ∙ same_else (has_mark m w q) (is_among q ps) w (fin.get m q) (equal_mark (fin.get m q) w)
    ∙ sym (get-with_each (λ _. w) ps m q))

back_each : (m n : PathMarks) (ps : List Names) → marks_back (had m ps) n ≡ with_each (λ p. fin.get m p) ps n
back_each m n [] = refl
back_each m n (p ∷ ps) = back_each m (marked n p (fin.get m p)) ps

back_at : (t : Bool) (a w : Option ℕ) → cond t a (cond t w a) ≡ a
back_at true a w = refl
back_at false a w = refl

-- what the paths had, given back
pub marks_from : (m : PathMarks) (rule : Names → Option ℕ) (ps : List Names) → marks_back (had m ps) (with_each rule ps m) ≡ m
marks_from m rule ps = back_each m (with_each rule ps m) ps ∙ same_marks _ _ (λ q.
    get-with_each (λ p. fin.get m p) ps (with_each rule ps m) q
    ∙ ap (λ (o : Option ℕ). cond (is_among q ps) (fin.get m q) o) (get-with_each rule ps m q)
    ∙ back_at (is_among q ps) (fin.get m q) (rule q))

-- the same, of those that have another mark
pub put_back_whole : (m : PathMarks) (w : Option ℕ) (ps : List Names) (es : MarkPairs) → es ≡ had m (differing m w ps)
    → marks_back es (with_each (λ _. w) (paths_of es) m) ≡ m
put_back_whole m w ps es es_is =
    ap (λ (l : MarkPairs). marks_back l (with_each (λ _. w) (paths_of l) m)) es_is
    ∙ ap (λ (l : List Names). marks_back (had m (differing m w ps)) (with_each (λ _. w) l m)) (firsts m (differing m w ps))
    ∙ marks_from m (λ _. w) (differing m w ps)

-- ---- given back after a refusal

among_paths : (q : Names) (es : MarkPairs) → is_among q (paths_of es) ≡ list_any (λ e. tie q e.0) es
among_paths q [] = refl
among_paths q (e ∷ es) = ap (λ (b : Bool). tie q e.0 || b) (among_paths q es)

-- the same but at these paths
abbrev AreSameBut : List Names → PathMarks → PathMarks → Type 0
AreSameBut ps m n = (q : Names) → is_among q ps ≡ false → fin.get m q ≡ fin.get n q

if_not : (t : Bool) (w x y : Option ℕ) → (t ≡ false → x ≡ y) → cond t w x ≡ cond t w y
if_not true w x y same = refl
if_not false w x y same = same refl

-- what these paths had before doesn't matter
same_back : (es : MarkPairs) (m n : PathMarks) → AreSameBut (paths_of es) m n → marks_back es m ≡ marks_back es n
same_back [] m n same = same_marks m n (λ q. same q refl)
same_back (e ∷ es) m n same = same_back es (marked m e.0 e.1) (marked n e.0 e.1) (λ q out.
    get-marked m e.0 e.1 q
    ∙ if_not (tie q e.0) e.1 (fin.get m q) (fin.get n q) (λ t. same q (ap (λ (b : Bool). b || is_among q (paths_of es)) t ∙ out))
    ∙ sym (get-marked n e.0 e.1 q))

unless : (t : Bool) (w x : Option ℕ) → (t ≡ true → ⊥) → cond t w x ≡ x
unless true w x not_so = absurd (not_so refl)
unless false w x not_so = refl

-- so one of them may have any mark on the way
still_back : (es : MarkPairs) (i : ℕ) (e : Names × Option ℕ) (w : Option ℕ) (m : PathMarks) → i < length es → e ≡ get_or es i e
    → marks_back es (marked m e.0 w) ≡ marks_back es m
still_back es i e w m within e_is = same_back es (marked m e.0 w) m (λ q out.
    get-marked m e.0 w q
    ∙ unless (tie q e.0) w (fin.get m q) (λ t. false≢true (sym out ∙ among_paths q es
    ∙ list_any_at (λ x. tie q x.0) es i e within (sym (ap (λ (x : Names × Option ℕ). tie q x.0) e_is) ∙ t))))

pub still_leads : (es : MarkPairs) (i : ℕ) (e : Names × Option ℕ) (w : Option ℕ) (t n end : MarkTable) → i < length es → e ≡ get_or es i e
    → n ≡ with_marks t (marked t.marks e.0 w) → with_marks t (marks_back es t.marks) ≡ end → with_marks n (marks_back es n.marks) ≡ end
still_leads es i e w t n end within e_is n_is so_far =
    ap (λ (u : MarkTable). with_marks u (marks_back es u.marks)) n_is ∙ ap (with_marks t) (still_back es i e w t.marks within e_is) ∙ so_far

if_same : (t : Bool) (x : Option ℕ) → cond t x x ≡ x
if_same true x = refl
if_same false x = refl

-- what paths have, given to them
had_back : (m : PathMarks) (ps : List Names) → marks_back (had m ps) m ≡ m
had_back m ps = back_each m m ps ∙ same_marks _ _ (λ q. get-with_each (λ p. fin.get m p) ps m q ∙ if_same (is_among q ps) (fin.get m q))

pub refused_put : (t n : MarkTable) (es : MarkPairs) (ps : List Names) → es ≡ had t.marks ps → with_marks n (marks_back es n.marks) ≡ with_marks t (marks_back es t.marks)
    → with_marks n (marks_back es n.marks) ≡ t
refused_put t n es ps es_is same =
    same ∙ ap (with_marks t) (ap (λ (l : MarkPairs). marks_back l t.marks) es_is ∙ had_back t.marks ps)

-- ---- the undo list

pub gained : (before now : MarkTable) (k : Kept) (ks all : List Kept) → all ≡ ks ++ k ∷ [] → back k now ≡ before → history_of now all ≡ gains now.marks (history_of before ks)
gained before now k ks all all_is leads =
    ap (λ (l : List Kept). record { marks = now.marks; earlier = earlier_of now l }) (ap reverse all_is ∙ reverse-append ks (k ∷ []))
    ∙ ap (λ (t : MarkTable). record { marks = now.marks; earlier = t.marks ∷ earlier_of t (reverse ks) }) leads

-- one step back, whatever was kept
pub stepped_back : (before now : MarkTable) (k : Kept) (ks all : List Kept) → all ≡ ks ++ k ∷ [] → before ≡ back k now → history_of before ks ≡ taken_back (history_of now all)
stepped_back before now k ks all all_is is =
    ap (λ (t : MarkTable). history_of t ks) is
    ∙ sym (ap (λ (l : List Kept). taken_back (record { marks = now.marks; earlier = earlier_of now l })) (ap reverse all_is ∙ reverse-append ks (k ∷ [])))

-- `put`: of the paths that have another mark, what they have is kept, and they get the mark
pub put_gains : (t n : MarkTable) (w : Option ℕ) (ps : List Names) (pairs : Vec (Names × Option ℕ)) (es : MarkPairs) (ks all : List Kept)
    → pairs.items ≡ had t.marks (differing t.marks w ps) → es ≡ pairs.items → all ≡ ks ++ Differences pairs ∷ []
    → n ≡ with_marks t (with_each (λ _. w) (paths_of es) t.marks) → history_of n all ≡ gains (with_each (λ _. w) ps t.marks) (history_of t ks)
put_gains t n w ps pairs es ks all pairs_are es_is all_is n_is =
    let whole : n ≡ with_marks t (with_each (λ _. w) (paths_of pairs.items) t.marks) = n_is ∙ ap (λ (l : MarkPairs). with_marks t (with_each (λ _. w) (paths_of l) t.marks)) es_is in
    gained t n (Differences pairs) ks all all_is
    (ap (λ (u : MarkTable). with_marks u (marks_back pairs.items u.marks)) whole ∙ ap (with_marks t) (put_back_whole t.marks w ps pairs.items pairs_are))
    ∙ ap (λ (m : PathMarks). gains m (history_of t ks))
    (ap (λ (u : MarkTable). u.marks) whole ∙ ap (λ (l : MarkPairs). with_each (λ _. w) (paths_of l) t.marks) pairs_are ∙ given_to_others t.marks w ps)

pub put_refused : (t n : MarkTable) (w : Option ℕ) (ps : List Names) (pairs : Vec (Names × Option ℕ)) (es : MarkPairs) (ks all : List Kept)
    → pairs.items ≡ had t.marks (differing t.marks w ps) → es ≡ pairs.items → all ≡ ks ++ Differences pairs ∷ []
    → with_marks n (marks_back es n.marks) ≡ with_marks t (marks_back es t.marks) → taken_back (history_of n all) ≡ history_of t ks
put_refused t n w ps pairs es ks all pairs_are es_is all_is same =
    sym (stepped_back t n (Differences pairs) ks all all_is
    (sym (refused_put t n pairs.items (differing t.marks w ps) pairs_are
    (ap (λ (l : MarkPairs). with_marks n (marks_back l n.marks)) (sym es_is) ∙ same ∙ ap (λ (l : MarkPairs). with_marks t (marks_back l t.marks)) es_is))))
