-- How findings grow, and what they say of a sight.
use Rattle.std.proofs.Common.{◌≡◌, ◌⊎◌, inl, inr, ℕ, Bool, true, false, cond, not, ◌||◌, List, [], ◌∷◌, ◌++◌, refl, sym, ◌∙◌, ap, subst, Option, Some, None, is_some, IsTrue, Contains}
use Rattle.std.specs.List.{list_any}
use Rattle.std.specs.FinMap.{get as get_in}
use Rattle.std.specs.BTreeMap.{BTreeMap, get}
use Rattle.std.specs.Ordering.{is_eq}
use Rattle.std.specs.Option.{unwrap_or}
use Rattle.std.proofs.lemmas.Bool.{cond-true, cond-false, cases_Bool, false≢true}
use Rattle.std.proofs.lemmas.Option.{none-some, same_Some}
use Rattle.dired_text.specs.Paths.{Names, path_cmp}
use Rattle.dired_text.proofs.PathLemmas.{path_decides}
use Rattle.std.proofs.lemmas.List.{append_assoc}
use Rattle.tree_core.specs.declared.node.Node.{Node}
use Rattle.tree_core.specs.declared.node.Node.TheVariants.{Dir, Link, File}
use Rattle.tree_core.specs.FileTree.{FileTree, IsTree, IsDir, Stands, is_dir_node}
use Rattle.edit_words.specs.declared.seen.Seen.{Seen}
use Rattle.edit_words.specs.declared.findings.Findings.{Findings}
use Rattle.edit_words.specs.Sight.{Sight, sight_of, is_dir}
use Rattle.edit_words.specs.Place.{IsAbove, ancestors}
use Rattle.edit_words.specs.Found.{HasLawfulMode, sight_in, HasFindings, IsSeen, IsClosed, is_no_dir, HasGrown, HasOneMore}
use Rattle.edit_words.proofs.AboveLemmas.{ancestors_above}
use Rattle.edit_words.proofs.FindLemmas.{contains_head, contains_tail, contains_none, contains_cases}
use Rattle.edit_words.proofs.RefusalLemmas.{stands_decides, dir_decides}

-- ---- one entry more in a map

-- n has o at p, and else what m has
abbrev pub IsInserted : {X : Type 0} → Names → X → BTreeMap Names X → BTreeMap Names X → Type 0
IsInserted p o m n = (q : Names) → get path_cmp n q ≡ cond (is_eq (path_cmp p q)) (Some o) (get path_cmp m q)

pub inserted_stays : {X : Type 0} (p : Names) (o : X) (m n : BTreeMap Names X) → IsInserted p o m n → get path_cmp m p ≡ None
    → (q : Names) (x : X) → get path_cmp m q ≡ Some x → get path_cmp n q ≡ Some x
inserted_stays p o m n is unseen q x e = elim (cases_Bool (is_eq (path_cmp p q))) [
  | inl same ↦
      let here : p ≡ q = (path_decides p q).0 same in
      absurd (none-some x (sym unseen ∙ ap (get path_cmp m) here ∙ e))
  | inr other ↦ is q ∙ cond-false (is_eq (path_cmp p q)) (Some o) (get path_cmp m q) other ∙ e
]

pub inserted_one : {X : Type 0} (p : Names) (o : X) (m n : BTreeMap Names X) → IsInserted p o m n
    → (q : Names) (x : X) → get path_cmp n q ≡ Some x → ((q ≡ p) × (x ≡ o)) ⊎ (get path_cmp m q ≡ Some x)
inserted_one p o m n is q x e = elim (cases_Bool (is_eq (path_cmp p q))) [
  | inl same ↦ inl (sym ((path_decides p q).0 same), same_Some x o (sym e ∙ is q ∙ cond-true (is_eq (path_cmp p q)) (Some o) (get path_cmp m q) same))
  | inr other ↦ inr (sym (cond-false (is_eq (path_cmp p q)) (Some o) (get path_cmp m q) other) ∙ sym (is q) ∙ e)
]

-- ---- findings grow

pub grown_on : {f g h : Findings} → HasGrown f g → HasGrown g h → HasGrown f h
grown_on a b = record { found = λ p o e. b.found p o (a.found p o e); empty = λ p c e. b.empty p c (a.empty p c e) }

pub some_is : {X : Type 0} (o : Option X) → IsTrue (is_some o) → (x : X) × (o ≡ Some x)
some_is None e = absurd (false≢true e)
some_is (Some x) e = (x, refl)

-- ---- what is known of a path

or_cases : (b c : Bool) → IsTrue (b || c) → IsTrue b ⊎ IsTrue c
or_cases true c is = inl refl
or_cases false c is = inr is

or_right : (b c : Bool) → IsTrue c → IsTrue (b || c)
or_right true c is = refl
or_right false c is = is

any_found : {X : Type 0} (test : X → Bool) (xs : List X) → list_any test xs ≡ true → (x : X) × Contains xs x × (test x ≡ true)
any_found test [] e = absurd (false≢true e)
any_found test (x ∷ xs) e = elim (or_cases (test x) (list_any test xs) e) [
  | inl here ↦ (x, contains_head x xs, here)
  | inr later ↦ let more = any_found test xs later in (more.0, contains_tail x more.0 xs more.1, more.2)
]

any_from : {X : Type 0} (test : X → Bool) (xs : List X) (x : X) → Contains xs x → test x ≡ true → list_any test xs ≡ true
any_from test [] x c is = absurd (contains_none x c)
any_from test (y ∷ ys) x c is = elim (contains_cases y x ys c) [
  | inl here ↦ ap (λ (b : Bool). b || list_any test ys) (ap test here ∙ is)
  | inr later ↦ or_right (test y) (list_any test ys) (any_from test ys x later is)
]

none_for_true : (b : Bool) → not b ≡ true → b ≡ false
none_for_true true e = absurd (false≢true e)
none_for_true false e = refl

no_dir_found : (o : Option (Option Seen)) → is_no_dir o ≡ true → (found : Option Seen) × (o ≡ Some found) × (is_dir found ≡ false)
no_dir_found None e = absurd (false≢true e)
no_dir_found (Some found) e = (found, refl, none_for_true (is_dir found) e)

-- it was looked at,
abbrev pub IsLooked : Findings → Names → Type 0
IsLooked f p = (found : Option Seen) × (get path_cmp f.found p ≡ Some found)

-- or it is below what is no directory
abbrev pub IsCutOff : Findings → Names → Type 0
IsCutOff f p = (u : Names) × (found : Option Seen) × IsAbove u p × (get path_cmp f.found u ≡ Some found) × (is_dir found ≡ false)

pub known : (f : Findings) (p : Names) → IsSeen f p → IsLooked f p ⊎ IsCutOff f p
known f p is = elim (or_cases (is_some (get path_cmp f.found p)) _ is) [
  | inl looked ↦ inl (some_is (get path_cmp f.found p) looked)
  | inr below ↦
      let any = any_found (λ (u : Names). is_no_dir (get path_cmp f.found u)) (ancestors p) below in
      let no_dir = no_dir_found (get path_cmp f.found any.0) any.2 in
      inr (any.0, no_dir.0, (ancestors_above p any.0).0 any.1, no_dir.1, no_dir.2)
]

pub seen_looked : (f : Findings) (p : Names) (found : Option Seen) → get path_cmp f.found p ≡ Some found → IsSeen f p
seen_looked f p found e = ap (λ (o : Option (Option Seen)). is_some o || list_any (λ (u : Names). is_no_dir (get path_cmp f.found u)) (ancestors p)) e

pub seen_below : (f : Findings) (p u : Names) (found : Option Seen) → IsAbove u p → get path_cmp f.found u ≡ Some found → is_dir found ≡ false → IsSeen f p
seen_below f p u found above e other =
    let no_dir : is_no_dir (get path_cmp f.found u) ≡ true = ap is_no_dir e ∙ ap (λ (b : Bool). not b) other in
    or_right (is_some (get path_cmp f.found p)) _ (any_from (λ (v : Names). is_no_dir (get path_cmp f.found v)) (ancestors p) u ((ancestors_above p u).1 above) no_dir)

found_here : (f : Findings) (p : Names) (found : Option Seen) → get path_cmp f.found p ≡ Some found → (sight_in f).at p ≡ found
found_here f p found e = ap (λ (o : Option (Option Seen)). unwrap_or o None) e

pub seen_stays : {f g : Findings} (p : Names) → HasGrown f g → IsSeen f p → IsSeen g p
seen_stays {f} {g} p grown is = elim (known f p is) [
  | inl k ↦ seen_looked g p k.0 (grown.found p k.0 k.1)
  | inr k ↦ seen_below g p k.0 k.1 k.2 (grown.found k.0 k.1 k.3) k.4
]

-- ---- what is closed upwards

-- below what is no directory nothing was found
pub nothing_found : (f : Findings) (p : Names) → IsClosed f → IsCutOff f p → (sight_in f).at p ≡ None
nothing_found f p closed cut = by_found (get path_cmp f.found p) refl
  where
    by_found : (o : Option (Option Seen)) → get path_cmp f.found p ≡ o → unwrap_or (get path_cmp f.found p) None ≡ None
    by_found None e = ap (λ (o : Option (Option Seen)). unwrap_or o None) e
    by_found (Some None) e = found_here f p None e
    by_found (Some (Some s)) e =
        let dir : is_dir ((sight_in f).at cut.0) ≡ true = closed.above p cut.0 (Some s) e refl cut.2 in
        absurd (false≢true (sym cut.4 ∙ sym (ap is_dir (found_here f cut.0 cut.1 cut.3)) ∙ dir))

-- what was found at a path, found again
pub same_found : {f g : Findings} (p : Names) → HasGrown f g → IsClosed f → IsClosed g → IsSeen f p → (sight_in g).at p ≡ (sight_in f).at p
same_found {f} {g} p grown closed more is = elim (known f p is) [
  | inl k ↦ found_here g p k.0 (grown.found p k.0 k.1) ∙ sym (found_here f p k.0 k.1)
  | inr k ↦ nothing_found g p more (k.0, k.1, k.2, grown.found k.0 k.1 k.3, k.4) ∙ sym (nothing_found f p closed k)
]

-- a directory that was found stays
pub dir_stays : {f g : Findings} (p : Names) → HasGrown f g → is_dir ((sight_in f).at p) ≡ true → is_dir ((sight_in g).at p) ≡ true
dir_stays {f} {g} p grown is = by_found (get path_cmp f.found p) refl
  where
    by_found : (o : Option (Option Seen)) → get path_cmp f.found p ≡ o → is_dir ((sight_in g).at p) ≡ true
    by_found None e = absurd (false≢true (sym (ap (λ (o : Option (Option Seen)). is_dir (unwrap_or o None)) e) ∙ is))
    by_found (Some found) e = ap is_dir (found_here g p found (grown.found p found e) ∙ sym (found_here f p found e)) ∙ is

pub closed_more : {f g : Findings} (p : Names) (o : Option Seen) → IsClosed f → HasGrown f g → HasOneMore p o f g
    → ((u : Names) → IsAbove u p → is_dir ((sight_in f).at u) ≡ true)
    → (p ≡ [] → is_dir o ≡ true) → HasLawfulMode o → IsClosed g
closed_more {f} {g} p o closed grown more above root lawful = record {
  can = record {
    root = λ x e. elim (more.found [] x e) [
      | inl new ↦ ap is_dir new.1 ∙ root (sym new.0)
      | inr old ↦ closed.can.root x old
    ];
    modes = λ q x e. elim (more.found q x e) [
      | inl new ↦ subst HasLawfulMode (sym new.1) lawful
      | inr old ↦ closed.can.modes q x old
    ];
  };
  above = λ q u x e long over. elim (more.found q x e) [
    | inl new ↦ dir_stays u grown (above u (subst (IsAbove u) new.0 over))
    | inr old ↦ dir_stays u grown (closed.above q u x old long over)
  ];
}

-- ---- what findings say of a sight

pub told_found : {f : Findings} {s : Sight} (p : Names) → HasFindings f s → IsSeen f p → s.at p ≡ (sight_in f).at p
told_found {f} {s} p told is = by_found (get path_cmp f.found p) refl
  where
    by_found : (o : Option (Option Seen)) → get path_cmp f.found p ≡ o → s.at p ≡ (sight_in f).at p
    by_found (Some found) e = told.at p found e ∙ sym (found_here f p found e)
    by_found None e = elim (known f p is) [
      | inl k ↦ absurd (none-some k.0 (sym e ∙ k.1))
      | inr k ↦ told.below p k.0 k.1 k.2 k.3 k.4 ∙ sym (ap (λ (o : Option (Option Seen)). unwrap_or o None) e)
    ]

-- below what is no directory nothing is seen
abbrev pub IsSeenAsTree : Sight → Type 0
IsSeenAsTree s = (u p : Names) → IsAbove u p → is_dir (s.at u) ≡ false → s.at p ≡ None

pub told_more : {f g : Findings} {s : Sight} (p : Names) (o : Option Seen) → IsSeenAsTree s → HasFindings f s → HasOneMore p o f g → s.at p ≡ o → HasFindings g s
told_more {f} {g} {s} p o tree told more is = record {
  at = λ q x e. here q x e;
  below = λ q u x above e other. tree u q above (ap is_dir (here u x e) ∙ other);
  empty = λ q b e. told.empty q b (more.empty q b e);
}
  where
    here : (q : Names) (x : Option Seen) → get path_cmp g.found q ≡ Some x → s.at q ≡ x
    here q x e = elim (more.found q x e) [
      | inl new ↦ ap s.at new.0 ∙ is ∙ sym new.1
      | inr old ↦ told.at q x old
    ]

-- ---- the sight of a tree

dir_stands : (o : Option Node) → IsTrue (is_dir_node o) → IsTrue (is_some o)
dir_stands None is = absurd (false≢true is)
dir_stands (Some node) is = refl

-- above what stands are directories
dir_over : (t : FileTree) → IsTree t → (rest u : Names) (name : List ℕ) → Stands t (u ++ name ∷ rest) → IsDir t u
dir_over t tree [] u name stands = tree.parents u name stands
dir_over t tree (m ∷ rest) u name stands =
    let under : IsDir t (u ++ name ∷ []) = dir_over t tree rest (u ++ name ∷ []) m (subst (Stands t) (sym (append_assoc u (name ∷ []) (m ∷ rest))) stands) in
    tree.parents u name (dir_stands (get_in t (u ++ name ∷ [])) under)

none_if : (o : Option Seen) → (IsTrue (is_some o) → ⊥) → o ≡ None
none_if None never = refl
none_if (Some x) never = absurd (never refl)

pub tree_is_seen : (t : FileTree) → IsTree t → IsSeenAsTree (sight_of t)
tree_is_seen t tree u p above other = none_if ((sight_of t).at p) (λ seen.
    let stands : Stands t p = (stands_decides t p).0 seen in
    let dir : IsDir t u = dir_over t tree above.1 u above.0 (subst (Stands t) above.2 stands) in
    false≢true (sym other ∙ (dir_decides t u).1 dir))
