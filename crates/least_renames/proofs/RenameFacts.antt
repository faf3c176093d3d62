-- What every list of renames does that can be carried out in turn.
use Rattle.std.proofs.Common.{◌≡◌, ◌≢◌, ◌⊎◌, inl, inr, ℕ, ◌+◌, ◌<◌, ◌≤◌, Bool, true, false, List, [], ◌∷◌, ◌++◌, map, length, refl, sym, ◌∙◌, ap, subst, arith, Option, Some, None, is_some, IsTrue, if◌then◌else◌, Contains}
use Rattle.std.specs.FinMap.{get}
use Rattle.std.proofs.lemmas.Bool.{cond-true, cond-false, cases_Bool, cases_lt, false_from_ne_true}
use Rattle.std.proofs.lemmas.List.{append-nil, same_from_push}
use Rattle.dired_text.specs.Paths.{Names, rest_below}
use Rattle.dired_text.proofs.PathLemmas.{rest_below-same}
use Rattle.tree_core.specs.declared.node.Node.{Node}
use Rattle.tree_core.specs.FileTree.{FileTree, IsTree, Stands, CanRename, renamed, moved}
use Rattle.tree_core.proofs.TreeLemmas.{renamed_tree, dir_stands}
use Rattle.edit_words.specs.Rows.{is_same_path}
use Rattle.edit_words.specs.Refusals.{total}
use Rattle.edit_words.proofs.SameLemmas.{same_path, same_itself}
use Rattle.edit_words.proofs.FindLemmas.{contains_head, contains_tail, contains_map_from}
use Rattle.plan_moves.specs.Least.{Renames, CanRenameAll, carried}
use Rattle.least_renames.specs.Cycles.{HasNoRepeats}
use Rattle.least_renames.proofs.MovedLemmas.{moved-by, stands_moved, moved_apart, rest-push}

-- ---- two different paths stand at different places

pub carried_apart : (t : FileTree) (rs : Renames) → IsTree t → CanRenameAll t rs → (x y : Names) → Stands t x → Stands t y → carried rs x ≡ carried rs y → x ≡ y
carried_apart t [] tree can x y sx sy same = same
carried_apart t (r ∷ rs) tree can x y sx sy same =
    moved_apart t r.0 r.1 tree can.0 x y sx sy
    (carried_apart (renamed t r.0 r.1) rs (renamed_tree t r.0 r.1 tree can.0) can.1 (moved r.0 r.1 x) (moved r.0 r.1 y)
    (stands_moved t r.0 r.1 tree can.0 x sx) (stands_moved t r.0 r.1 tree can.0 y sy) same)

-- ---- one rename renames at most one path itself

-- how often the path at p is itself renamed
abbrev pub one_if : Bool → ℕ
one_if true = 1
one_if false = 0

abbrev pub own : Renames → Names → ℕ
own [] p = 0
own (r ∷ rs) p = one_if (is_same_path r.0 p) + own rs (moved r.0 r.1 p)

none_other : (f : Names) (ps : List Names) → ((q : Names) → Contains ps q → f ≢ q) → total (λ (q : Names). one_if (is_same_path f q)) ps ≡ 0
none_other f [] apart = refl
none_other f (p ∷ ps) apart =
    let none = none_other f ps (λ q c. apart q (contains_tail p q ps c)) in
    let no = ap one_if (false_from_ne_true (is_same_path f p) (λ same. apart p (contains_head p ps) (same_path f p same))) in
    omega arith

at_most_one : (f : Names) (ps : List Names) → HasNoRepeats ps → total (λ (q : Names). one_if (is_same_path f q)) ps ≤ 1
at_most_one f [] once = omega arith
at_most_one f (p ∷ ps) once = go (at_most_one f ps once.1) (cases_Bool (is_same_path f p))
  where
    go : total (λ (q : Names). one_if (is_same_path f q)) ps ≤ 1 → (is_same_path f p ≡ true) ⊎ (is_same_path f p ≡ false) → one_if (is_same_path f p) + total (λ (q : Names). one_if (is_same_path f q)) ps ≤ 1
    go more (inl same) =
        let is : f ≡ p = same_path f p same in
        let none = none_other f ps (λ q c e. once.0 (subst (Contains ps) (sym e ∙ is) c)) in
        let one = ap one_if same in omega arith
    go more (inr other) = let none = ap one_if other in omega arith

sum_split : (r : Names × Names) (rs : Renames) (ps : List Names) → total (own (r ∷ rs)) ps ≡ total (λ (q : Names). one_if (is_same_path r.0 q)) ps + total (own rs) (map (moved r.0 r.1) ps)
sum_split r rs [] = refl
sum_split r rs (p ∷ ps) = let more = sum_split r rs ps in omega arith

abbrev pub AllStand : FileTree → List Names → Type 0
AllStand t ps = (q : Names) → Contains ps q → Stands t q

moved_different : (t : FileTree) (from dest : Names) → IsTree t → CanRename t from dest → (ps : List Names) → AllStand t ps → HasNoRepeats ps → HasNoRepeats (map (moved from dest) ps)
moved_different t from dest tree can [] stand once = tt
moved_different t from dest tree can (p ∷ ps) stand once = (
  λ c. let m = contains_map_from (moved from dest) (moved from dest p) ps c in
      once.0 (subst (Contains ps) (moved_apart t from dest tree can m.0 p (stand m.0 (contains_tail p m.0 ps m.1)) (stand p (contains_head p ps)) m.2) m.1),
  moved_different t from dest tree can ps (λ q c. stand q (contains_tail p q ps c)) once.1,
)

zeros : (ps : List Names) → total (own []) ps ≡ 0
zeros [] = refl
zeros (p ∷ ps) = let more = zeros ps in omega arith

pub own_sum : (t : FileTree) (rs : Renames) → IsTree t → CanRenameAll t rs → (ps : List Names) → AllStand t ps → HasNoRepeats ps → total (own rs) ps ≤ length rs
own_sum t [] tree can ps stand once = let e = zeros ps in omega arith
own_sum t (r ∷ rs) tree can ps stand once =
    let split = sum_split r rs ps in
    let one = at_most_one r.0 ps once in
    let more = own_sum (renamed t r.0 r.1) rs (renamed_tree t r.0 r.1 tree can.0) can.1 (map (moved r.0 r.1) ps)
    (λ q c. let m = contains_map_from (moved r.0 r.1) q ps c in subst (Stands (renamed t r.0 r.1)) m.2 (stands_moved t r.0 r.1 tree can.0 m.0 (stand m.0 m.1)))
    (moved_different t r.0 r.1 tree can.0 ps stand once) in
    omega arith

-- ---- only a rename of the path itself changes its last name or the directory that holds it

pub carried-held : (rs : Renames) (d : Names) (n : List ℕ) → own rs (d ++ n ∷ []) ≡ 0 → carried rs (d ++ n ∷ []) ≡ carried rs d ++ n ∷ []
carried-held [] d n none = refl
carried-held (r ∷ rs) d n none = go (carried-held rs (moved r.0 r.1 d) n) (cases_Bool (is_same_path r.0 (d ++ n ∷ [])))
  where
    go : (own rs (moved r.0 r.1 d ++ n ∷ []) ≡ 0 → carried rs (moved r.0 r.1 d ++ n ∷ []) ≡ carried rs (moved r.0 r.1 d) ++ n ∷ [])
        → (is_same_path r.0 (d ++ n ∷ []) ≡ true) ⊎ (is_same_path r.0 (d ++ n ∷ []) ≡ false) → carried rs (moved r.0 r.1 (d ++ n ∷ [])) ≡ carried rs (moved r.0 r.1 d) ++ n ∷ []
    go more (inl same) = absurd (let one = ap one_if same in omega arith)
    go more (inr other) =
        let not_it : d ++ n ∷ [] ≢ r.0 = λ is. let both : true ≡ false = sym (ap (is_same_path r.0) is ∙ same_itself r.0) ∙ other in cc in
        let along : moved r.0 r.1 (d ++ n ∷ []) ≡ moved r.0 r.1 d ++ n ∷ [] = rest-push r.0 d n not_it (rest_below r.0 d) refl r.1 in
        let zero_one = ap one_if other in
        let left : own rs (moved r.0 r.1 (d ++ n ∷ [])) ≡ 0 = omega arith in
        ap (carried rs) along ∙ more (sym (ap (own rs) along) ∙ left)

-- who gets another name is renamed at least once
pub at_least_once : (rs : Renames) (d : Names) (n m : List ℕ) → n ≢ m → carried rs (d ++ n ∷ []) ≡ carried rs d ++ m ∷ [] → 0 < own rs (d ++ n ∷ [])
at_least_once rs d n m differ goes = elim (cases_lt 0 (own rs (d ++ n ∷ []))) [
  | inl some ↦ some
  | inr none ↦ absurd (differ (same_from_push (carried rs d) (carried rs d) n m (sym (carried-held rs d n (omega arith)) ∙ goes)).1)
]

-- ---- who goes before the one whose place it takes is renamed at least twice

-- p is itself renamed, and before q is
abbrev pub Before : Renames → Names → Names → Type 0
Before [] p q = ⊥
Before (r ∷ rs) p q = (r.0 ≡ p) ⊎ ((r.0 ≢ p) × (r.0 ≢ q) × Before rs (moved r.0 r.1 p) (moved r.0 r.1 q))

front_of : (w : Names) → w ≢ [] → (d : Names) × (m : List ℕ) × (w ≡ d ++ m ∷ [])
front_of [] no_root = absurd (no_root refl)
front_of (x ∷ []) no_root = ([], x, refl)
front_of (x ∷ y ∷ w) no_root = let more = front_of (y ∷ w) (λ e. cc) in (x ∷ more.0, more.1, ap (λ (l : Names). x ∷ l) more.2)

pub twice : (t : FileTree) (rs : Renames) → IsTree t → CanRenameAll t rs → (d : Names) (n m : List ℕ) → n ≢ m → Stands t d → Stands t (d ++ n ∷ []) → Stands t (d ++ m ∷ [])
    → Before rs (d ++ n ∷ []) (d ++ m ∷ []) → carried rs (d ++ n ∷ []) ≡ carried rs d ++ m ∷ [] → own rs (d ++ n ∷ []) ≡ 1 → ⊥
twice t [] tree can d n m differ sd sp sq before at once = before
twice t (r ∷ rs) tree can d n m differ sd sp sq (inl now) at once =
    let one = ap one_if (ap (is_same_path r.0) (sym now) ∙ same_itself r.0) in
    let to : moved r.0 r.1 (d ++ n ∷ []) ≡ r.1 = ap (moved r.0 r.1) (sym now) ∙ moved-by r.0 r.1 r.0 (Some []) (rest_below-same r.0) ∙ append-nil r.1 in
    let left : own rs r.1 ≡ 0 = sym (ap (own rs) to) ∙ (let here = one in omega arith) in
    let f = front_of r.1 (λ root. root_absent (subst (λ (l : Names). get t l ≡ None) root can.0.absent)) in
    let held : carried rs r.1 ≡ carried rs f.0 ++ f.1 ∷ [] = ap (carried rs) f.2 ∙ carried-held rs f.0 f.1 (sym (ap (own rs) f.2) ∙ left) in
    let parts = same_from_push (carried rs f.0) (carried rs (moved r.0 r.1 d)) f.1 m (sym held ∙ ap (carried rs) (sym to) ∙ at) in
    let tree' = renamed_tree t r.0 r.1 tree can.0 in
    let stands_to : Stands (renamed t r.0 r.1) r.1 = subst (Stands (renamed t r.0 r.1)) to (stands_moved t r.0 r.1 tree can.0 (d ++ n ∷ []) sp) in
    let stands_f : Stands (renamed t r.0 r.1) f.0 = dir_stands _ (tree'.parents f.0 f.1 (subst (Stands (renamed t r.0 r.1)) f.2 stands_to)) in
    let same_dir : f.0 ≡ moved r.0 r.1 d = carried_apart (renamed t r.0 r.1) rs tree' can.1 f.0 (moved r.0 r.1 d) stands_f (stands_moved t r.0 r.1 tree can.0 d sd) parts.0 in
    let q_along : moved r.0 r.1 (d ++ m ∷ []) ≡ moved r.0 r.1 d ++ m ∷ [] = rest-push r.0 d m (λ is. differ (sym (same_from_push d d m n (is ∙ now)).1)) (rest_below r.0 d) refl r.1 in
    let meet : moved r.0 r.1 (d ++ n ∷ []) ≡ moved r.0 r.1 (d ++ m ∷ []) = to ∙ f.2 ∙ ap (λ (l : Names). l ++ f.1 ∷ []) same_dir ∙ ap (λ (x : List ℕ). moved r.0 r.1 d ++ x ∷ []) parts.1 ∙ sym q_along in
    let same = moved_apart t r.0 r.1 tree can.0 (d ++ n ∷ []) (d ++ m ∷ []) sp sq meet in
    differ (same_from_push d d n m same).1
  where
    root_absent : get t [] ≡ None → ⊥
    root_absent none = let s : IsTrue (is_some {T = Node} None) = subst (λ (o : Option Node). IsTrue (is_some o)) none (dir_stands _ tree.root) in cc
twice t (r ∷ rs) tree can d n m differ sd sp sq (inr (not_p, not_q, later)) at once =
    let p_along : moved r.0 r.1 (d ++ n ∷ []) ≡ moved r.0 r.1 d ++ n ∷ [] = rest-push r.0 d n (λ is. not_p (sym is)) (rest_below r.0 d) refl r.1 in
    let q_along : moved r.0 r.1 (d ++ m ∷ []) ≡ moved r.0 r.1 d ++ m ∷ [] = rest-push r.0 d m (λ is. not_q (sym is)) (rest_below r.0 d) refl r.1 in
    let not_it = ap one_if (false_from_ne_true (is_same_path r.0 (d ++ n ∷ [])) (λ same. not_p (same_path r.0 (d ++ n ∷ []) same))) in
    let left : own rs (moved r.0 r.1 (d ++ n ∷ [])) ≡ 1 = omega arith in
    let go = stands_moved t r.0 r.1 tree can.0 in
    twice (renamed t r.0 r.1) rs (renamed_tree t r.0 r.1 tree can.0) can.1 (moved r.0 r.1 d) n m differ (go d sd)
    (subst (Stands (renamed t r.0 r.1)) p_along (go (d ++ n ∷ []) sp)) (subst (Stands (renamed t r.0 r.1)) q_along (go (d ++ m ∷ []) sq))
    (subst (λ (l : Names). Before rs l (moved r.0 r.1 d ++ m ∷ [])) p_along (subst (λ (l : Names). Before rs (moved r.0 r.1 (d ++ n ∷ [])) l) q_along later))
    (sym (ap (carried rs) p_along) ∙ at) (sym (ap (own rs) p_along) ∙ left)

-- the number of the first rename of the path at p
abbrev pub first : Renames → Names → ℕ
first [] p = 0
first (r ∷ rs) p = if is_same_path r.0 p then 0 else 1 + first rs (moved r.0 r.1 p)

-- of two paths that are each renamed one is first
pub before_or_after : (t : FileTree) (rs : Renames) → IsTree t → CanRenameAll t rs → (p q : Names) → Stands t p → Stands t q → p ≢ q → 0 < own rs p → 0 < own rs q → Before rs p q ⊎ (first rs q < first rs p)
before_or_after t [] tree can p q sp sq apart own_p own_q = absurd (omega arith)
before_or_after t (r ∷ rs) tree can p q sp sq apart own_p own_q = by_p (cases_Bool (is_same_path r.0 p)) (cases_Bool (is_same_path r.0 q))
    (before_or_after (renamed t r.0 r.1) rs (renamed_tree t r.0 r.1 tree can.0) can.1 (moved r.0 r.1 p) (moved r.0 r.1 q)
    (stands_moved t r.0 r.1 tree can.0 p sp) (stands_moved t r.0 r.1 tree can.0 q sq) (λ same. apart (moved_apart t r.0 r.1 tree can.0 p q sp sq same)))
  where
    by_p : (is_same_path r.0 p ≡ true) ⊎ (is_same_path r.0 p ≡ false) → (is_same_path r.0 q ≡ true) ⊎ (is_same_path r.0 q ≡ false)
        → (0 < own rs (moved r.0 r.1 p) → 0 < own rs (moved r.0 r.1 q) → Before rs (moved r.0 r.1 p) (moved r.0 r.1 q) ⊎ (first rs (moved r.0 r.1 q) < first rs (moved r.0 r.1 p)))
        → Before (r ∷ rs) p q ⊎ (first (r ∷ rs) q < first (r ∷ rs) p)
    by_p (inl is_p) which later = inl (inl (same_path r.0 p is_p))
    by_p (inr not_p) (inl is_q) later =
        inr (let q_first = cond-true (is_same_path r.0 q) 0 (1 + first rs (moved r.0 r.1 q)) is_q in
        let p_later = cond-false (is_same_path r.0 p) 0 (1 + first rs (moved r.0 r.1 p)) not_p in omega arith)
    by_p (inr not_p) (inr not_q) later =
        let zero_p = ap one_if not_p in
        let zero_q = ap one_if not_q in
        let q_later = cond-false (is_same_path r.0 q) 0 (1 + first rs (moved r.0 r.1 q)) not_q in
        let p_later = cond-false (is_same_path r.0 p) 0 (1 + first rs (moved r.0 r.1 p)) not_p in
        elim (later (omega arith) (omega arith)) [
          | inl before ↦ inl (inr (
            (λ is. let both : true ≡ false = sym (ap (λ (l : Names). is_same_path l p) is ∙ same_itself p) ∙ not_p in cc),
            (λ is. let both : true ≡ false = sym (ap (λ (l : Names). is_same_path l q) is ∙ same_itself q) ∙ not_q in cc),
            before,
          ))
          | inr less ↦ inr (omega arith)
        ]
