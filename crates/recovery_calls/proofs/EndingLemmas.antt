-- What stands at the end of a recovery, and is removed.
use Rattle.std.proofs.Common.{◌≡◌, ◌≢◌, ◌⊎◌, ◌↔◌, inl, inr, ⊎_elim, ℕ, Bool, true, false, not, ◌&&◌, ◌||◌, List, [], ◌∷◌, ◌++◌, refl, sym, ◌∙◌, ap, subst, append_assoc, Option, Some, None, is_some, if◌then◌else◌, IsTrue}
use Rattle.std.specs.FinMap.{get, remove}
use Rattle.std.specs.List.{AllByRecursion, list_any}
use Rattle.commit_calls.specs.Parts.{close_up_calls}
use Rattle.commit_states.specs.declared.held.Held.{Held as HeldItem}
use Rattle.commit_states.specs.Calls.{Items, held_items, last_of, removal_by, removals_by, removals_of, revoke_calls, seal_calls}
use Rattle.commit_steps.specs.Staging.{back_marker, held, sealed, staged, staging, undone}
use Rattle.dired_text.specs.Paths.{Names}
use Rattle.recovery_calls.specs.declared.ending.Ending.{Ending}
use Rattle.recovery_calls.specs.declared.ending.Ending.TheVariants.{Sealed, Undone}
use Rattle.recovery_calls.specs.Endings.{MayEnd, bars, ended, goes, gone_in, gone_one, last_marker}
use Rattle.recovery_calls.specs.Underway.{AreOnce, IsNamed, IsUnderway}
use Rattle.recovery_calls.proofs.KeepLemmas.{own_spelled}
use Rattle.recovery_courses.specs.Course.{strange_at, these}
use Rattle.recovery_courses.specs.Ends.{bars_revoke, bars_seal, fresh_in, fresh_one, held_in, held_one, is_dir_in, name_of, revoking, sealing, spelled, stands_in}
use Rattle.staging_names.specs.declared.entry_name.EntryName.{EntryName}
use Rattle.staging_names.specs.declared.entry_name.Role.{Role}
use Rattle.staging_names.specs.declared.entry_name.Role.TheVariants.{Fresh, Held, Temporary}
use Rattle.step_looks.specs.Looks.{is_none_of}
use Rattle.step_trees.proofs.CommuteLemmas.{out_below}
use Rattle.step_trees.proofs.NameLemmas.{IsOwn, apart_staged}
use Rattle.step_trees.proofs.RemovalLemmas.{removed-absent, removed-itself, removed-other}
use Rattle.step_trees.proofs.Without.{IsClear, renamed-out}
use Rattle.tree_core.specs.declared.node.Change.{Change}
use Rattle.tree_core.specs.declared.node.Change.TheVariants as call
use Rattle.tree_core.specs.declared.node.Node.{Node}
use Rattle.tree_core.specs.declared.node.Node.TheVariants.{Dir, Link, File}
use Rattle.tree_core.specs.Fields.{names_in}
use Rattle.tree_core.specs.FileTree.{FileTree, IsAbsent, IsDir, IsEmptyAt, Stands, is_dir_node, is_file_node, renamed}
use Rattle.tree_core.specs.History.{History, Then, current_tree}
use Rattle.tree_core.specs.Runs.{CanAll, then_all}
use Rattle.tree_core.proofs.NameLemmas.{names_end}
use Rattle.tree_core.proofs.Runs.{then_all-append}
use Rattle.tree_core.proofs.TreeLemmas.{absent_not, none_of}

-- ---- the ends of the courses, in one form

held-append : (xs ys : List HeldItem) → held_items (xs ++ ys) ≡ held_items xs ++ held_items ys
held-append [] ys = refl
held-append (x ∷ xs) ys = ap (λ (l : Items). (held x.number, x.is_dir) ∷ l) (held-append xs ys)

held_first : (t : FileTree) (e : EntryName) → held_items (held_one t e e.role) ≡ gone_one Sealed t e
held_first t e = by_role e.role refl
  where
    by_stands : (b : Bool) → e.role ≡ Held → held_items (if b then record { number = e.number; is_dir = is_dir_in t e } ∷ [] else []) ≡ (if b then (name_of e, is_dir_in t e) ∷ [] else [])
    by_stands true is = ap (λ (r : Role). (spelled r e.number, is_dir_in t e) ∷ []) (sym is)
    by_stands false is = refl

    by_role : (r : Role) → e.role ≡ r → held_items (held_one t e r) ≡ (if goes Sealed r && stands_in t e then (name_of e, is_dir_in t e) ∷ [] else [])
    by_role Fresh is = refl
    by_role Held is = by_stands (stands_in t e) is
    by_role Temporary is = refl

held_is : (t : FileTree) (es : List EntryName) → held_items (held_in t es) ≡ gone_in Sealed t es
held_is t [] = refl
held_is t (e ∷ es) =
    held-append (held_one t e e.role) (held_in t es)
    ∙ ap (λ (l : Items). l ++ held_items (held_in t es)) (held_first t e)
    ∙ ap (λ (l : Items). gone_one Sealed t e ++ l) (held_is t es)

fresh_first : (t : FileTree) (e : EntryName) → MayEnd Undone t e → fresh_one t e e.role ≡ gone_one Undone t e
fresh_first t e may = by_role e.role may
  where
    by_role : (r : Role) → bars_revoke t e r ≡ false → fresh_one t e r ≡ (if goes Undone r && stands_in t e then (name_of e, is_dir_in t e) ∷ [] else [])
    by_role Fresh none_is = ap (λ b. if stands_in t e then (name_of e, b) ∷ [] else []) (sym none_is)
    by_role Held none_is = refl
    by_role Temporary none_is = refl

fresh_is : (t : FileTree) (es : List EntryName) → AllByRecursion (MayEnd Undone t) es → fresh_in t es ≡ gone_in Undone t es
fresh_is t [] may = refl
fresh_is t (e ∷ es) may = ap (λ (l : Items). l ++ fresh_in t es) (fresh_first t e may.0) ∙ ap (λ (l : Items). gone_one Undone t e ++ l) (fresh_is t es may.1)

or_false : (a b : Bool) → (a || b) ≡ false → (a ≡ false) × (b ≡ false)
or_false true b e = cc
or_false false b e = (refl, e)

pub none_bars : (f : EntryName → Bool) (es : List EntryName) → list_any f es ≡ false → AllByRecursion (λ e. f e ≡ false) es
none_bars f [] none_is = tt
none_bars f (e ∷ es) none_is = let both = or_false (f e) (list_any f es) none_is in (both.0, none_bars f es both.1)

pub sealing_is : (n : ℕ) (es : List EntryName) (h : History) → sealing n es h ≡ ended Sealed n es h
sealing_is n es h =
    ap (λ (xs : Items). if list_any (bars Sealed (current_tree h)) es then strange_at n
    else these (seal_calls ++ ((removals_of xs (last_marker Sealed n) ++ call.Sync ∷ []) ++ (last_of sealed ++ call.Sync ∷ []))))
    (held_is (current_tree h) es)

pub revoking_is : (n : ℕ) (es : List EntryName) (h : History) → revoking es h ≡ ended Undone n es h
revoking_is n es h = by_bars (list_any (bars Undone (current_tree h)) es) refl
  where
    by_bars : (b : Bool) → list_any (bars Undone (current_tree h)) es ≡ b
        → (if b then strange_at 0 else these (revoke_calls ++ ((removals_of (fresh_in (current_tree h) es) (back_marker 0) ++ call.Sync ∷ []) ++ (last_of undone ++ call.Sync ∷ []))))
        ≡ (if b then strange_at 0 else these (revoke_calls ++ ((removals_of (gone_in Undone (current_tree h) es) (back_marker 0) ++ call.Sync ∷ []) ++ (last_of undone ++ call.Sync ∷ []))))
    by_bars true is = refl
    by_bars false is =
        ap (λ (xs : Items). these (revoke_calls ++ ((removals_of xs (back_marker 0) ++ call.Sync ∷ []) ++ (last_of undone ++ call.Sync ∷ []))))
        (fresh_is (current_tree h) es (none_bars (bars Undone (current_tree h)) es is))

-- ---- trees that are alike at an entry and below it

abbrev pub Alike : FileTree → FileTree → EntryName → Type 0
Alike t u e = (r : Names) → get u (staged (name_of e) ++ r) ≡ get t (staged (name_of e) ++ r)

gone_one_alike : (end : Ending) (t u : FileTree) (e : EntryName) → Alike t u e → gone_one end u e ≡ gone_one end t e
gone_one_alike end t u e alike = ap (λ (o : Option Node). if goes end e.role && is_some o then (name_of e, is_dir_node o) ∷ [] else []) (alike [])

pub gone_alike : (end : Ending) (t u : FileTree) (es : List EntryName) → AllByRecursion (Alike t u) es → gone_in end u es ≡ gone_in end t es
gone_alike end t u [] alike = refl
gone_alike end t u (e ∷ es) alike =
    ap (λ (l : Items). l ++ gone_in end u es) (gone_one_alike end t u e alike.0)
    ∙ ap (λ (l : Items). gone_one end t e ++ l) (gone_alike end t u es alike.1)

empty_is : (l : List (List ℕ)) → is_none_of l ≡ true → l ≡ []
empty_is [] is = refl
empty_is (x ∷ l) is = cc

-- a directory in which nothing stands
empty_there : (t : FileTree) (p : Names) → (is_dir_node (get t p) && not (is_none_of (names_in t p))) ≡ false → IsDir t p → IsEmptyAt t p
empty_there t p none_is dir = (names_end t p).0 (empty_is (names_in t p) (by_tests (is_dir_node (get t p)) (is_none_of (names_in t p)) none_is dir))
  where
    by_tests : (a b : Bool) → (a && not b) ≡ false → a ≡ true → b ≡ true
    by_tests true true none_is is = refl
    by_tests true false none_is is = cc
    by_tests false b none_is is = cc

pub empty_told : (t : FileTree) (p : Names) (b : Bool) → (IsTrue b ↔ IsEmptyAt t p) → b ≡ is_none_of (names_in t p)
empty_told t p true told = sym (ap (λ (l : List (List ℕ)). is_none_of l) ((names_end t p).1 (told.0 refl)))
empty_told t p false told = by_names (is_none_of (names_in t p)) refl
  where
    by_names : (x : Bool) → is_none_of (names_in t p) ≡ x → false ≡ x
    by_names false is = refl
    by_names true is = told.1 ((names_end t p).0 (empty_is (names_in t p) is))

bars_empty : (t : FileTree) (p : Names) → (IsDir t p → IsEmptyAt t p) → (is_dir_node (get t p) && not (is_none_of (names_in t p))) ≡ false
bars_empty t p empty = by_dir (is_dir_node (get t p)) refl
  where
    by_dir : (b : Bool) → is_dir_node (get t p) ≡ b → (b && not (is_none_of (names_in t p))) ≡ false
    by_dir false is = refl
    by_dir true is = ap (λ (l : List (List ℕ)). not (is_none_of l)) ((names_end t p).1 (empty is))

pub may_one : (end : Ending) (t u : FileTree) (e : EntryName) → Alike t u e → MayEnd end t e → MayEnd end u e
may_one end t u e alike may = by_end end may
  where
    same : get u (staged (name_of e)) ≡ get t (staged (name_of e))
    same = alike []

    stands : stands_in u e ≡ stands_in t e
    stands = ap is_some same

    dir : is_dir_in u e ≡ is_dir_in t e
    dir = ap is_dir_node same

    by_seal : (r : Role) → bars_seal t e r ≡ false → bars_seal u e r ≡ false
    by_seal Fresh none_is = stands ∙ none_is
    by_seal Temporary none_is = stands ∙ none_is
    by_seal Held none_is = bars_empty u (staged (name_of e)) (λ is name. alike (name ∷ []) ∙ empty_there t (staged (name_of e)) none_is (sym dir ∙ is) name)

    by_revoke : (r : Role) → bars_revoke t e r ≡ false → bars_revoke u e r ≡ false
    by_revoke Fresh none_is = dir ∙ none_is
    by_revoke Held none_is = stands ∙ none_is
    by_revoke Temporary none_is = stands ∙ none_is

    by_end : (x : Ending) → bars x t e ≡ false → bars x u e ≡ false
    by_end Sealed none_is = by_seal e.role none_is
    by_end Undone none_is = by_revoke e.role none_is

pub may_alike : (end : Ending) (t u : FileTree) (es : List EntryName) → AllByRecursion (Alike t u) es → AllByRecursion (MayEnd end t) es → AllByRecursion (MayEnd end u) es
may_alike end t u [] alike may = tt
may_alike end t u (e ∷ es) alike may = (may_one end t u e alike.0 may.0, may_alike end t u es alike.1 may.1)

-- ---- of one entry

-- what is removed may be
pub may_remove : (end : Ending) (t : FileTree) (e : EntryName) → MayEnd end t e → goes end e.role ≡ true → IsDir t (staged (name_of e)) → IsEmptyAt t (staged (name_of e))
may_remove end t e may is dir = by_end end may is
  where
    by_seal : (r : Role) → bars_seal t e r ≡ false → goes Sealed r ≡ true → IsEmptyAt t (staged (name_of e))
    by_seal Fresh none_is goes_is = cc
    by_seal Temporary none_is goes_is = cc
    by_seal Held none_is goes_is = empty_there t (staged (name_of e)) none_is dir

    by_revoke : (r : Role) → bars_revoke t e r ≡ false → goes Undone r ≡ true → IsEmptyAt t (staged (name_of e))
    by_revoke Fresh none_is goes_is = cc
    by_revoke Held none_is goes_is = cc
    by_revoke Temporary none_is goes_is = cc

    by_end : (x : Ending) → bars x t e ≡ false → goes x e.role ≡ true → IsEmptyAt t (staged (name_of e))
    by_end Sealed none_is goes_is = by_seal e.role none_is goes_is
    by_end Undone none_is goes_is = by_revoke e.role none_is goes_is

-- what isn't removed doesn't stand
idle_absent : (end : Ending) (t : FileTree) (e : EntryName) → MayEnd end t e → goes end e.role ≡ false → stands_in t e ≡ false
idle_absent end t e may is = by_end end may is
  where
    by_seal : (r : Role) → bars_seal t e r ≡ false → goes Sealed r ≡ false → stands_in t e ≡ false
    by_seal Fresh none_is goes_is = none_is
    by_seal Temporary none_is goes_is = none_is
    by_seal Held none_is goes_is = cc

    by_revoke : (r : Role) → bars_revoke t e r ≡ false → goes Undone r ≡ false → stands_in t e ≡ false
    by_revoke Fresh none_is goes_is = cc
    by_revoke Held none_is goes_is = none_is
    by_revoke Temporary none_is goes_is = none_is

    by_end : (x : Ending) → bars x t e ≡ false → goes x e.role ≡ false → stands_in t e ≡ false
    by_end Sealed none_is goes_is = by_seal e.role none_is goes_is
    by_end Undone none_is goes_is = by_revoke e.role none_is goes_is

removals-append : (xs ys : Items) → removals_by (xs ++ ys) ≡ removals_by xs ++ removals_by ys
removals-append [] ys = refl
removals-append (x ∷ xs) ys = ap (λ (l : List Change). removal_by x.1 (staged x.0) ∷ l) (removals-append xs ys)

pub gone_first : (end : Ending) (t : FileTree) (e : EntryName) (es : List EntryName) → removals_by (gone_in end t (e ∷ es)) ≡ removals_by (gone_one end t e) ++ removals_by (gone_in end t es)
gone_first end t e es = removals-append (gone_one end t e) (gone_in end t es)

pub removal_tree : (b : Bool) (p : Names) (h : History) → current_tree (Then h (removal_by b p)) ≡ remove (current_tree h) p
removal_tree true p h = refl
removal_tree false p h = refl

-- the tree without the entry, where that stood and is removed
abbrev behind_one : Ending → EntryName → FileTree → FileTree
behind_one end e t = if goes end e.role && stands_in t e then remove t (staged (name_of e)) else t

behind_is : (end : Ending) (e : EntryName) (h : History) → current_tree (then_all h (removals_by (gone_one end (current_tree h) e))) ≡ behind_one end e (current_tree h)
behind_is end e h = by_test (goes end e.role && stands_in (current_tree h) e)
  where
    by_test : (b : Bool) → current_tree (then_all h (removals_by (if b then (name_of e, is_dir_in (current_tree h) e) ∷ [] else []))) ≡ (if b then remove (current_tree h) (staged (name_of e)) else current_tree h)
    by_test true = removal_tree (is_dir_in (current_tree h) e) (staged (name_of e)) h
    by_test false = refl

removed_alike : (t : FileTree) (e x : EntryName) → name_of x ≢ name_of e → Alike t (remove t (staged (name_of e))) x
removed_alike t e x other r = removed-other t (staged (name_of e)) (staged (name_of x) ++ r) (λ is. other (let k : name_of x ≡ name_of e = cc in k))

others_alike : (end : Ending) (e : EntryName) (t : FileTree) (es : List EntryName) → (IsNamed (name_of e) es → ⊥) → AllByRecursion (Alike t (behind_one end e t)) es
others_alike end e t es once = by_test (goes end e.role && stands_in t e)
  where
    all_same : (xs : List EntryName) → AllByRecursion (Alike t t) xs
    all_same [] = tt
    all_same (x ∷ xs) = (λ r. refl, all_same xs)

    all_others : (xs : List EntryName) → (IsNamed (name_of e) xs → ⊥) → AllByRecursion (Alike t (remove t (staged (name_of e)))) xs
    all_others [] none = tt
    all_others (x ∷ xs) none = (removed_alike t e x (λ is. none (inl (sym is))), all_others xs (λ named. none (inr named)))

    by_test : (b : Bool) → AllByRecursion (Alike t (if b then remove t (staged (name_of e)) else t)) es
    by_test true = all_others es once
    by_test false = all_same es

-- the others are as before
pub others_same : (end : Ending) (e : EntryName) (es : List EntryName) (h : History) → AreOnce (e ∷ es)
    → AllByRecursion (Alike (current_tree h) (current_tree (then_all h (removals_by (gone_one end (current_tree h) e))))) es
others_same end e es h once = subst (λ (u : FileTree). AllByRecursion (Alike (current_tree h) u) es) (sym (behind_is end e h)) (others_alike end e (current_tree h) es once.0)

-- ---- of all

module _ (j m : List ℕ) (own_j : IsOwn j) (own_m : IsOwn m) (end : Ending) where
  underway_next : (e : EntryName) (es : List EntryName) (t : FileTree) → MayEnd end t e → IsUnderway j m (e ∷ es) t → IsUnderway j m es (behind_one end e t)
  underway_next e es t may u = by_tests (goes end e.role) (stands_in t e) refl refl
    where
      there : (name : List ℕ) → name ≢ name_of e → get (remove t (staged (name_of e))) (staged name) ≡ get t (staged name)
      there name other = removed-other t (staged (name_of e)) (staged name) (λ is. other (let k : name ≡ name_of e = cc in k))

      without_it : IsUnderway j m es (remove t (staged (name_of e)))
      without_it = record {
        directory = ap is_dir_node (removed-other t (staged (name_of e)) staging (λ is. cc)) ∙ u.directory;
        journal_there = ap is_file_node (there j (own_spelled j own_j e.role e.number)) ∙ u.journal_there;
        marker_there = ap is_file_node (there m (own_spelled m own_m e.role e.number)) ∙ u.marker_there;
        only = λ name stands.
            let other : name ≢ name_of e = λ is. absent_not (get (remove t (staged (name_of e))) (staged name)) (ap (λ (n : List ℕ). get (remove t (staged (name_of e))) (staged n)) is ∙ removed-itself t (staged (name_of e))) stands in
            ⊎_elim (λ is. inl is) (λ more. ⊎_elim (λ is. inr (inl is)) (λ named. ⊎_elim (λ is. absurd (other is)) (λ named_more. inr (inr named_more)) named) more)
            (u.only name (sym (ap is_some (there name other)) ∙ stands));
      }

      as_before : stands_in t e ≡ false → IsUnderway j m es t
      as_before none_is = record {
        directory = u.directory;
        journal_there = u.journal_there;
        marker_there = u.marker_there;
        only = λ name stands.
            ⊎_elim (λ is. inl is) (λ more. ⊎_elim (λ is. inr (inl is))
            (λ named. ⊎_elim (λ is. absurd (absent_is none_is (ap (λ (n : List ℕ). is_some (get t (staged n))) (sym is) ∙ stands))) (λ named_more. inr (inr named_more)) named) more)
            (u.only name stands);
      }
        where
          absent_is : {b : Bool} → b ≡ false → b ≡ true → ⊥
          absent_is none_is yes_is = cc

      by_tests : (a b : Bool) → goes end e.role ≡ a → stands_in t e ≡ b → IsUnderway j m es (if a && b then remove t (staged (name_of e)) else t)
      by_tests true true ea eb = without_it
      by_tests true false ea eb = as_before eb
      by_tests false b ea eb = as_before (idle_absent end t e may ea)

  pub underway_end : (es : List EntryName) (h : History) → AreOnce es → AllByRecursion (MayEnd end (current_tree h)) es → IsUnderway j m es (current_tree h)
      → IsUnderway j m [] (current_tree (then_all h (removals_by (gone_in end (current_tree h) es))))
  underway_end [] h once may u = u
  underway_end (e ∷ es) h once may u =
      let one = removals_by (gone_one end (current_tree h) e) in
      let mid = then_all h one in
      let alike = others_same end e es h once in
      let next = underway_end es (then_all h (removals_by (gone_one end (current_tree h) e))) once.1
      (may_alike end (current_tree h) (current_tree (then_all h (removals_by (gone_one end (current_tree h) e)))) es alike may.1)
      (subst (IsUnderway j m es) (sym (behind_is end e h)) (underway_next e es (current_tree h) may.0 u)) in
      let calls : removals_by (gone_in end (current_tree h) (e ∷ es)) ≡ one ++ removals_by (gone_in end (current_tree mid) es) =
      gone_first end (current_tree h) e es ∙ ap (λ (l : Items). removals_by (gone_one end (current_tree h) e) ++ removals_by l) (sym (gone_alike end (current_tree h) (current_tree (then_all h (removals_by (gone_one end (current_tree h) e)))) es alike)) in
      subst (λ (g : History). IsUnderway j m [] (current_tree g))
      (sym (ap (then_all h) calls ∙ then_all-append h one (removals_by (gone_in end (current_tree mid) es)))) next

-- ---- what is left

pub file_no_dir : (o : Option Node) → is_file_node o ≡ true → is_dir_node o ≡ true → ⊥
file_no_dir None file dir = cc
file_no_dir (Some (Dir mode)) file dir = cc
file_no_dir (Some (Link target)) file dir = cc
file_no_dir (Some (File number bytes mode)) file dir = cc

pub file_some : (o : Option Node) → is_file_node o ≡ true → is_some o ≡ true
file_some None file = cc
file_some (Some node) file = refl

stood_before : (t : FileTree) (p q : Names) → Stands (remove t p) q → Stands t q
stood_before t p q stands = by_node (get t q) refl
  where
    by_node : (o : Option Node) → get t q ≡ o → Stands t q
    by_node None is = absurd (absent_not (get (remove t p) q) (removed-absent t p q is) stands)
    by_node (Some node) is = ap is_some is

nothing_left : (j m : List ℕ) (t : FileTree) → IsUnderway j m [] t → (name : List ℕ) → IsAbsent (remove (remove t (staged m)) (staged j)) (staged name)
nothing_left j m t u name = none_of (get (remove (remove t (staged m)) (staged j)) (staged name)) (λ stands. by_name stands (by_once stands))
  where
    by_once : Stands (remove (remove t (staged m)) (staged j)) (staged name) → Stands t (staged name)
    by_once stands = stood_before t (staged m) (staged name) (stood_before (remove t (staged m)) (staged j) (staged name) stands)

    by_name : Stands (remove (remove t (staged m)) (staged j)) (staged name) → Stands t (staged name) → ⊥
    by_name stands before = ⊎_elim
        (λ is. absent_not (get (remove (remove t (staged m)) (staged j)) (staged name)) (ap (λ (n : List ℕ). get (remove (remove t (staged m)) (staged j)) (staged n)) is ∙ removed-itself (remove t (staged m)) (staged j)) stands)
        (λ more. ⊎_elim
        (λ is. absent_not (get (remove (remove t (staged m)) (staged j)) (staged name)) (removed-absent (remove t (staged m)) (staged j) (staged name) (ap (λ (n : List ℕ). get (remove t (staged m)) (staged n)) is ∙ removed-itself t (staged m))) stands)
        (λ none. none) more)
        (u.only name before)

-- the marker, the journal and the directory can be removed, where nothing else is left
pub can_close : (j m : List ℕ) (h : History) → j ≢ m → IsUnderway j m [] (current_tree h) → CanAll (close_up_calls (staged m) (staged j) staging) h
can_close j m h other u =
    let one : get (remove (current_tree h) (staged m)) (staged j) ≡ get (current_tree h) (staged j) = removed-other (current_tree h) (staged m) (staged j) (λ is. other (let k : j ≡ m = cc in k)) in
    let journal = ap is_file_node one ∙ u.journal_there in
    let directory = ap is_dir_node (removed-other (remove (current_tree h) (staged m)) (staged j) staging (λ is. cc)) ∙ ap is_dir_node (removed-other (current_tree h) (staged m) staging (λ is. cc)) ∙ u.directory in (
      (file_some (get (current_tree h) (staged m)) u.marker_there, file_no_dir (get (current_tree h) (staged m)) u.marker_there),
      (
        tt,
        (
          (file_some (get (remove (current_tree h) (staged m)) (staged j)) journal, file_no_dir (get (remove (current_tree h) (staged m)) (staged j)) journal),
          (
            (directory, (λ is. cc), λ name. nothing_left j m (current_tree h) u name),
            (tt, tt),
          ),
        ),
      ),
    )

-- ---- the calls of an end

removals_marker : (xs : Items) (marker : List ℕ) → removals_of xs marker ≡ removals_by xs ++ call.Remove (staged marker) ∷ []
removals_marker [] marker = refl
removals_marker (x ∷ xs) marker = ap (λ (l : List Change). removal_by x.1 (staged x.0) ∷ l) (removals_marker xs marker)

pub end_calls_are : (xs : Items) (marker journal : List ℕ)
    → (removals_of xs marker ++ call.Sync ∷ []) ++ (last_of journal ++ call.Sync ∷ []) ≡ removals_by xs ++ close_up_calls (staged marker) (staged journal) staging
end_calls_are xs marker journal =
    ap (λ (l : List Change). (l ++ call.Sync ∷ []) ++ (last_of journal ++ call.Sync ∷ [])) (removals_marker xs marker)
    ∙ ap (λ (l : List Change). l ++ (last_of journal ++ call.Sync ∷ [])) (append_assoc (removals_by xs) (call.Remove (staged marker) ∷ []) (call.Sync ∷ []))
    ∙ append_assoc (removals_by xs) (call.Remove (staged marker) ∷ call.Sync ∷ []) (last_of journal ++ call.Sync ∷ [])

-- ---- behind the rename of the journal

renamed_alike : (t : FileTree) (from to : List ℕ) (e : EntryName) → IsOwn from → IsOwn to → IsClear t (staged to) → Alike t (renamed t (staged from) (staged to)) e
renamed_alike t from to e own_from own_to clear r =
    renamed-out t (staged from) (staged to) clear (staged (name_of e) ++ r)
    (out_below (staged (name_of e)) (staged to) r (apart_staged (name_of e) to (λ is. own_spelled to own_to e.role e.number (sym is))))
    (out_below (staged (name_of e)) (staged from) r (apart_staged (name_of e) from (λ is. own_spelled from own_from e.role e.number (sym is))))

pub all_renamed : (t : FileTree) (from to : List ℕ) (es : List EntryName) → IsOwn from → IsOwn to → IsClear t (staged to) → AllByRecursion (Alike t (renamed t (staged from) (staged to))) es
all_renamed t from to [] own_from own_to clear = tt
all_renamed t from to (e ∷ es) own_from own_to clear = (renamed_alike t from to e own_from own_to clear, all_renamed t from to es own_from own_to clear)
