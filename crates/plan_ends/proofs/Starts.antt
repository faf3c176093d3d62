-- The old tree with the entries that are made in its staging directory.
use Rattle.std.proofs.Common.{◌≡◌, ◌≢◌, ◌⊎◌, inl, inr, ℕ, ◌+◌, ◌≤◌, ◌<◌, ◌^◌, ◌==◌, true, false, cond, List, [], ◌∷◌, ◌++◌, map, filter, length, refl, sym, ◌∙◌, ap, subst, arith, Option, Some, None, is_some, IsTrue, eqb-true, eq-eqb}
use Rattle.std.specs.Prelude.{Contains}
use Rattle.std.specs.List.{zip}
use Rattle.std.specs.Option.{option_map}
use Rattle.std.specs.FinMap.{get, find, insert}
use Rattle.std.proofs.lemmas.Bool.{cond-true, cond-false, cases_Bool, false_from_ne_true}
use Rattle.std.proofs.lemmas.Option.{none-some, same_Some}
use Rattle.std.proofs.lemmas.List.{append-nil, same_from_push}
use Rattle.std.proofs.lemmas.List.Elements.{All-contains}
use Rattle.dired_text.specs.Paths.{Names, path_cmp}
use Rattle.dired_text.proofs.PathLemmas.{path_decides}
use Rattle.commit_steps.specs.Staging.{staging, staged, fresh_name}
use Rattle.tree_core.specs.declared.node.Node.{Node}
use Rattle.tree_core.specs.declared.node.Node.TheVariants.{Dir, Link, File}
use Rattle.tree_core.specs.declared.changes.Changes.{Changes}
use Rattle.tree_core.specs.declared.changes.Changes.TheVariants.{Edits, Removals, Creations}
use Rattle.tree_core.specs.declared.changes.Creation.{Creation}
use Rattle.tree_core.specs.declared.changes.Fresh.{Fresh}
use Rattle.tree_core.specs.declared.changes.Fresh.TheVariants as asks
use Rattle.tree_core.specs.declared.edit.Edit.{Edit}
use Rattle.tree_core.specs.FileTree.{FileTree, IsTree, IsFile, IsDir, IsLawful, is_file_node, is_dir_node}
use Rattle.tree_core.proofs.TreeLemmas.{tie, tie-other, dir_stands}
use Rattle.tree_core.proofs.Sound.{get-inserted, get-inserted_other}
use Rattle.edit_words.specs.declared.row.Row.{Row}
use Rattle.edit_words.specs.Place.{place}
use Rattle.edit_words.specs.Rows.{rows}
use Rattle.edit_words.specs.Edited.{Entries, Came, IsPlaced, AreMadeFor, IsMadeFor, asked_fresh, is_fresh}
use Rattle.edit_words.specs.WellFormed.{LinesRise, AreLawful, IsFreshIn}
use Rattle.edit_words.proofs.FirstLemmas.{rise_rest, rise_first}
use Rattle.edit_laws.proofs.ListLemmas.{contains_none, contains_cases, filter_parts, map_parts, zip_right}
use Rattle.edit_laws.proofs.PlaceLemmas.{place-stays}
use Rattle.edit_laws.proofs.PlacedIsTree.{some_of}
use Rattle.edit_laws.proofs.AddedLemmas.{zip_pair}
use Rattle.edit_laws.proofs.AskedLemmas.{AreMadeRows, made_are}
use Rattle.plan_moves.specs.Moves.{fresh_spots}
use Rattle.plan_moves.specs.SoFar.{same_node}
use Rattle.plan_laws.specs.Laws.{ArePlanned, aside_route}
use Rattle.plan_laws.proofs.Setting.{ArePlannedRows, planned_rows}
use Rattle.plan_laws.proofs.SoFarApart.{not_staged}
use Rattle.plan_laws.proofs.StagedNames.{fresh_apart, staged_name}
use Rattle.step_trees.specs.Entries.{IsFileOrLink, IsTemporary, IsHeld, IsFresh}
use Rattle.step_trees.specs.Leads.{start, with_fresh, HoldsEntries}
use Rattle.plan_ends.specs.Laws.{StartsWell}
use Rattle.plan_ends.proofs.EndPlaces.{map_same}
use Rattle.plan_ends.proofs.ModeCounts.{map_parts_some}

-- ---- the names of the entries

abbrev names_from : ℕ → List Node → List Names
names_from n [] = []
names_from n (x ∷ xs) = staged (fresh_name n) ∷ names_from (n + 1) xs

name_from : (n : ℕ) (xs : List Node) (q : Names) → Contains (names_from n xs) q → (k : ℕ) × (n ≤ k) × (k < n + length xs) × (q ≡ staged (fresh_name k))
name_from n [] q c = absurd (contains_none q c)
name_from n (x ∷ xs) q c = elim (contains_cases (staged (fresh_name n)) q (names_from (n + 1) xs) c) [
  | inl same ↦ (n, omega arith, omega arith, sym same)
  | inr later ↦
      let m = name_from (n + 1) xs q later in
      let least : n + 1 ≤ m.0 = m.1 in
      let most : m.0 < (n + 1) + length xs = m.2 in
      (m.0, omega arith, omega arith, m.3)
]

-- the spots at first are these names
spots_named : (n : ℕ) (rs : List Row) (made : List Node) → LinesRise rs → length made ≡ length (filter is_fresh rs) → zip (map (λ (r : Row). fresh_spots n rs r.line) (filter is_fresh rs)) made ≡ zip (names_from n made) made
spots_named n [] [] rise long = refl
spots_named n [] (x ∷ made) rise long = let long : length (x ∷ made) ≡ 0 = long in absurd (omega arith)
spots_named n (r ∷ rs) made rise long = go (λ k made long. spots_named k rs made (rise_rest r rs rise) long) made long (cases_Bool (is_fresh r))
  where
    later : (o : Row) → Contains rs o → fresh_spots n (r ∷ rs) o.line ≡ cond (is_fresh r) (fresh_spots (n + 1) rs o.line) (fresh_spots n rs o.line)
    later o c = ap (λ (p : Names). cond (is_fresh r) p (fresh_spots n rs o.line)) (cond-false (r.line == o.line) (staged (fresh_name n)) (fresh_spots (n + 1) rs o.line)
        (false_from_ne_true _ (λ is. let same : r.line ≡ o.line = eqb-true r.line o.line is in let less : r.line < o.line = rise_first r o rs rise c in omega arith)))

    go : ((k : ℕ) (made : List Node) → length made ≡ length (filter is_fresh rs) → zip (map (λ (o : Row). fresh_spots k rs o.line) (filter is_fresh rs)) made ≡ zip (names_from k made) made)
        → (made : List Node) → length made ≡ length (filter is_fresh (r ∷ rs)) → (is_fresh r ≡ true) ⊎ (is_fresh r ≡ false)
        → zip (map (λ (o : Row). fresh_spots n (r ∷ rs) o.line) (filter is_fresh (r ∷ rs))) made ≡ zip (names_from n made) made
    go more made long (inr old) =
        ap (λ (l : List Row). zip (map (λ (o : Row). fresh_spots n (r ∷ rs) o.line) l) made) (cond-false (is_fresh r) (r ∷ filter is_fresh rs) (filter is_fresh rs) old)
        ∙ ap (λ (l : List Names). zip l made) (map_same (λ (o : Row). fresh_spots n (r ∷ rs) o.line) (λ (o : Row). fresh_spots n rs o.line) (filter is_fresh rs)
        (λ o c. later o (filter_parts is_fresh rs o c).0 ∙ cond-false (is_fresh r) _ _ old))
        ∙ more n made (long ∙ ap length (cond-false (is_fresh r) (r ∷ filter is_fresh rs) (filter is_fresh rs) old))
    go more [] long (inl fresh) = absurd (let e : length (filter is_fresh (r ∷ rs)) ≡ length (r ∷ filter is_fresh rs) = ap length (cond-true (is_fresh r) (r ∷ filter is_fresh rs) (filter is_fresh rs) fresh) in
        let none : 0 ≡ length (filter is_fresh (r ∷ rs)) = long in omega arith)
    go more (x ∷ made) long (inl fresh) =
        ap (λ (l : List Row). zip (map (λ (o : Row). fresh_spots n (r ∷ rs) o.line) l) (x ∷ made)) (cond-true (is_fresh r) (r ∷ filter is_fresh rs) (filter is_fresh rs) fresh)
        ∙ ap (λ (p : Names). (p, x) ∷ zip (map (λ (o : Row). fresh_spots n (r ∷ rs) o.line) (filter is_fresh rs)) made)
        (cond-true (is_fresh r) _ (fresh_spots n rs r.line) fresh ∙ cond-true (r.line == r.line) (staged (fresh_name n)) (fresh_spots (n + 1) rs r.line) (eq-eqb r.line r.line refl))
        ∙ ap (λ (l : Entries). (staged (fresh_name n), x) ∷ l)
        (ap (λ (l : List Names). zip l made) (map_same (λ (o : Row). fresh_spots n (r ∷ rs) o.line) (λ (o : Row). fresh_spots (n + 1) rs o.line) (filter is_fresh rs)
        (λ o c. later o (filter_parts is_fresh rs o c).0 ∙ cond-true (is_fresh r) _ _ fresh))
        ∙ more (n + 1) made (let e : length (filter is_fresh (r ∷ rs)) ≡ length (r ∷ filter is_fresh rs) = ap length (cond-true (is_fresh r) (r ∷ filter is_fresh rs) (filter is_fresh rs) fresh) in
        let all : length (x ∷ made) ≡ length (filter is_fresh (r ∷ rs)) = long in omega arith))

-- ---- what stands there

fresh_other : (n : ℕ) (xs : List Node) (u : FileTree) (q : Names) → find path_cmp q (zip (names_from n xs) xs) ≡ None → get (with_fresh n xs u) q ≡ get u q
fresh_other n [] u q e = refl
fresh_other n (x ∷ xs) u q e = go (λ none. fresh_other (n + 1) xs (insert u (staged (fresh_name n)) x) q none) (cases_Bool (tie q (staged (fresh_name n))))
  where
    go : (find path_cmp q (zip (names_from (n + 1) xs) xs) ≡ None → get (with_fresh (n + 1) xs (insert u (staged (fresh_name n)) x)) q ≡ get (insert u (staged (fresh_name n)) x) q)
        → (tie q (staged (fresh_name n)) ≡ true) ⊎ (tie q (staged (fresh_name n)) ≡ false) → get (with_fresh (n + 1) xs (insert u (staged (fresh_name n)) x)) q ≡ get u q
    go more (inl same) = absurd (none-some x (sym e ∙ cond-true (tie q (staged (fresh_name n))) (Some x) (find path_cmp q (zip (names_from (n + 1) xs) xs)) same))
    go more (inr other) = more (sym (cond-false (tie q (staged (fresh_name n))) (Some x) (find path_cmp q (zip (names_from (n + 1) xs) xs)) other) ∙ e)
        ∙ get-inserted_other u (staged (fresh_name n)) x q (λ same. let both : true ≡ false = sym ((path_decides q (staged (fresh_name n))).1 same) ∙ other in cc)

fresh_stand : (n : ℕ) (xs : List Node) (u : FileTree) (q : Names) (node : Node) → n + length xs ≤ 2 ^ 32 → find path_cmp q (zip (names_from n xs) xs) ≡ Some node → get (with_fresh n xs u) q ≡ Some node
fresh_stand n [] u q node few e = absurd (none-some node e)
fresh_stand n (x ∷ xs) u q node few e = go (λ found. fresh_stand (n + 1) xs (insert u (staged (fresh_name n)) x) q node (let all : n + length (x ∷ xs) ≤ 2 ^ 32 = few in omega arith) found)
    (cases_Bool (tie q (staged (fresh_name n)))) (find path_cmp q (zip (names_from (n + 1) xs) xs)) refl
  where
    go : (find path_cmp q (zip (names_from (n + 1) xs) xs) ≡ Some node → get (with_fresh (n + 1) xs (insert u (staged (fresh_name n)) x)) q ≡ Some node)
        → (tie q (staged (fresh_name n)) ≡ true) ⊎ (tie q (staged (fresh_name n)) ≡ false) → (o : Option Node) → find path_cmp q (zip (names_from (n + 1) xs) xs) ≡ o
        → get (with_fresh (n + 1) xs (insert u (staged (fresh_name n)) x)) q ≡ Some node
    go more (inr other) o is = more (sym (cond-false (tie q (staged (fresh_name n))) (Some x) (find path_cmp q (zip (names_from (n + 1) xs) xs)) other) ∙ e)
    go more (inl same) (Some y) is =
        let m = name_from (n + 1) xs q (zip_pair (names_from (n + 1) xs) xs q y is).0 in
        let least : n + 1 ≤ m.0 = m.1 in
        let most : m.0 < (n + 1) + length xs = m.2 in
        let all : n + length (x ∷ xs) ≤ 2 ^ 32 = few in
        let one : n ≡ m.0 = fresh_apart n m.0 (omega arith) (omega arith) (staged_name _ _ (sym ((path_decides q (staged (fresh_name n))).0 same) ∙ m.3)) in
        absurd (omega arith)
    go more (inl same) None is =
        fresh_other (n + 1) xs (insert u (staged (fresh_name n)) x) q is
        ∙ ap (get (insert u (staged (fresh_name n)) x)) ((path_decides q (staged (fresh_name n))).0 same)
        ∙ get-inserted u (staged (fresh_name n)) x
        ∙ sym (cond-true (tie q (staged (fresh_name n))) (Some x) (find path_cmp q (zip (names_from (n + 1) xs) xs)) same) ∙ e

-- ---- what the entries are

asked_file : (t : FileTree) (changes : Changes) → AreLawful (IsFile t) changes → (path : Names) → Contains (asked_fresh changes) (asks.Same path) → IsFile t path
asked_file t (Edits edits) lawful path c = let m = map_parts_some (λ (e : Edit). option_map asks.Link e.target) edits (asks.Same path) c in absurd (no_link m.0.target m.2)
  where
    no_link : (o : Option (List ℕ)) → option_map asks.Link o ≡ Some (asks.Same path) → ⊥
    no_link None e = none-some _ e
    no_link (Some target) e = let both : asks.Link target ≡ asks.Same path = same_Some _ _ e in cc
asked_file t (Removals removals) lawful path c = absurd (contains_none _ c)
asked_file t (Creations creations) lawful path c =
    let m = map_parts (λ (e : Creation). e.what) creations (asks.Same path) c in
    subst (IsFreshIn (IsFile t)) m.2 (All-contains (λ (e : Creation). IsFreshIn (IsFile t) e.what) creations m.0 lawful m.1)

file_kind : (node : Node) → IsTrue (is_file_node (Some node)) → IsFileOrLink node
file_kind (Dir m) e = cc
file_kind (Link target) e = cc
file_kind (File n b m) e = tt

module _ (t : FileTree) (changes : Changes) (planned : ArePlanned t changes) (made : List Node) (made_for : AreMadeFor t changes made) where
  set : ArePlannedRows t (rows changes)
  set = planned_rows t changes planned

  entries : AreMadeRows t (rows changes) made
  entries = made_are t changes planned.tree planned.asked made made_for

  asked_for : (x : Node) → Contains made x → (f : Fresh) × Contains (asked_fresh changes) f × IsMadeFor t f x
  asked_for x c = zip_right (IsMadeFor t) (asked_fresh changes) made x made_for.each c

  made_kind : (x : Node) → Contains made x → IsFileOrLink x
  made_kind x c = let f = asked_for x c in go f.0 f.1 f.2
    where
      go : (f : Fresh) → Contains (asked_fresh changes) f → IsMadeFor t f x → IsFileOrLink x
      go (asks.Link target) c is = subst IsFileOrLink (sym is) tt
      go (asks.File bytes mode) c is = subst IsFileOrLink (sym is.1) tt
      go (asks.Same path) c is = file_kind x (ap is_file_node (sym is) ∙ asked_file t changes planned.asked.lawful path c)

  -- a file of the tree is made as it is
  made_old : (x : Node) (p : Names) (n : ℕ) (b c : List ℕ) (m k : ℕ) → Contains made x → x ≡ File n b m → get t p ≡ Some (File n c k) → (b ≡ c) × (m ≡ k)
  made_old x p n b c m k listed is at = let f = asked_for x listed in go f.0 f.2
    where
      go : (f : Fresh) → IsMadeFor t f x → (b ≡ c) × (m ≡ k)
      go (asks.Link target) made_is = let both : File n b m ≡ Link target = sym is ∙ made_is in absurd cc
      go (asks.File bytes mode) made_is =
          let both : File n b m ≡ File made_is.0 bytes mode = sym is ∙ made_is.1 in
          let same : n ≡ made_is.0 = cc in
          absurd (made_is.2 (p, c, k, at ∙ ap (λ (y : ℕ). Some (File y c k)) same))
      go (asks.Same path) made_is = planned.tree.alike path p n b c m k (made_is ∙ ap (λ (y : Node). Some y) is) at

  few : 0 + length made ≤ 2 ^ 32
  few = let long : length made ≡ length (filter is_fresh (rows changes)) = entries.long in let less = filter_short (rows changes) in let most : length (rows changes) ≤ 262144 = set.few in omega arith
    where
      filter_short : (rs : List Row) → length (filter is_fresh rs) ≤ length rs
      filter_short [] = omega arith
      filter_short (r ∷ rs) = elim (cases_Bool (is_fresh r)) [
        | inl is ↦ let e : length (filter is_fresh (r ∷ rs)) ≡ length (r ∷ filter is_fresh rs) = ap length (cond-true (is_fresh r) (r ∷ filter is_fresh rs) (filter is_fresh rs) is) in let more = filter_short rs in omega arith
        | inr isnt ↦ let e : length (filter is_fresh (r ∷ rs)) ≡ length (filter is_fresh rs) = ap length (cond-false (is_fresh r) (r ∷ filter is_fresh rs) (filter is_fresh rs) isnt) in let more = filter_short rs in omega arith
      ]

  abbrev all : Entries
  all = (staging, Dir 0o700) ∷ zip (names_from 0 made) made

  data StartAt (q : Names) (node : Node) : Type 0 where
    as_staging : q ≡ staging → node ≡ Dir 0o700 → StartAt q node
    as_entry : (k : ℕ) → k < 2 ^ 32 → q ≡ staged (fresh_name k) → Contains made node → StartAt q node
    as_old : get t q ≡ Some node → StartAt q node

  entry_of : (q : Names) (node : Node) → find path_cmp q (zip (names_from 0 made) made) ≡ Some node → StartAt q node
  entry_of q node e =
      let p = zip_pair (names_from 0 made) made q node e in
      let m = name_from 0 made q p.0 in
      let most : m.0 < 0 + length made = m.2 in
      let all_few : 0 + length made ≤ 2 ^ 32 = few in
      as_entry m.0 (omega arith) m.3 p.1

  no_entry : (q : Names) → ((k : ℕ) → q ≡ staged (fresh_name k) → ⊥) → find path_cmp q (zip (names_from 0 made) made) ≡ None
  no_entry q other = go (find path_cmp q (zip (names_from 0 made) made)) refl
    where
      go : (o : Option Node) → find path_cmp q (zip (names_from 0 made) made) ≡ o → find path_cmp q (zip (names_from 0 made) made) ≡ None
      go None e = e
      go (Some node) e = let m = name_from 0 made q (zip_pair (names_from 0 made) made q node e).0 in absurd (other m.0 m.3)

  staging_stands : get (start t made) staging ≡ Some (Dir 0o700)
  staging_stands = fresh_other 0 made (insert t staging (Dir 0o700)) staging (no_entry staging (λ k e. cc)) ∙ get-inserted t staging (Dir 0o700)

  old_stands : (q : Names) (node : Node) → get t q ≡ Some node → get (start t made) q ≡ Some node
  old_stands q node e =
      fresh_other 0 made (insert t staging (Dir 0o700)) q (no_entry q (λ k at. not_staged t (rows changes) set q (fresh_name k ∷ []) (ap is_some e) at))
      ∙ get-inserted_other t staging (Dir 0o700) q (λ at. not_staged t (rows changes) set q [] (ap is_some e) (at ∙ sym (append-nil staging))) ∙ e

  start_at : (q : Names) (node : Node) → get (start t made) q ≡ Some node → StartAt q node
  start_at q node e = by_found (find path_cmp q (zip (names_from 0 made) made)) refl
    where
      by_found : (o : Option Node) → find path_cmp q (zip (names_from 0 made) made) ≡ o → StartAt q node
      by_found (Some x) is = entry_of q node (is ∙ sym (fresh_stand 0 made (insert t staging (Dir 0o700)) q x few is) ∙ e)
      by_found None is = elim (cases_Bool (tie q staging)) [
        | inl same ↦ as_staging ((path_decides q staging).0 same) (same_Some _ _ (sym e ∙ ap (get (start t made)) ((path_decides q staging).0 same) ∙ staging_stands))
        | inr other ↦ as_old (sym (get-inserted_other t staging (Dir 0o700) q (λ same. let both : true ≡ false = sym ((path_decides q staging).1 same) ∙ other in cc))
            ∙ sym (fresh_other 0 made (insert t staging (Dir 0o700)) q is) ∙ e)
      ]

  start_tree : IsTree (start t made)
  start_tree = record {
    root = old_dir [] planned.tree.root;
    parents = λ p name stands. let s = some_of (get (start t made) (p ++ name ∷ [])) stands in parent_of p name s.0 (start_at (p ++ name ∷ []) s.0 s.1);
    alike = λ p q n b c m k at_p at_q. both n b c m k p q (start_at p (File n b m) at_p) (start_at q (File n c k) at_q);
    lawful = λ p node at. lawful_at p node (start_at p node at);
  }
    where
      old_dir : (p : Names) → IsDir t p → IsDir (start t made) p
      old_dir p dir = let s = some_of (get t p) (dir_stands _ dir) in ap is_dir_node (old_stands p s.0 s.1 ∙ sym s.1) ∙ dir

      parent_of : (p : Names) (name : List ℕ) (node : Node) → StartAt (p ++ name ∷ []) node → IsDir (start t made) p
      parent_of p name node (as_staging at is) = subst (IsDir (start t made)) (sym (same_from_push p [] name _ at).0) (old_dir [] planned.tree.root)
      parent_of p name node (as_entry k small at c) = subst (IsDir (start t made)) (sym (same_from_push p staging name (fresh_name k) at).0) (ap is_dir_node staging_stands)
      parent_of p name node (as_old at) = old_dir p (planned.tree.parents p name (ap is_some at))

      both : (n : ℕ) (b c : List ℕ) (m k : ℕ) (p q : Names) → StartAt p (File n b m) → StartAt q (File n c k) → (b ≡ c) × (m ≡ k)
      both n b c m k p q (as_staging at is) other = let no_way : File n b m ≡ Dir 0o700 = is in absurd cc
      both n b c m k p q other (as_staging at is) = let no_way : File n c k ≡ Dir 0o700 = is in absurd cc
      both n b c m k p q (as_entry i small at d) (as_entry j small' at' d') = entries.alike _ _ n b c m k d d' refl refl
      both n b c m k p q (as_entry i small at d) (as_old at') = made_old _ q n b c m k d refl at'
      both n b c m k p q (as_old at) (as_entry j small at' d) = let same = made_old _ p n c b k m d refl at in (sym same.0, sym same.1)
      both n b c m k p q (as_old at) (as_old at') = planned.tree.alike p q n b c m k at at'

      is_mode : 0o700 ≤ 0o7777
      is_mode = omega arith

      lawful_at : (p : Names) (node : Node) → StartAt p node → IsLawful node
      lawful_at p node (as_staging at is) = subst IsLawful (sym is) is_mode
      lawful_at p node (as_entry k small at c) = entries.lawful node c
      lawful_at p node (as_old at) = planned.tree.lawful p node at

  start_holds : HoldsEntries (start t made)
  start_holds = record { tree = start_tree; stands = ap is_dir_node staging_stands; only = λ name node e. by_at name node (start_at (staged name) node e) }
    where
      by_at : (name : List ℕ) (node : Node) → StartAt (staged name) node → IsTemporary name ⊎ (IsHeld (start t made) name node ⊎ IsFresh name node)
      by_at name node (as_staging at is) = let long = ap length at in absurd (omega arith)
      by_at name node (as_entry k small at c) = inr (inr (record { number = k; small = small; named = staged_name _ _ at; kind = made_kind node c }))
      by_at name node (as_old at) = absurd (not_staged t (rows changes) set (staged name) (name ∷ []) (ap is_some at) refl)

  rests : (u : Names) → place (aside_route []) u ≡ u
  rests u = place-stays (aside_route []) u (λ v n rest is. refl)

  start_placed : IsPlaced all (λ p. true) (place (aside_route [])) same_node t (start t made)
  start_placed = record {
    added_stand = λ q node e. stands_added q node e (cases_Bool (tie q staging));
    stay = λ p node kept stood none. ap (get (start t made)) (rests p) ∙ old_stands p node stood;
    only = λ q node e. by_at q node (start_at q node e) (find path_cmp q all) refl e;
  }
    where
      stands_added : (q : Names) (node : Node) → find path_cmp q all ≡ Some node → (tie q staging ≡ true) ⊎ (tie q staging ≡ false) → get (start t made) q ≡ Some node
      stands_added q node e (inl same) = ap (get (start t made)) ((path_decides q staging).0 same) ∙ staging_stands ∙ sym (cond-true (tie q staging) (Some (Dir 0o700)) _ same) ∙ e
      stands_added q node e (inr other) = fresh_stand 0 made (insert t staging (Dir 0o700)) q node few (sym (cond-false (tie q staging) (Some (Dir 0o700)) _ other) ∙ e)

      by_at : (q : Names) (node : Node) → StartAt q node → (o : Option Node) → find path_cmp q all ≡ o → get (start t made) q ≡ Some node
          → IsTrue (is_some (find path_cmp q all)) ⊎ Came (λ p. true) (place (aside_route [])) same_node t q node
      by_at q node at (Some x) is e = inl (ap is_some is)
      by_at q node (as_old at) None is e = inr (record { path = q; was = node; kept = refl; stood = at; here = rests q; same = refl })
      by_at q node (as_staging at is_dir) None is e = absurd (none-some (Dir 0o700) (sym is ∙ cond-true (tie q staging) (Some (Dir 0o700)) _ ((path_decides q staging).1 at)))
      by_at q node (as_entry k small at c) None is e =
          absurd (none-some node (sym (fresh_none q k at is) ∙ e))
        where
          fresh_none : (q : Names) (k : ℕ) → q ≡ staged (fresh_name k) → find path_cmp q all ≡ None → get (start t made) q ≡ None
          fresh_none q k at is =
              let other : q ≢ staging = (λ same. let long = ap length (sym at ∙ same) in omega arith) in
              fresh_other 0 made (insert t staging (Dir 0o700)) q (sym (cond-false (tie q staging) (Some (Dir 0o700)) _ (tie-other q staging other)) ∙ is)
              ∙ get-inserted_other t staging (Dir 0o700) q other
              ∙ absent (get t q) refl
            where
              absent : (o : Option Node) → get t q ≡ o → get t q ≡ None
              absent None e = e
              absent (Some x) e = absurd (not_staged t (rows changes) set q (fresh_name k ∷ []) (ap is_some e) at)

  pub starts_well : StartsWell t (rows changes) made
  starts_well = record {
    put = record {
      tree = start_tree;
      shown = subst (λ (l : Entries). IsPlaced ((staging, Dir 0o700) ∷ l) (λ p. true) (place (aside_route [])) same_node t (start t made)) (sym (spots_named 0 (rows changes) made set.rise entries.long)) start_placed;
    };
    holds = start_holds;
  }
