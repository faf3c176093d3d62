-- What was found in whatever tree can be removed, or stands as a way asks for it.
use Rattle.std.proofs.Common.{◌≡◌, ◌≢◌, ◌⊎◌, inl, inr, ⊎_elim, ℕ, ◌-◌, ◌<◌, ◌≤◌, ◌^◌, nat_lt, Bool, true, false, ◌||◌, ◌==◌, List, [], ◌∷◌, ◌++◌, length, map, cond, Option, Some, None, is_some, refl, sym, ◌∙◌, ap, subst, arith}
use Rattle.std.specs.Prelude.{IsTrue}
use Rattle.std.specs.FinMap.{get, remove}
use Rattle.std.specs.List.{AllByRecursion, find, list_any}
use Rattle.std.specs.Str.{bytes_eq}
use Rattle.std.proofs.lemmas.Bool.{eqb-true}
use Rattle.std.proofs.lemmas.Bool.Decides.{nat_tests}
use Rattle.std.proofs.lemmas.Slice.Eq.{bytes_eq-Decides}
use Rattle.commit_recover.specs.Answers.{HasFound}
use Rattle.commit_recover.specs.Items.{is_entry_name, is_marker_name, items_by, other_items}
use Rattle.commit_states.proofs.ReadLemmas.{AreEmpty, IsItem, early_suffice}
use Rattle.commit_states.proofs.ReadNameLemmas.{names_read as all_read}
use Rattle.commit_states.proofs.UnstageLemmas.{closed_unstage}
use Rattle.commit_states.specs.Calls.{ClearsItems, Items, Unstages, close_calls, removal_by, unstage_calls}
use Rattle.commit_states.specs.Interrupted.{IsFileNode}
use Rattle.commit_states.specs.Reads.{AreRead, IsNamed as IsItemNamed}
use Rattle.commit_states.specs.Stops.{IsEarly, IsStaging}
use Rattle.commit_steps.proofs.NumberLemmas.{and_both}
use Rattle.commit_steps.specs.Staging.{staged, staging, plan, sealed, undone, at_marker}
use Rattle.recovery_calls.specs.Underway.{IsNamed, IsUnderway}
use Rattle.recovery_courses.proofs.CloseLemmas.{files_are}
use Rattle.recovery_start.specs.declared.leftovers.Leftovers.{Leftovers}
use Rattle.recovery_start.specs.Start.{HasSteps, found_at, found_in}
use Rattle.recovery_start.proofs.StartLemmas.{journal_file}
use Rattle.staging_names.specs.declared.entry_name.Role.{Role}
use Rattle.staging_names.specs.declared.entry_name.Role.TheVariants.{Fresh, Held, Temporary}
use Rattle.staging_names.specs.declared.staged_name.Journal as journal
use Rattle.staging_names.specs.declared.staged_name.Journal.TheVariants.{Plan, Done, Undone}
use Rattle.staging_names.specs.declared.staged_name.Marker as marker
use Rattle.staging_names.specs.declared.staged_name.Side.{Side}
use Rattle.staging_names.specs.declared.staged_name.Side.TheVariants.{At, Back}
use Rattle.staging_names.specs.declared.staged_name.StagedName.{StagedName}
use Rattle.staging_names.specs.declared.staged_name.StagedName.TheVariants.{New, Journal, Marker, Entry, Other}
use Rattle.staging_names.specs.declared.standing.Found.{Found}
use Rattle.staging_names.specs.declared.standing.Standing.{Standing}
use Rattle.staging_names.specs.Laws.{IsInOrder}
use Rattle.staging_names.specs.Names.{journal_name, marker_name, name_of, name_read}
use Rattle.staging_names.specs.Tests.{allows_entry, allows_marker, is_at, beyond_place, counts_more, foreign_place, is_marker, journal_of, marker_at, marker_in, marker_of, standing_of}
use Rattle.staging_names.proofs.NameLemmas.{names_read}
use Rattle.staging_names.proofs.OrderLemmas.{counted, in_order}
use Rattle.step_trees.proofs.RemovalLemmas.{removed-absent, removed-itself, removed-other}
use Rattle.step_trees.specs.Entries.{HoldsOnly, IsFileOrLink}
use Rattle.tree_core.proofs.NameLemmas.{names_stand}
use Rattle.tree_core.proofs.Runs.{can_append, closed_can}
use Rattle.tree_core.proofs.Sound.{was_there}
use Rattle.tree_core.specs.declared.node.Change.TheVariants as call
use Rattle.tree_core.specs.declared.node.Node.{Node}
use Rattle.tree_core.specs.declared.node.Node.TheVariants.{Dir, Link, File}
use Rattle.tree_core.specs.Fields.{names_in}
use Rattle.tree_core.specs.FileTree.{CanDo, FileTree, IsAbsent, IsDir, IsEmptyAt, IsFile, Stands, is_dir_node, is_file_node}
use Rattle.tree_core.specs.History.{History, Then, current_tree}
use Rattle.tree_core.specs.Runs.{CanAll}
use Rattle.commit_recover.proofs.EntryLemmas.{among_named, entry_among}
use Rattle.commit_recover.proofs.FoundLemmas.{MayBe, Stood, a_journal, a_marker, a_new, an_entry, not_both, stood}
use Rattle.commit_recover.proofs.ItemLemmas.{both_read}

-- ---- nodes

file_no_dir : (node : Node) → IsFileNode node → is_dir_node (Some node) ≡ true → ⊥
file_no_dir (Dir mode) is dir = is
file_no_dir (Link target) is dir = is
file_no_dir (File number bytes mode) is dir = cc

link_no_dir : (node : Node) → IsFileOrLink node → is_dir_node (Some node) ≡ true → ⊥
link_no_dir (Dir mode) is dir = is
link_no_dir (Link target) is dir = cc
link_no_dir (File number bytes mode) is dir = cc

node_file : (node : Node) → IsFileNode node → is_file_node (Some node) ≡ true
node_file (Dir mode) is = absurd is
node_file (Link target) is = absurd is
node_file (File number bytes mode) is = refl

file_stands : (o : Option Node) → is_file_node o ≡ true → is_some o ≡ true
file_stands None e = cc
file_stands (Some node) e = refl

file_not_dir : (o : Option Node) → is_file_node o ≡ true → is_dir_node o ≡ true → ⊥
file_not_dir None e dir = cc
file_not_dir (Some (Dir mode)) e dir = cc
file_not_dir (Some (Link target)) e dir = cc
file_not_dir (Some (File number bytes mode)) e dir = cc

dir_stands : (o : Option Node) → is_dir_node o ≡ true → (node : Node) × (o ≡ Some node)
dir_stands None e = cc
dir_stands (Some node) e = (node, refl)

some_stands : (o : Option Node) → is_some o ≡ true → (node : Node) × (o ≡ Some node)
some_stands None e = cc
some_stands (Some node) e = (node, refl)

same_journal : (j k : journal.Journal) → Some j ≡ Some k → j ≡ k
same_journal j k e = cc

same_marker : (m n : marker.Marker) → Some m ≡ Some n → m ≡ n
same_marker m n e = cc

no_journal : (j : journal.Journal) → None ≡ Some j → ⊥
no_journal j e = cc

-- ---- one after another

empty_less : (t : FileTree) (Left : List ℕ → Type 0) (gone : List ℕ) → AreEmpty t Left → AreEmpty (remove t (staged gone)) Left
empty_less t Left gone empty name dir others child =
    let less = dir_stands (get (remove t (staged gone)) (staged name)) dir in
    let there : get t (staged name) ≡ Some less.0 = was_there t (staged gone) (staged name) less.0 less.1 in
    let was_dir : IsDir t (staged name) = ap is_dir_node there ∙ sym (ap is_dir_node less.1) ∙ dir in
    removed-absent t (staged gone) (staged name ++ child ∷ []) (empty name was_dir others child)

removable : (t : FileTree) (Left : List ℕ → Type 0) → AreEmpty t Left → (name : List ℕ) (b : Bool) → (Left name → ⊥) → Stands t (staged name) → is_dir_node (get t (staged name)) ≡ b → CanDo (removal_by b (staged name)) t
removable t Left empty name true others stands is = (is, λ e. (let k : staged name ≡ [] = e in cc), empty name is others)
removable t Left empty name false others stands is = (stands, λ dir. not_both (sym dir ∙ is))

not_gone : (t : FileTree) (gone name : List ℕ) → Stands (remove t (staged gone)) (staged name) → name ≢ gone
not_gone t gone name stands same = not_both (sym stands ∙ ap (λ (x : List ℕ). is_some (get (remove t (staged gone)) (staged x))) same ∙ ap is_some (removed-itself t (staged gone)))

still_there : (t : FileTree) (gone name : List ℕ) → name ≢ gone → get (remove t (staged gone)) (staged name) ≡ get t (staged name)
still_there t gone name other = removed-other t (staged gone) (staged name) (λ same. other (let e : name ≡ gone = cc in e))

items_less : (t : FileTree) (Left : List ℕ → Type 0) (gone : List ℕ) (xs : Items) → (IsItemNamed gone xs → ⊥) → AllByRecursion (IsItem t Left) xs → AllByRecursion (IsItem (remove t (staged gone)) Left) xs
items_less t Left gone [] apart each = tt
items_less t Left gone (x ∷ xs) apart each =
    let same = still_there t gone x.0 (λ e. apart (inl (sym e))) in
    (((each.0).0, ap is_some same ∙ (each.0).1, ap is_dir_node same ∙ (each.0).2), items_less t Left gone xs (λ more. apart (inr more)) each.1)

read_less : (t : FileTree) (Left : List ℕ → Type 0) (x : List ℕ × Bool) (xs : Items) → AreRead t Left (x ∷ xs) → AreRead (remove t (staged x.0)) Left xs
read_less t Left x xs r = record {
  each = items_less t Left x.0 xs (r.once).0 (r.each).1;
  once = (r.once).1;
  all = λ name stands.
      let node = some_stands (get (remove t (staged x.0)) (staged name)) stands in
      ⊎_elim (λ left. inl left)
      (λ named. ⊎_elim (λ same. absurd (not_gone t x.0 name stands same)) (λ more. inr more) named)
      (r.all name (ap is_some (was_there t (staged x.0) (staged name) node.0 node.1)));
}

clears : (jn : List ℕ) (xs : Items) (t : FileTree) → AreEmpty t (λ name. name ≡ jn) → AreRead t (λ name. name ≡ jn) xs → ClearsItems jn xs t
clears jn [] t empty r = λ name node e. ⊎_elim (λ same. same) (λ nothing. absurd nothing) (r.all name (ap is_some e))
clears jn (x ∷ xs) t empty r = (
  ((r.each).0).0,
  removable t (λ name. name ≡ jn) empty x.0 x.1 ((r.each).0).0 ((r.each).0).1 ((r.each).0).2,
  clears jn xs (remove t (staged x.0)) (empty_less t (λ name. name ≡ jn) x.0 empty) (read_less t (λ name. name ≡ jn) x xs r),
)

still_dir : (t : FileTree) (name : List ℕ) → IsDir t staging → IsDir (remove t (staged name)) staging
still_dir t name dir = ap is_dir_node (removed-other t (staged name) staging (λ same. let e : staging ≡ staged name = same in cc)) ∙ dir

still_file : (t : FileTree) (jn name : List ℕ) → name ≢ jn → IsFile t (staged jn) → IsFile (remove t (staged name)) (staged jn)
still_file t jn name other file = ap is_file_node (removed-other t (staged name) (staged jn) (λ same. other (let e : name ≡ jn = cc in e))) ∙ file

module _ (jn : List ℕ) where
  none_left : (t : FileTree) → HoldsOnly t (λ name node. name ≡ jn) → IsEmptyAt (remove t (staged jn)) staging
  none_left t only name = by_node (get (remove t (staged jn)) (staged name)) refl
    where
      by_node : (o : Option Node) → get (remove t (staged jn)) (staged name) ≡ o → IsAbsent (remove t (staged jn)) (staged name)
      by_node None e = e
      by_node (Some node) e =
          let same : name ≡ jn = only name node (was_there t (staged jn) (staged name) node e) in
          ap (λ (n : List ℕ). get (remove t (staged jn)) (staged n)) same ∙ removed-itself t (staged jn)

  pub can_close : (xs : Items) (h : History) → ClearsItems jn xs (current_tree h) → IsDir (current_tree h) staging → IsFile (current_tree h) (staged jn) → CanAll (close_calls jn xs) h
  can_close [] h only dir file = (
    tt,
    (
      (file_stands (get (current_tree h) (staged jn)) file, λ is_dir. file_not_dir (get (current_tree h) (staged jn)) file is_dir),
      ((still_dir (current_tree h) jn dir, (λ e. (let k : staging ≡ [] = e in cc)), none_left (current_tree h) only), (tt, tt)),
    ),
  )
  can_close ((name, true) ∷ xs) h can dir file =
      (can.1, can_close xs (Then h (call.RemoveDir (staged name))) can.2 (still_dir (current_tree h) name dir) (still_file (current_tree h) jn name can.0 file))
  can_close ((name, false) ∷ xs) h can dir file =
      (can.1, can_close xs (Then h (call.Remove (staged name))) can.2 (still_dir (current_tree h) name dir) (still_file (current_tree h) jn name can.0 file))

can_unstage : (names : List (List ℕ)) (h : History) → Unstages names (current_tree h) → CanAll (unstage_calls names ++ call.Sync ∷ []) h
can_unstage names h can =
    can_append h (unstage_calls names) (call.Sync ∷ []) (closed_can (IsStaging (current_tree h)) h (unstage_calls names) (closed_unstage (current_tree h) names h can)) (tt, tt)

-- ---- the marker that stands

or_left : (a b : Bool) → a ≡ true → (a || b) ≡ true
or_left a b p = cc

or_right : (a b : Bool) → b ≡ true → (a || b) ≡ true
or_right true b p = refl
or_right false b p = p

marker_what : (what : StagedName) (m : marker.Marker) → marker_in what ≡ Some m → what ≡ Marker m
marker_what New m e = cc
marker_what (Journal j) m e = cc
marker_what (Marker n) m e = cc
marker_what (Entry x) m e = cc
marker_what Other m e = cc

found_name : (t : FileTree) (m : marker.Marker) (names : List (List ℕ)) → marker_at (find is_marker (map (found_at t) names)) ≡ Some m
    → (n : List ℕ) × (list_any (bytes_eq n) names ≡ true) × (marker_in (name_read n) ≡ Some m)
found_name t m [] e = cc
found_name t m (x ∷ names) e = by_test (found_name t m names) (is_marker (found_at t x)) e
  where
    by_test : (marker_at (find is_marker (map (found_at t) names)) ≡ Some m → (n : List ℕ) × (list_any (bytes_eq n) names ≡ true) × (marker_in (name_read n) ≡ Some m)) → (b : Bool) → marker_at (cond b (Some (found_at t x)) (find is_marker (map (found_at t) names))) ≡ Some m
        → (n : List ℕ) × (list_any (bytes_eq n) (x ∷ names) ≡ true) × (marker_in (name_read n) ≡ Some m)
    by_test rest true is = (x, or_left (bytes_eq x x) (list_any (bytes_eq x) names) ((bytes_eq-Decides x x).1 refl), is)
    by_test rest false is = let more = rest is in (more.0, or_right (bytes_eq more.0 x) (list_any (bytes_eq more.0) names) more.1, more.2)

-- ---- what stands

few_is : (m n : ℕ) → nat_lt n m ≡ false → m ≤ n
few_is m n e = grind (arith, nat_tests)

steps_few : (t : FileTree) (j : Option journal.Journal) (steps : List _) → HasSteps t j steps → length steps < 2 ^ 32
steps_few t None steps has = let none : length steps ≡ 0 = ap length has in omega arith
steps_few t (Some j) steps has = has.2.journal.journal.few

marked_few : (o : Option marker.Marker) (m : marker.Marker) (n : ℕ) → o ≡ Some m → counts_more o n ≡ false → m.number ≤ n
marked_few o m n is few = few_is m.number n (sym (ap (λ (x : Option marker.Marker). counts_more x n) is) ∙ few)

module _ (h : History) (l : Leftovers) (found : HasFound h l) where
  abbrev t : FileTree
  t = current_tree h

  abbrev row : Option journal.Journal
  row = journal_of (found_in t)

  in_place : foreign_place (found_in t) ≡ None
  in_place = sym (ap foreign_place found.standing.found) ∙ found.sorted.in_order

  order : IsInOrder (found_in t)
  order = in_order (found_in t) in_place

  pub standing_is : l.standing ≡ standing_of (found_in t)
  standing_is = found.sorted.standing ∙ ap standing_of found.standing.found

  row_is : l.standing.journal ≡ row
  row_is = ap (λ (s : Standing). s.journal) standing_is

  pub few_steps : length l.steps < 2 ^ 32
  few_steps = steps_few t row l.steps found.standing.steps

  pub within : (m : marker.Marker) → marker_of (found_in t) ≡ Some m → m.number ≤ length l.steps
  within m is = marked_few (marker_of (found_in t)) m (length l.steps) is
      (counted (found_in t) (length l.steps) (subst (λ (fs : List Found). beyond_place fs (length l.steps) ≡ None) found.standing.found found.sorted.counted))

  exact : (m : marker.Marker) → marker_of (found_in t) ≡ Some m → m.number < 2 ^ 64 - 1
  exact m is = let few = few_steps in let le = within m is in omega arith

  pub stood_at : (n : List ℕ) (node : Node) → get t (staged n) ≡ Some node → Stood t n node
  stood_at n node is = stood t order exact n node is

  -- ---- without a journal

  module _ (none : l.standing.journal ≡ None) where
    allows_early : (m : marker.Marker) → IsTrue (allows_marker row m) → IsTrue (allows_marker None m)
    allows_early m allowed = subst (λ (j : Option journal.Journal). IsTrue (allows_marker j m)) (sym row_is ∙ none) allowed

    early : (name : List ℕ) (node : Node) → Stood t name node → IsEarly name node
    early name node (a_new named without file) = inl (record { named = named; kind = file })
    early name node (a_journal j is named file) = absurd (no_journal j (sym none ∙ row_is ∙ is))
    early name node (a_marker m is read named allowed file) = by_side m.side refl
      where
        by_side : (s : Side) → m.side ≡ s → IsEarly name node
        by_side At e =
            let zero_is : m.number ≡ 0 = eqb-true m.number 0 (and_both (is_at m.side) (m.number == 0) (allows_early m allowed)).1 in
            inr (inl (record { named = named ∙ ap (λ (x : Side). marker_name x m.number) e ∙ ap at_marker zero_is; kind = file }))
        by_side Back e = absurd (not_both (sym (and_both (is_at m.side) (m.number == 0) (allows_early m allowed)).0 ∙ ap is_at e))
    early name node (an_entry x read named small allowed may) = by_role x.role refl allowed may
      where
        by_role : (r : Role) → x.role ≡ r → IsTrue (allows_entry row r) → MayBe t name node r → IsEarly name node
        by_role Fresh e allows kind = inr (inr (record { number = x.number; small = small; named = named ∙ ap (λ (r : Role). name_of (record { role = r; number = x.number })) e; kind = kind }))
        by_role Held e allows kind = absurd (not_both (sym (subst (λ (j : Option journal.Journal). IsTrue (allows_entry j Held)) (sym row_is ∙ none) allows)))
        by_role Temporary e allows kind = absurd (not_both (sym (subst (λ (j : Option journal.Journal). IsTrue (allows_entry j Temporary)) (sym row_is ∙ none) allows)))

    pub only_early : HoldsOnly t IsEarly
    only_early name node is = early name node (stood_at name node is)

    pub all_unstages : Unstages l.names.items t
    all_unstages =
        let names = names_in t staging in
        let read = all_read t in
        subst (λ (ns : List (List ℕ)). Unstages ns t) (sym found.standing.names)
        (early_suffice t found.standing.dir only_early names (subst (AreRead t (λ name. ⊥)) (files_are t only_early names read.each) read))

    pub can_clear : (now : History) → current_tree now ≡ t → CanAll (unstage_calls l.names.items ++ call.Sync ∷ []) now
    can_clear now is = can_unstage l.names.items now (subst (Unstages l.names.items) (sym is) all_unstages)

  -- ---- with `done` and `undone`

  module _ (j : journal.Journal) (last : l.standing.journal ≡ Some j) where
    row_last : row ≡ Some j
    row_last = sym row_is ∙ last

    abbrev jn : List ℕ
    jn = journal_name j

    jn_read : name_read jn ≡ Journal j
    jn_read = names_read jn (Journal j) tt refl

    cover : (n : List ℕ) → Stands t (staged n) → (n ≡ jn) ⊎ ((is_entry_name (name_read n) ≡ true) ⊎ (is_marker_name (name_read n) ≡ true))
    cover n stands = let node = some_stands (get t (staged n)) stands in by_stood node.0 (stood_at n node.0 node.1)
      where
        by_stood : (node : Node) → Stood t n node → (n ≡ jn) ⊎ ((is_entry_name (name_read n) ≡ true) ⊎ (is_marker_name (name_read n) ≡ true))
        by_stood node (a_new named without file) = absurd (no_journal j (sym without ∙ row_last))
        by_stood node (a_journal k is named file) = inl (named ∙ ap journal_name (same_journal k j (sym is ∙ row_last)))
        by_stood node (a_marker m is read named allowed file) = inr (inr (ap is_marker_name read))
        by_stood node (an_entry x read named small allowed may) = inr (inl (ap is_entry_name read))

    pub others_read : AreRead t (λ n. n ≡ jn) (other_items l)
    others_read =
        let P : List (List ℕ) → List Found → Type 0 = λ ns fs. AreRead t (λ n. n ≡ jn) (items_by is_entry_name ns fs ++ items_by is_marker_name ns fs) in
        subst (λ (ns : List (List ℕ)). P ns l.found.items) (sym found.standing.names)
        (subst (λ (fs : List Found). P (names_in t staging) fs) (sym found.standing.found)
        (both_read t jn (ap is_entry_name jn_read) (ap is_marker_name jn_read) cover))

    module _ (kept : (r : Role) (name : List ℕ) (node : Node) → IsTrue (allows_entry (Some j) r) → MayBe t name node r → is_dir_node (Some node) ≡ true → IsEmptyAt t (staged name)) where
      empty : AreEmpty t (λ n. n ≡ jn)
      empty name dir other = let node = dir_stands (get t (staged name)) dir in by_stood node.0 (sym (ap is_dir_node node.1) ∙ dir) (stood_at name node.0 node.1)
        where
          by_stood : (node : Node) → is_dir_node (Some node) ≡ true → Stood t name node → IsEmptyAt t (staged name)
          by_stood node is_dir (a_new named without file) = absurd (file_no_dir node file is_dir)
          by_stood node is_dir (a_journal k is named file) = absurd (file_no_dir node file is_dir)
          by_stood node is_dir (a_marker m is read named allowed file) = absurd (file_no_dir node file is_dir)
          by_stood node is_dir (an_entry x read named small allowed may) = kept x.role name node (subst (λ (o : Option journal.Journal). IsTrue (allows_entry o x.role)) row_last allowed) may is_dir

      can_end : (now : History) → current_tree now ≡ t → CanAll (close_calls jn (other_items l)) now
      can_end now is = can_close jn (other_items l) now
          (subst (ClearsItems jn (other_items l)) (sym is) (clears jn (other_items l) t empty others_read))
          (subst (λ (u : FileTree). IsDir u staging) (sym is) found.standing.dir)
          (subst (λ (u : FileTree). IsFile u (staged jn)) (sym is) (journal_file t in_place j row_last))

  held_kept : (r : Role) (name : List ℕ) (node : Node) → IsTrue (allows_entry (Some Done) r) → MayBe t name node r → is_dir_node (Some node) ≡ true → IsEmptyAt t (staged name)
  held_kept Fresh name node allows may dir = absurd (not_both (sym allows))
  held_kept Held name node allows may dir = ⊎_elim (λ link. absurd (link_no_dir node link dir)) (λ empty. empty) may
  held_kept Temporary name node allows may dir = absurd (not_both (sym allows))

  fresh_kept : (r : Role) (name : List ℕ) (node : Node) → IsTrue (allows_entry (Some Undone) r) → MayBe t name node r → is_dir_node (Some node) ≡ true → IsEmptyAt t (staged name)
  fresh_kept Fresh name node allows may dir = absurd (link_no_dir node may dir)
  fresh_kept Held name node allows may dir = absurd (not_both (sym allows))
  fresh_kept Temporary name node allows may dir = absurd (not_both (sym allows))

  pub can_seal : l.standing.journal ≡ Some Done → (now : History) → current_tree now ≡ t → CanAll (close_calls sealed (other_items l)) now
  can_seal last now is = can_end Done last held_kept now is

  pub can_undo : l.standing.journal ≡ Some Undone → (now : History) → current_tree now ≡ t → CanAll (close_calls undone (other_items l)) now
  can_undo last now is = can_end Undone last fresh_kept now is

  -- ---- with `plan`

  module _ (m : marker.Marker) (marked : l.standing ≡ record { journal = Some Plan; marker = Some m }) where
    planned : row ≡ Some Plan
    planned = sym row_is ∙ ap (λ (s : Standing). s.journal) marked

    one : marker_of (found_in t) ≡ Some m
    one = sym (ap (λ (s : Standing). s.marker) standing_is) ∙ ap (λ (s : Standing). s.marker) marked

    marker_file : IsFile t (staged (marker_name m.side m.number))
    marker_file =
        let n = found_name t m (names_in t staging) one in
        let node = some_stands (get t (staged n.0)) (sym (names_stand t staging n.0) ∙ n.1) in
        by_stood n.0 (marker_what (name_read n.0) m n.2) node.0 node.1 (stood_at n.0 node.0 node.1)
      where
        by_stood : (n : List ℕ) → name_read n ≡ Marker m → (node : Node) → get t (staged n) ≡ Some node → Stood t n node → IsFile t (staged (marker_name m.side m.number))
        by_stood n what node is (a_new named without file) = absurd (no_journal Plan (sym without ∙ planned))
        by_stood n what node is (a_journal j of named file) = let clash : Marker m ≡ Journal j = sym what ∙ ap name_read named ∙ names_read (journal_name j) (Journal j) tt refl in cc
        by_stood n what node is (a_marker k of read named allowed file) =
            let same : k ≡ m = same_marker k m (sym of ∙ one) in
            subst (λ (x : List ℕ). IsFile t (staged x)) (named ∙ ap (λ (x : marker.Marker). marker_name x.side x.number) same) (ap is_file_node is ∙ node_file node file)
        by_stood n what node is (an_entry x read named small allowed may) = let clash : Marker m ≡ Entry x = sym what ∙ read in cc

    pub is_marked : IsUnderway plan (marker_name m.side m.number) l.entries.items t
    is_marked = record {
      directory = found.standing.dir;
      journal_there = journal_file t in_place Plan planned;
      marker_there = marker_file;
      only = λ name stands. let node = some_stands (get t (staged name)) stands in by_stood name stands node.0 (stood_at name node.0 node.1);
    }
      where
        by_stood : (name : List ℕ) → Stands t (staged name) → (node : Node) → Stood t name node → (name ≡ plan) ⊎ ((name ≡ marker_name m.side m.number) ⊎ IsNamed name l.entries.items)
        by_stood name stands node (a_new named without file) = absurd (no_journal Plan (sym without ∙ planned))
        by_stood name stands node (a_journal j is named file) = inl (named ∙ ap journal_name (same_journal j Plan (sym is ∙ planned)))
        by_stood name stands node (a_marker k is read named allowed file) = inr (inl (named ∙ ap (λ (x : marker.Marker). marker_name x.side x.number) (same_marker k m (sym is ∙ one))))
        by_stood name stands node (an_entry x read named small allowed may) =
            inr (inr (subst (λ (n : List ℕ). IsNamed n l.entries.items) (sym named) (among_named l.entries.items x
            (entry_among l.found.items l.names.items found.sorted.named l.steps found.sorted.steps l.entries.items found.sorted.entries t found.standing.found x small
            (subst (λ (n : List ℕ). Stands t (staged n)) named stands)))))
