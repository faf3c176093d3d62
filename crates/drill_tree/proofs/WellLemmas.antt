-- That the edits of a drill are well formed in its tree, whatever the numbers of its files.
use Rattle.std.proofs.Common.{◌≡◌, inl, inr, ℕ, suc, ◌-◌, ◌<◌, ◌≤◌, ◌==◌, Bool, true, false, not, ◌&&◌, ◌||◌, List, [], ◌∷◌, ◌++◌, length, refl, sym, ◌∙◌, ap, subst, arith, get_or, Contains, Option, Some, None, is_some, IsTrue, length-append}
use Rattle.std.specs.FinMap.{get}
use Rattle.std.proofs.lemmas.Bool.{and_parts, eqb-true, or_cases}
use Rattle.std.proofs.lemmas.Option.{none-some, same_Some}
use Rattle.dired_text.specs.Paths.{Names, is_below, parent, path_bytes}
use Rattle.tree_core.specs.declared.edit.Shown.{Shown}
use Rattle.tree_core.specs.declared.node.Node.{Node}
use Rattle.tree_core.specs.declared.node.Node.TheVariants.{Dir}
use Rattle.tree_core.specs.FileTree.{FileTree, IsDir, Stands, is_dir_node}
use Rattle.tree_core.proofs.TreeLemmas.{none_of}
use Rattle.edit_words.specs.declared.row.Row.{Row}
use Rattle.edit_words.specs.Rows.{is_at, is_elsewhere, is_same_path, is_source, route_of, rows, written}
use Rattle.edit_words.specs.Place.{IsAbove, is_above, place}
use Rattle.edit_words.specs.Refusals.{staging}
use Rattle.edit_words.specs.Sight.{sight_of}
use Rattle.edit_words.specs.WellFormed.{CanBeMade, IsShown, IsStagedAt, IsWellFormed, ShowsNode}
use Rattle.edit_words.proofs.AboveLemmas.{above_decides}
use Rattle.edit_words.proofs.SameLemmas.{same_path, same_itself}
use Rattle.edit_laws.proofs.ListLemmas.{one, before, after, ordered, any_parts, find_from}
use Rattle.drill_tree.specs.declared.moves.Move.{Move}
use Rattle.drill_tree.specs.Groups.{group_name, group_of, held, moves}
use Rattle.drill_tree.specs.Drill.{drill_edits, drill_tree, node_of, shown}
use Rattle.drill_tree.specs.Laws.{DrillsCanBeMade}
use Rattle.drill_tree.proofs.GroupLemmas.{IsGood, is_source_of, law, not_both}
use Rattle.drill_tree.proofs.DrillLemmas.{RowOf, StoodAs, root, group, group_here, held_here, not_root, one_group, root_here, row_at, row_came, row_there, same_first, same_rest, stood}
use Rattle.drill_tree.proofs.DrillLemmas.{one as one_held}
use Rattle.drill_tree.proofs.MadeLemmas.{OtherPlace, bytes_few, bytes_within, in_group, place_few, places_differ}

-- ---- what needs no tree

-- the first byte of a name
first_byte : List ℕ → ℕ
first_byte name = get_or name 0 0

-- the staging directory is in no group
not_staging : (g : ℕ) (p q : Names) → staging ≡ group_name g ∷ q → ⊥
unfolding first_byte
not_staging g p q e = let byte : 46 ≡ 103 = ap first_byte (same_first _ (group_name g) [] q e) in omega (arith, byte)

unstaged_at : (g : ℕ) (p : Names) → IsStagedAt (Some (group_name g ∷ p)) → ⊥
unstaged_at g p (q, is, below) = let never : false ≡ true = subst (λ (x : Names). IsTrue (is_below staging x)) (sym (same_Some (group_name g ∷ p) q is)) below in cc

-- the directory of a path in a group
parent_in : (n : List ℕ) (p : Names) → 1 ≤ length p → parent (n ∷ p) ≡ n ∷ parent p
parent_in n [] some = absurd (omega (arith, some))
parent_in n (m ∷ p) some = let e : length (n ∷ m ∷ p) - 1 ≡ suc (length (m ∷ p) - 1) = omega arith in rw e refl

-- a row that goes elsewhere goes to a path of one name in its group
far_is_one : (g line : ℕ) (m : Move) → IsGood (group_of g) m → is_elsewhere (row_at g line m) ≡ true → length m.to ≡ 1
far_is_one g line m good far = elim (or_cases (is_same_path (parent m.source) (parent m.to)) (length m.to == 1) good.near) [
  | inl same ↦
      let parents : parent (group_name g ∷ m.source) ≡ parent (group_name g ∷ m.to) =
      parent_in (group_name g) m.source good.source.some ∙ ap (λ (p : Names). group_name g ∷ p) (same_path (parent m.source) (parent m.to) same) ∙ sym (parent_in (group_name g) m.to good.to.some) in
      absurd (not_both (is_same_path (parent (group_name g ∷ m.source)) (parent (group_name g ∷ m.to))) far
      (subst (λ (p : Names). is_same_path (parent (group_name g ∷ m.source)) p ≡ true) parents (same_itself (parent (group_name g ∷ m.source)))))
  | inr single ↦ eqb-true (length m.to) 1 single
]

-- no path of two names or more is above one of two
none_above : (g : ℕ) (u to : Names) → 2 ≤ length u → length to ≡ 1 → IsAbove u (group_name g ∷ to) → ⊥
none_above g u to long single (name, rest, is) =
    let size : length (group_name g ∷ to) ≡ length (u ++ name ∷ rest) = ap length is in
    let parts = length-append u (name ∷ rest) in
    omega (arith, size, parts, long, single)

to_one_row : (n : ℕ) (r o : Row) → Contains (rows (drill_edits n)) r → Contains (rows (drill_edits n)) o → written r ≡ written o → r.line ≡ o.line
to_one_row n r o cr co same = elim (ordered OtherPlace (rows (drill_edits n)) r o (places_differ n) cr co) [
  | one e ↦ ap (λ (x : Row). x.line) e
  | before differ ↦ absurd (differ same)
  | after differ ↦ absurd (differ (sym same))
]

source_of : (n : ℕ) (r : Row) (s : Names) (o : RowOf n r) → r.source ≡ Some s → group_name o.group ∷ o.move.source ≡ s
source_of n r s o e = same_Some (group_name o.group ∷ o.move.source) s (sym (ap (λ (x : Row). x.source) o.is) ∙ e)

place_of : (n : ℕ) (r : Row) (p : Names) (o : RowOf n r) → r.to ≡ Some p → group_name o.group ∷ o.move.to ≡ p
place_of n r p o e = same_Some (group_name o.group ∷ o.move.to) p (sym (ap (λ (x : Row). x.to) o.is) ∙ e)

pub written_of_row : (n : ℕ) (r : Row) (o : RowOf n r) → written r ≡ group_name o.group ∷ o.move.to
written_of_row n r o = ap written o.is

good_of : (n : ℕ) (r : Row) (o : RowOf n r) → IsGood (group_of o.group) o.move
good_of n r o = (law o.group).good o.move o.listed

pub far_of : (n : ℕ) (r : Row) (o : RowOf n r) → is_elsewhere r ≡ true → length o.move.to ≡ 1
far_of n r o far = far_is_one o.group o.line o.move (good_of n r o) (subst (λ (x : Row). is_elsewhere x ≡ true) o.is far)

-- nothing that is written or moved is above the place of a row that goes elsewhere
far_above : (n : ℕ) (r : Row) (g : ℕ) (p : Names) → Contains (rows (drill_edits n)) r → is_elsewhere r ≡ true → 1 ≤ length p → IsAbove (group_name g ∷ p) (written r) → ⊥
far_above n r g p c far some above =
    let o = row_came n r c in
    none_above o.group (group_name g ∷ p) o.move.to (omega (arith, some)) (far_of n r o far) (subst (IsAbove (group_name g ∷ p)) (written_of_row n r o) above)

short_row : (n : ℕ) (r : Row) (s : Names) → Contains (rows (drill_edits n)) r → r.source ≡ Some s → path_bytes (place (route_of (rows (drill_edits n))) s) ≤ 4095
short_row n r s c e =
    let o = row_came n r c in
    let few = place_few n (group_name o.group ∷ o.move.source) (in_group o.group o.move.source (good_of n r o).source) in
    let bytes = bytes_few (place (route_of (rows (drill_edits n))) (group_name o.group ∷ o.move.source)) in
    subst (λ (p : Names). path_bytes (place (route_of (rows (drill_edits n))) p) ≤ 4095) (source_of n r s o e) (omega (arith, few, bytes))

-- a path that a move of a group leaves is a source
is_left : (n g : ℕ) (p : Names) → g < n → is_source_of (group_of g) p ≡ true → is_source (rows (drill_edits n)) (group_name g ∷ p) ≡ true
is_left n g p most e =
    let found = any_parts (λ (o : Move). is_same_path p o.source) (moves (group_of g)) e in
    let at = row_there n g found.0 most found.1 in
    let same : group_name g ∷ p ≡ group_name g ∷ found.0.source = ap (λ (q : Names). group_name g ∷ q) (same_path p found.0.source found.2) in
    let here : is_at (group_name g ∷ p) (Some (group_name g ∷ found.0.source)) ≡ true =
    subst (λ (q : Names). is_same_path (group_name g ∷ p) q ≡ true) same (same_itself (group_name g ∷ p)) in
    let row = find_from (λ (r : Row). is_at (group_name g ∷ p) r.source) (rows (drill_edits n)) (row_at g at.line found.0) at.listed here in
    ap is_some row.1

-- ---- in the tree

module _ (numbers : Names → ℕ) (n : ℕ) where
  abbrev Tree : FileTree
  Tree = drill_tree numbers n

  abbrev Rows : List Row
  Rows = rows (drill_edits n)

  node_at : (q : Names) → Stands Tree q → (node : Node) × StoodAs numbers n q node
  node_at q stands = of (get Tree q) stands refl
    where
      of : (o : Option Node) → IsTrue (is_some o) → get Tree q ≡ o → (node : Node) × StoodAs numbers n q node
      of None is e = cc
      of (Some node) is e = (node, stood numbers n q node e)

  unstaged : get Tree staging ≡ None
  unstaged = none_of (get Tree staging) (λ stands. of (node_at staging stands).0 (node_at staging stands).1)
    where
      of : (node : Node) → StoodAs numbers n staging node → ⊥
      of node (root e is) = not_root _ [] e
      of node (group g most e is) = not_staging g [] [] e
      of node (one_held g h most c e is) = not_staging g [] h.path e

  shows : (p : Names) (b : Bool) → ShowsNode (shown b) (node_of numbers p b)
  shows p true = (refl, refl)
  shows p false = (refl, refl)

  shown_at : (g line : ℕ) (m : Move) → g < n → Contains (moves (group_of g)) m → IsShown Tree (row_at g line m)
  shown_at g line m most c = λ s was is_source is_was.
      let good = (law g).good m c in
      let here : get Tree (group_name g ∷ m.source) ≡ Some (node_of numbers (group_name g ∷ m.source) m.is_dir) =
      ap (λ (p : Names). get Tree (group_name g ∷ p)) (sym good.path) ∙ held_here numbers n g good.shown most good.listed
      ∙ ap (λ (p : Names). Some (node_of numbers (group_name g ∷ p) good.shown.is_dir)) good.path
      ∙ ap (λ (b : Bool). Some (node_of numbers (group_name g ∷ m.source) b)) good.same in (
        node_of numbers (group_name g ∷ m.source) m.is_dir,
        ap (λ (p : Names). get Tree p) (sym (same_Some (group_name g ∷ m.source) s is_source)) ∙ here,
        subst (λ (w : Shown). ShowsNode w (node_of numbers (group_name g ∷ m.source) m.is_dir)) (same_Some (shown m.is_dir) was is_was) (shows (group_name g ∷ m.source) m.is_dir),
      )

  dir_at : (q : Names) → get Tree q ≡ Some (Dir 0o755) → IsDir Tree q
  dir_at q e = subst (λ (o : Option Node). IsTrue (is_dir_node o)) (sym e) refl

  -- in the path of a move, what is above it in its group is a directory
  parent_at : (g : ℕ) (m : Move) (u : Names) → g < n → Contains (moves (group_of g)) m → IsAbove u (group_name g ∷ m.to) → Stands Tree u → IsDir Tree u
  parent_at g m u most c above stands = of (node_at u stands).0 (node_at u stands).1
    where
      of : (node : Node) → StoodAs numbers n u node → IsDir Tree u
      of node (root e is) = subst (IsDir Tree) (sym e) (dir_at [] (root_here numbers n))
      of node (group h less e is) = subst (IsDir Tree) (sym e) (dir_at (group_name h ∷ []) (group_here numbers n h less))
      of node (one_held h x less cx e is) =
          let path : group_name g ∷ m.to ≡ group_name h ∷ (x.path ++ above.0 ∷ above.1) = above.2 ∙ ap (λ (p : Names). p ++ above.0 ∷ above.1) e in
          let same : h ≡ g = sym (one_group g h m.to (x.path ++ above.0 ∷ above.1) path) in
          let inner : m.to ≡ x.path ++ above.0 ∷ above.1 = same_rest (group_name g) (group_name h) m.to (x.path ++ above.0 ∷ above.1) path in
          let cx' : Contains (held (group_of g)) x = subst (λ (k : ℕ). Contains (held (group_of k)) x) same cx in
          let fine = and_parts (not (is_above x.path m.to) || x.is_dir) _ (((law g).good m c).fine x cx') in
          let up : is_above x.path m.to ≡ true = (above_decides x.path m.to).1 (above.0, above.1, inner) in
          let is_dir : x.is_dir ≡ true = elim (or_cases (not (is_above x.path m.to)) x.is_dir fine.0) [ inl low ↦ absurd (not_both (is_above x.path m.to) low up) | inr high ↦ high ] in
          subst (IsDir Tree) (sym e) (dir_at (group_name h ∷ x.path)
          (held_here numbers n h x less cx ∙ ap (λ (b : Bool). Some (node_of numbers (group_name h ∷ x.path) b)) is_dir))

  -- a directory at the path of a move is a source
  replaced_at : (g : ℕ) (m : Move) → g < n → Contains (moves (group_of g)) m → Stands Tree (group_name g ∷ m.to) → IsDir Tree (group_name g ∷ m.to)
      → is_source Rows (group_name g ∷ m.to) ≡ true
  replaced_at g m most c stands dir = of (node_at (group_name g ∷ m.to) stands).0 (node_at (group_name g ∷ m.to) stands).1
    where
      not_file : (b : Bool) (p : Names) → get Tree (group_name g ∷ m.to) ≡ Some (node_of numbers p b) → b ≡ true
      not_file true p e = refl
      not_file false p e = let never : false ≡ true = subst (λ (o : Option Node). IsTrue (is_dir_node o)) e dir in cc

      of : (node : Node) → StoodAs numbers n (group_name g ∷ m.to) node → is_source Rows (group_name g ∷ m.to) ≡ true
      of node (root e is) = absurd (not_root (group_name g) m.to e)
      of node (group h less e is) =
          let none : m.to ≡ [] = same_rest (group_name g) (group_name h) m.to [] e in
          let size : length m.to ≡ 0 = ap length none in
          let some = ((law g).good m c).to.some in
          absurd (omega (arith, size, some))
      of node (one_held h x less cx e is) =
          let same : h ≡ g = sym (one_group g h m.to x.path e) in
          let inner : x.path ≡ m.to = sym (same_rest (group_name g) (group_name h) m.to x.path e) in
          let cx' : Contains (held (group_of g)) x = subst (λ (k : ℕ). Contains (held (group_of k)) x) same cx in
          let here = ap (λ (p : Names). get Tree p) e ∙ held_here numbers n h x less cx in
          let is_dir : x.is_dir ≡ true = not_file x.is_dir (group_name h ∷ x.path) here in
          let fine = and_parts (not (is_above x.path m.to) || x.is_dir) _ (((law g).good m c).fine x cx') in
          let both : (x.is_dir && is_same_path x.path m.to) ≡ true =
          rw is_dir (subst (λ (p : Names). is_same_path x.path p ≡ true) inner (same_itself x.path)) in
          let left : is_source_of (group_of g) m.to ≡ true = elim (or_cases (not (x.is_dir && is_same_path x.path m.to)) (is_source_of (group_of g) m.to) fine.1) [
            | inl other ↦ absurd (not_both (x.is_dir && is_same_path x.path m.to) other both)
            | inr leaves ↦ leaves
          ] in
          is_left n g m.to most left

  false_true : (b : Bool) → b ≡ false → b ≡ true → ⊥
  false_true true e f = cc
  false_true false e f = cc

  pub well_formed : IsWellFormed Tree Rows
  well_formed = record {
    unstaged = unstaged;
    shown = λ r c. let o = row_came n r c in subst (IsShown Tree) (sym o.is) (shown_at o.group o.line o.move o.below o.listed);
    unreserved = λ r c staged.
        let o = row_came n r c in
        elim staged [
          | inl s ↦ unstaged_at o.group o.move.source (subst IsStagedAt (ap (λ (x : Row). x.source) o.is) s)
          | inr s ↦ unstaged_at o.group o.move.to (subst IsStagedAt (ap (λ (x : Row). x.to) o.is) s)
        ];
    to_one = to_one_row n;
    modes = λ r o number m k cr co hr ho is_m is_k.
        let x = row_came n r cr in
        absurd (none-some m (sym (ap (λ (y : Row). y.mode) x.is) ∙ is_m));
    parents = λ r u c far above stands.
        let o = row_came n r c in
        parent_at o.group o.move u o.below o.listed (subst (IsAbove u) (written_of_row n r o) above) stands;
    unmoved = λ r o s cr co far mover above.
        let x = row_came n o co in
        let is = source_of n o s x mover.0 in
        far_above n r x.group x.move.source cr far (good_of n o x).source.some (subst (λ (p : Names). IsAbove p (written r)) (sym is) above);
    untaken = λ r o cr co far above.
        let x = row_came n o co in
        absurd (far_above n r x.group x.move.to cr far (good_of n o x).to.some (subst (λ (p : Names). IsAbove p (written r)) (written_of_row n o x) above));
    short = short_row n;
    replaceable = λ r p c victim dir.
        let o = row_came n r c in
        let is = place_of n r p o victim.0 in
        false_true (is_source Rows p) victim.2
        (subst (λ (q : Names). is_source Rows q ≡ true) is
        (replaced_at o.group o.move o.below o.listed (subst (Stands Tree) (sym is) victim.1) (subst (IsDir Tree) (sym is) dir)));
    removable = λ r p name c removes is.
        let o = row_came n r c in
        absurd (false_true r.removes (ap (λ (x : Row). x.removes) o.is) removes);
  }

pub can_be_made : DrillsCanBeMade
can_be_made n t confirmed most (numbers, is) all = subst (λ (u : FileTree). CanBeMade u confirmed (rows (drill_edits n))) (sym is) (record {
  well_formed = well_formed numbers n;
  victims = λ r p c victim. rw all refl;
  fits = bytes_within n (sight_of (drill_tree numbers n)) most;
})
