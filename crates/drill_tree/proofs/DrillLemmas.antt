-- What stands in the tree of a drill, and its edits one by one.
use Rattle.std.proofs.Common.{◌≡◌, ◌≢◌, inl, inr, ℕ, ◌+◌, ◌*◌, ◌<◌, ◌≤◌, List, [], ◌∷◌, map, length, refl, sym, ◌∙◌, ap, subst, arith, Contains, Some}
use Rattle.std.specs.List.{flat_map}
use Rattle.std.specs.FinMap.{find, get}
use Rattle.std.proofs.lemmas.Bool.{cases_Bool, cond-true, cond-false}
use Rattle.std.proofs.lemmas.Option.{none-some, same_Some}
use Rattle.dired_text.specs.Paths.{Names, path_cmp}
use Rattle.tree_core.specs.declared.edit.Edit.{Edit}
use Rattle.tree_core.specs.declared.node.Node.{Node}
use Rattle.tree_core.specs.declared.node.Node.TheVariants.{Dir}
use Rattle.tree_core.proofs.TreeLemmas.{get-made, tie, tie-other}
use Rattle.edit_words.specs.declared.row.Row.{Row}
use Rattle.edit_words.specs.Rows.{edit_row, rows}
use Rattle.edit_words.proofs.SameLemmas.{same_path, same_itself}
use Rattle.edit_laws.proofs.ListLemmas.{contains_head, contains_tail, contains_cases, contains_map, contains_none, map_parts, contains_flat, flat_parts}
use Rattle.drill_tree.specs.declared.moves.Move.{Move}
use Rattle.drill_tree.specs.Groups.{Held, below, group_name, group_of, held, moves}
use Rattle.drill_tree.specs.Drill.{drill_edits, drill_moves, drill_tree, edit_of, entries_of, entry_of, group_entries, group_moves, in_dir, node_of, numbered}
use Rattle.drill_tree.proofs.ListLemmas.{Apart, apart_map, apart_weaker, flat_apart, flat_few, range_has, range_parts}
use Rattle.drill_tree.proofs.GroupLemmas.{law, name_injective}

-- ---- parts of paths

rest_of : Names → Names
rest_of [] = []
rest_of (n ∷ p) = p

first_of_names : Names → List ℕ
first_of_names [] = []
first_of_names (n ∷ p) = n

pub same_rest : (n m : List ℕ) (p q : Names) → n ∷ p ≡ m ∷ q → p ≡ q
unfolding rest_of
same_rest n m p q e = ap rest_of e

pub same_first : (n m : List ℕ) (p q : Names) → n ∷ p ≡ m ∷ q → n ≡ m
unfolding first_of_names
same_first n m p q e = ap first_of_names e

pub not_root : (n : List ℕ) (p : Names) → n ∷ p ≡ [] → ⊥
not_root n p e = let size : length (n ∷ p) ≡ 0 = ap length e in omega (arith, size)

-- paths in two groups are in one
pub one_group : (g h : ℕ) (p q : Names) → group_name g ∷ p ≡ group_name h ∷ q → g ≡ h
one_group g h p q e = name_injective g h (same_first (group_name g) (group_name h) p q e)

-- ---- lists of what has a path in a group

module _ {X : Type 0} (path : X → Names) where
  abbrev pub ApartAt : X → X → Type 0
  ApartAt x y = path x ≢ path y

  -- it is in the directory of this group
  pub record IsIn (g : ℕ) (x : X) : Type 0 where
    pub rest : Names
    pub is : path x ≡ group_name g ∷ rest

  pub groups_apart : (f : ℕ → List X) (n : ℕ) → ((g : ℕ) (x : X) → Contains (f g) x → IsIn g x) → ((g : ℕ) → Apart ApartAt (f g)) → Apart ApartAt (flat_map f (below n))
  groups_apart f n inside each = flat_apart ApartAt f 0 n (λ g most. each g) (λ g h less most x y cx cy same.
      let a = inside g x cx in
      let b = inside h y cy in
      let one : g ≡ h = one_group g h a.rest b.rest (sym a.is ∙ same ∙ b.is) in
      absurd (omega (arith, one, less)))

-- ---- the moves

pub record CameOf (n : ℕ) (m : Move) : Type 0 where
  pub group : ℕ
  pub below : group < n
  pub move : Move
  pub listed : Contains (moves (group_of group)) move
  pub is : m ≡ in_dir (group_name group) move

pub move_came : (n : ℕ) (m : Move) → Contains (drill_moves n) m → CameOf n m
move_came n m c =
    let p = flat_parts group_moves (below n) m c in
    let w = range_parts 0 n p.0 p.1 in
    let o = map_parts (in_dir (group_name p.0)) (moves (group_of p.0)) m p.2 in
    record { group = p.0; below = omega (arith, w.1); move = o.0; listed = o.1; is = sym o.2 }

pub move_there : (n g : ℕ) (m : Move) → g < n → Contains (moves (group_of g)) m → Contains (drill_moves n) (in_dir (group_name g) m)
move_there n g m below' c = contains_flat group_moves (below n) g (in_dir (group_name g) m) (range_has 0 n g (omega arith) (omega arith)) (contains_map (in_dir (group_name g)) (moves (group_of g)) m c)

pub sources_apart : (n : ℕ) → Apart (λ (m o : Move). m.source ≢ o.source) (drill_moves n)
sources_apart n = groups_apart (λ (m : Move). m.source) group_moves n
    (λ g x c. let o = map_parts (in_dir (group_name g)) (moves (group_of g)) x c in record { rest = o.0.source; is = ap (λ (m : Move). m.source) (sym o.2) })
    (λ g. apart_map (in_dir (group_name g)) (λ (m o : Move). m.source ≢ o.source) (moves (group_of g))
    (apart_weaker (λ (m o : Move). m.source ≢ o.source) (λ (m o : Move). group_name g ∷ m.source ≢ group_name g ∷ o.source) (moves (group_of g))
    (λ m o differ same. differ (same_rest (group_name g) (group_name g) m.source o.source same)) (law g).sources))

pub places_apart : (n : ℕ) → Apart (λ (m o : Move). m.to ≢ o.to) (drill_moves n)
places_apart n = groups_apart (λ (m : Move). m.to) group_moves n
    (λ g x c. let o = map_parts (in_dir (group_name g)) (moves (group_of g)) x c in record { rest = o.0.to; is = ap (λ (m : Move). m.to) (sym o.2) })
    (λ g. apart_map (in_dir (group_name g)) (λ (m o : Move). m.to ≢ o.to) (moves (group_of g))
    (apart_weaker (λ (m o : Move). m.to ≢ o.to) (λ (m o : Move). group_name g ∷ m.to ≢ group_name g ∷ o.to) (moves (group_of g))
    (λ m o differ same. differ (same_rest (group_name g) (group_name g) m.to o.to same)) (law g).places))

pub length_map : {X Y : Type 0} (f : X → Y) (xs : List X) → length (map f xs) ≡ length xs
length_map f [] = refl
length_map f (x ∷ xs) = let e = length_map f xs in omega (arith, e)

pub moves_few : (n : ℕ) → length (drill_moves n) ≤ 7 * n
moves_few n = let all = flat_few 7 group_moves 0 n (λ g. let few = (law g).few in let e = length_map (in_dir (group_name g)) (moves (group_of g)) in omega (arith, few, e)) in omega (arith, all)

-- ---- the edits

pub record EditIn (k : ℕ) (ms : List Move) (e : Edit) : Type 0 where
  pub line : ℕ
  pub least : k ≤ line
  pub move : Move
  pub listed : Contains ms move
  pub is : e ≡ edit_of line move

pub edit_parts : (k : ℕ) (ms : List Move) (e : Edit) → Contains (numbered k ms) e → EditIn k ms e
edit_parts k [] e c = absurd (contains_none e c)
edit_parts k (m ∷ ms) e c = elim (contains_cases (edit_of k m) e (numbered (k + 1) ms) c) [
  | inl same ↦ record { line = k; least = omega arith; move = m; listed = contains_head m ms; is = sym same }
  | inr later ↦ let p = edit_parts (k + 1) ms e later in let least = p.least in
      record { line = p.line; least = omega (arith, least); move = p.move; listed = contains_tail m p.move ms p.listed; is = p.is }
]

pub record LineOf (k : ℕ) (ms : List Move) (m : Move) : Type 0 where
  pub line : ℕ
  pub listed : Contains (numbered k ms) (edit_of line m)

pub edit_there : (k : ℕ) (ms : List Move) (m : Move) → Contains ms m → LineOf k ms m
edit_there k [] m c = absurd (contains_none m c)
edit_there k (o ∷ ms) m c = elim (contains_cases o m ms c) [
  | inl same ↦ record { line = k; listed = subst (λ (x : Move). Contains (edit_of k o ∷ numbered (k + 1) ms) (edit_of k x)) same (contains_head (edit_of k o) (numbered (k + 1) ms)) }
  | inr later ↦ let p = edit_there (k + 1) ms m later in record { line = p.line; listed = contains_tail (edit_of k o) (edit_of p.line m) (numbered (k + 1) ms) p.listed }
]

-- what is apart in the moves is apart in the edits
pub edits_apart : (R : Move → Move → Type 0) (S : Edit → Edit → Type 0) → ((k l : ℕ) (m o : Move) → k < l → R m o → S (edit_of k m) (edit_of l o))
    → (k : ℕ) (ms : List Move) → Apart R ms → Apart S (numbered k ms)
edits_apart R S there k [] a = tt
edits_apart R S there k (m ∷ ms) a = (
  λ e c.
      let p = edit_parts (k + 1) ms e c in
      let least = p.least in
      subst (S (edit_of k m)) (sym p.is) (there k p.line m p.move (omega (arith, least)) (a.0 p.move p.listed)),
  edits_apart R S there (k + 1) ms a.1,
)

pub length_numbered : (k : ℕ) (ms : List Move) → length (numbered k ms) ≡ length ms
length_numbered k [] = refl
length_numbered k (m ∷ ms) = let e = length_numbered (k + 1) ms in omega (arith, e)

pub row_count : (n : ℕ) → length (rows (drill_edits n)) ≡ length (drill_moves n)
row_count n = length_map edit_row (numbered 1 (drill_moves n)) ∙ length_numbered 1 (drill_moves n)

-- the row of a move of a group, in this line
abbrev pub row_at : ℕ → ℕ → Move → Row
row_at g line m = edit_row (edit_of line (in_dir (group_name g) m))

pub record RowOf (n : ℕ) (r : Row) : Type 0 where
  pub group : ℕ
  pub below : group < n
  pub move : Move
  pub listed : Contains (moves (group_of group)) move
  pub line : ℕ
  pub is : r ≡ row_at group line move

pub row_came : (n : ℕ) (r : Row) → Contains (rows (drill_edits n)) r → RowOf n r
row_came n r c =
    let e = map_parts edit_row (numbered 1 (drill_moves n)) r c in
    let p = edit_parts 1 (drill_moves n) e.0 e.1 in
    let m = move_came n p.move p.listed in
    record {
      group = m.group;
      below = m.below;
      move = m.move;
      listed = m.listed;
      line = p.line;
      is = sym e.2 ∙ ap edit_row p.is ∙ ap (λ (o : Move). edit_row (edit_of p.line o)) m.is;
    }

pub record RowAt (n g : ℕ) (m : Move) : Type 0 where
  pub line : ℕ
  pub listed : Contains (rows (drill_edits n)) (row_at g line m)

pub row_there : (n g : ℕ) (m : Move) → g < n → Contains (moves (group_of g)) m → RowAt n g m
row_there n g m below' c =
    let p = edit_there 1 (drill_moves n) (in_dir (group_name g) m) (move_there n g m below' c) in
    record { line = p.line; listed = contains_map edit_row (numbered 1 (drill_moves n)) (edit_of p.line (in_dir (group_name g) m)) p.listed }

-- ---- the tree

abbrev pub Entry : Type 0
Entry = Names × Node

abbrev pub OtherPath : Entry → Entry → Type 0
OtherPath d e = d.0 ≢ e.0

pub find_here : (es : List Entry) → Apart OtherPath es → (e : Entry) → Contains es e → find path_cmp e.0 es ≡ Some e.1
find_here [] a e c = absurd (contains_none e c)
find_here (d ∷ es) a e c = elim (contains_cases d e es c) [
  | inl same ↦ subst (λ (x : Entry). find path_cmp x.0 (d ∷ es) ≡ Some x.1) same (cond-true (tie d.0 d.0) (Some d.1) (find path_cmp d.0 es) (same_itself d.0))
  | inr later ↦ cond-false (tie e.0 d.0) (Some d.1) (find path_cmp e.0 es) (tie-other e.0 d.0 (λ same. a.0 e later (sym same))) ∙ find_here es a.1 e later
]

pub find_came : (es : List Entry) (q : Names) (node : Node) → find path_cmp q es ≡ Some node → Contains es (q, node)
find_came [] q node e = absurd (none-some node e)
find_came (d ∷ es) q node e = elim (cases_Bool (tie q d.0)) [
  | inl here ↦
      let path : d.0 ≡ q = sym (same_path q d.0 here) in
      let same : d.1 ≡ node = same_Some d.1 node (sym (cond-true (tie q d.0) (Some d.1) (find path_cmp q es) here) ∙ e) in
      let pair : (d.0, d.1) ≡ (q, node) = ap (λ (p : Names). (p, d.1)) path ∙ ap (λ (x : Node). (q, x)) same in
      subst (λ (x : Entry). Contains (d ∷ es) x) pair (contains_head d es)
  | inr other ↦ contains_tail d (q, node) es (find_came es q node (sym (cond-false (tie q d.0) (Some d.1) (find path_cmp q es) other) ∙ e))
]

abbrev pub all_entries : (Names → ℕ) → ℕ → List Entry
all_entries numbers n = ([], Dir 0o755) ∷ entries_of numbers n

module _ (numbers : Names → ℕ) where
  -- an entry of a group: its directory, or what it holds
  pub data InGroup (g : ℕ) (e : Entry) : Type 0 where
    dir : e ≡ (group_name g ∷ [], Dir 0o755) → InGroup g e
    inner : (h : Held) → Contains (held (group_of g)) h → e ≡ entry_of numbers g h → InGroup g e

  pub group_parts : (g : ℕ) (e : Entry) → Contains (group_entries numbers g) e → InGroup g e
  group_parts g e c = elim (contains_cases (group_name g ∷ [], Dir 0o755) e (map (entry_of numbers g) (held (group_of g))) c) [
    | inl same ↦ dir (sym same)
    | inr later ↦ let o = map_parts (entry_of numbers g) (held (group_of g)) e later in inner o.0 o.1 (sym o.2)
  ]

  in_path : (g : ℕ) (e : Entry) → InGroup g e → IsIn (λ (x : Entry). x.0) g e
  in_path g e (dir is) = record { rest = []; is = ap (λ (x : Entry). x.0) is }
  in_path g e (inner h c is) = record { rest = h.path; is = ap (λ (x : Entry). x.0) is }

  group_entries_apart : (g : ℕ) → Apart OtherPath (group_entries numbers g)
  group_entries_apart g = (
    λ e c same.
        let o = map_parts (entry_of numbers g) (held (group_of g)) e c in
        let path : group_name g ∷ [] ≡ group_name g ∷ o.0.path = same ∙ ap (λ (x : Entry). x.0) (sym o.2) in
        let none : [] ≡ o.0.path = same_rest (group_name g) (group_name g) [] o.0.path path in
        let some = ((law g).short o.0 o.1).some in
        let size : 0 ≡ length o.0.path = ap length none in
        omega (arith, some, size),
    apart_map (entry_of numbers g) OtherPath (held (group_of g))
        (apart_weaker (λ (h i : Held). h.path ≢ i.path) (λ (h i : Held). group_name g ∷ h.path ≢ group_name g ∷ i.path) (held (group_of g))
        (λ h i differ same. differ (same_rest (group_name g) (group_name g) h.path i.path same)) (law g).paths),
  )

  pub entries_apart : (n : ℕ) → Apart OtherPath (all_entries numbers n)
  entries_apart n = (
    λ e c same.
        let p = flat_parts (group_entries numbers) (below n) e c in
        let i = in_path p.0 e (group_parts p.0 e p.2) in
        not_root (group_name p.0) i.rest (sym i.is ∙ sym same),
    groups_apart (λ (x : Entry). x.0) (group_entries numbers) n (λ g x c. in_path g x (group_parts g x c)) group_entries_apart,
  )

  pub stands_here : (n : ℕ) (e : Entry) → Contains (all_entries numbers n) e → get (drill_tree numbers n) e.0 ≡ Some e.1
  stands_here n e c = get-made (all_entries numbers n) e.0 ∙ find_here (all_entries numbers n) (entries_apart n) e c

  pub root_here : (n : ℕ) → get (drill_tree numbers n) [] ≡ Some (Dir 0o755)
  root_here n = stands_here n ([], Dir 0o755) (contains_head ([], Dir 0o755) (entries_of numbers n))

  entry_there : (n g : ℕ) (e : Entry) → g < n → Contains (group_entries numbers g) e → Contains (all_entries numbers n) e
  entry_there n g e most c =
      contains_tail ([], Dir 0o755) e (entries_of numbers n) (contains_flat (group_entries numbers) (below n) g e (range_has 0 n g (omega arith) (omega arith)) c)

  pub group_here : (n g : ℕ) → g < n → get (drill_tree numbers n) (group_name g ∷ []) ≡ Some (Dir 0o755)
  group_here n g most = stands_here n (group_name g ∷ [], Dir 0o755) (entry_there n g (group_name g ∷ [], Dir 0o755) most
      (contains_head (group_name g ∷ [], Dir 0o755) (map (entry_of numbers g) (held (group_of g)))))

  pub held_here : (n g : ℕ) (h : Held) → g < n → Contains (held (group_of g)) h → get (drill_tree numbers n) (group_name g ∷ h.path) ≡ Some (node_of numbers (group_name g ∷ h.path) h.is_dir)
  held_here n g h most c = stands_here n (entry_of numbers g h) (entry_there n g (entry_of numbers g h) most
      (contains_tail (group_name g ∷ [], Dir 0o755) (entry_of numbers g h) (map (entry_of numbers g) (held (group_of g)))
      (contains_map (entry_of numbers g) (held (group_of g)) h c)))

  -- what stands in the tree
  pub data StoodAs (n : ℕ) (q : Names) (node : Node) : Type 0 where
    root : q ≡ [] → node ≡ Dir 0o755 → StoodAs n q node
    group : (g : ℕ) → g < n → q ≡ group_name g ∷ [] → node ≡ Dir 0o755 → StoodAs n q node
    one : (g : ℕ) (h : Held) → g < n → Contains (held (group_of g)) h → q ≡ group_name g ∷ h.path → node ≡ node_of numbers (group_name g ∷ h.path) h.is_dir → StoodAs n q node

  pub stood : (n : ℕ) (q : Names) (node : Node) → get (drill_tree numbers n) q ≡ Some node → StoodAs n q node
  stood n q node e = elim (contains_cases ([], Dir 0o755) (q, node) (entries_of numbers n) (find_came (all_entries numbers n) q node (sym (get-made (all_entries numbers n) q) ∙ e))) [
    | inl same ↦ root (sym (ap (λ (x : Entry). x.0) same)) (sym (ap (λ (x : Entry). x.1) same))
    | inr later ↦
        let p = flat_parts (group_entries numbers) (below n) (q, node) later in
        let w = range_parts 0 n p.0 p.1 in
        stood_as p.0 (omega (arith, w.1)) (group_parts p.0 (q, node) p.2)
  ]
    where
      stood_as : (g : ℕ) → g < n → InGroup g (q, node) → StoodAs n q node
      stood_as g most (dir is) = group g most (ap (λ (x : Entry). x.0) is) (ap (λ (x : Entry). x.1) is)
      stood_as g most (inner h c is) = one g h most c (ap (λ (x : Entry). x.0) is) (ap (λ (x : Entry). x.1) is)
