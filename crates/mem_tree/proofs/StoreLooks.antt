-- What the looks of a store answer.
use Rattle.std.proofs.Common.{◌≡◌, ◌↔◌, ℕ, zero, suc, ◌-◌, ◌^◌, min, ℤ, pos, codes, Bool, true, false, cond, not, ◌&&◌, ◌||◌, List, [], ◌∷◌, ◌++◌, map, length, filter, refl, sym, ◌∙◌, ap, subst, Option, Some, None, is_some, IsTrue, Result, Ok, Err, IfOk, Bor, take, get_or, ◌<◌, ◌+◌}
use Rattle.std.proofs.lemmas.Bool.{cond-true, cond-false}
use Rattle.std.specs.Option.{option_map, unwrap_or}
use Rattle.std.proofs.lemmas.List.{append-nil}
use Rattle.std.proofs.lemmas.List.Elements.{filter_map-append}
use Rattle.mem_tree.proofs.MoveLoops.{map_more}
use Rattle.std.specs.List.{filter_map, cons_option, list_any}
use Rattle.std.specs.FinMap.{get, entries, keys, same_entries_map}
use Rattle.dired_text.specs.Paths.{Names, AreNames, path_cmp, parent, rest_below, is_below}
use Rattle.tree_core.specs.declared.node.Node.{Node}
use Rattle.tree_core.specs.declared.node.Node.TheVariants.{Dir, Link, File}
use Rattle.tree_core.specs.declared.node.Kind.{Kind}
use Rattle.tree_core.specs.declared.node.Kind.TheVariants as kind
use Rattle.tree_core.specs.declared.meta.Meta.{Meta}
use denote.Enum.Bare.{sameb}
use Rattle.tree_core.specs.contracts.node.Kind.{the_type}
use Rattle.tree_core.specs.FileTree.{FileTree, CanMake, IsEmptyAt, kind_of, mode_of, is_dir_node}
use Rattle.tree_core.specs.Fields.{target_of, child_name, only_name, names_in}
use Rattle.tree_core.proofs.NameLemmas.{names_end, child_of}
use Rattle.mem_tree.specs.declared.slots.Content.{Content}
use Rattle.mem_tree.specs.declared.slots.Content.TheVariants as content
use Rattle.mem_tree.specs.declared.slots.Slot.{Slot}
use Rattle.mem_tree.specs.declared.files.FileBody.{FileBody}
use Rattle.mem_tree.specs.Slots.{Slots, Files, ParentsStand, Counted, node_of, file_node, tree_in, times_in, time_at, content_kind, content_number, content_target, file_bytes, file_paths, file_number, links_in, positive, places_of}
use Rattle.mem_tree.specs.Stores.{bytes_of, bytes_at}
use Rattle.mem_tree.specs.MemFields.{number_of, size_of, paths_of, links_of, meta_of, meta_at, fields_of}
use Rattle.std.specs.declared.vec.Vec.{Vec}
use Rattle.std.specs.Map.Iter.{TakesFirst, deref_pair}
use Rattle.mem_tree.specs.Slots.{placed}
use Rattle.mem_tree.proofs.RunLemmas.{Placed, is_child}
use Rattle.mem_tree.proofs.TreeOf.{node_in, shown_nodes, get-tree, entries-tree, keys-tree, paths-tree}
use Rattle.mem_tree.proofs.Keeping.{file_at, file_shown}

-- ---- one slot

pub kind_shown : (files : Files) (c : Content) → content_kind c ≡ kind_of (node_of files c)
kind_shown files (content.Dir mode) = refl
kind_shown files (content.Link target) = refl
kind_shown files (content.File number) = by (get files number)
  where
    by : (o : Option FileBody) → content_kind (content.File number) ≡ kind_of (file_node number o)
    by None = refl
    by (Some body) = refl

number_shown : (files : Files) (c : Content) → unwrap_or (content_number c) 0 ≡ number_of (node_of files c)
number_shown files (content.Dir mode) = refl
number_shown files (content.Link target) = refl
number_shown files (content.File number) = by (get files number)
  where
    by : (o : Option FileBody) → number ≡ number_of (file_node number o)
    by None = refl
    by (Some body) = refl

target_shown : (files : Files) (c : Content) → content_target c ≡ target_of (node_of files c)
target_shown files (content.Dir mode) = refl
target_shown files (content.Link target) = refl
target_shown files (content.File number) = by (get files number)
  where
    by : (o : Option FileBody) → [] ≡ target_of (file_node number o)
    by None = refl
    by (Some body) = refl

positive_told : (o : Option FileBody) (n : ℕ) → option_map (λ (b : FileBody). b.paths) o ≡ positive n → file_paths o ≡ n
positive_told None zero is = refl
positive_told None (suc n) is = cc
positive_told (Some body) zero is = cc
positive_told (Some body) (suc n) is = cc

links_shown : (slots : Slots) (files : Files) → Counted slots files → (c : Content) → links_in files c ≡ links_of (node_of files c) (tree_in slots files)
links_shown slots files counted (content.Dir mode) = refl
links_shown slots files counted (content.Link target) = refl
links_shown slots files counted (content.File number) =
    ap (λ n. min n (2 ^ 32 - 1)) (positive_told (get files number) (places_of number slots) (counted number) ∙ sym (paths-tree slots files number)) ∙ by (get files number)
  where
    by : (o : Option FileBody) → min (paths_of number (tree_in slots files)) (2 ^ 32 - 1) ≡ links_of (file_node number o) (tree_in slots files)
    by None = refl
    by (Some body) = refl

-- the fields of a slot, each as it is told
pub meta_shown : (slots : Slots) (files : Files) → Counted slots files → (c : Content) (mtime : ℤ) (k0 : Kind) (mode links : ℕ) (owner group : List ℕ) (size number : ℕ) (target : List ℕ)
    → k0 ≡ content_kind c → mode ≡ mode_of (node_of files c) → links ≡ links_in files c → owner ≡ codes "u" → group ≡ codes "g" → size ≡ size_of (node_of files c) → number ≡ unwrap_or (content_number c) 0 → target ≡ content_target c
    → record { kind = k0; mode = mode; links = links; owner = owner; group = group; size = size; mtime = mtime; number = number; target = target } ≡ meta_of (tree_in slots files) (node_of files c) mtime
meta_shown slots files counted c mtime k0 mode links owner group size number target e1 e2 e3 e4 e5 e6 e7 e8 =
    let k = e1 ∙ kind_shown files c in
    let l = e3 ∙ links_shown slots files counted c in
    let n = e7 ∙ number_shown files c in
    let t = e8 ∙ target_shown files c in
    λ i. record { kind = k i; mode = e2 i; links = l i; owner = e4 i; group = e5 i; size = e6 i; mtime = mtime; number = n i; target = t i }

module _ (slots : Slots) (files : Files) (p : Names) where
  pub at_slot : (o : Option Slot) → o ≡ get slots p → get (tree_in slots files) p ≡ option_map (node_in files) o
  at_slot o is = get-tree slots files p ∙ ap (option_map (node_in files)) (sym is)

  pub fields_at : (slot : Slot) → Some slot ≡ get slots p → meta_of (tree_in slots files) (node_in files slot) slot.mtime ≡ fields_of (tree_in slots files) (times_in slots) p
  fields_at slot is = sym ((λ i. meta_at (tree_in slots files) (at_slot (Some slot) is i) (times_in slots p)) ∙ ap (λ o. meta_of (tree_in slots files) (node_in files slot) (time_at o)) (sym is))

  pub fields_none : None ≡ get slots p → meta_of (tree_in slots files) (Dir 0) (pos 0) ≡ fields_of (tree_in slots files) (times_in slots) p
  fields_none is = sym (λ i. meta_at (tree_in slots files) (at_slot None is i) (times_in slots p))

  pub bytes_none : file_number (get slots p) ≡ None → bytes_at (get (tree_in slots files) p) ≡ None
  bytes_none none = ap bytes_at (get-tree slots files p) ∙ by (get slots p) none
    where
      of : (c : Content) → content_number c ≡ None → bytes_of (node_of files c) ≡ None
      of (content.Dir mode) n = refl
      of (content.Link target) n = refl
      of (content.File k) n = cc

      by : (o : Option Slot) → file_number o ≡ None → bytes_at (option_map (node_in files) o) ≡ None
      by None n = refl
      by (Some slot) n = of slot.content n

  pub bytes_some : (number : ℕ) → Counted slots files → file_number (get slots p) ≡ Some number → Some (file_bytes (get files number)) ≡ bytes_at (get (tree_in slots files) p)
  bytes_some number counted is =
      let f = file_at slots files p number counted is in
      ap (λ o. Some (file_bytes o)) f.known ∙ sym (ap bytes_at (file_shown slots files p number f))

  pub dir_shown : (slot : Slot) → Some slot ≡ get slots p → sameb the_type (content_kind slot.content) kind.Dir ≡ is_dir_node (get (tree_in slots files) p)
  dir_shown slot is = of slot.content ∙ sym (ap is_dir_node (at_slot (Some slot) is))
    where
      file : (k : ℕ) (o : Option FileBody) → false ≡ is_dir_node (Some (file_node k o))
      file k None = refl
      file k (Some body) = refl

      of : (c : Content) → sameb the_type (content_kind c) kind.Dir ≡ is_dir_node (Some (node_of files c))
      of (content.Dir mode) = refl
      of (content.Link target) = refl
      of (content.File k) = file k (get files k)

-- ---- the names below

any_children : (p : Names) (l : List Names) → list_any (is_child p) l ≡ false → filter_map (child_name p) l ≡ []
any_children p [] none = refl
any_children p (q ∷ l) none = by (child_name p q) none (any_children p l)
  where
    by : (o : Option (List ℕ)) → (is_some o || list_any (is_child p) l) ≡ false → (list_any (is_child p) l ≡ false → filter_map (child_name p) l ≡ []) → cons_option o (filter_map (child_name p) l) ≡ []
    by None none rest = rest none
    by (Some n) none rest = cc

no_children : (p : Names) (l : List Names) → filter_map (child_name p) l ≡ [] → list_any (is_child p) l ≡ false
no_children p [] none = refl
no_children p (q ∷ l) none = by (child_name p q) none (no_children p l)
  where
    by : (o : Option (List ℕ)) → cons_option o (filter_map (child_name p) l) ≡ [] → (filter_map (child_name p) l ≡ [] → list_any (is_child p) l ≡ false) → (is_some o || list_any (is_child p) l) ≡ false
    by None none rest = rest none
    by (Some n) none rest = cc

-- only what is below has a name there
below_children : (p : Names) (l : List Names) → filter_map (child_name p) (filter (is_below p) l) ≡ filter_map (child_name p) l
below_children p [] = refl
below_children p (q ∷ l) = by (rest_below p q) refl (below_children p l)
  where
    by : (o : Option Names) → rest_below p q ≡ o → filter_map (child_name p) (filter (is_below p) l) ≡ filter_map (child_name p) l
        → filter_map (child_name p) (cond (is_some (rest_below p q)) (q ∷ filter (is_below p) l) (filter (is_below p) l)) ≡ cons_option (only_name (rest_below p q)) (filter_map (child_name p) l)
    by None is rest =
        ap (λ o. filter_map (child_name p) (cond (is_some o) (q ∷ filter (is_below p) l) (filter (is_below p) l))) is ∙ rest
        ∙ sym (ap (λ o. cons_option (only_name o) (filter_map (child_name p) l)) is)
    by (Some r) is rest =
        ap (λ o. filter_map (child_name p) (cond (is_some o) (q ∷ filter (is_below p) l) (filter (is_below p) l))) is ∙ ap (cons_option (child_name p q)) rest

names_of_keys : (p : Names) (es : List (Names × Node)) → filter_map (child_of p) es ≡ filter_map (child_name p) (map (λ (e : Names × Node). e.0) es)
names_of_keys p [] = refl
names_of_keys p (e ∷ es) = ap (cons_option (child_name p e.0)) (names_of_keys p es)

module _ (slots : Slots) (files : Files) (p : Names) where
  names_in_keys : names_in (tree_in slots files) p ≡ filter_map (child_name p) (keys slots)
  names_in_keys = names_of_keys p (entries (tree_in slots files)) ∙ ap (filter_map (child_name p)) (keys-tree slots files)

  pub names_below : (l : List Names) → l ≡ filter (is_below p) (keys slots) → filter_map (child_name p) l ≡ names_in (tree_in slots files) p
  names_below l is = ap (filter_map (child_name p)) is ∙ below_children p (keys slots) ∙ sym names_in_keys

  empty_by : (b : Bool) → b ≡ list_any (is_child p) (keys slots) → IsTrue (not b) ↔ IsEmptyAt (tree_in slots files) p
  empty_by b is = (λ t. (names_end (tree_in slots files) p).0 (names_in_keys ∙ any_children p (keys slots) (sym is ∙ off b t)), λ empty. ap not (is ∙ no_children p (keys slots) (sym names_in_keys ∙ (names_end (tree_in slots files) p).1 empty)))
    where
      off : (b : Bool) → IsTrue (not b) → b ≡ false
      off true t = cc
      off false t = refl

  pub childless : (b : Bool) → b ≡ list_any (is_child p) (keys slots) → IsTrue (not b) ↔ IsEmptyAt (tree_in slots files) p
  childless = empty_by

  -- where nothing stands, nothing stands below
  pub empty_none : ParentsStand slots → get slots p ≡ None → IsEmptyAt (tree_in slots files) p
  empty_none parents none name = get-tree slots files (p ++ name ∷ []) ∙ by (get slots (p ++ name ∷ [])) (parents p name)
    where
      by : (o : Option Slot) → (IsTrue (is_some o) → IsTrue (is_some (get slots p))) → option_map (node_in files) o ≡ None
      by None above = refl
      by (Some s) above = absurd (clash (sym (ap is_some none) ∙ above refl))
        where
          clash : false ≡ true → ⊥
          clash e = cc

  pub no_names_none : ParentsStand slots → get slots p ≡ None → [] ≡ names_in (tree_in slots files) p
  no_names_none parents none = sym ((names_end (tree_in slots files) p).1 (empty_none parents none))

-- ---- two trees

pub trees_same : (slots slots' : Slots) (files files' : Files) → (shown_nodes files (entries slots) ≡ shown_nodes files' (entries slots')) ↔ (tree_in slots files ≡ tree_in slots' files')
trees_same slots slots' files files' = (
  λ is. same_entries_map _ _ (entries-tree slots files ∙ is ∙ sym (entries-tree slots' files')),
  λ is. sym (entries-tree slots files) ∙ ap (λ (t : FileTree). entries t) is ∙ entries-tree slots' files',
)

pub if_ok : {T E : Type 0} (r : Result T E) (a b : T) → a ≡ b → IfOk r (λ x. x ≡ a) → IfOk r (λ x. x ≡ b)
if_ok (Ok v) a b same is = is ∙ same
if_ok (Err e) a b same is = tt

pub is_some_copied : {A : Type 0} (o : Option (Bor A)) → is_some (option_map (λ (x : Bor A). x.now) o) ≡ is_some o
is_some_copied None = refl
is_some_copied (Some x) = refl

pub none_by : {A : Type 0} (o : Option A) → is_some o ≡ false → o ≡ None
none_by None f = refl
none_by (Some x) f = cc

module _ (p : Names) (names : List (Bor Names)) (i : ℕ) (x : Bor Names) (within : i < length names) (is : x ≡ get_or names i x) where
  abbrev so_far : ℕ → List (List ℕ)
  so_far n = filter_map (child_name p) (map (λ (k : Bor Names). k.now) (take n names))

  one_more : (o : Option (List ℕ)) → o ≡ child_name p x.now → so_far (i + 1) ≡ so_far i ++ cons_option o []
  one_more o found =
      ap (filter_map (child_name p)) (map_more (λ (k : Bor Names). k.now) names i x within is)
      ∙ filter_map-append (child_name p) (map (λ (k : Bor Names). k.now) (take i names)) (x.now ∷ []) ∙ ap (λ o. so_far i ++ cons_option o []) (sym found)

  pub name_more : (found more : List (List ℕ)) (name copy : List ℕ) → found ≡ so_far i → Some name ≡ child_name p x.now → copy ≡ name → more ≡ found ++ copy ∷ [] → more ≡ so_far (i + 1)
  name_more found more name copy was named copied pushed = pushed ∙ (λ j. was j ++ copied j ∷ []) ∙ sym (one_more (Some name) named)

  pub name_passed : (found more : List (List ℕ)) → found ≡ so_far i → None ≡ child_name p x.now → more ≡ found → more ≡ so_far (i + 1)
  name_passed found more was none same = same ∙ was ∙ sym (append-nil (so_far i)) ∙ sym (one_more None none)

-- ---- whether something can be made

module _ (slots : Slots) (files : Files) (p : Names) where
  pub can_make_yes : (b : Bool) (q : Names) → get slots p ≡ None → b ≡ is_dir_node (get (tree_in slots files) q) → q ≡ parent p → b ≡ (not (is_some (get (tree_in slots files) p)) && is_dir_node (get (tree_in slots files) (parent p)))
  can_make_yes b q none is same = is ∙ ap (λ r. is_dir_node (get (tree_in slots files) r)) same ∙ sym (ap (λ o. not (is_some o) && is_dir_node (get (tree_in slots files) (parent p))) (at_slot slots files p None (sym none)))

  pub can_make_no : is_some (get slots p) ≡ true → false ≡ (not (is_some (get (tree_in slots files) p)) && is_dir_node (get (tree_in slots files) (parent p)))
  can_make_no some = by (get slots p) refl some
    where
      by : (o : Option Slot) → get slots p ≡ o → is_some o ≡ true → false ≡ (not (is_some (get (tree_in slots files) p)) && is_dir_node (get (tree_in slots files) (parent p)))
      by None is s = cc
      by (Some slot) is s = sym (ap (λ o. not (is_some o) && is_dir_node (get (tree_in slots files) (parent p))) (at_slot slots files p (Some slot) (sym is)))

pub made_told : (t : FileTree) (p : Names) (b : Bool) → AreNames p → b ≡ (not (is_some (get t p)) && is_dir_node (get t (parent p))) → IsTrue b ↔ CanMake t p
made_told t p b named is = (λ told. there (get t p) (is_dir_node (get t (parent p))) refl refl (sym is ∙ told), λ can. is ∙ (λ i. not (is_some (can.absent i)) && can.parent_is_dir i))
  where
    there : (o : Option Node) (d : Bool) → get t p ≡ o → is_dir_node (get t (parent p)) ≡ d → (not (is_some o) && d) ≡ true → CanMake t p
    there None d none dir told = record { named = named; absent = none; parent_is_dir = dir ∙ told }
    there (Some n) d none dir told = cc

-- ---- one entry more of two trees

module _ (files files' : Files) where
  -- the same first entries
  pub heads_same : (it next : Placed) (e : Names × Slot) (it' next' : Placed) (e' : Names × Slot) (A : Type 0) → it ≡ e ∷ next → it' ≡ e' ∷ next' → e.0 ≡ e'.0 → node_in files e.1 ≡ node_in files' e'.1
      → (shown_nodes files it ≡ shown_nodes files' it') ↔ A → (shown_nodes files next ≡ shown_nodes files' next') ↔ A
  heads_same it next e it' next' e' A step step' names nodes told = (
    λ same. told.0 (ap (shown_nodes files) step ∙ (λ i. (names i, nodes i) ∷ same i) ∙ sym (ap (shown_nodes files') step')),
    λ a. tail (sym (ap (shown_nodes files) step) ∙ told.1 a ∙ ap (shown_nodes files') step'),
  )
    where
      tail : (e.0, node_in files e.1) ∷ shown_nodes files next ≡ (e'.0, node_in files' e'.1) ∷ shown_nodes files' next' → shown_nodes files next ≡ shown_nodes files' next'
      tail same = cc

  -- first entries that differ
  pub heads_differ : (it next : Placed) (e : Names × Slot) (it' next' : Placed) (e' : Names × Slot) (A : Type 0) → it ≡ e ∷ next → it' ≡ e' ∷ next' → ((e.0 ≡ e'.0) → (node_in files e.1 ≡ node_in files' e'.1) → ⊥)
      → (shown_nodes files it ≡ shown_nodes files' it') ↔ A → A → ⊥
  heads_differ it next e it' next' e' A step step' differ told a =
      let same : (e.0, node_in files e.1) ∷ shown_nodes files next ≡ (e'.0, node_in files' e'.1) ∷ shown_nodes files' next' = sym (ap (shown_nodes files) step) ∙ told.1 a ∙ ap (shown_nodes files') step' in
      differ (ap (λ (x : Names × Node). x.0) (first same)) (ap (λ (x : Names × Node). x.1) (first same))
    where
      first : {X : Type 0} {x y : X} {xs ys : List X} → x ∷ xs ≡ y ∷ ys → x ≡ y
      first same = cc

  -- one has ended
  pub ends_before : (it next : Placed) (e : Names × Slot) (it' : Placed) (A : Type 0) → it ≡ e ∷ next → it' ≡ [] → (shown_nodes files it ≡ shown_nodes files' it') ↔ A → A → ⊥
  ends_before it next e it' A step step' told a = clash (sym (ap (shown_nodes files) step) ∙ told.1 a ∙ ap (shown_nodes files') step')
    where
      clash : (e.0, node_in files e.1) ∷ shown_nodes files next ≡ [] → ⊥
      clash c = cc

  pub ends_after : (it : Placed) (e : Names × Slot) (it' next' : Placed) (A : Type 0) → it ≡ [] → it' ≡ e ∷ next' → (shown_nodes files it ≡ shown_nodes files' it') ↔ A → A → ⊥
  ends_after it e it' next' A step step' told a = clash (sym (ap (shown_nodes files) step) ∙ told.1 a ∙ ap (shown_nodes files') step')
    where
      clash : [] ≡ (e.0, node_in files' e.1) ∷ shown_nodes files' next' → ⊥
      clash c = cc

  pub ends_together : (it it' : Placed) (A : Type 0) → it ≡ [] → it' ≡ [] → (shown_nodes files it ≡ shown_nodes files' it') ↔ A → A
  ends_together it it' A step step' told = told.0 (ap (shown_nodes files) step ∙ sym (ap (shown_nodes files') step'))

pub false_told : {A : Type 0} → (A → ⊥) → IsTrue false ↔ A
false_told never = (λ t. cc, λ a. absurd (never a))

-- both have ended, or the second goes on
pub end_told : {Z : Type 0} (files files' : Files) (slots slots' : Slots) (it : Placed) (others rest : List (Vec (List ℕ) Z × Slot)) (r : Option (Bor (Vec (List ℕ) Z) × Bor Slot)) (b : Bool)
    → it ≡ [] → TakesFirst deref_pair others r rest → b ≡ not (is_some r) → (shown_nodes files it ≡ shown_nodes files' (placed others)) ↔ (shown_nodes files (entries slots) ≡ shown_nodes files' (entries slots')) → IsTrue b ↔ (tree_in slots files ≡ tree_in slots' files')
end_told files files' slots slots' it others rest None b ended steps is told = (
  λ t. (trees_same slots slots' files files').0 (ends_together files files' it (placed others) (shown_nodes files (entries slots) ≡ shown_nodes files' (entries slots')) ended (ap placed steps.0) told),
  λ t. is,
)
end_told files files' slots slots' it others rest (Some x) b ended steps is told = (
  λ t. absurd (clash (sym is ∙ t)),
  λ t. absurd (ends_after files files' it (x.0.now.items, x.1.now) (placed others) (placed rest) (shown_nodes files (entries slots) ≡ shown_nodes files' (entries slots')) ended (ap placed steps) told ((trees_same slots slots' files files').1 t)),
)
  where
    clash : false ≡ true → ⊥
    clash e = cc

pub never_same : (slots slots' : Slots) (files files' : Files) → ((shown_nodes files (entries slots) ≡ shown_nodes files' (entries slots')) → ⊥) → IsTrue false ↔ (tree_in slots files ≡ tree_in slots' files')
never_same slots slots' files files' never = false_told (λ t. never ((trees_same slots slots' files files').1 t))

pub is_turned : (b c : Bool) → b ≡ not c → b ≡ false → c ≡ true
is_turned b true e f = refl
is_turned b false e f = cc

pub is_turned_true : (b c : Bool) → b ≡ not c → b ≡ true → c ≡ false
is_turned_true b true e f = cc
is_turned_true b false e f = refl

pub turned_not : {A : Type 0} (o : Option A) (b : Bool) → is_some o ≡ not b → b ≡ not (is_some o)
turned_not o true is = sym (ap not is)
turned_not o false is = sym (ap not is)
