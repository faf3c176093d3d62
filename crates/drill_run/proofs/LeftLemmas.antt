-- How many entries are found in the tree that a drill leaves.
use Rattle.std.proofs.Common.{◌≡◌, ℕ, ◌+◌, ◌≤◌, Bool, true, false, not, cond, List, [], ◌∷◌, ◌++◌, map, filter, length, refl, sym, ◌∙◌, ap, subst, arith, Contains, ℤ, Option, Some, None, is_some, IsTrue, inl, inr, length-append, codes}
use Rattle.std.specs.List.{flat_map, zip}
use Rattle.std.specs.FinMap.{contains_key-keys, entries, get}
use Rattle.std.specs.Ordering.{eq_by_cmp}
use Rattle.std.proofs.lemmas.Bool.{le-leb}
use Rattle.std.proofs.lemmas.Cmp.{eq_by_cmp_equiv}
use Rattle.std.proofs.lemmas.List.Elements.{Contains-append_cases}
use Rattle.std.proofs.lemmas.Map.Views.{list_any-from_Contains}
use Rattle.dired_text.specs.Paths.{Names, path_bytes, path_cmp, max_path_bytes}
use Rattle.dired_text.proofs.PathLemmas.{path_cmp-total}
use Rattle.tree_core.specs.declared.meta.Meta.{Meta}
use Rattle.tree_core.specs.declared.node.Node.{Node}
use Rattle.tree_core.specs.declared.node.Node.TheVariants.{Dir}
use Rattle.tree_core.specs.FileTree.{FileTree, Stands}
use Rattle.tree_core.proofs.TreeLemmas.{get-made}
use Rattle.edit_words.specs.declared.row.Row.{Row}
use Rattle.edit_words.specs.Edited.{added_by, edited, fresh_place_of, fresh_places, missing, placed_entry, with_new_mode}
use Rattle.edit_words.specs.Edited as words
use Rattle.edit_words.specs.Place.{IsAbove, ancestors, place}
use Rattle.edit_words.specs.Sight.{seen}
use Rattle.edit_words.specs.Rows.{is_elsewhere, is_kept, route_of, rows, written}
use Rattle.edit_words.proofs.AboveLemmas.{ancestors_above}
use Rattle.edit_laws.proofs.ListLemmas.{contains_head, contains_map, contains_none, contains_tail, filter_parts, flat_parts, map_parts}
use Rattle.find_words.specs.Expressions.{Expression, Everything}
use Rattle.find_words.specs.Grammar.{IsPredicate, Reads, Syntax, Primary, Group, Negated, Both, Either, joint, words_of}
use Rattle.find_words.specs.Words.{Words}
use Rattle.find_listing.specs.Finds.{is_found, is_root, line_of, lines_found, paths_of}
use Rattle.find_listing.proofs.KeyLemmas.{keys}
use Rattle.drill_tree.specs.Groups.{group_name}
use Rattle.drill_tree.specs.Drill.{IsDrillTree, drill_edits, drill_tree}
use Rattle.drill_tree.proofs.DrillLemmas.{Entry, StoodAs, find_came, group, one, root, row_came, stood}
use Rattle.drill_tree.proofs.GroupLemmas.{law}
use Rattle.drill_tree.proofs.MadeLemmas.{IsInGroup, bytes_few, in_group, place_few, slashed-one}
use Rattle.drill_tree.proofs.WellLemmas.{far_of, written_of_row}
use Rattle.drill_run.specs.Counts.{HasShortPaths, entry_count}
use Rattle.drill_run.proofs.EntryLemmas.{length_map}
use Rattle.drill_run.proofs.StepLemmas.{above_group, no_fresh, some_mapped}

-- ---- a text without words is true of every path

some_words : (s : Syntax) → 1 ≤ length (words_of s)
some_words (Primary word argument condition) = omega arith
some_words (Group s) = omega arith
some_words (Negated s) = omega arith
some_words (Both s has_joint t) = let a = some_words s in let b = length-append (words_of s) (joint has_joint ++ words_of t) in omega (arith, a, b)
some_words (Either s t) = let a = some_words s in let b = length-append (words_of s) (codes "-o" ∷ words_of t) in omega (arith, a, b)

pub of_nothing : (words : Words) (e : Expression) → words.whole ≡ [] → Reads words e → e ≡ Everything
of_nothing words e none reads = of reads.predicate
  where
    of : IsPredicate words.whole e → e ≡ Everything
    of (inl (empty, is)) = is
    of (inr writes) =
        let some = some_words writes.syntax_of in
        let size : length (words_of writes.syntax_of) ≡ 0 = ap length (writes.written ∙ none) in
        absurd (omega (arith, some, size))

-- ---- where no path is long, all are found

filter_all : {X : Type 0} (p : X → Bool) (xs : List X) → ((x : X) → Contains xs x → p x ≡ true) → filter p xs ≡ xs
filter_all p [] all = refl
filter_all p (x ∷ xs) all =
    let here = all x (contains_head x xs) in
    let rest = filter_all p xs (λ y c. all y (contains_tail x y xs c)) in
    rw here (ap (λ l. x ∷ l) rest)

path_stands : (t : FileTree) (p : Names) → Contains (keys t) p → Stands t p
path_stands t p c = contains_key-keys t p ∙ list_any-from_Contains {eq = eq_by_cmp path_cmp} (eq_by_cmp_equiv path_cmp-total) p (keys t) c

pub all_found : (t : FileTree) (fields : Names → Meta) (now : ℤ) → HasShortPaths t → length (lines_found t fields now Everything) ≡ entry_count t
all_found t fields now short =
    length_map (λ (p : Names). line_of p (fields p)) (filter (is_found now fields Everything) (paths_of t))
    ∙ ap (λ (ps : List Names). length ps) (filter_all (is_found now fields Everything) (paths_of t) (λ p c.
    let stands = path_stands t p (filter_parts (λ (q : Names). not (is_root q)) (keys t) p c).0 in
    let few = le-leb (path_bytes p) max_path_bytes (short p stands) in
    rw few refl))

-- ---- no path of the edited tree is long

module _ (numbers : Names → ℕ) (n : ℕ) (made : List Node) where
  abbrev Tree : FileTree
  Tree = drill_tree numbers n

  abbrev Rs : List Row
  Rs = rows (drill_edits n)

  abbrev Placed : List Entry
  Placed = map (placed_entry (place (route_of Rs)) (with_new_mode Tree Rs)) (filter (λ (e : Entry). is_kept Rs e.0) (entries Tree))

  nothing_added : (e : Entry) → Contains (added_by Tree Rs made) e → ⊥
  nothing_added e c = elim (Contains-append_cases (zip (fresh_places Rs) made) (map (λ (p : Names). (p, Dir 0o755)) (missing Tree Rs)) e c) [
    | inl fresh ↦ contains_none e (subst (λ (ps : List Names). Contains (zip ps made) e) (ap (map (fresh_place_row)) (no_fresh n)) fresh)
    | inr dir ↦
        let o = map_parts (λ (p : Names). (p, Dir 0o755)) (missing Tree Rs) e dir in
        let f = filter_parts (λ (p : Names). not (words.stands Tree p)) (flat_map (λ (r : Row). cond (is_elsewhere r) (ancestors (written r)) []) Rs) o.0 o.1 in
        let r = flat_parts (λ (r : Row). cond (is_elsewhere r) (ancestors (written r)) []) Rs o.0 f.0 in
        up r.0 o.0 r.1 (is_elsewhere r.0) refl r.2 f.1
  ]
    where
      fresh_place_row : Row → Names
      fresh_place_row r = fresh_place_of (place (route_of Rs)) r.source r

      up : (r : Row) (p : Names) → Contains Rs r → (b : Bool) → is_elsewhere r ≡ b → Contains (cond b (ancestors (written r)) []) p → not (words.stands Tree p) ≡ true → ⊥
      up r p cr false far c absent = contains_none p c
      up r p cr true far c absent =
          let o = row_came n r cr in
          let there = above_group numbers n o.group p o.move.to o.below (far_of n r o far) (subst (IsAbove p) (written_of_row n r o) ((ancestors_above (written r) p).0 c)) in
          let never : false ≡ true = sym there ∙ ap not (some_mapped seen (get Tree p)) ∙ absent in
          cc

  in_tree : (p : Names) (node : Node) → StoodAs numbers n p node → IsInGroup p
  in_tree p node (root e is) = subst IsInGroup (sym e) (record { names = omega arith; bytes = omega arith })
  in_tree p node (group g most e is) = subst IsInGroup (sym e) (record { names = omega arith; bytes = let a = slashed-one (group_name g) in omega (arith, a) })
  in_tree p node (one g h most c e is) = subst IsInGroup (sym e) (in_group g h.path ((law g).short h c))

  pub short_edited : HasShortPaths (edited Tree Rs made)
  short_edited q stands = of (get (edited Tree Rs made) q) refl stands
    where
      came : (e : Entry) → Contains (entries Tree) e → IsInGroup e.0
      came e c = node_of (get Tree e.0) refl (path_stands Tree e.0 (contains_map (λ (x : Entry). x.0) (entries Tree) e c))
        where
          node_of : (o : Option Node) → get Tree e.0 ≡ o → Stands Tree e.0 → IsInGroup e.0
          node_of None is st = let never : false ≡ true = subst (λ (x : Option Node). IsTrue (is_some x)) is st in cc
          node_of (Some node) is st = in_tree e.0 node (stood numbers n e.0 node is)

      of : (o : Option Node) → get (edited Tree Rs made) q ≡ o → Stands (edited Tree Rs made) q → path_bytes q ≤ max_path_bytes
      of None is st = let never : false ≡ true = subst (λ (x : Option Node). IsTrue (is_some x)) is st in cc
      of (Some node) is st = elim (Contains-append_cases (added_by Tree Rs made) Placed (q, node)
          (find_came (added_by Tree Rs made ++ Placed) q node (sym (get-made (added_by Tree Rs made ++ Placed) q) ∙ is))) [
            | inl added ↦ absurd (nothing_added (q, node) added)
            | inr placed ↦
                let o = map_parts (placed_entry (place (route_of Rs)) (with_new_mode Tree Rs)) (filter (λ (e : Entry). is_kept Rs e.0) (entries Tree)) (q, node) placed in
                let from = filter_parts (λ (e : Entry). is_kept Rs e.0) (entries Tree) o.0 o.1 in
                let here : place (route_of Rs) o.0.0 ≡ q = ap (λ (e : Entry). e.0) o.2 in
                let few = place_few n o.0.0 (came o.0 from.0) in
                let bytes = bytes_few (place (route_of Rs) o.0.0) in
                subst (λ (p : Names). path_bytes p ≤ max_path_bytes) here (omega (arith, few, bytes))
          ]

pub short_behind : (n : ℕ) (t : FileTree) (made : List Node) → IsDrillTree n t → HasShortPaths (edited t (rows (drill_edits n)) made)
short_behind n t made (numbers, is) = subst (λ (u : FileTree). HasShortPaths (edited u (rows (drill_edits n)) made)) (sym is) (short_edited numbers n made)
