-- What the rows of changes that can be asked for are like, and the entries that are made for them.
use Rattle.std.proofs.Common.{◌≡◌, ◌⊎◌, inl, inr, ℕ, ◌<◌, true, false, cond, ◌&&◌, ◌||◌, List, [], ◌∷◌, map, filter, length, refl, sym, ◌∙◌, ap, subst, arith, suc, Option, Some, None, is_some, IsTrue}
use Rattle.std.specs.Prelude.{Contains, unwrap_or}
use Rattle.std.specs.List.{filter_map, cons_option}
use Rattle.std.specs.Option.{option_map}
use Rattle.std.specs.FinMap.{get}
use Rattle.std.proofs.lemmas.Bool.{cond-false}
use Rattle.std.proofs.lemmas.Option.{none-some, same_Some}
use Rattle.std.proofs.lemmas.List.Elements.{All-contains}
use Rattle.std.proofs.lemmas.Slice.Zip.{AllZip-long}
use Rattle.dired_text.specs.Paths.{Names}
use Rattle.tree_core.specs.declared.node.Node.{Node}
use Rattle.tree_core.specs.declared.node.Node.TheVariants.{Dir, Link, File}
use Rattle.tree_core.specs.declared.node.Kind.TheVariants as kind
use Rattle.tree_core.specs.declared.edit.Edit.{Edit}
use Rattle.tree_core.specs.declared.edit.Shown.{Shown}
use Rattle.tree_core.specs.declared.changes.Removal.{Removal}
use Rattle.tree_core.specs.declared.changes.Creation.{Creation}
use Rattle.tree_core.specs.declared.changes.Fresh.{Fresh}
use Rattle.tree_core.specs.declared.changes.Fresh.TheVariants as asks
use Rattle.tree_core.specs.declared.changes.Changes.{Changes}
use Rattle.tree_core.specs.declared.changes.Changes.TheVariants.{Edits, Removals, Creations}
use Rattle.tree_core.specs.FileTree.{FileTree, IsTree, IsDir, IsFile, IsMode, IsLawful, Stands, is_dir_node}
use Rattle.edit_words.specs.declared.row.Row.{Row}
use Rattle.edit_words.specs.Rows.{rows, edit_row, removal_row, creation_row, is_elsewhere}
use Rattle.edit_words.specs.Edited.{is_fresh, asked_fresh, HasFileNumber, IsMadeFor, HasOtherNumber, AreMadeFor, mode_named, is_number, number_in}
use Rattle.edit_words.specs.WellFormed.{IsWellFormed, ShowsNode, IsEdit, IsFreshIn, AreLawful, CanBeAsked, HasOtherSource, IsNoRoot}
use Rattle.edit_laws.proofs.ListLemmas.{contains_head, contains_tail, contains_none, contains_cases, map_parts, zip_right, one, before, after, ordered}
use Rattle.edit_laws.proofs.PlacedIsTree.{some_of}
use Rattle.edit_laws.proofs.RowLemmas.{AreRows}

-- ---- rows

-- a row is that of a change
data KindOf (r : Row) : Type 0 where
  edit : (e : Edit) → IsEdit e → r ≡ edit_row e → KindOf r
  removal : (e : Removal) → r ≡ removal_row e → KindOf r
  creation : (c : Creation) → r ≡ creation_row c → KindOf r

kind_of : (is_file : Names → Type 0) (changes : Changes) → AreLawful is_file changes → (r : Row) → Contains (rows changes) r → KindOf r
kind_of is_file (Edits edits) lawful r c = let m = map_parts edit_row edits r c in edit m.0 (All-contains IsEdit edits m.0 lawful m.1) (sym m.2)
kind_of is_file (Removals removals) lawful r c = let m = map_parts removal_row removals r c in removal m.0 (sym m.2)
kind_of is_file (Creations creations) lawful r c = let m = map_parts creation_row creations r c in creation m.0 (sym m.2)

-- nothing is removed, or nothing is moved or made
kinds_of : (changes : Changes) → ((r : Row) → Contains (rows changes) r → r.removes ≡ false) ⊎ ((r : Row) → Contains (rows changes) r → (is_elsewhere r ≡ false) × (is_fresh r ≡ false))
kinds_of (Edits edits) = inl (λ r c. let m = map_parts edit_row edits r c in ap (λ (x : Row). x.removes) (sym m.2))
kinds_of (Removals removals) = inr (λ r c. let m = map_parts removal_row removals r c in (ap is_elsewhere (sym m.2), ap is_fresh (sym m.2)))
kinds_of (Creations creations) = inl (λ r c. let m = map_parts creation_row creations r c in ap (λ (x : Row). x.removes) (sym m.2))

-- what is shown as a link is no directory
link_no_dir : (was : Shown) (node : Node) → was.kind ≡ kind.Link → ShowsNode was node → IsTrue (is_dir_node (Some node)) → ⊥
link_no_dir was (Dir mode) link shows dir = let both : kind.Link ≡ kind.Dir = sym link ∙ shows.0 in cc
link_no_dir was (Link target) link shows dir = cc
link_no_dir was (File number bytes mode) link shows dir = cc

module _ (t : FileTree) (changes : Changes) (asked : CanBeAsked (IsFile t) changes) (fine : IsWellFormed t (rows changes)) where
  kind_at : (r : Row) → Contains (rows changes) r → KindOf r
  kind_at r c = kind_of (IsFile t) changes asked.lawful r c

  same_line : (r o : Row) → Contains (rows changes) r → Contains (rows changes) o → r.line ≡ o.line → r ≡ o
  same_line r o c d e = elim (ordered (λ (r o : Row). r.line < o.line) (rows changes) r o asked.lines c d) [
    | one same ↦ same
    | before less ↦ let less : r.line < o.line = less in absurd (omega arith)
    | after less ↦ let less : o.line < r.line = less in absurd (omega arith)
  ]

  same_source : (r o : Row) (s : Names) → Contains (rows changes) r → Contains (rows changes) o → r.source ≡ Some s → o.source ≡ Some s → r ≡ o
  same_source r o s c d at_r at_o = elim (ordered (λ (r o : Row). HasOtherSource r.source o.source) (rows changes) r o asked.sources c d) [
    | one same ↦ same
    | before other ↦ absurd (other s s at_r at_o refl)
    | after other ↦ absurd (other s s at_o at_r refl)
  ]

  shown_at : (r : Row) (s : Names) (was : Shown) → Contains (rows changes) r → r.source ≡ Some s → r.was ≡ Some was → (node : Node) × (get t s ≡ Some node) × ShowsNode was node
  shown_at r s was c source shown = fine.shown r c s was source shown

  standing_as : (r : Row) (s : Names) → Contains (rows changes) r → r.source ≡ Some s → KindOf r → Stands t s
  standing_as r s c source (edit e lawful is) = ap is_some (shown_at r s e.was c source (ap (λ (x : Row). x.was) is)).1
  standing_as r s c source (removal e is) = ap is_some (shown_at r s e.was c source (ap (λ (x : Row). x.was) is)).1
  standing_as r s c source (creation e is) = absurd (none-some s (sym (ap (λ (x : Row). x.source) is) ∙ source))

  no_dir_as : (r : Row) (s : Names) → Contains (rows changes) r → r.retargets ≡ true → r.source ≡ Some s → KindOf r → IsDir t s → ⊥
  no_dir_as r s c retargets source (edit e lawful is) dir =
      let target = some_of e.target (sym (ap (λ (x : Row). x.retargets) is) ∙ retargets) in
      let seen = shown_at r s e.was c source (ap (λ (x : Row). x.was) is) in
      link_no_dir e.was seen.0 (lawful.target target.0 target.1).0 seen.2 (subst (λ (o : Option Node). IsTrue (is_dir_node o)) seen.1 dir)
  no_dir_as r s c retargets source (removal e is) dir = let both : true ≡ false = sym retargets ∙ ap (λ (x : Row). x.retargets) is in cc
  no_dir_as r s c retargets source (creation e is) dir = let both : true ≡ false = sym retargets ∙ ap (λ (x : Row). x.retargets) is in cc

  created_as : (r : Row) → r.source ≡ None → KindOf r → (w : Names) × (r.to ≡ Some w)
  created_as r none (edit e lawful is) = absurd (none-some e.source (sym none ∙ ap (λ (x : Row). x.source) is))
  created_as r none (removal e is) = absurd (none-some e.path (sym none ∙ ap (λ (x : Row). x.source) is))
  created_as r none (creation e is) = (e.to, ap (λ (x : Row). x.to) is)

  pub rows_are : AreRows t (rows changes)
  rows_are = record {
    lines = same_line;
    sources = same_source;
    not_root = λ r c. All-contains IsNoRoot (rows changes) r asked.not_root c;
    standing = λ r s c source. standing_as r s c source (kind_at r c);
    no_dir = λ r s c retargets source dir. no_dir_as r s c retargets source (kind_at r c) dir;
    created = λ r c none. created_as r none (kind_at r c);
    kinds = kinds_of changes;
  }

  no_link_as : (r : Row) (s : Names) (mode : ℕ) (target : List ℕ) → Contains (rows changes) r → r.source ≡ Some s → r.mode ≡ Some mode → KindOf r → get t s ≡ Some (Link target) → ⊥
  no_link_as r s mode target c source some (edit e lawful is) at =
      let seen = shown_at r s e.was c source (ap (λ (x : Row). x.was) is) in
      let link : Link target ≡ seen.0 = same_Some (Link target) seen.0 (sym at ∙ seen.1) in
      let shows : ShowsNode e.was (Link target) = subst (ShowsNode e.was) (sym link) seen.2 in
      (lawful.mode mode (sym (ap (λ (x : Row). x.mode) is) ∙ some)).0 shows.0
  no_link_as r s mode target c source some (removal e is) at = none-some mode (sym (ap (λ (x : Row). x.mode) is) ∙ some)
  no_link_as r s mode target c source some (creation e is) at = none-some mode (sym (ap (λ (x : Row). x.mode) is) ∙ some)

  -- no link gets a new mode
  pub no_link : (r : Row) (s : Names) (mode : ℕ) (target : List ℕ) → Contains (rows changes) r → r.source ≡ Some s → r.mode ≡ Some mode → get t s ≡ Some (Link target) → ⊥
  no_link r s mode target c source some at = no_link_as r s mode target c source some (kind_at r c) at

-- ---- entries that are made

-- What the entries are like that are made, whatever the kind of the changes, and the modes of their rows.
pub record AreMadeRows (t : FileTree) (rs : List Row) (made : List Node) : Type 0 where
  pub long : length made ≡ length (filter is_fresh rs)
  pub lawful : (x : Node) → Contains made x → IsLawful x
  pub alike : (x y : Node) (number : ℕ) (b c : List ℕ) (m k : ℕ) → Contains made x → Contains made y → x ≡ File number b m → y ≡ File number c k → (b ≡ c) × (m ≡ k)
  -- a file of the tree is made with the bytes and the mode that it has afterwards
  pub as_named : (x : Node) (p : Names) (number : ℕ) (b c : List ℕ) (m k : ℕ) → Contains made x → x ≡ File number b m → get t p ≡ Some (File number c k)
      → (b ≡ c) × (m ≡ unwrap_or (mode_named t rs number) k)
  pub modes : (r : Row) (mode : ℕ) → Contains rs r → r.mode ≡ Some mode → IsMode mode

filter_map_parts : {X Y : Type 0} (h : X → Option Y) (xs : List X) (y : Y) → Contains (filter_map h xs) y → (x : X) × Contains xs x × (h x ≡ Some y)
filter_map_parts h [] y c = absurd (contains_none y c)
filter_map_parts {X = X} {Y = Y} h (x ∷ xs) y c = go (filter_map_parts h xs y) (h x) refl (contains_here c)
  where
    contains_here : Contains (filter_map h (x ∷ xs)) y → Contains (cons_option (h x) (filter_map h xs)) y
    contains_here c = c

    go : (Contains (filter_map h xs) y → (z : X) × Contains xs z × (h z ≡ Some y)) → (o : Option Y) → h x ≡ o → Contains (cons_option (h x) (filter_map h xs)) y → (z : X) × Contains (x ∷ xs) z × (h z ≡ Some y)
    go more None is c = let m = more (subst (λ (o : Option Y). Contains (cons_option o (filter_map h xs)) y) is c) in (m.0, contains_tail x m.0 xs m.1, m.2)
    go more (Some v) is c = elim (contains_cases v y (filter_map h xs) (subst (λ (o : Option Y). Contains (cons_option o (filter_map h xs)) y) is c)) [
      | inl same ↦ (x, contains_head x xs, is ∙ ap (λ (z : Y). Some z) same)
      | inr later ↦ let m = more later in (m.0, contains_tail x m.0 xs m.1, m.2)
    ]

-- the link that an edit asks for
link_of : (e : Edit) (f : Fresh) → option_map asks.Link e.target ≡ Some f → (target : List ℕ) × (e.target ≡ Some target) × (f ≡ asks.Link target)
link_of e f is = go e.target refl
  where
    go : (o : Option (List ℕ)) → e.target ≡ o → (target : List ℕ) × (e.target ≡ Some target) × (f ≡ asks.Link target)
    go None none = absurd (none-some f (sym (ap (option_map asks.Link) none) ∙ is))
    go (Some target) some = (target, some, same_Some f (asks.Link target) (sym is ∙ ap (option_map asks.Link) some))

asked_lawful : (is_file : Names → Type 0) (changes : Changes) → AreLawful is_file changes → (f : Fresh) → Contains (asked_fresh changes) f → IsFreshIn is_file f
asked_lawful is_file (Edits edits) lawful f c =
    let m = filter_map_parts (λ (e : Edit). option_map asks.Link e.target) edits f c in
    let l = link_of m.0 f m.2 in
    subst (IsFreshIn is_file) (sym l.2) ((All-contains IsEdit edits m.0 lawful m.1).target l.0 l.1).2
asked_lawful is_file (Removals removals) lawful f c = absurd (contains_none f c)
asked_lawful is_file (Creations creations) lawful f c =
    let m = map_parts (λ (e : Creation). e.what) creations f c in
    subst (IsFreshIn is_file) m.2 (All-contains (λ (e : Creation). IsFreshIn is_file e.what) creations m.0 lawful m.1)

-- links alone are asked for, or no row has a mode
links_or_plain : (changes : Changes) → ((f : Fresh) → Contains (asked_fresh changes) f → (target : List ℕ) × (f ≡ asks.Link target)) ⊎ ((r : Row) → Contains (rows changes) r → r.mode ≡ None)
links_or_plain (Edits edits) = inl (λ f c. let m = filter_map_parts (λ (e : Edit). option_map asks.Link e.target) edits f c in let l = link_of m.0 f m.2 in (l.0, l.2))
links_or_plain (Removals removals) = inr (λ r c. let m = map_parts removal_row removals r c in ap (λ (x : Row). x.mode) (sym m.2))
links_or_plain (Creations creations) = inr (λ r c. let m = map_parts creation_row creations r c in ap (λ (x : Row). x.mode) (sym m.2))

edits_count : (edits : List Edit) → length (filter_map (λ (e : Edit). option_map asks.Link e.target) edits) ≡ length (filter is_fresh (map edit_row edits))
edits_count [] = refl
edits_count (e ∷ edits) = go (edits_count edits) e.target refl
  where
    go : length (filter_map (λ (x : Edit). option_map asks.Link x.target) edits) ≡ length (filter is_fresh (map edit_row edits)) → (o : Option (List ℕ)) → e.target ≡ o
        → length (filter_map (λ (x : Edit). option_map asks.Link x.target) (e ∷ edits)) ≡ length (filter is_fresh (map edit_row (e ∷ edits)))
    go less None is =
        ap (λ (o : Option (List ℕ)). length (cons_option (option_map asks.Link o) (filter_map (λ (x : Edit). option_map asks.Link x.target) edits))) is
        ∙ less
        ∙ sym (ap (λ (o : Option (List ℕ)). length (cond (is_some o || false) (edit_row e ∷ filter is_fresh (map edit_row edits)) (filter is_fresh (map edit_row edits)))) is)
    go less (Some target) is =
        ap (λ (o : Option (List ℕ)). length (cons_option (option_map asks.Link o) (filter_map (λ (x : Edit). option_map asks.Link x.target) edits))) is
        ∙ ap (λ (n : ℕ). suc n) less
        ∙ sym (ap (λ (o : Option (List ℕ)). length (cond (is_some o || false) (edit_row e ∷ filter is_fresh (map edit_row edits)) (filter is_fresh (map edit_row edits)))) is)

removals_count : (removals : List Removal) → 0 ≡ length (filter is_fresh (map removal_row removals))
removals_count [] = refl
removals_count (e ∷ removals) = removals_count removals

creations_count : (creations : List Creation) → length (map (λ (c : Creation). c.what) creations) ≡ length (filter is_fresh (map creation_row creations))
creations_count [] = refl
creations_count (c ∷ creations) = ap (λ (n : ℕ). suc n) (creations_count creations)

asked_count : (changes : Changes) → length (asked_fresh changes) ≡ length (filter is_fresh (rows changes))
asked_count (Edits edits) = edits_count edits
asked_count (Removals removals) = removals_count removals
asked_count (Creations creations) = creations_count creations

no_mode : (t : FileTree) (rs : List Row) (number : ℕ) → ((r : Row) → Contains rs r → r.mode ≡ None) → mode_named t rs number ≡ None
no_mode t [] number none = refl
no_mode t (r ∷ rs) number none =
    cond-false (is_some r.mode && is_number number (number_in t r.source)) r.mode (mode_named t rs number)
    (ap (λ (o : Option ℕ). is_some o && is_number number (number_in t r.source)) (none r (contains_head r rs)))
    ∙ no_mode t rs number (λ x c. none x (contains_tail r x rs c))

module _ (t : FileTree) (changes : Changes) (tree : IsTree t) (asked : CanBeAsked (IsFile t) changes) (made : List Node) (made_for : AreMadeFor t changes made) where
  made_lawful : (f : Fresh) (x : Node) → IsFreshIn (IsFile t) f → IsMadeFor t f x → IsLawful x
  made_lawful (asks.Link target) x lawful is = subst IsLawful (sym is) lawful
  made_lawful (asks.File bytes mode) x lawful is = subst IsLawful (sym is.1) lawful
  made_lawful (asks.Same path) x lawful is = tree.lawful path x is

  -- a file of a number of the tree is one of its files
  old_file : (f : Fresh) (x : Node) (number : ℕ) (b : List ℕ) (m : ℕ) → IsMadeFor t f x → x ≡ File number b m → HasFileNumber t number → (p : Names) × (get t p ≡ Some (File number b m))
  old_file (asks.Link target) x number b m is file has = let both : Link target ≡ File number b m = sym is ∙ file in absurd cc
  old_file (asks.File bytes mode) x number b m is file has =
      let both : File is.0 bytes mode ≡ File number b m = sym is.1 ∙ file in
      let same : number ≡ is.0 = cc in
      absurd (is.2 (subst (HasFileNumber t) same has))
  old_file (asks.Same path) x number b m is file has = (path, is ∙ ap (λ (n : Node). Some n) file)

  made_of : (x : Node) → Contains made x → (f : Fresh) × Contains (asked_fresh changes) f × IsMadeFor t f x
  made_of x c = zip_right (IsMadeFor t) (asked_fresh changes) made x made_for.each c

  old_made : (x : Node) (number : ℕ) (b : List ℕ) (m : ℕ) → Contains made x → x ≡ File number b m → HasFileNumber t number → (p : Names) × (get t p ≡ Some (File number b m))
  old_made x number b m c file has = let f = made_of x c in old_file f.0 x number b m f.2 file has

  alike_made : (x y : Node) (number : ℕ) (b c : List ℕ) (m k : ℕ) → Contains made x → Contains made y → x ≡ File number b m → y ≡ File number c k → (b ≡ c) × (m ≡ k)
  alike_made x y number b c m k in_x in_y is_x is_y = elim (ordered (HasOtherNumber t) made x y made_for.numbers in_x in_y) [
    | one same ↦ let both : File number b m ≡ File number c k = sym is_x ∙ same ∙ is_y in (cc, cc)
    | before other ↦ both_old (other number b c m k is_x is_y)
    | after other ↦ both_old (other number c b k m is_y is_x)
  ]
    where
      both_old : HasFileNumber t number → (b ≡ c) × (m ≡ k)
      both_old has = let p = old_made x number b m in_x is_x has in let q = old_made y number c k in_y is_y has in tree.alike p.0 q.0 number b c m k p.1 q.1

  named_made : (x : Node) (p : Names) (number : ℕ) (b c : List ℕ) (m k : ℕ) → Contains made x → x ≡ File number b m → get t p ≡ Some (File number c k)
      → (b ≡ c) × (m ≡ unwrap_or (mode_named t (rows changes) number) k)
  named_made x p number b c m k in_x is_x at = elim (links_or_plain changes) [
    | inl links ↦ let f = made_of x in_x in let l = links f.0 f.1 in
        let is_link : x ≡ Link l.0 = subst (λ (f : Fresh). IsMadeFor t f x) l.1 f.2 in
        let both : Link l.0 ≡ File number b m = sym is_link ∙ is_x in absurd cc
    | inr plain ↦ let q = old_made x number b m in_x is_x (p, c, k, at) in
        let same = tree.alike q.0 p number b c m k q.1 at in
        (same.0, same.1 ∙ sym (ap (λ (o : Option ℕ). unwrap_or o k) (no_mode t (rows changes) number plain)))
  ]

  mode_lawful : (r : Row) (mode : ℕ) → KindOf r → r.mode ≡ Some mode → IsMode mode
  mode_lawful r mode (edit e lawful is) some = (lawful.mode mode (sym (ap (λ (x : Row). x.mode) is) ∙ some)).2
  mode_lawful r mode (removal e is) some = absurd (none-some mode (sym (ap (λ (x : Row). x.mode) is) ∙ some))
  mode_lawful r mode (creation e is) some = absurd (none-some mode (sym (ap (λ (x : Row). x.mode) is) ∙ some))

  pub made_are : AreMadeRows t (rows changes) made
  made_are = record {
    long = AllZip-long (IsMadeFor t) (asked_fresh changes) made made_for.each ∙ asked_count changes;
    lawful = λ x c. let f = made_of x c in made_lawful f.0 x (asked_lawful (IsFile t) changes asked.lawful f.0 f.1) f.2;
    alike = alike_made;
    as_named = named_made;
    modes = λ r mode c some. mode_lawful r mode (kind_of (IsFile t) changes asked.lawful r c) some;
  }
