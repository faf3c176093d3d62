-- Sections that are listed again, place by place.
use Rattle.std.proofs.Common.{◌≡◌, ℕ, ◌+◌, ◌<◌, ◌≤◌, suc, List, [], ◌∷◌, ◌++◌, length, map, take, drop, get_or, refl, ap, sym, subst, ◌∙◌, arith, length-append, append_assoc, append-nil, Bool, true, false, Contains}
use Rattle.std.proofs.Math.Seq.{take-suc}
use Rattle.std.proofs.lemmas.List.{drop_all, drop_more, map-append, take_all}
use Rattle.std.proofs.lemmas.List.Elements.{filter-append}
use Rattle.std.specs.BTreeMap.{insert_entry}
use Rattle.std.specs.FinMap.{get}
use Rattle.std.specs.List.{AllByRecursion}
use Rattle.std.specs.List.Sorted.{IsStrictlySortedBy}
use Rattle.std.specs.Map.{keys_of}
use Rattle.std.specs.declared.cmp.Ordering.{Ordering}
use Rattle.std.specs.declared.cmp.Ordering.TheVariants.{Less}
use Rattle.link_rows.specs.Net.{AllBelow}
use Rattle.dired_text.specs.Paths.{Names, path_cmp}
use Rattle.listing_text.specs.declared.line.Line.{Line as line_type}
use Rattle.listing_text.specs.declared.switches.Switches.{Switches}
use Rattle.subdir_list.specs.Listings.{IsListed}
use Rattle.tree_core.specs.FileTree.{FileTree, is_dir_node}
use Rattle.tree_core.specs.declared.meta.Meta.{Meta}
use Rattle.section_rows.specs.declared.row.BufferRow.{BufferRow}
use Rattle.section_rows.specs.declared.row.BufferRow.TheVariants.{Head, Line}
use Rattle.section_rows.specs.Orders.{Ordered, from_row, no_rows, values_in}
use Rattle.section_buffer.specs.declared.section.Section.{Section}
use Rattle.section_buffer.specs.Rows.{rows_of, sections_of}
use Rattle.section_buffer.specs.Buffers.{rows_of_section}
use Rattle.section_buffer.specs.Relisting.{AreListed, IsRootPlace, Moves, Place, dir_after, dirs_of, places_after, places_with, standing}
use Rattle.section_buffer.specs.Held.{AreRowsOf, IsRootFirst, ListsPlace, MakesSection, with_made, with_place}
use Rattle.section_buffer.proofs.GatherLemmas.{from-values}
use Rattle.section_buffer.proofs.RowLemmas.{rows-sections}

-- ---- the places of the sections

places-step : (moved : Moves) (places : List Place) (v : BufferRow) (rows : List BufferRow) → places_with moved places (sections_of (v ∷ rows)) ≡ places_with moved (with_place moved v places) (sections_of rows)
places-step moved places (Head dir hidden) rows = refl
places-step moved places (Line line) rows = refl

pub places-next : (moved : Moves) (places : List Place) (o : Ordered) (r : ℕ) (v : BufferRow) → AllBelow (length o.values) o.order → Contains o.order r → v ≡ get_or o.values r v
    → places_with moved places (sections_of (values_in o.values (from_row r o.order))) ≡ places_with moved (with_place moved v places) (sections_of (values_in o.values (drop 1 (from_row r o.order))))
places-next moved places o r v b c e =
    ap (λ (rows : List BufferRow). places_with moved places (sections_of rows)) (from-values o r v b c e) ∙ places-step moved places v (values_in o.values (drop 1 (from_row r o.order)))

-- the root is the first of them
root-put : (moved : Moves) (places : List Place) (section : Section) → IsRootPlace places → IsRootPlace (insert_entry path_cmp places (dir_after moved section.dir) section.hidden)
root-put moved [] section h = absurd h
root-put moved (place ∷ places) section h = by (dir_after moved section.dir) place h
  where
    by : (dir : Names) (first : Place) → first.0 ≡ [] → IsRootPlace (insert_entry path_cmp (first ∷ places) dir section.hidden)
    by [] first e = subst (λ (d : Names). IsRootPlace (insert_entry path_cmp ((d, first.1) ∷ places) [] section.hidden)) (sym e) refl
    by (name ∷ dir) first e = subst (λ (d : Names). IsRootPlace (insert_entry path_cmp ((d, first.1) ∷ places) (name ∷ dir) section.hidden)) (sym e) refl

root-puts : (moved : Moves) (places : List Place) (sections : List Section) → IsRootPlace places → IsRootPlace (places_with moved places sections)
root-puts moved places [] h = h
root-puts moved places (section ∷ sections) h = root-puts moved (insert_entry path_cmp places (dir_after moved section.dir) section.hidden) sections (root-put moved places section h)

pub root-stays-first : (moved : Moves) (rows : List BufferRow) → dir_after moved [] ≡ [] → IsRootFirst rows → IsRootPlace (places_after moved (sections_of rows))
root-stays-first moved [] stays h = absurd h
root-stays-first moved (Line line ∷ rows) stays h = absurd h
root-stays-first moved (Head (name ∷ dir) hidden ∷ rows) stays h = absurd h
root-stays-first moved (Head [] hidden ∷ rows) stays h = root-puts moved ((dir_after moved [], hidden) ∷ []) (sections_of rows) stays

-- ---- the places at which directories stand

standing-one : (t : FileTree) (places : List Place) (i : ℕ) (place : Place) → i < length places → place ≡ get_or places i place → standing t (take (i + 1) places) ≡ standing t (take i places) ++ standing t (place ∷ [])
standing-one t places i place below is =
    let one : i + 1 ≡ suc i = omega arith in
    ap (standing t) (ap (λ (n : ℕ). take n places) one ∙ (take-suc places i place below ∙ ap (λ (p : Place). take i places ++ p ∷ []) (sym is)))
    ∙ filter-append (λ (p : Place). is_dir_node (get t p.0)) (take i places) (place ∷ [])

listed-all : (switches : Switches) (t : FileTree) (fields : Names → Meta) (places : List Place) (sections : List Section) (place : Place) (section : Section) → AreListed switches t fields places sections → section.dir ≡ place.0 → section.hidden ≡ place.1 → IsListed switches t fields place.0 section.lines
    → AreListed switches t fields (places ++ place ∷ []) (sections ++ section ∷ [])
listed-all switches t fields [] [] place section all d h l = (d, h, l, tt)
listed-all switches t fields [] (s ∷ sections) place section all d h l = absurd all
listed-all switches t fields (p ∷ places) [] place section all d h l = absurd all
listed-all switches t fields (p ∷ places) (s ∷ sections) place section all d h l = (all.0, all.1, all.2, listed-all switches t fields places sections place section all.3 d h l)

section_at : Place → List line_type → Section
section_at place lines = record { dir = place.0; hidden = place.1; lines = lines }

listed-more : (switches : Switches) (t : FileTree) (fields : Names → Meta) (places : List Place) (i : ℕ) (place : Place) (sections : List Section) (lines : List line_type) → i < length places → place ≡ get_or places i place → is_dir_node (get t place.0) ≡ true
    → AreListed switches t fields (standing t (take i places)) sections → IsListed switches t fields place.0 lines → AreListed switches t fields (standing t (take (i + 1) places)) (sections ++ section_at place lines ∷ [])
unfolding section_at
listed-more switches t fields places i place sections lines below is dir all here =
    let one : standing t (place ∷ []) ≡ place ∷ [] = rw dir refl in
    let parts : standing t (take (i + 1) places) ≡ standing t (take i places) ++ place ∷ [] = standing-one t places i place below is ∙ ap (λ (ps : List Place). standing t (take i places) ++ ps) one in
    subst (λ (ps : List Place). AreListed switches t fields ps (sections ++ section_at place lines ∷ [])) (sym parts)
    (listed-all switches t fields (standing t (take i places)) sections place (section_at place lines) all refl refl here)

listed-less : (switches : Switches) (t : FileTree) (fields : Names → Meta) (places : List Place) (i : ℕ) (place : Place) (sections : List Section) → i < length places → place ≡ get_or places i place → is_dir_node (get t place.0) ≡ false
    → AreListed switches t fields (standing t (take i places)) sections → AreListed switches t fields (standing t (take (i + 1) places)) sections
listed-less switches t fields places i place sections below is other all =
    let none : standing t (place ∷ []) ≡ [] = rw other refl in
    let parts : standing t (take (i + 1) places) ≡ standing t (take i places) =
    standing-one t places i place below is ∙ (ap (λ (ps : List Place). standing t (take i places) ++ ps) none ∙ append-nil (standing t (take i places))) in
    subst (λ (ps : List Place). AreListed switches t fields ps sections) (sym parts) all

-- ---- lists in order without one in their midst

all-without : {K : Type 0} (P : K → Type 0) (xs : List K) (y : K) (zs : List K) → AllByRecursion P (xs ++ y ∷ zs) → AllByRecursion P (xs ++ zs)
all-without P [] y zs h = h.1
all-without P (x ∷ xs) y zs h = (h.0, all-without P xs y zs h.1)

sorted-without : {K : Type 0} (cmp : K → K → Ordering) (xs : List K) (y : K) (zs : List K) → IsStrictlySortedBy cmp (xs ++ y ∷ zs) → IsStrictlySortedBy cmp (xs ++ zs)
unfolding IsStrictlySortedBy
sorted-without cmp [] y zs h = h.1
sorted-without cmp (x ∷ xs) y zs h = (all-without (λ k. cmp x k ≡ Less) xs y zs h.0, sorted-without cmp xs y zs h.1)

-- the first of these directories is the root
abbrev pub IsRootDir : List Names → Type 0
IsRootDir [] = ⊥
IsRootDir (dir ∷ dirs) = dir ≡ []

root-without : (xs : List Names) (y : Names) (zs : List Names) → (y ≡ [] → ⊥) → IsRootDir (xs ++ y ∷ zs) → IsRootDir (xs ++ zs)
root-without [] y zs other h = absurd (other h)
root-without (x ∷ xs) y zs other h = h

root-of : (sections : List Section) → IsRootDir (dirs_of sections) → IsRootFirst (rows_of sections)
root-of [] h = absurd h
root-of (s ∷ sections) h = subst (λ (d : Names). IsRootFirst (Head d s.hidden ∷ (map Line s.lines ++ rows_of sections))) (sym h) tt

-- ---- rows that are made section by section

made-twice : (vs ws : List BufferRow) (o : Ordered) → with_made ws (with_made vs o) ≡ with_made (vs ++ ws) o
made-twice vs ws o =
    let n : length ws + (length vs + o.built) ≡ length (vs ++ ws) + o.built = omega (arith, length-append vs ws) in
    ap (λ (k : ℕ). record { order = o.order; built = k; values = (o.values ++ vs) ++ ws; steps = o.steps }) n
    ∙ ap (λ (us : List BufferRow). record { order = o.order; built = length (vs ++ ws) + o.built; values = us; steps = o.steps }) (append_assoc o.values vs ws)

rows-joined : (sections : List Section) (s : Section) → rows_of (sections ++ s ∷ []) ≡ rows_of sections ++ rows_of_section s.dir s.hidden s.lines
rows-joined [] s = ap (λ (rows : List BufferRow). Head s.dir s.hidden ∷ rows) (append-nil (map Line s.lines))
rows-joined (x ∷ sections) s =
    ap (λ (rows : List BufferRow). Head x.dir x.hidden ∷ (map Line x.lines ++ rows)) (rows-joined sections s)
    ∙ ap (λ (rows : List BufferRow). Head x.dir x.hidden ∷ rows) (sym (append_assoc (map Line x.lines) (rows_of sections) (rows_of_section s.dir s.hidden s.lines)))

-- The rows of the sections of the first so many places are made.
pub record ListedSoFar (Are : List Section → Type 0) (i : ℕ) (places : List Place) (rows : Ordered) : Type 0 where
  pub sections : List Section
  pub are : Are sections
  pub made : rows ≡ with_made (rows_of sections) no_rows
  pub root : IsRootDir (dirs_of sections ++ keys_of (drop i places))
  pub in_order : IsStrictlySortedBy path_cmp (dirs_of sections ++ keys_of (drop i places))

keys-next : (places : List Place) (i : ℕ) (place : Place) → i < length places → place ≡ get_or places i place → keys_of (drop i places) ≡ place.0 ∷ keys_of (drop (i + 1) places)
keys-next places i place below is = ap (λ (ps : List Place). keys_of ps) (drop_more places i place below ∙ ap (λ (p : Place). p ∷ drop (i + 1) places) (sym is))

root-key : (places : List Place) → IsRootPlace places → IsRootDir (keys_of places)
root-key [] h = absurd h
root-key (p ∷ places) h = h

so-far-none : (Are : List Section → Type 0) (places : List Place) (rows : Ordered) → rows ≡ no_rows → Are [] → IsRootPlace places → IsStrictlySortedBy path_cmp (keys_of places) → ListedSoFar Are 0 places rows
so-far-none Are places rows e are root sorted = record { sections = []; are = are; made = e; root = root-key places root; in_order = sorted }

module _ (Are New : List Section → Type 0) (places : List Place) (i : ℕ) (place : Place) (rows : Ordered) (below : i < length places) (is : place ≡ get_or places i place) (s : ListedSoFar Are i places rows) where
  abbrev ahead : List Names
  ahead = keys_of (drop (i + 1) places)

  left : dirs_of s.sections ++ keys_of (drop i places) ≡ dirs_of s.sections ++ place.0 ∷ ahead
  left = ap (λ (ks : List Names). dirs_of s.sections ++ ks) (keys-next places i place below is)

  so-far-less : (place.0 ≡ [] → ⊥) → ((sections : List Section) → Are sections → New sections) → ListedSoFar New (i + 1) places rows
  so-far-less other step = record {
    sections = s.sections;
    are = step s.sections s.are;
    made = s.made;
    root = root-without (dirs_of s.sections) place.0 ahead other (subst IsRootDir left s.root);
    in_order = sorted-without path_cmp (dirs_of s.sections) place.0 ahead (subst (λ (ds : List Names). IsStrictlySortedBy path_cmp ds) left s.in_order);
  }

  so-far-more : (Lines : List line_type → Type 0) (new : Ordered) → MakesSection Lines place rows new → ((sections : List Section) (lines : List line_type) → Are sections → Lines lines → New (sections ++ section_at place lines ∷ [])) → ListedSoFar New (i + 1) places new
  unfolding section_at
  so-far-more Lines new m step =
      let lines = m.0 in
      let one = section_at place lines in
      let more = s.sections ++ one ∷ [] in
      let all : dirs_of s.sections ++ place.0 ∷ ahead ≡ dirs_of more ++ ahead =
      sym (append_assoc (dirs_of s.sections) (place.0 ∷ []) ahead) ∙ ap (λ (ds : List Names). ds ++ ahead) (sym (map-append (λ (x : Section). x.dir) s.sections (one ∷ []))) in
      record {
        sections = more;
        are = step s.sections lines s.are m.1;
        made = m.2
            ∙ (ap (with_made (rows_of_section place.0 place.1 lines)) s.made
            ∙ (made-twice (rows_of s.sections) (rows_of_section place.0 place.1 lines) no_rows ∙ ap (λ (vs : List BufferRow). with_made vs no_rows) (sym (rows-joined s.sections one))));
        root = subst IsRootDir (left ∙ all) s.root;
        in_order = subst (λ (ds : List Names). IsStrictlySortedBy path_cmp ds) (left ∙ all) s.in_order;
      }

so-far-all : (Are New : List Section → Type 0) (places : List Place) (i : ℕ) (rows : Ordered) → length places ≤ i → ListedSoFar Are i places rows → ((sections : List Section) → Are sections → New sections) → AreRowsOf New rows
so-far-all Are New places i rows past s last =
    let end : dirs_of s.sections ++ keys_of (drop i places) ≡ dirs_of s.sections = ap (λ (ps : List Place). dirs_of s.sections ++ keys_of ps) (drop_all i places past) ∙ append-nil (dirs_of s.sections) in
    record {
      sections = s.sections;
      are = last s.sections s.are;
      root = root-of s.sections (subst IsRootDir end s.root);
      in_order = subst (λ (ds : List Names). IsStrictlySortedBy path_cmp ds) end s.in_order;
      made = s.made;
    }

-- what a place adds
pub lists-as : (stands : Bool) (Are New : List line_type → Type 0) (place : Place) (old new : Ordered) → ((lines : List line_type) → Are lines → New lines) → ListsPlace stands Are place old new → ListsPlace stands New place old new
lists-as true Are New place old new f m = (m.0, f m.0 m.1, m.2)
lists-as false Are New place old new f m = m

pub so-far-next : (Tells : Type 0) (switches : Switches) (t : FileTree) (fields : Names → Meta) (places : List Place) (i : ℕ) (place : Place) (rows new : Ordered) (stands : Bool) → i < length places → place ≡ get_or places i place
    → ListedSoFar (λ sections. Tells → AreListed switches t fields (standing t (take i places)) sections) i places rows → (Tells → stands ≡ is_dir_node (get t place.0))
    → ListsPlace stands (λ lines. Tells → IsListed switches t fields place.0 lines) place rows new → ListedSoFar (λ sections. Tells → AreListed switches t fields (standing t (take (i + 1) places)) sections) (i + 1) places new
so-far-next Tells switches t fields places i place rows new true below is s dir m =
    let Before = λ (sections : List Section). Tells → AreListed switches t fields (standing t (take i places)) sections in
    let After = λ (sections : List Section). Tells → AreListed switches t fields (standing t (take (i + 1) places)) sections in
    so-far-more Before After places i place rows below is s (λ lines. Tells → IsListed switches t fields place.0 lines) new m
    (λ sections lines all here tells. listed-more switches t fields places i place sections lines below is (sym (dir tells)) (all tells) (here tells))
so-far-next Tells switches t fields places i place rows new false below is s other m =
    let Before = λ (sections : List Section). Tells → AreListed switches t fields (standing t (take i places)) sections in
    let After = λ (sections : List Section). Tells → AreListed switches t fields (standing t (take (i + 1) places)) sections in
    subst (λ (x : Ordered). ListedSoFar After (i + 1) places x) (sym m.1)
    (so-far-less Before After places i place rows below is s m.0 (λ sections all tells. listed-less switches t fields places i place sections below is (sym (other tells)) (all tells)))

pub so-far-start : (Tells : Type 0) (switches : Switches) (t : FileTree) (fields : Names → Meta) (places : List Place) (rows : Ordered) → rows ≡ no_rows → IsRootPlace places → IsStrictlySortedBy path_cmp (keys_of places)
    → ListedSoFar (λ sections. Tells → AreListed switches t fields (standing t (take 0 places)) sections) 0 places rows
so-far-start Tells switches t fields places rows e root sorted =
    so-far-none (λ (sections : List Section). Tells → AreListed switches t fields (standing t (take 0 places)) sections) places rows e (λ tells. tt) root sorted

pub so-far-end : (Tells : Type 0) (switches : Switches) (t : FileTree) (fields : Names → Meta) (places : List Place) (i : ℕ) (rows : Ordered) → length places ≤ i
    → ListedSoFar (λ sections. Tells → AreListed switches t fields (standing t (take i places)) sections) i places rows → AreRowsOf (λ sections. Tells → AreListed switches t fields (standing t places) sections) rows
so-far-end Tells switches t fields places i rows past s =
    let Before = λ (sections : List Section). Tells → AreListed switches t fields (standing t (take i places)) sections in
    let After = λ (sections : List Section). Tells → AreListed switches t fields (standing t places) sections in
    so-far-all Before After places i rows past s
    (λ sections all tells. subst (λ (ps : List Place). AreListed switches t fields (standing t ps) sections) (take_all i places past) (all tells))

-- what the rows are of
pub listed-sections : (Are : List Section → Type 0) (rows : Ordered) (r : AreRowsOf Are rows) → sections_of rows.values ≡ r.sections
listed-sections Are rows r = ap (λ (x : Ordered). sections_of x.values) r.made ∙ rows-sections r.sections
