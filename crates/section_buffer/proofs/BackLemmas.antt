-- Which sections there are, and sections that are put in and come out again.
use Rattle.std.proofs.Common.{◌≡◌, ℕ, ◌+◌, ◌<◌, ◌≤◌, suc, List, [], ◌∷◌, ◌++◌, length, take, drop, refl, ap, sym, subst, ◌∙◌, arith, length-append, append_assoc, Option, Some, None, Bool, true, false, ◌||◌, Err, if◌then◌else◌}
use Rattle.std.specs.Option.{option_map}
use Rattle.std.specs.Prelude.{is_some}
use Rattle.std.proofs.lemmas.Cmp.{lists_equiv, nat_list_eq_equiv}
use Rattle.std.proofs.lemmas.List.{drop_at, length-map, take-append-drop, take_at}
use Rattle.link_rows.specs.declared.rows.RowId.{RowId}
use Rattle.dired_text.specs.Paths.{Names}
use Rattle.listing_text.specs.declared.line.Line.{Line as line_type}
use Rattle.tree_core.specs.FileTree.{kind_of}
use Rattle.tree_core.specs.declared.node.Node.{Node}
use Rattle.tree_core.specs.declared.node.Node.TheVariants.{Dir, Link, File}
use Rattle.tree_core.specs.declared.node.Kind.{Kind}
use Rattle.tree_core.specs.declared.node.Kind.TheVariants as kind
use Rattle.section_rows.specs.declared.row.BufferRow.{BufferRow}
use Rattle.section_rows.specs.declared.row.BufferRow.TheVariants.{Head, Line}
use Rattle.section_rows.specs.Orders.{Ordered, values_in}
use Rattle.section_buffer.specs.declared.ends.BufferEnd.{BufferEnd}
use Rattle.section_buffer.specs.declared.ends.BufferEnd.TheVariants.{NoSuchDir, NotDirectory, AlreadyThere, NotThere, TreeFault, Memory}
use Rattle.section_buffer.specs.declared.section.Section.{Section}
use Rattle.section_buffer.specs.Rows.{rows_of, sections_of, with_rows, without_rows}
use Rattle.section_buffer.specs.Places.{head_place, same_names}
use Rattle.section_buffer.specs.Buffers.{BufferState, inserted, is_later_head, later_place, shown_rows, uninserted}
use Rattle.section_buffer.specs.Held.{FoundAt, IsRootFirst}
use Rattle.section_buffer.specs.Making.{EndsAs, IsFaultOrMemory, insert_refusal, is_among_sections}
use Rattle.section_buffer.proofs.RowLemmas.{length-take, root-stays, rows-sections, sections-rows}
use Rattle.section_buffer.proofs.BufferLemmas.{with_sections}
use Rattle.section_buffer.proofs.BehindLemmas.{root-early}

-- ---- which sections there are

map-there : {A B : Type 0} (f : A → B) (left : Option A) → is_some (option_map f left) ≡ is_some left
map-there f None = refl
map-there f (Some x) = refl

head-there : (same : Bool) (left : Option ℕ) (rest : Bool) → is_some left ≡ rest → is_some (if same then Some 0 else option_map suc left) ≡ (same || rest)
head-there true left rest e = refl
head-there false left rest e = map-there suc left ∙ e

there : (dir : Names) (rows : List BufferRow) → is_some (head_place dir rows) ≡ is_among_sections dir (sections_of rows)
there dir [] = refl
there dir (Head of hidden ∷ rows) = head-there (same_names of dir) (head_place dir rows) (is_among_sections dir (sections_of rows)) (there dir rows)
there dir (Line line ∷ rows) = map-there suc (head_place dir rows) ∙ there dir rows

found-is : (order : List ℕ) (place found : Option ℕ) → FoundAt order place found → is_some place ≡ is_some found
found-is order None None f = refl
found-is order None (Some r) f = absurd f
found-is order (Some at) None f = absurd f
found-is order (Some at) (Some r) f = refl

there-as-found : (o : Ordered) (dir : Names) (found : Option RowId) → FoundAt o.order (head_place dir (values_in o.values o.order)) (option_map (λ (row : RowId). row.0) found)
    → is_among_sections dir (sections_of (values_in o.values o.order)) ≡ is_some found
there-as-found o dir found f =
    sym (there dir (values_in o.values o.order))
    ∙ (found-is o.order (head_place dir (values_in o.values o.order)) (option_map (λ (row : RowId). row.0) found) f ∙ map-there (λ (row : RowId). row.0) found)

-- ---- why a section isn't put in

none-there : (k : Kind) → None ≡ Some k → ⊥
none-there k e = cc

same-kind : (k l : Kind) → Some k ≡ Some l → k ≡ l
same-kind k l e = cc

link-dir : kind.Link ≡ kind.Dir → ⊥
link-dir e = cc

file-dir : kind.File ≡ kind.Dir → ⊥
file-dir e = cc

refused-dir : (node : Option Node) (there : Bool) → Some kind.Dir ≡ option_map kind_of node → insert_refusal node there ≡ (if there then Some AlreadyThere else None)
refused-dir None there e = absurd (none-there kind.Dir (sym e))
refused-dir (Some (Dir mode)) there e = refl
refused-dir (Some (Link target)) there e = absurd (link-dir (sym (same-kind kind.Dir kind.Link e)))
refused-dir (Some (File number bytes mode)) there e = absurd (file-dir (sym (same-kind kind.Dir kind.File e)))

pub was-there : (o : Ordered) (sections : List Section) (dir : Names) (found : Option RowId) (there : Bool) → sections ≡ sections_of (values_in o.values o.order)
    → FoundAt o.order (head_place dir (values_in o.values o.order)) (option_map (λ (row : RowId). row.0) found) → is_some found ≡ there → is_among_sections dir sections ≡ there
was-there o sections dir found there e f is = ap (is_among_sections dir) e ∙ (there-as-found o dir found f ∙ is)

pub refused-there : (o : Ordered) (sections : List Section) (dir : Names) (found : Option RowId) (there : Bool) (node : Option Node) → sections ≡ sections_of (values_in o.values o.order)
    → FoundAt o.order (head_place dir (values_in o.values o.order)) (option_map (λ (row : RowId). row.0) found) → is_some found ≡ there → Some kind.Dir ≡ option_map kind_of node
    → insert_refusal node (is_among_sections dir sections) ≡ (if there then Some AlreadyThere else None)
refused-there o sections dir found there node e f is dir_there =
    refused-dir node (is_among_sections dir sections) dir_there ∙ ap (λ (b : Bool). if b then Some AlreadyThere else None) (was-there o sections dir found there e f is)

-- a call ends by a fault or want of memory
pub ends-so : (refusal : Option BufferEnd) (end : BufferEnd) → IsFaultOrMemory end → refusal ≡ None → EndsAs refusal (Err end)
ends-so refusal NoSuchDir h none = absurd h
ends-so refusal NotDirectory h none = absurd h
ends-so refusal AlreadyThere h none = absurd h
ends-so refusal NotThere h none = absurd h
ends-so refusal (TreeFault call) h none = tt
ends-so refusal Memory h none = none

-- ---- what was put in comes out again

tested-within : (test : Bool) (left n : ℕ) → left ≤ n → (if test then 0 else suc left) ≤ suc n
tested-within true left n h = omega arith
tested-within false left n h = omega arith

later-within : (dir : Names) (rows : List BufferRow) → later_place dir rows ≤ length rows
later-within dir [] = omega arith
later-within dir (row ∷ rows) = tested-within (is_later_head dir row) (later_place dir rows) (length rows) (later-within dir rows)

later-behind : (dir : Names) (rows : List BufferRow) → IsRootFirst rows → 0 < later_place dir rows
later-behind dir [] h = absurd h
later-behind dir (Line line ∷ rows) h = absurd h
later-behind dir (Head (name ∷ of) hidden ∷ rows) h = absurd h
later-behind dir (Head [] hidden ∷ rows) h =
    let e : later_place dir (Head [] hidden ∷ rows) ≡ suc (later_place dir rows) = ap (λ (test : Bool). if test then 0 else suc (later_place dir rows)) (root-early dir hidden) in
    omega arith

module _ (b : BufferState) (dir : Names) (lines : List line_type) (root : IsRootFirst (rows_of b.sections)) where
  abbrev R : List BufferRow
  R = rows_of b.sections

  abbrev at : ℕ
  at = later_place dir R

  abbrev us : List BufferRow
  us = take at R

  abbrev cs : List BufferRow
  cs = drop at R

  abbrev vs : List BufferRow
  vs = shown_rows dir lines

  front : length us ≡ at
  front = length-take at R (later-within dir R)

  whole : us ++ cs ≡ R
  whole = take-append-drop at R

  many : length vs ≡ suc (length lines)
  many = ap suc (length-map lines Line)

  new-root : IsRootFirst (us ++ (vs ++ cs))
  new-root = root-stays us cs (vs ++ cs) (omega (arith, front, later-behind dir R root)) (subst (λ (rows : List BufferRow). IsRootFirst rows) (sym whole) root)

  cut : without_rows at (suc (length lines)) (us ++ (vs ++ cs)) ≡ us ++ cs
  cut =
      let n = at + suc (length lines) in
      let both : length (us ++ vs) ≡ n = omega (arith, length-append us vs, front, many) in
      ap (λ (rows : List BufferRow). rows ++ drop n (us ++ (vs ++ cs))) (take_at us (vs ++ cs) at front)
      ∙ ap (λ (rows : List BufferRow). us ++ rows) (ap (drop n) (sym (append_assoc us vs cs)) ∙ drop_at (us ++ vs) cs n both)

  pub insertion-back : uninserted dir (inserted dir lines b) ≡ Some b
  insertion-back =
      let n = suc (length lines) in
      let without = λ (rows : List BufferRow). Some (with_sections b.switches (sections_of (without_rows at n rows)) b.events) in
      let put = sections_of (with_rows at vs R) in
      let same : same_names dir dir ≡ true = (lists_equiv nat_list_eq_equiv).refl dir in
      ap (λ (test : Bool). if test then without (rows_of put) else None) same
      ∙ (ap without (sections-rows (us ++ (vs ++ cs)) new-root)
      ∙ ap (λ (sections : List Section). Some (with_sections b.switches sections b.events)) (ap sections_of (cut ∙ whole) ∙ rows-sections b.sections))
