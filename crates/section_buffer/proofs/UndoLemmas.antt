-- Kills that are undone.
use Rattle.std.proofs.Common.{◌≤◌, length-drop, ◌≡◌, ℕ, ◌+◌, ◌<◌, suc, List, [], ◌∷◌, ◌++◌, length, take, drop, refl, ap, sym, subst, ◌∙◌, arith, Some, None, Option, Bool, true, false, if◌then◌else◌, not, ◌&&◌}
use Rattle.std.specs.Option.{option_map}
use Rattle.std.proofs.lemmas.List.{take_at, drop_at, drop-drop, take-append-drop}
use Rattle.dired_text.specs.Paths.{Names}
use Rattle.listing_text.specs.declared.switches.Switches.{Switches}
use Rattle.section_rows.specs.declared.row.BufferRow.{BufferRow}
use Rattle.section_rows.specs.declared.row.BufferRow.TheVariants.{Head, Line}
use Rattle.section_rows.specs.Orders.{Ordered, values_in}
use Rattle.section_buffer.specs.declared.kept.Kept.{Kept}
use Rattle.section_buffer.specs.Rows.{lines_of, rows_of, sections_of, with_rows, without_rows}
use Rattle.section_buffer.specs.Places.{head_place, is_head_of, is_line_of, line_place}
use Rattle.section_buffer.specs.Buffers.{Asked, BufferState, LineOf, SectionOf, all_killed, all_unkilled, and_then, killed, killed_as, unkilled}
use Rattle.section_buffer.specs.Held.{IsRootFirst, IsBuffer}
use Rattle.section_buffer.proofs.RowLemmas.{length-take, root-stays, rows-sections, sections-rows}
use Rattle.section_buffer.proofs.BufferLemmas.{line-behind, none-some, some-inj, with_sections}
use Rattle.section_buffer.proofs.TakeLemmas.{head-behind}

no-state : (b : BufferState) → None ≡ Some b → ⊥
no-state b e = cc

some-state : (b c : BufferState) → Some b ≡ Some c → b ≡ c
some-state b c e = cc

-- a place that is found is one of a row
later-within : (left : Option ℕ) (n m : ℕ) → ((k : ℕ) → left ≡ Some k → k < m) → option_map suc left ≡ Some n → n < suc m
later-within None n m h e = absurd (none-some n e)
later-within (Some k) n m h e = let below = h k refl in let same : suc k ≡ n = some-inj (suc k) n e in omega arith

tested-within : (test : Bool) (left : Option ℕ) (n m : ℕ) → ((k : ℕ) → left ≡ Some k → k < m) → (if test then Some 0 else option_map suc left) ≡ Some n → n < suc m
tested-within true left n m h e = let same : 0 ≡ n = some-inj 0 n e in omega arith
tested-within false left n m h e = later-within left n m h e

line-within : (path dir : Names) (hidden : Bool) (rows : List BufferRow) (n : ℕ) → line_place path dir hidden rows ≡ Some n → n < length rows
line-within path dir hidden [] n e = absurd (none-some n e)
line-within path dir hidden (Head d h ∷ rows) n e = later-within (line_place path d h rows) n (length rows) (λ k f. line-within path d h rows k f) e
line-within path dir hidden (Line line ∷ rows) n e =
    tested-within (not hidden && is_line_of path dir line) (line_place path dir hidden rows) n (length rows) (λ k f. line-within path dir hidden rows k f) e

head-within : (dir : Names) (rows : List BufferRow) (n : ℕ) → head_place dir rows ≡ Some n → n < length rows
head-within dir [] n e = absurd (none-some n e)
head-within dir (row ∷ rows) n e = tested-within (is_head_of dir row) (head_place dir rows) n (length rows) (λ k f. head-within dir rows k f) e

lines-few : (rows : List BufferRow) → length (lines_of rows) ≤ length rows
lines-few [] = omega arith
lines-few (Head dir hidden ∷ rows) = omega arith
lines-few (Line line ∷ rows) = let few = lines-few rows in omega arith

-- rows that were killed are put back
module _ (b : BufferState) (at many : ℕ) (within : at + many ≤ length (rows_of b.sections)) (behind : 0 < at) (root : IsRootFirst (rows_of b.sections)) where
  abbrev R : List BufferRow
  R = rows_of b.sections

  abbrev us : List BufferRow
  us = take at R

  abbrev rs : List BufferRow
  rs = take many (drop at R)

  abbrev cs : List BufferRow
  cs = drop (at + many) R

  front-length : length us ≡ at
  front-length = let low : at ≤ length R = omega arith in length-take at R low

  whole : us ++ (rs ++ cs) ≡ R
  whole = ap (λ x. us ++ (rs ++ x)) (sym (drop-drop many at R)) ∙ (ap (λ x. us ++ x) (take-append-drop many (drop at R)) ∙ take-append-drop at R)

  cut-root : IsRootFirst (us ++ cs)
  cut-root = root-stays us (rs ++ cs) cs (omega (arith, front-length)) (subst (λ x. IsRootFirst x) (sym whole) root)

  put-back : with_rows at rs (us ++ cs) ≡ R
  put-back =
      ap (λ front. front ++ (rs ++ drop at (us ++ cs))) (take_at us cs at front-length)
      ∙ (ap (λ back. us ++ (rs ++ back)) (drop_at us cs at front-length) ∙ whole)

  pub kill-back : unkilled (killed at many b) ≡ Some b
  kill-back =
      ap (λ x. Some (with_sections b.switches (sections_of (with_rows at rs x)) b.events)) (sections-rows (us ++ cs) cut-root)
      ∙ (ap (λ x. Some (with_sections b.switches (sections_of x) b.events)) put-back ∙ ap (λ x. Some (with_sections b.switches x b.events)) (rows-sections b.sections))

  pub kill-root : IsRootFirst (rows_of (sections_of (without_rows at many R)))
  kill-root = subst (λ x. IsRootFirst x) (sym (sections-rows (us ++ cs) cut-root)) cut-root

-- one kill and one unkill
abbrev ComesBack : BufferState → BufferState → Type 0
ComesBack b c = (unkilled c ≡ Some b) × IsRootFirst (rows_of c.sections)

killed-back : (b c : BufferState) (at many : ℕ) → at + many ≤ length (rows_of b.sections) → 0 < at → IsRootFirst (rows_of b.sections) → killed at many b ≡ c → ComesBack b c
killed-back b c at many within behind root same = subst (λ x. ComesBack b x) same (kill-back b at many within behind root, kill-root b at many within behind root)

line-back : (path : Names) (b c : BufferState) (place : Option ℕ) → IsRootFirst (rows_of b.sections) → line_place path [] true (rows_of b.sections) ≡ place → option_map (λ at. killed at 1 b) place ≡ Some c → ComesBack b c
line-back path b c None root e f = absurd (no-state c f)
line-back path b c (Some at) root e f =
    let behind = line-behind path (rows_of b.sections) at root e in
    let below = line-within path [] true (rows_of b.sections) at e in
    killed-back b c at 1 (omega arith) behind root (some-state (killed at 1 b) c f)

section-back : (name : List ℕ) (dir : Names) (b c : BufferState) (place : Option ℕ) → IsRootFirst (rows_of b.sections) → head_place (name ∷ dir) (rows_of b.sections) ≡ place → option_map (λ at. killed at (suc (length (lines_of (drop (suc at) (rows_of b.sections))))) b) place ≡ Some c → ComesBack b c
section-back name dir b c None root e f = absurd (no-state c f)
section-back name dir b c (Some at) root e f =
    let rows = rows_of b.sections in
    let behind = head-behind name dir rows at root e in
    let below = head-within (name ∷ dir) rows at e in
    let many = suc (length (lines_of (drop (suc at) rows))) in
    let few = lines-few (drop (suc at) rows) in
    let within : at + many ≤ length rows = omega (arith, length-drop (suc at) rows) in
    killed-back b c at many within behind root (some-state (killed at many b) c f)

asked-back : (kill : Asked) (b c : BufferState) → IsRootFirst (rows_of b.sections) → killed_as kill b ≡ Some c → ComesBack b c
asked-back (LineOf path) b c root e = line-back path b c (line_place path [] true (rows_of b.sections)) root refl e
asked-back (SectionOf []) b c root e = absurd (no-state c e)
asked-back (SectionOf (name ∷ dir)) b c root e = section-back name dir b c (head_place (name ∷ dir) (rows_of b.sections)) root refl e

next-back : (kill : Asked) (kills : List Asked) (b end : BufferState) (next : Option BufferState) → ((c : BufferState) → IsRootFirst (rows_of c.sections) → all_killed kills c ≡ Some end → all_unkilled (length kills) end ≡ Some c) → IsRootFirst (rows_of b.sections) → killed_as kill b ≡ next → and_then next (all_killed kills) ≡ Some end → all_unkilled (suc (length kills)) end ≡ Some b
next-back kill kills b end None deep root e f = absurd (no-state end f)
next-back kill kills b end (Some c) deep root e f =
    let k = asked-back kill b c root e in
    ap (λ x. and_then x unkilled) (deep c k.1 f) ∙ k.0

pub kills-back : (kills : List Asked) (b end : BufferState) → IsRootFirst (rows_of b.sections) → all_killed kills b ≡ Some end → all_unkilled (length kills) end ≡ Some b
kills-back [] b end root e = sym e
kills-back (kill ∷ kills) b end root e = next-back kill kills b end (killed_as kill b) (λ c r f. kills-back kills c end r f) root refl e

-- what is seen begins with the root
pub seen-root : (switches : Switches) (o : Ordered) (kept : List Kept) (room : ℕ) → IsBuffer o kept room → IsRootFirst (rows_of (sections_of (values_in o.values o.order)))
seen-root switches o kept room h = subst (λ x. IsRootFirst x) (sym (sections-rows (values_in o.values o.order) h.root)) h.root
