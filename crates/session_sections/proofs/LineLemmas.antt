-- Lines that are taken out of sections that are shown.
use Rattle.std.proofs.Common.{◌≡◌, ℕ, zero, suc, ◌+◌, ◌<◌, ◌≤◌, List, [], ◌∷◌, ◌++◌, length, map, filter, take, drop, refl, ap, sym, subst, ◌∙◌, arith, length-append, append_assoc, Some, None, Option, Bool, true, false, not, ◌&&◌, ◌||◌, if◌then◌else◌, get_or}
use Rattle.std.specs.Option.{option_map}
use Rattle.std.proofs.lemmas.List.{take_at, drop_at, drop_all, drop_more, map-append, length-map}
use Rattle.std.proofs.lemmas.List.Elements.{filter-append}
use Rattle.dired_text.specs.Paths.{Names}
use Rattle.listing_text.specs.declared.line.Line.{Line as line_type}
use Rattle.section_rows.specs.declared.row.BufferRow.{BufferRow}
use Rattle.section_rows.specs.declared.row.BufferRow.TheVariants.{Head, Line}
use Rattle.section_buffer.specs.declared.section.Section.{Section}
use Rattle.section_buffer.specs.Places.{is_line_of, line_place}
use Rattle.section_buffer.specs.Rows.{rows_of, sections_of, without_rows}
use Rattle.section_buffer.proofs.RowLemmas.{rows-sections}
use Rattle.session_sections.specs.Sections.{is_line_among, without_lines, without_shown}
use Rattle.session_sections.proofs.SectionLemmas.{later-place, no-true, none-later, none-some, rows-append, some-inside}

abbrev pub section : Names → Bool → List line_type → Section
section dir hidden lines = record { dir = dir; hidden = hidden; lines = lines }

-- the first line of this path that is shown; its row stands behind so many
pub record LineFound (path : Names) (sections : List Section) (at : ℕ) : Type 0 where
  pub front : List Section
  pub behind : List Section
  pub dir : Names
  pub before : List line_type
  pub line : line_type
  pub later : List line_type
  pub parts : sections ≡ front ++ section dir false (before ++ line ∷ later) ∷ behind
  pub same : is_line_of path dir line ≡ true
  pub place : at ≡ length (rows_of front) + suc (length before)

-- behind the lines of a section it doesn't matter whether that is hidden
from-head : (path dir : Names) (hidden : Bool) (rest : List Section) → line_place path dir hidden (rows_of rest) ≡ line_place path [] true (rows_of rest)
from-head path dir hidden [] = refl
from-head path dir hidden (s ∷ rest) = refl

shown-test : (hidden same : Bool) → (not hidden && same) ≡ true → (hidden ≡ false) × (same ≡ true)
shown-test false same e = (refl, e)
shown-test true same e = absurd (no-true e)

found-behind : (path : Names) (s : Section) (rest : List Section) (k at : ℕ) → at ≡ suc (length s.lines + k) → LineFound path rest k → LineFound path (s ∷ rest) at
found-behind path s rest k at e f = record {
  front = s ∷ f.front;
  behind = f.behind;
  dir = f.dir;
  before = f.before;
  line = f.line;
  later = f.later;
  parts = ap (λ x. s ∷ x) f.parts;
  same = f.same;
  place =
      let n : length (rows_of (s ∷ f.front)) ≡ suc (length (map Line s.lines) + length (rows_of f.front)) = ap suc (length-append (map Line s.lines) (rows_of f.front)) in
      omega (arith, e, f.place, n, length-map s.lines Line);
}

found-here : (path : Names) (s : Section) (rest : List Section) (passed : List line_type) (l : line_type) (lines : List line_type) (k at : ℕ) → s.lines ≡ passed ++ l ∷ lines → s.hidden ≡ false → is_line_of path s.dir l ≡ true → k ≡ 0 → at ≡ suc (length passed + k) → LineFound path (s ∷ rest) at
found-here path s rest passed l lines k at parts shown same first e = record {
  front = [];
  behind = rest;
  dir = s.dir;
  before = passed;
  line = l;
  later = lines;
  parts = ap (λ h. section s.dir h s.lines ∷ rest) shown ∙ ap (λ ls. section s.dir false ls ∷ rest) parts;
  same = same;
  place = omega (arith, e, first);
}

module _ (path : Names) (s : Section) (rest : List Section) where
  abbrev After : List line_type → Type 0
  After lines =
      (passed : List line_type) (k at : ℕ) → s.lines ≡ passed ++ lines
      → line_place path s.dir s.hidden (map Line lines ++ rows_of rest) ≡ Some k → at ≡ suc (length passed + k) → LineFound path (s ∷ rest) at

  in-tested : (l : line_type) (lines : List line_type) → After lines → (passed : List line_type) (k at : ℕ) → s.lines ≡ passed ++ l ∷ lines → (test : Bool) → (not s.hidden && is_line_of path s.dir l) ≡ test → (if test then Some 0 else option_map suc (line_place path s.dir s.hidden (map Line lines ++ rows_of rest))) ≡ Some k → at ≡ suc (length passed + k) → LineFound path (s ∷ rest) at
  in-tested l lines deep passed k at parts true t e n =
      let both = shown-test s.hidden (is_line_of path s.dir l) t in
      found-here path s rest passed l lines k at parts both.0 both.1 (sym (some-inside 0 k e)) n
  in-tested l lines deep passed k at parts false t e n =
      let p = later-place (line_place path s.dir s.hidden (map Line lines ++ rows_of rest)) k e in
      let m : at ≡ suc (length (passed ++ l ∷ []) + p.0) = omega (arith, n, p.2, length-append passed (l ∷ [])) in
      deep (passed ++ l ∷ []) p.0 at (parts ∙ sym (append_assoc passed (l ∷ []) lines)) p.1 m

  in-lines : ((j : ℕ) → line_place path [] true (rows_of rest) ≡ Some j → LineFound path rest j) → (lines : List line_type) → After lines
  in-lines deep [] passed k at parts e n =
      let m : length s.lines ≡ length passed = omega (arith, ap length parts, length-append passed []) in
      let below : at ≡ suc (length s.lines + k) = omega (arith, n, m) in
      found-behind path s rest k at below (deep k (sym (from-head path s.dir s.hidden rest) ∙ e))
  in-lines deep (l ∷ lines) passed k at parts e n =
      in-tested l lines (λ p j a q f m. in-lines deep lines p j a q f m) passed k at parts (not s.hidden && is_line_of path s.dir l) refl e n

pub line-found : (path : Names) (sections : List Section) (at : ℕ) → line_place path [] true (rows_of sections) ≡ Some at → LineFound path sections at
line-found path [] at e = absurd (none-some at e)
line-found path (s ∷ rest) at e =
    let p = later-place (line_place path s.dir s.hidden (map Line s.lines ++ rows_of rest)) at e in
    let n : at ≡ suc (0 + p.0) = omega (arith, p.2) in
    in-lines path s rest (λ j f. line-found path rest j f) s.lines [] p.0 at refl p.1 n

-- no line of this path is shown
stays-tested : (path dir : Names) (hidden : Bool) (l : line_type) (left : Option ℕ) (test : Bool) → (if test then Some 0 else option_map suc left) ≡ None → (test ≡ false) × (left ≡ None)
stays-tested path dir hidden l left true e = absurd (none-some 0 (sym e))
stays-tested path dir hidden l left false e = (refl, none-later left e)

not-shown : (same : Bool) → (not false && same) ≡ false → same ≡ false
not-shown same e = e

lines-stay : (path dir : Names) (hidden : Bool) (lines : List line_type) (rest : List Section) → line_place path dir hidden (map Line lines ++ rows_of rest) ≡ None → (hidden ≡ false → filter (λ (line : line_type). not (is_line_among (path ∷ []) dir line)) lines ≡ lines) × (line_place path [] true (rows_of rest) ≡ None)
lines-stay path dir hidden [] rest e = (λ shown. refl, sym (from-head path dir hidden rest) ∙ e)
lines-stay path dir hidden (l ∷ lines) rest e =
    let t = stays-tested path dir hidden l (line_place path dir hidden (map Line lines ++ rows_of rest)) (not hidden && is_line_of path dir l) e in
    let deep = lines-stay path dir hidden lines rest t.1 in (
      λ shown.
          let other : is_line_of path dir l ≡ false = not-shown (is_line_of path dir l) (subst (λ h. (not h && is_line_of path dir l) ≡ false) shown t.0) in
          let later = deep.0 shown in
          rw (other, later) refl,
      deep.1,
    )

shown-stay : (s : Section) (lines : List line_type) (hidden : Bool) → s.hidden ≡ hidden → (s.hidden ≡ false → lines ≡ s.lines) → (if hidden then s else section s.dir s.hidden lines) ≡ s
shown-stay s lines true e h = refl
shown-stay s lines false e h = ap (section s.dir s.hidden) (h e)

pub none-stay : (path : Names) (sections : List Section) → line_place path [] true (rows_of sections) ≡ None → without_lines (path ∷ []) sections ≡ sections
none-stay path [] e = refl
none-stay path (s ∷ rest) e =
    let inner = none-later (line_place path s.dir s.hidden (map Line s.lines ++ rows_of rest)) e in
    let k = lines-stay path s.dir s.hidden s.lines rest inner in
    ap (λ x. x ∷ without_lines (path ∷ []) rest) (shown-stay s (filter (λ (line : line_type). not (is_line_among (path ∷ []) s.dir line)) s.lines) s.hidden refl k.0)
    ∙ ap (λ x. s ∷ x) (none-stay path rest k.1)

-- a row between others is taken out
row-out : (us : List BufferRow) (r : BufferRow) (vs : List BufferRow) (n : ℕ) → length us ≡ n → without_rows n 1 (us ++ r ∷ vs) ≡ us ++ vs
row-out us r vs n e =
    let m : length (us ++ r ∷ []) ≡ n + 1 = omega (arith, length-append us (r ∷ []), e) in
    ap (λ x. x ++ drop (n + 1) (us ++ r ∷ vs)) (take_at us (r ∷ vs) n e)
    ∙ ap (λ x. us ++ x) (ap (drop (n + 1)) (sym (append_assoc us (r ∷ []) vs)) ∙ drop_at (us ++ r ∷ []) vs (n + 1) m)

-- the line that was found is taken out
module _ (path : Names) (sections : List Section) (at : ℕ) (f : LineFound path sections at) where
  abbrev pub rest : List Section
  rest = f.front ++ section f.dir false (f.before ++ f.later) ∷ f.behind

  abbrev us : List BufferRow
  us = rows_of f.front ++ Head f.dir false ∷ map Line f.before

  abbrev vs : List BufferRow
  vs = map Line f.later ++ rows_of f.behind

  rows-with : (middle : List line_type) → rows_of (f.front ++ section f.dir false (f.before ++ middle) ∷ f.behind) ≡ us ++ (map Line middle ++ rows_of f.behind)
  rows-with middle =
      rows-append f.front (section f.dir false (f.before ++ middle) ∷ f.behind)
      ∙ (ap (λ x. rows_of f.front ++ (Head f.dir false ∷ (x ++ rows_of f.behind))) (map-append Line f.before middle)
      ∙ (ap (λ x. rows_of f.front ++ (Head f.dir false ∷ x)) (append_assoc (map Line f.before) (map Line middle) (rows_of f.behind))
      ∙ sym (append_assoc (rows_of f.front) (Head f.dir false ∷ map Line f.before) (map Line middle ++ rows_of f.behind))))

  all-rows : rows_of sections ≡ us ++ Line f.line ∷ vs
  all-rows = ap rows_of f.parts ∙ rows-with (f.line ∷ f.later)

  us-many : length us ≡ at
  us-many = omega (arith, length-append (rows_of f.front) (Head f.dir false ∷ map Line f.before), length-map f.before Line, f.place)

  pub rest-rows : without_rows at 1 (rows_of sections) ≡ rows_of rest
  rest-rows = ap (without_rows at 1) all-rows ∙ (row-out us (Line f.line) vs at us-many ∙ sym (rows-with f.later))

  pub rest-sections : sections_of (without_rows at 1 (rows_of sections)) ≡ rest
  rest-sections = ap sections_of rest-rows ∙ rows-sections rest

  pub rest-fewer : length (rows_of sections) ≡ suc (length (rows_of rest))
  rest-fewer =
      let a : length (rows_of sections) ≡ length (us ++ Line f.line ∷ vs) = ap length all-rows in
      let b : length (rows_of rest) ≡ length (us ++ vs) = ap length (rows-with f.later) in
      omega (arith, a, b, length-append us (Line f.line ∷ vs), length-append us vs)

  abbrev kept : line_type → Bool
  kept line = not (is_line_among (path ∷ []) f.dir line)

  gone : filter kept (f.line ∷ f.later) ≡ filter kept f.later
  gone = let same = f.same in rw same refl

  lines-same : filter kept (f.before ++ f.later) ≡ filter kept (f.before ++ f.line ∷ f.later)
  lines-same =
      filter-append kept f.before f.later
      ∙ (ap (λ x. filter kept f.before ++ x) (sym gone) ∙ sym (filter-append kept f.before (f.line ∷ f.later)))

  pub rest-same : without_lines (path ∷ []) rest ≡ without_lines (path ∷ []) sections
  rest-same =
      let p = path ∷ [] in
      map-append (without_shown p) f.front (section f.dir false (f.before ++ f.later) ∷ f.behind)
      ∙ (ap (λ x. without_lines p f.front ++ section f.dir false x ∷ without_lines p f.behind) lines-same
      ∙ (sym (map-append (without_shown p) f.front (section f.dir false (f.before ++ f.line ∷ f.later) ∷ f.behind)) ∙ ap (without_lines p) (sym f.parts)))

-- ---- one path after another

twice-step : (path : Names) (paths : List Names) (dir : Names) (l : line_type) (lines : List line_type) (same : Bool) → is_line_of path dir l ≡ same → filter (λ (line : line_type). not (is_line_among paths dir line)) (filter (λ (line : line_type). not (is_line_among (path ∷ []) dir line)) lines) ≡ filter (λ (line : line_type). not (is_line_among (path ∷ paths) dir line)) lines → filter (λ (line : line_type). not (is_line_among paths dir line)) (filter (λ (line : line_type). not (is_line_among (path ∷ []) dir line)) (l ∷ lines)) ≡ filter (λ (line : line_type). not (is_line_among (path ∷ paths) dir line)) (l ∷ lines)
twice-step path paths dir l lines true e deep = rw e deep
twice-step path paths dir l lines false e deep = rw e (ap (λ x. if not (is_line_among paths dir l) then l ∷ x else x) deep)

kept-twice : (path : Names) (paths : List Names) (dir : Names) (lines : List line_type) → filter (λ (line : line_type). not (is_line_among paths dir line)) (filter (λ (line : line_type). not (is_line_among (path ∷ []) dir line)) lines) ≡ filter (λ (line : line_type). not (is_line_among (path ∷ paths) dir line)) lines
kept-twice path paths dir [] = refl
kept-twice path paths dir (l ∷ lines) = twice-step path paths dir l lines (is_line_of path dir l) refl (kept-twice path paths dir lines)

shown-twice : (path : Names) (paths : List Names) (s : Section) (hidden : Bool) → s.hidden ≡ hidden → without_shown paths (without_shown (path ∷ []) s) ≡ without_shown (path ∷ paths) s
shown-twice path paths s true e = rw e refl
shown-twice path paths s false e = rw e (ap (λ x. section s.dir false x) (kept-twice path paths s.dir s.lines))

pub lines-twice : (path : Names) (paths : List Names) (sections : List Section) → without_lines paths (without_lines (path ∷ []) sections) ≡ without_lines (path ∷ paths) sections
lines-twice path paths [] = refl
lines-twice path paths (s ∷ rest) =
    ap (λ x. x ∷ without_lines paths (without_lines (path ∷ []) rest)) (shown-twice path paths s s.hidden refl)
    ∙ ap (λ x. without_shown (path ∷ paths) s ∷ x) (lines-twice path paths rest)

all-kept : (dir : Names) (lines : List line_type) → filter (λ (line : line_type). not (is_line_among [] dir line)) lines ≡ lines
all-kept dir [] = refl
all-kept dir (l ∷ lines) = ap (λ x. l ∷ x) (all-kept dir lines)

shown-all : (s : Section) (hidden : Bool) → s.hidden ≡ hidden → without_shown [] s ≡ s
shown-all s true e = rw e refl
shown-all s false e = rw e (ap (λ x. section s.dir false x) (all-kept s.dir s.lines))

pub lines-all : (sections : List Section) → without_lines [] sections ≡ sections
lines-all [] = refl
lines-all (s ∷ rest) = ap (λ x. x ∷ without_lines [] rest) (shown-all s s.hidden refl) ∙ ap (λ x. s ∷ x) (lines-all rest)

pub next-path : (paths : List Names) (i : ℕ) (path : Names) (now new end : List Section) → i < length paths → path ≡ get_or paths i path → new ≡ without_lines (path ∷ []) now → without_lines (drop i paths) now ≡ end → without_lines (drop (i + 1) paths) new ≡ end
next-path paths i path now new end within is step so_far =
    let rest : drop i paths ≡ path ∷ drop (i + 1) paths = drop_more paths i path within ∙ ap (λ p. p ∷ drop (i + 1) paths) (sym is) in
    ap (without_lines (drop (i + 1) paths)) step
    ∙ (lines-twice path (drop (i + 1) paths) now ∙ (ap (λ ps. without_lines ps now) (sym rest) ∙ so_far))

pub last-path : (paths : List Names) (i : ℕ) (now end : List Section) → length paths ≤ i → without_lines (drop i paths) now ≡ end → now ≡ end
last-path paths i now end past so_far = sym (lines-all now) ∙ (ap (λ ps. without_lines ps now) (sym (drop_all i paths past)) ∙ so_far)
