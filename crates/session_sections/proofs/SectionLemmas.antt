-- Sections by their directories: turned and taken out.
use Rattle.std.proofs.Common.{◌≡◌, ℕ, zero, suc, ◌+◌, ◌<◌, List, [], ◌∷◌, ◌++◌, length, map, filter, take, drop, refl, ap, sym, subst, ◌∙◌, arith, length-append, append_assoc, Some, None, Option, Bool, true, false, not, ◌&&◌, ◌||◌, if◌then◌else◌}
use Rattle.std.specs.Option.{option_map}
use Rattle.std.specs.List.{list_any}
use Rattle.std.specs.Cmp.Lexicographic.{pointwise, same_text}
use Rattle.std.specs.Prelude.{nat_eq}
use Rattle.std.proofs.lemmas.List.{take_at, drop_at, map-append, length-map}
use Rattle.std.proofs.lemmas.List.Elements.{filter-append}
use Rattle.dired_text.specs.Paths.{Names}
use Rattle.listing_text.specs.declared.line.Line.{Line as line_type}
use Rattle.section_rows.specs.declared.row.BufferRow.{BufferRow}
use Rattle.section_rows.specs.declared.row.BufferRow.TheVariants.{Head, Line}
use Rattle.section_buffer.specs.declared.section.Section.{Section}
use Rattle.section_buffer.specs.Buffers.{BufferState, turned_in, turned as turned_state}
use Rattle.section_buffer.specs.Places.{head_place, is_head_of, same_names}
use Rattle.section_buffer.specs.Rows.{lines_of, rows_of, sections_of, without_rows}
use Rattle.section_buffer.specs.Sections.{hidden_at}
use Rattle.section_buffer.proofs.RowLemmas.{rows-sections}
use Rattle.session_sections.specs.Sections.{has_dir, is_line_among, is_section, turned, turned_if, without_section, without_shown, without_lines}
use Rattle.session_sections.specs.Held.{AreOnce, flipped, flipped_by}

-- ---- names and tests

pub no-true : false ≡ true → ⊥
no-true e = cc

and-both : (a b : Bool) → (a && b) ≡ true → (a ≡ true) × (b ≡ true)
and-both true b e = (refl, e)
and-both false b e = absurd (no-true e)

pub or-none : (a b : Bool) → (a || b) ≡ false → (a ≡ false) × (b ≡ false)
or-none false b e = (refl, e)
or-none true b e = absurd (no-true (sym e))

or-some : (a b : Bool) → b ≡ true → (a || b) ≡ true
or-some true b e = refl
or-some false b e = e

pub not-not : (a : Bool) → not (not a) ≡ a
not-not true = refl
not-not false = refl

pub equal-names : (p q : Names) → same_names p q ≡ true → p ≡ q
equal-names [] [] e = refl
equal-names [] (y ∷ q) e = absurd (no-true e)
equal-names (x ∷ p) [] e = absurd (no-true e)
equal-names (x ∷ p) (y ∷ q) e =
    let k = and-both (pointwise nat_eq x y) (same_names p q) e in
    ap (λ z. z ∷ p) (same_text x y (sym k.0)) ∙ ap (λ z. y ∷ z) (equal-names p q k.1)

pub some-inside : {A : Type 0} (x y : A) → Some x ≡ Some y → x ≡ y
some-inside x y e = cc

pub none-some : {A : Type 0} (x : A) → None ≡ Some x → ⊥
none-some x e = cc

pub if-yes : {A : Type 0} (b : Bool) (x y z : A) → b ≡ true → (if b then x else y) ≡ z → x ≡ z
if-yes true x y z e f = f
if-yes false x y z e f = absurd (no-true e)

pub if-no : {A : Type 0} (b : Bool) (x y z : A) → b ≡ false → (if b then x else y) ≡ z → y ≡ z
if-no false x y z e f = f
if-no true x y z e f = absurd (no-true (sym e))

-- ---- one section of a directory

-- another directory's section is not of this one
others : (dir : Names) (s : Section) (rest : List Section) → has_dir dir s ≡ true → is_section s.dir rest ≡ false → is_section dir rest ≡ false
others dir s rest same once = subst (λ d. is_section d rest ≡ false) (equal-names s.dir dir same) once

-- ---- turned

pub turned-none : (dir : Names) (sections : List Section) → is_section dir sections ≡ false → turned dir sections ≡ sections
turned-none dir [] e = refl
turned-none dir (s ∷ rest) e =
    let k = or-none (has_dir dir s) (is_section dir rest) e in
    let later = turned-none dir rest k.1 in
    rw (k.0, later) refl

-- sections that are changed one by one, and stay of their directories
module _ (f : Section → Section) (stays : (s : Section) → (f s).dir ≡ s.dir) where
  pub each-is : (d : Names) (sections : List Section) → is_section d (map f sections) ≡ is_section d sections
  each-is d [] = refl
  each-is d (s ∷ rest) = ap (λ x. same_names x d || is_section d (map f rest)) (stays s) ∙ ap (λ x. has_dir d s || x) (each-is d rest)

  pub each-once : (sections : List Section) → AreOnce sections → AreOnce (map f sections)
  each-once [] h = tt
  each-once (s ∷ rest) h = (ap (λ x. is_section x (map f rest)) (stays s) ∙ (each-is s.dir rest ∙ h.0), each-once rest h.1)

dir-stays : (s : Section) (same : Bool) → (if same then record { dir = s.dir; hidden = not s.hidden; lines = s.lines } else s).dir ≡ s.dir
dir-stays s true = refl
dir-stays s false = refl

pub turned-once : (dir : Names) (sections : List Section) → AreOnce sections → AreOnce (turned dir sections)
turned-once dir sections h = each-once (turned_if dir) (λ s. dir-stays s (has_dir dir s)) sections h

shown-stays : (s : Section) (lines : List line_type) (hidden : Bool) → (if hidden then s else record { dir = s.dir; hidden = s.hidden; lines = lines }).dir ≡ s.dir
shown-stays s lines true = refl
shown-stays s lines false = refl

pub lines-once : (paths : List Names) (sections : List Section) → AreOnce sections → AreOnce (without_lines paths sections)
lines-once paths sections h =
    each-once (without_shown paths) (λ s. shown-stays s (filter (λ (line : line_type). not (is_line_among paths s.dir line)) s.lines) s.hidden) sections h

abbrev other_way : Section → Section
other_way s = record { dir = s.dir; hidden = not s.hidden; lines = s.lines }

one-turned : (dir : Names) (s : Section) → has_dir dir s ≡ true → turned_if dir s ≡ other_way s
one-turned dir s e = rw e refl

one-left : (dir : Names) (s : Section) → has_dir dir s ≡ false → turned_if dir s ≡ s
one-left dir s e = rw e refl

twice-one : (dir : Names) (s : Section) (same : Bool) → has_dir dir s ≡ same → turned_if dir (turned_if dir s) ≡ s
twice-one dir s true e =
    ap (turned_if dir) (one-turned dir s e)
    ∙ (one-turned dir (other_way s) e ∙ ap (λ (h : Bool). record { dir = s.dir; hidden = h; lines = s.lines }) (not-not s.hidden))
twice-one dir s false e = ap (turned_if dir) (one-left dir s e) ∙ one-left dir s e

pub turned-twice : (dir : Names) (sections : List Section) → turned dir (turned dir sections) ≡ sections
turned-twice dir [] = refl
turned-twice dir (s ∷ rest) =
    ap (λ x. x ∷ turned dir (turned dir rest)) (twice-one dir s (has_dir dir s) refl) ∙ ap (λ x. s ∷ x) (turned-twice dir rest)

-- the section that is there is turned
module _ (dir : Names) where
  turn-here : (s : Section) (rest : List Section) (h : Bool) → AreOnce (s ∷ rest) → has_dir dir s ≡ true → hidden_at dir (s ∷ rest) ≡ Some h → turned_in dir (not h) (s ∷ rest) ≡ Some (turned dir (s ∷ rest))
  turn-here s rest h once same e =
      let is : s.hidden ≡ h = some-inside s.hidden h (if-yes (has_dir dir s) (Some s.hidden) (hidden_at dir rest) (Some h) same e) in
      let later : turned dir rest ≡ rest = turned-none dir rest (others dir s rest same once.0) in
      rw (same, later) (ap (λ (x : Bool). Some (record { dir = s.dir; hidden = not x; lines = s.lines } ∷ rest)) (sym is))

  turn-later : (s : Section) (rest : List Section) (h : Bool) → has_dir dir s ≡ false → turned_in dir (not h) rest ≡ Some (turned dir rest) → turned_in dir (not h) (s ∷ rest) ≡ Some (turned dir (s ∷ rest))
  turn-later s rest h other e = rw (other, e) refl

  turn-step : (s : Section) (rest : List Section) (h : Bool) (same : Bool) → AreOnce (s ∷ rest) → has_dir dir s ≡ same → hidden_at dir (s ∷ rest) ≡ Some h → (hidden_at dir rest ≡ Some h → turned_in dir (not h) rest ≡ Some (turned dir rest)) → turned_in dir (not h) (s ∷ rest) ≡ Some (turned dir (s ∷ rest))
  turn-step s rest h true once same e deep = turn-here s rest h once same e
  turn-step s rest h false once other e deep = turn-later s rest h other (deep (if-no (has_dir dir s) (Some s.hidden) (hidden_at dir rest) (Some h) other e))

  pub turned-some : (sections : List Section) (h : Bool) → AreOnce sections → hidden_at dir sections ≡ Some h → turned_in dir (not h) sections ≡ Some (turned dir sections)
  turned-some [] h once e = absurd (none-some h e)
  turned-some (s ∷ rest) h once e = turn-step s rest h (has_dir dir s) once refl e (λ f. turned-some rest h once.1 f)

  hidden-step : (s : Section) (rest : List Section) (h : Bool) (same : Bool) → has_dir dir s ≡ same → hidden_at dir (s ∷ rest) ≡ Some h → (hidden_at dir rest ≡ Some h → hidden_at dir (turned dir rest) ≡ Some (not h)) → hidden_at dir (turned dir (s ∷ rest)) ≡ Some (not h)
  hidden-step s rest h true same e deep =
      let is : s.hidden ≡ h = some-inside s.hidden h (if-yes (has_dir dir s) (Some s.hidden) (hidden_at dir rest) (Some h) same e) in
      let here : hidden_at dir (other_way s ∷ turned dir rest) ≡ Some (not s.hidden) = rw same refl in
      ap (λ (x : Section). hidden_at dir (x ∷ turned dir rest)) (one-turned dir s same) ∙ (here ∙ ap (λ (x : Bool). Some (not x)) is)
  hidden-step s rest h false other e deep =
      let later = deep (if-no (has_dir dir s) (Some s.hidden) (hidden_at dir rest) (Some h) other e) in
      let behind : hidden_at dir (s ∷ turned dir rest) ≡ hidden_at dir (turned dir rest) = rw other refl in
      ap (λ (x : Section). hidden_at dir (x ∷ turned dir rest)) (one-left dir s other) ∙ (behind ∙ later)

  -- and is then hidden where it was shown
  pub hidden-turned : (sections : List Section) (h : Bool) → hidden_at dir sections ≡ Some h → hidden_at dir (turned dir sections) ≡ Some (not h)
  hidden-turned [] h e = absurd (none-some h e)
  hidden-turned (s ∷ rest) h e = hidden-step s rest h (has_dir dir s) refl e (λ f. hidden-turned rest h f)

  there-step : (s : Section) (rest : List Section) (same : Bool) → has_dir dir s ≡ same → (hidden_at dir rest ≡ None → is_section dir rest ≡ false) → hidden_at dir (s ∷ rest) ≡ None → is_section dir (s ∷ rest) ≡ false
  there-step s rest true same deep e = absurd (none-some s.hidden (sym (if-yes (has_dir dir s) (Some s.hidden) (hidden_at dir rest) None same e)))
  there-step s rest false other deep e = let later = deep (if-no (has_dir dir s) (Some s.hidden) (hidden_at dir rest) None other e) in rw (other, later) refl

  pub none-there : (sections : List Section) → hidden_at dir sections ≡ None → is_section dir sections ≡ false
  none-there [] e = refl
  none-there (s ∷ rest) e = there-step s rest (has_dir dir s) refl (λ f. none-there rest f) e

  some-step : (s : Section) (rest : List Section) (h : Bool) (same : Bool) → has_dir dir s ≡ same → (hidden_at dir rest ≡ Some h → is_section dir rest ≡ true) → hidden_at dir (s ∷ rest) ≡ Some h → is_section dir (s ∷ rest) ≡ true
  some-step s rest h true same deep e = rw same refl
  some-step s rest h false other deep e = let later = deep (if-no (has_dir dir s) (Some s.hidden) (hidden_at dir rest) (Some h) other e) in rw (other, later) refl

  pub some-there : (sections : List Section) (h : Bool) → hidden_at dir sections ≡ Some h → is_section dir sections ≡ true
  some-there [] h e = absurd (none-some h e)
  some-there (s ∷ rest) h e = some-step s rest h (has_dir dir s) refl (λ f. some-there rest h f) e

-- ---- a section taken out

pub out-none : (dir : Names) (sections : List Section) → is_section dir sections ≡ false → without_section dir sections ≡ sections
out-none dir [] e = refl
out-none dir (s ∷ rest) e =
    let k = or-none (has_dir dir s) (is_section dir rest) e in
    let later = out-none dir rest k.1 in
    rw (k.0, later) refl

out-step : (d dir : Names) (s : Section) (rest : List Section) (same : Bool) → has_dir dir s ≡ same → is_section d (s ∷ rest) ≡ false → is_section d (without_section dir rest) ≡ false → is_section d (without_section dir (s ∷ rest)) ≡ false
out-step d dir s rest true e f deep = rw e deep
out-step d dir s rest false e f deep =
    let k = or-none (has_dir d s) (is_section d rest) f in
    rw (e, k.0, deep) refl

out-is : (d dir : Names) (sections : List Section) → is_section d sections ≡ false → is_section d (without_section dir sections) ≡ false
out-is d dir [] e = refl
out-is d dir (s ∷ rest) e = out-step d dir s rest (has_dir dir s) refl e (out-is d dir rest (or-none (has_dir d s) (is_section d rest) e).1)

once-step : (dir : Names) (s : Section) (rest : List Section) (same : Bool) → has_dir dir s ≡ same → is_section s.dir rest ≡ false → AreOnce (without_section dir rest) → AreOnce (without_section dir (s ∷ rest))
once-step dir s rest true e f deep = rw e deep
once-step dir s rest false e f deep = rw e (out-is s.dir dir rest f, deep)

pub out-once : (dir : Names) (sections : List Section) → AreOnce sections → AreOnce (without_section dir sections)
out-once dir [] h = tt
out-once dir (s ∷ rest) h = once-step dir s rest (has_dir dir s) refl h.0 (out-once dir rest h.1)

-- the section of this directory, which begins behind so many rows
pub record SectionFound (dir : Names) (sections : List Section) (at : ℕ) : Type 0 where
  pub front : List Section
  pub found : Section
  pub behind : List Section
  pub parts : sections ≡ front ++ found ∷ behind
  pub same : has_dir dir found ≡ true
  pub before : is_section dir front ≡ false
  pub place : at ≡ length (rows_of front)

pub later-place : (left : Option ℕ) (at : ℕ) → option_map suc left ≡ Some at → (k : ℕ) × (left ≡ Some k) × (at ≡ suc k)
later-place None at e = absurd (none-some at e)
later-place (Some k) at e = (k, refl, sym (some-inside (suc k) at e))

-- the head is behind the lines
behind-lines : (dir : Names) (lines : List line_type) (rows : List BufferRow) (at : ℕ) → head_place dir (map Line lines ++ rows) ≡ Some at → (k : ℕ) × (head_place dir rows ≡ Some k) × (at ≡ length lines + k)
behind-lines dir [] rows at e = let n : at ≡ 0 + at = omega arith in (at, e, n)
behind-lines dir (l ∷ lines) rows at e =
    let p = later-place (head_place dir (map Line lines ++ rows)) at e in
    let k = behind-lines dir lines rows p.0 p.1 in
    let n : at ≡ suc (length lines) + k.0 = omega (arith, p.2, k.2) in
    (k.0, k.1, n)

in-front : (dir : Names) (s : Section) (rest : List Section) (k at : ℕ) → has_dir dir s ≡ false → at ≡ suc (length s.lines + k) → SectionFound dir rest k → SectionFound dir (s ∷ rest) at
in-front dir s rest k at other e f = record {
  front = s ∷ f.front;
  found = f.found;
  behind = f.behind;
  parts = ap (λ x. s ∷ x) f.parts;
  same = f.same;
  before = let later = f.before in rw (other, later) refl;
  place =
      let n : length (rows_of (s ∷ f.front)) ≡ suc (length (map Line s.lines) + length (rows_of f.front)) = ap suc (length-append (map Line s.lines) (rows_of f.front)) in
      omega (arith, e, f.place, n, length-map s.lines Line);
}

found-step : (dir : Names) (s : Section) (rest : List Section) (at : ℕ) (same : Bool) → has_dir dir s ≡ same → head_place dir (rows_of (s ∷ rest)) ≡ Some at → ((k : ℕ) → head_place dir (rows_of rest) ≡ Some k → SectionFound dir rest k) → SectionFound dir (s ∷ rest) at
found-step dir s rest at true e f deep =
    let first : Some 0 ≡ Some at = if-yes (has_dir dir s) (Some 0) (option_map suc (head_place dir (map Line s.lines ++ rows_of rest))) (Some at) e f in
    record { front = []; found = s; behind = rest; parts = refl; same = e; before = refl; place = sym (some-inside 0 at first) }
found-step dir s rest at false e f deep =
    let later : option_map suc (head_place dir (map Line s.lines ++ rows_of rest)) ≡ Some at = if-no (has_dir dir s) (Some 0) (option_map suc (head_place dir (map Line s.lines ++ rows_of rest))) (Some at) e f in
    let p = later-place (head_place dir (map Line s.lines ++ rows_of rest)) at later in
    let k = behind-lines dir s.lines (rows_of rest) p.0 p.1 in
    in-front dir s rest k.0 at e (p.2 ∙ ap suc k.2) (deep k.0 k.1)

pub section-found : (dir : Names) (sections : List Section) (at : ℕ) → head_place dir (rows_of sections) ≡ Some at → SectionFound dir sections at
section-found dir [] at e = absurd (none-some at e)
section-found dir (s ∷ rest) at e = found-step dir s rest at (has_dir dir s) refl e (λ k f. section-found dir rest k f)

pub none-later : (left : Option ℕ) → option_map suc left ≡ None → left ≡ None
none-later None e = refl
none-later (Some k) e = absurd (none-some (suc k) (sym e))

lines-behind : (dir : Names) (lines : List line_type) (rows : List BufferRow) → head_place dir (map Line lines ++ rows) ≡ None → head_place dir rows ≡ None
lines-behind dir [] rows e = e
lines-behind dir (l ∷ lines) rows e = lines-behind dir lines rows (none-later (head_place dir (map Line lines ++ rows)) e)

missing-step : (dir : Names) (s : Section) (rest : List Section) (same : Bool) → has_dir dir s ≡ same → head_place dir (rows_of (s ∷ rest)) ≡ None → (head_place dir (rows_of rest) ≡ None → is_section dir rest ≡ false) → is_section dir (s ∷ rest) ≡ false
missing-step dir s rest true e f deep = absurd (none-some 0 (sym (if-yes (has_dir dir s) (Some 0) (option_map suc (head_place dir (map Line s.lines ++ rows_of rest))) None e f)))
missing-step dir s rest false e f deep =
    let left : option_map suc (head_place dir (map Line s.lines ++ rows_of rest)) ≡ None = if-no (has_dir dir s) (Some 0) (option_map suc (head_place dir (map Line s.lines ++ rows_of rest))) None e f in
    let later = deep (lines-behind dir s.lines (rows_of rest) (none-later (head_place dir (map Line s.lines ++ rows_of rest)) left)) in
    rw (e, later) refl

pub section-missing : (dir : Names) (sections : List Section) → head_place dir (rows_of sections) ≡ None → is_section dir sections ≡ false
section-missing dir [] e = refl
section-missing dir (s ∷ rest) e = missing-step dir s rest (has_dir dir s) refl e (λ f. section-missing dir rest f)

pub rows-append : (xs ys : List Section) → rows_of (xs ++ ys) ≡ rows_of xs ++ rows_of ys
rows-append [] ys = refl
rows-append (s ∷ xs) ys =
    ap (λ r. Head s.dir s.hidden ∷ (map Line s.lines ++ r)) (rows-append xs ys)
    ∙ ap (λ r. Head s.dir s.hidden ∷ r) (sym (append_assoc (map Line s.lines) (rows_of xs) (rows_of ys)))

lines-first : (lines : List line_type) (rest : List Section) → lines_of (map Line lines ++ rows_of rest) ≡ lines
lines-first [] [] = refl
lines-first [] (s ∷ rest) = refl
lines-first (l ∷ lines) rest = ap (λ ls. l ∷ ls) (lines-first lines rest)

behind-once : (front : List Section) (s : Section) (back : List Section) → AreOnce (front ++ s ∷ back) → is_section s.dir back ≡ false
behind-once [] s back h = h.0
behind-once (x ∷ front) s back h = behind-once front s back h.1

-- its rows are those between the others
module _ (dir : Names) (sections : List Section) (at : ℕ) (f : SectionFound dir sections at) where
  abbrev F : List BufferRow
  F = rows_of f.front

  abbrev L : List BufferRow
  L = map Line f.found.lines

  abbrev B : List BufferRow
  B = rows_of f.behind

  abbrev H : BufferRow
  H = Head f.found.dir f.found.hidden

  all-rows : rows_of sections ≡ F ++ (H ∷ (L ++ B))
  all-rows = ap rows_of f.parts ∙ rows-append f.front (f.found ∷ f.behind)

  head-there : drop (suc at) (F ++ (H ∷ (L ++ B))) ≡ L ++ B
  head-there =
      let n : length (F ++ H ∷ []) ≡ suc at = omega (arith, length-append F (H ∷ []), f.place) in
      ap (drop (suc at)) (sym (append_assoc F (H ∷ []) (L ++ B))) ∙ drop_at (F ++ H ∷ []) (L ++ B) (suc at) n

  pub many : length (lines_of (drop (suc at) (rows_of sections))) ≡ length f.found.lines
  many = ap (λ rows. length (lines_of (drop (suc at) rows))) all-rows ∙ ap length (ap lines_of head-there ∙ lines-first f.found.lines f.behind)

  pub rest-rows : without_rows at (suc (length f.found.lines)) (rows_of sections) ≡ rows_of (f.front ++ f.behind)
  rest-rows =
      let n : length (F ++ (H ∷ L)) ≡ at + suc (length f.found.lines) = omega (arith, length-append F (H ∷ L), length-map f.found.lines Line, f.place) in
      ap (without_rows at (suc (length f.found.lines))) all-rows
      ∙ (ap (λ x. x ++ drop (at + suc (length f.found.lines)) (F ++ (H ∷ (L ++ B)))) (take_at F (H ∷ (L ++ B)) at (sym f.place))
      ∙ (ap (λ x. F ++ drop (at + suc (length f.found.lines)) x) (sym (append_assoc F (H ∷ L) B))
      ∙ (ap (λ x. F ++ x) (drop_at (F ++ (H ∷ L)) B (at + suc (length f.found.lines)) n) ∙ sym (rows-append f.front f.behind))))

  found-there : (xs : List Section) → is_section dir (xs ++ f.found ∷ f.behind) ≡ true
  found-there [] = let same = f.same in rw same refl
  found-there (x ∷ xs) = or-some (has_dir dir x) (is_section dir (xs ++ f.found ∷ f.behind)) (found-there xs)

  pub there : is_section dir sections ≡ true
  there = ap (is_section dir) f.parts ∙ found-there f.front

  pub out : AreOnce sections → without_section dir sections ≡ f.front ++ f.behind
  out once =
      let behind : is_section dir f.behind ≡ false = others dir f.found f.behind f.same (behind-once f.front f.found f.behind (subst (λ x. AreOnce x) f.parts once)) in
      let rest : without_section dir (f.found ∷ f.behind) ≡ without_section dir f.behind = let same = f.same in rw same refl in
      ap (without_section dir) f.parts
      ∙ (filter-append (λ (s : Section). not (has_dir dir s)) f.front (f.found ∷ f.behind)
      ∙ (ap (λ x. x ++ without_section dir (f.found ∷ f.behind)) (out-none dir f.front f.before)
      ∙ ap (λ x. f.front ++ x) (rest ∙ out-none dir f.behind behind)))
