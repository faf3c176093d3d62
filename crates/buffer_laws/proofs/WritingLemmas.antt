-- A buffer of sections is read as their lines.
use Rattle.std.proofs.Common.{◌≡◌, ◌≢◌, ℕ, ◌+◌, ◌≤◌, Bool, true, false, nat_lt, if◌then◌else◌, List, [], ◌∷◌, ◌++◌, length, map, flat_map, refl, sym, ◌∙◌, ap, subst, arith, Result, Ok, Err, codes, append_assoc}
use Rattle.std.proofs.lemmas.Bool.{le-ltb}
use Rattle.std.proofs.lemmas.List.{append-nil, map-append}
use Rattle.std.proofs.lemmas.List.Elements.{recursion_from_All}
use Rattle.std.specs.List.{AllByRecursion}
use Rattle.dired_text.specs.Paths.{Names}
use Rattle.listing_text.specs.Fields.{mark_in}
use Rattle.listing_text.specs.declared.faults.LineFault.{LineFault}
use Rattle.listing_text.specs.declared.line.Line.{Line}
use Rattle.listing_text.specs.Reading.{front_of, line_of as line_text_of, ◌>>=◌}
use Rattle.listing_text.proofs.GrammarLemmas.{grammar-read}
use Rattle.listing_text.proofs.RunLemmas.{fine, same_Ok}
use Rattle.wdired_buffer.specs.declared.due.Due.{Due}
use Rattle.wdired_buffer.specs.declared.due.Due.TheVariants as due
use Rattle.wdired_buffer.specs.declared.faults.BufferFault.{BufferFault}
use Rattle.wdired_buffer.specs.declared.line.BufferLine.{BufferLine}
use Rattle.wdired_buffer.specs.declared.line.BufferLine.TheVariants.{Fixed, Header, Entry}
use Rattle.wdired_buffer.specs.Buffer.{buffer_of, max_lines, lines_from, line_of, end_of, entry_of, header_of}
use Rattle.wdired_buffer.specs.Headers.{is_total}
use Rattle.wdired_buffer.specs.Lines.{lines}
use Rattle.buffer_laws.specs.Buffers.{Row, Body, Hidden, Shown, Section, IsTotal, IsHeader, IsRow, IsBody, IsSection, row_line, body_lines, section_lines, later_lines, sections_lines, buffer_lines, buffer_texts, text_of, IsBuffer}
use Rattle.buffer_laws.proofs.TextLemmas.{EndsFull, full-append, lines-of}
use Rattle.buffer_laws.proofs.HeaderLemmas.{read_ok, due_behind, IsHeaderText, header-is, total-is}
use Rattle.buffer_laws.proofs.RowLemmas.{text-parts, row-is}

-- ---- line by line

-- lines are read from any number on, where this is due
abbrev Reads : Due → List BufferLine → Type 0
Reads d read = (n : ℕ) → lines_from n d (map text_of read) ≡ Ok read

one_more : (n : ℕ) (d next : Due) (line : BufferLine) (later : List BufferLine) → line_of n d (text_of line) ≡ Ok (line, next) → Reads next later → lines_from n d (map text_of (line ∷ later)) ≡ Ok (line ∷ later)
one_more n d next line later is reads = rw (is, reads (n + 1)) refl

row_line_is : (n : ℕ) (dir : Names) (text : List ℕ) (line : BufferLine) → entry_of n dir text ≡ Ok line → line_of n (due.Rows dir) text ≡ Ok (line, due.Rows dir)
unfolding line_of entry_of front_of mark_in
row_line_is n dir [] line is = cc
row_line_is n dir (b ∷ bs) line is = rw is refl

total_line_is : (n : ℕ) (dir : Names) (text : List ℕ) → IsTotal text → line_of n (due.Total dir) text ≡ Ok (Fixed text, due.Rows dir)
unfolding line_of
total_line_is n dir text is = rw (total-is text is) refl

header_line_is : (n : ℕ) (hidden : Bool) (dir : Names) (text : List ℕ) → IsHeaderText hidden dir text → line_of n due.Header text ≡ Ok (Header text dir, due_behind hidden dir)
unfolding line_of
header_line_is n hidden dir text is = header-is n hidden dir text is

first_line_is : line_of 1 due.First (codes "dired 1") ≡ Ok (Fixed (codes "dired 1"), due.Header)
unfolding line_of
first_line_is = refl

-- where a section may end
record MayEnd (d : Due) : Type 0 where
  ends : (n : ℕ) → end_of n d ≡ Ok []
  goes_on : (n : ℕ) → line_of n d [] ≡ Ok (Fixed [], due.Header)

rows_end : (dir : Names) → MayEnd (due.Rows dir)
unfolding end_of line_of
rows_end dir = record { ends = λ n. refl; goes_on = λ n. refl }

gap_ends : MayEnd due.Gap
unfolding end_of line_of
gap_ends = record { ends = λ n. refl; goes_on = λ n. refl }

-- ---- sections

rows_read : (dir : Names) (rows : List Row) (later : List BufferLine) → AllByRecursion (IsRow dir) rows → Reads (due.Rows dir) later → Reads (due.Rows dir) (map row_line rows ++ later)
rows_read dir [] later all reads = reads
rows_read dir (row ∷ rows) later all reads =
    λ n. one_more n (due.Rows dir) (due.Rows dir) (row_line row) (map row_line rows ++ later) (row_line_is n dir row.text (row_line row) (row-is n dir row all.0)) (rows_read dir rows later all.1 reads)

section_read : (header : List ℕ) (dir : Names) (b : Body) (later : List BufferLine) → IsHeader (record { header = header; dir = dir; body = b }) → IsBody dir b → ((d : Due) → MayEnd d → Reads d later) → Reads due.Header (Header header dir ∷ (body_lines b ++ later))
section_read header dir Hidden later (shown, is, names) body reads =
    λ n. one_more n due.Header due.Gap (Header header dir) later (header_line_is n true dir header (record { shown = shown; is = is; names = names })) (reads due.Gap gap_ends)
section_read header dir (Shown total rows) later (shown, is, names) body reads =
    let below : Reads (due.Total dir) (Fixed total ∷ (map row_line rows ++ later)) =
    λ m. one_more m (due.Total dir) (due.Rows dir) (Fixed total) (map row_line rows ++ later) (total_line_is m dir total body.0)
    (rows_read dir rows later (recursion_from_All (IsRow dir) rows body.1) (reads (due.Rows dir) (rows_end dir))) in
    λ n. one_more n due.Header (due.Total dir) (Header header dir) (Fixed total ∷ (map row_line rows ++ later)) (header_line_is n false dir header (record { shown = shown; is = is; names = names })) below

later_read : (later : List Section) → AllByRecursion IsSection later → (d : Due) → MayEnd d → Reads d (later_lines later)
later_read [] all d may = may.ends
later_read (s ∷ later) all d may =
    λ n. one_more n d due.Header (Fixed []) (section_lines s ++ later_lines later) (may.goes_on n)
    (section_read s.header s.dir s.body (later_lines later) all.0.0 all.0.1 (later_read later all.1))

-- ---- the last line isn't empty

abbrev Full : List ℕ → Type 0
Full [] = ⊥
Full (b ∷ bs) = Unit {0}

all_full : (t : List ℕ) (ts : List (List ℕ)) → Full t → AllByRecursion Full ts → EndsFull (t ∷ ts)
all_full [] ts full all = absurd full
all_full (b ∷ bs) [] full all = tt
all_full (b ∷ bs) (u ∷ us) full all = all_full u us all.0 all.1

full_same : (t u : List ℕ) → t ≡ u → Full u → Full t
full_same t u is full = subst Full (sym is) full

row_full : (dir : Names) (row : Row) → IsRow dir row → Full row.text
row_full dir row h = full_same row.text _ (text-parts row.mark row.line row.text h.shown) tt

rows_full : (dir : Names) (rows : List Row) → AllByRecursion (IsRow dir) rows → AllByRecursion Full (map text_of (map row_line rows))
rows_full dir [] all = tt
rows_full dir (row ∷ rows) all = (row_full dir row all.0, rows_full dir rows all.1)

body_full : (dir : Names) (b : Body) → IsBody dir b → AllByRecursion Full (map text_of (body_lines b))
body_full dir Hidden is = tt
body_full dir (Shown total rows) is = (full_same total _ is.0.1 tt, rows_full dir rows (recursion_from_All (IsRow dir) rows is.1))

section_full : (s : Section) → IsSection s → EndsFull (map text_of (section_lines s))
section_full s is = all_full s.header (map text_of (body_lines s.body)) (full_same s.header _ is.0.1 tt) (body_full s.dir s.body is.1)

later_full : (read : List BufferLine) (later : List Section) → EndsFull (map text_of read) → AllByRecursion IsSection later → EndsFull (map text_of (read ++ later_lines later))
later_full read [] full all = subst (λ (r : List BufferLine). EndsFull (map text_of r)) (sym (append-nil read)) full
later_full read (s ∷ later) full all =
    let more : List BufferLine = Fixed [] ∷ section_lines s in
    let here : EndsFull (map text_of (read ++ more)) =
    subst EndsFull (sym (map-append text_of read more)) (full-append (map text_of read) [] (map text_of (section_lines s)) (section_full s all.0)) in
    subst (λ (r : List BufferLine). EndsFull (map text_of r)) (append_assoc read more (later_lines later)) (later_full (read ++ more) later here all.1)

buffer_full : (s : Section) (later : List Section) → IsSection s → AllByRecursion IsSection later → EndsFull (buffer_texts (s ∷ later))
buffer_full s later is all =
    later_full (Fixed (codes "dired 1") ∷ section_lines s) later (section_full s is) all

-- ---- a whole buffer

read_from : (text : List ℕ) (read : List BufferLine) → length (lines text) ≤ max_lines → lines_from 1 due.First (lines text) ≡ Ok read → buffer_of text ≡ Ok read
read_from text read few is = rw (le-ltb max_lines (length (lines text)) few) is

pub buffers-read : (text : List ℕ) (sections : List Section) → IsBuffer text sections → buffer_of text ≡ Ok (buffer_lines sections)
buffers-read text [] h = absurd (h.some refl)
buffers-read text (s ∷ later) h =
    let all = recursion_from_All IsSection (s ∷ later) h.each in
    let same : lines text ≡ buffer_texts (s ∷ later) = lines-of text (buffer_texts (s ∷ later)) (buffer_full s later all.0 all.1) h.whole h.is in
    let read : lines_from 1 due.First (buffer_texts (s ∷ later)) ≡ Ok (buffer_lines (s ∷ later)) =
    one_more 1 due.First due.Header (Fixed (codes "dired 1")) (sections_lines (s ∷ later)) first_line_is
    (section_read s.header s.dir s.body (later_lines later) all.0.0 all.0.1 (later_read later all.1)) in
    read_from text (buffer_lines (s ∷ later)) (subst (λ (ts : List (List ℕ)). length ts ≤ max_lines) (sym same) h.few) (ap (lines_from 1 due.First) same ∙ read)

-- ---- the sections of a text are one list

-- a row from its parts
made : List ℕ → ℕ → Line → ℕ → Names → Row
made text mark line name_at path = record { text = text; mark = mark; line = line; name_at = name_at; path = path }

made_is : (r : Row) → made r.text r.mark r.line r.name_at r.path ≡ r
unfolding made
made_is r = refl

row_one : (dir : Names) (r s : Row) → IsRow dir r → IsRow dir s → row_line r ≡ row_line s → r ≡ s
row_one dir r s is also same =
    let text : r.text ≡ s.text = cc in
    let name_at : r.name_at ≡ s.name_at = cc in
    let path : r.path ≡ s.path = cc in
    let read : line_text_of r.text ≡ Ok (r.mark, r.line) = grammar-read r.mark r.line r.text is.shown in
    let read_also : line_text_of s.text ≡ Ok (s.mark, s.line) = grammar-read s.mark s.line s.text also.shown in
    let both : fine {A = ℕ × Line} (r.mark, r.line) ≡ fine {A = ℕ × Line} (s.mark, s.line) = sym read ∙ ap line_text_of text ∙ read_also in
    let pair : (r.mark, r.line) ≡ (s.mark, s.line) = same_Ok (r.mark, r.line) (s.mark, s.line) both in
    let mark : r.mark ≡ s.mark = ap (λ (p : ℕ × Line). p.0) pair in
    let line : r.line ≡ s.line = ap (λ (p : ℕ × Line). p.1) pair in
    let parts : made r.text r.mark r.line r.name_at r.path ≡ made s.text s.mark s.line s.name_at s.path = cc in
    sym (made_is r) ∙ parts ∙ made_is s

-- the lines behind a section begin with no entry
rows_one : (dir : Names) (rows others : List Row) (l m : List Section) → AllByRecursion (IsRow dir) rows → AllByRecursion (IsRow dir) others
    → map row_line rows ++ later_lines l ≡ map row_line others ++ later_lines m → (rows ≡ others) × (later_lines l ≡ later_lines m)
rows_one dir [] [] l m is also same = (refl, same)
rows_one dir [] (s ∷ others) [] m is also same = cc
rows_one dir [] (s ∷ others) (t ∷ l) m is also same = cc
rows_one dir (r ∷ rows) [] l [] is also same = cc
rows_one dir (r ∷ rows) [] l (t ∷ m) is also same = cc
rows_one dir (r ∷ rows) (s ∷ others) l m is also same =
    let first : row_line r ≡ row_line s = cc in
    let rest : map row_line rows ++ later_lines l ≡ map row_line others ++ later_lines m = cc in
    let inner = rows_one dir rows others l m is.1 also.1 rest in
    let row = row_one dir r s is.0 also.0 first in
    (ap (λ (x : Row). x ∷ rows) row ∙ ap (λ (xs : List Row). s ∷ xs) inner.0, inner.1)

no_total : IsTotal [] → ⊥
no_total h = let e = h.1 in cc

body_one : (dir : Names) (a b : Body) (l m : List Section) → IsBody dir a → IsBody dir b → body_lines a ++ later_lines l ≡ body_lines b ++ later_lines m → (a ≡ b) × (later_lines l ≡ later_lines m)
body_one dir Hidden Hidden l m is also same = (refl, same)
body_one dir Hidden (Shown total rows) [] m is also same = cc
body_one dir Hidden (Shown total rows) (s ∷ l) m is also same = let empty : [] ≡ total = cc in absurd (no_total (subst IsTotal (sym empty) also.0))
body_one dir (Shown total rows) Hidden l [] is also same = cc
body_one dir (Shown total rows) Hidden l (s ∷ m) is also same = let empty : [] ≡ total = cc in absurd (no_total (subst IsTotal (sym empty) is.0))
body_one dir (Shown total rows) (Shown other others) l m is also same =
    let first : total ≡ other = cc in
    let rest : map row_line rows ++ later_lines l ≡ map row_line others ++ later_lines m = cc in
    let inner = rows_one dir rows others l m (recursion_from_All (IsRow dir) rows is.1) (recursion_from_All (IsRow dir) others also.1) rest in
    (ap (λ (t : List ℕ). Shown t rows) first ∙ ap (Shown other) inner.0, inner.1)

formed : List ℕ → Names → Body → Section
formed header dir b = record { header = header; dir = dir; body = b }

formed_is : (s : Section) → formed s.header s.dir s.body ≡ s
unfolding formed
formed_is s = refl

section_one : (s t : Section) (l m : List Section) → IsSection s → IsSection t → section_lines s ++ later_lines l ≡ section_lines t ++ later_lines m → (s ≡ t) × (later_lines l ≡ later_lines m)
section_one s t l m is also same =
    let header : s.header ≡ t.header = cc in
    let dir : s.dir ≡ t.dir = cc in
    let rest : body_lines s.body ++ later_lines l ≡ body_lines t.body ++ later_lines m = cc in
    let inner = body_one s.dir s.body t.body l m is.1 (subst (λ (d : Names). IsBody d t.body) (sym dir) also.1) rest in
    let body = inner.0 in
    let parts : formed s.header s.dir s.body ≡ formed t.header t.dir t.body = cc in
    (sym (formed_is s) ∙ parts ∙ formed_is t, inner.1)

later_one : (l m : List Section) → AllByRecursion IsSection l → AllByRecursion IsSection m → later_lines l ≡ later_lines m → l ≡ m
later_one [] [] is also same = refl
later_one [] (t ∷ m) is also same = cc
later_one (s ∷ l) [] is also same = cc
later_one (s ∷ l) (t ∷ m) is also same =
    let rest : section_lines s ++ later_lines l ≡ section_lines t ++ later_lines m = cc in
    let inner = section_one s t l m is.0 also.0 rest in
    ap (λ (x : Section). x ∷ l) inner.0 ∙ ap (λ (xs : List Section). t ∷ xs) (later_one l m is.1 also.1 inner.1)

lines_one : (s t : List Section) → s ≢ [] → t ≢ [] → AllByRecursion IsSection s → AllByRecursion IsSection t → buffer_lines s ≡ buffer_lines t → s ≡ t
lines_one [] t some others is also same = absurd (some refl)
lines_one (x ∷ s) [] some others is also same = absurd (others refl)
lines_one (x ∷ s) (y ∷ t) some others is also same =
    let rest : section_lines x ++ later_lines s ≡ section_lines y ++ later_lines t = cc in
    let inner = section_one x y s t is.0 also.0 rest in
    ap (λ (z : Section). z ∷ s) inner.0 ∙ ap (λ (zs : List Section). y ∷ zs) (later_one s t is.1 also.1 inner.1)

pub sections-one : (text : List ℕ) (s t : List Section) → IsBuffer text s → IsBuffer text t → s ≡ t
sections-one text s t is also =
    let same : read_ok (buffer_lines s) ≡ read_ok (buffer_lines t) = sym (buffers-read text s is) ∙ buffers-read text t also in
    let lines_same : buffer_lines s ≡ buffer_lines t = cc in
    lines_one s t is.some also.some (recursion_from_All IsSection s is.each) (recursion_from_All IsSection t also.each) lines_same
