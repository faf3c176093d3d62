-- What is read as a buffer is one of sections.
use Rattle.std.proofs.Common.{◌≡◌, ◌≢◌, ◌⊎◌, inl, inr, ℕ, suc, ◌+◌, ◌≤◌, Bool, true, false, nat_lt, if◌then◌else◌, List, [], ◌∷◌, ◌++◌, length, map, flat_map, All, refl, sym, ◌∙◌, ap, subst, arith, Result, Ok, Err, codes}
use Rattle.std.proofs.lemmas.Bool.{cases_Bool, ltb-false}
use Rattle.std.proofs.lemmas.List.Elements.{All-from_recursion}
use Rattle.std.specs.List.{AllByRecursion}
use Rattle.std.specs.Str.{bytes_eq}
use Rattle.dired_text.specs.Paths.{Names}
use Rattle.listing_text.specs.Reading.{◌>>=◌}
use Rattle.wdired_buffer.specs.declared.due.Due.{Due}
use Rattle.wdired_buffer.specs.declared.due.Due.TheVariants as due
use Rattle.wdired_buffer.specs.declared.faults.BufferFault.{BufferFault}
use Rattle.wdired_buffer.specs.declared.line.BufferLine.{BufferLine}
use Rattle.wdired_buffer.specs.declared.line.BufferLine.TheVariants.{Fixed, Header, Entry}
use Rattle.wdired_buffer.specs.Buffer.{buffer_of, max_lines, lines_from, line_of, end_of, entry_of, header_of}
use Rattle.wdired_buffer.specs.Headers.{is_total}
use Rattle.wdired_buffer.specs.Lines.{lines, in_front}
use Rattle.buffer_laws.specs.Buffers.{Row, Body, Hidden, Shown, Section, IsTotal, IsRow, IsSection, row_line, section_lines, later_lines, sections_lines, buffer_lines, buffer_texts, text_of, OnOneLine, ended, IsBuffer}
use Rattle.buffer_laws.proofs.TextLemmas.{lines-whole, ended-lines}
use Rattle.buffer_laws.proofs.HeaderLemmas.{bind_ok, line_ok, pair_ok, same_bytes, due_behind, IsHeaderText, HeaderRead, header-from, total-from}
use Rattle.buffer_laws.proofs.RowLemmas.{RowRead, row-from}

-- ---- what is read where a line is due

-- sections that were read, of which there is at least one
record FromHeader (read : List BufferLine) : Type 0 where
  first : Section
  later : List Section
  first_is : IsSection first
  later_are : AllByRecursion IsSection later
  is : read ≡ section_lines first ++ later_lines later

record FromRows (dir : Names) (read : List BufferLine) : Type 0 where
  rows : List Row
  later : List Section
  rows_are : AllByRecursion (IsRow dir) rows
  later_are : AllByRecursion IsSection later
  is : read ≡ map row_line rows ++ later_lines later

record FromTotal (dir : Names) (read : List BufferLine) : Type 0 where
  total : List ℕ
  rest : List BufferLine
  total_is : IsTotal total
  rest_is : FromRows dir rest
  is : read ≡ Fixed total ∷ rest

record FromGap (read : List BufferLine) : Type 0 where
  later : List Section
  later_are : AllByRecursion IsSection later
  is : read ≡ later_lines later

abbrev From : Due → List BufferLine → Type 0
From due.First read = Unit {0}
From due.Header read = FromHeader read
From (due.Total dir) read = FromTotal dir read
From (due.Rows dir) read = FromRows dir read
From due.Gap read = FromGap read

-- ---- one line

header_step : (text : List ℕ) (line : BufferLine) (tail : List BufferLine) (hidden : Bool) (dir : Names) → IsHeaderText hidden dir text → line ≡ Header text dir → From (due_behind hidden dir) tail → FromHeader (line ∷ tail)
header_step text line tail true dir h is rest = record {
  first = record { header = text; dir = dir; body = Hidden };
  later = rest.later;
  first_is = ((h.shown, h.is, h.names), tt);
  later_are = rest.later_are;
  is = ap (λ (l : BufferLine). l ∷ tail) is ∙ ap (λ (t : List BufferLine). Header text dir ∷ t) rest.is;
}
header_step text line tail false dir h is rest = record {
  first = record { header = text; dir = dir; body = Shown rest.total rest.rest_is.rows };
  later = rest.rest_is.later;
  first_is = ((h.shown, h.is, h.names), (rest.total_is, All-from_recursion (IsRow dir) rest.rest_is.rows rest.rest_is.rows_are));
  later_are = rest.rest_is.later_are;
  is = ap (λ (l : BufferLine). l ∷ tail) is ∙ ap (λ (t : List BufferLine). Header text dir ∷ t) (rest.is ∙ ap (λ (t : List BufferLine). Fixed rest.total ∷ t) rest.rest_is.is);
}

total_step : (n : ℕ) (dir : Names) (text : List ℕ) (line : BufferLine) (next : Due) (tail : List BufferLine) → line_of n (due.Total dir) text ≡ Ok (line, next) → From next tail → FromTotal dir (line ∷ tail)
unfolding line_of
total_step n dir text line next tail is rest = elim (cases_Bool (is_total text)) [
  | inl total ↦
      let same : line_ok (Fixed text) (due.Rows dir) ≡ line_ok line next = rw total at is in
      let parts = pair_ok (Fixed text) line (due.Rows dir) next same in
      record {
        total = text;
        rest = tail;
        total_is = total-from text total;
        rest_is = subst (λ (d : Due). From d tail) (sym parts.1) rest;
        is = ap (λ (l : BufferLine). l ∷ tail) (sym parts.0);
      }
  | inr other ↦ let none = rw other at is in cc
]

-- an empty line in front of sections
gap_step : (line : BufferLine) (tail : List BufferLine) → line ≡ Fixed [] → FromHeader tail → FromGap (line ∷ tail)
gap_step line tail is rest = record {
  later = rest.first ∷ rest.later;
  later_are = (rest.first_is, rest.later_are);
  is = ap (λ (l : BufferLine). l ∷ tail) is ∙ ap (λ (t : List BufferLine). Fixed [] ∷ t) rest.is;
}

rows_end : (dir : Names) (read : List BufferLine) → FromGap read → FromRows dir read
rows_end dir read rest = record { rows = []; later = rest.later; rows_are = tt; later_are = rest.later_are; is = rest.is }

row_more : (dir : Names) (text : List ℕ) (line : BufferLine) (tail : List BufferLine) → RowRead dir text line → FromRows dir tail → FromRows dir (line ∷ tail)
row_more dir text line tail h rest = record {
  rows = h.row ∷ rest.rows;
  later = rest.later;
  rows_are = (h.is, rest.rows_are);
  later_are = rest.later_are;
  is = ap (λ (l : BufferLine). l ∷ tail) h.line_is ∙ ap (λ (t : List BufferLine). row_line h.row ∷ t) rest.is;
}

step : (n : ℕ) (d : Due) (text : List ℕ) (line : BufferLine) (next : Due) (tail : List BufferLine) → line_of n d text ≡ Ok (line, next) → From next tail → From d (line ∷ tail)
unfolding line_of
step n due.First text line next tail is rest = tt
step n due.Header text line next tail is rest =
    let h = header-from n text line next is in
    header_step text line tail h.hidden h.dir h.form h.line_is (subst (λ (d : Due). From d tail) h.next_is rest)
step n (due.Total dir) text line next tail is rest = total_step n dir text line next tail is rest
step n (due.Rows dir) [] line next tail is rest =
    let parts = pair_ok (Fixed []) line due.Header next is in
    rows_end dir (line ∷ tail) (gap_step line tail (sym parts.0) (subst (λ (d : Due). From d tail) (sym parts.1) rest))
step n (due.Rows dir) (b ∷ bs) line next tail is rest =
    let s = bind_ok (entry_of n dir (b ∷ bs)) (λ entry. line_ok entry (due.Rows dir)) (line, next) is in
    let parts = pair_ok s.0 line (due.Rows dir) next s.2 in
    row_more dir (b ∷ bs) line tail (row-from n dir (b ∷ bs) line (s.1 ∙ ap Ok parts.0)) (subst (λ (d : Due). From d tail) (sym parts.1) rest)
step n due.Gap [] line next tail is rest =
    let parts = pair_ok (Fixed []) line due.Header next is in
    gap_step line tail (sym parts.0) (subst (λ (d : Due). From d tail) (sym parts.1) rest)
step n due.Gap (b ∷ bs) line next tail is rest = cc

-- the text of a line that is read
header_text : (n : ℕ) (text : List ℕ) (line : BufferLine) (next : Due) → header_of n text ≡ Ok (line, next) → text_of line ≡ text
header_text n text line next is = ap text_of (header-from n text line next is).line_is

row_text : (n : ℕ) (dir : Names) (text : List ℕ) (line : BufferLine) → entry_of n dir text ≡ Ok line → text_of line ≡ text
row_text n dir text line is = let h = row-from n dir text line is in ap text_of h.line_is ∙ h.text_is

line_text : (n : ℕ) (d : Due) (text : List ℕ) (line : BufferLine) (next : Due) → line_of n d text ≡ Ok (line, next) → text_of line ≡ text
unfolding line_of
line_text n due.First text line next is = elim (cases_Bool (bytes_eq text (codes "dired 1"))) [
  | inl same ↦ let read : line_ok (Fixed text) due.Header ≡ line_ok line next = rw same at is in ap text_of (sym (pair_ok (Fixed text) line due.Header next read).0)
  | inr other ↦ let none = rw other at is in cc
]
line_text n due.Header text line next is = header_text n text line next is
line_text n (due.Total dir) text line next is = elim (cases_Bool (is_total text)) [
  | inl same ↦ let read : line_ok (Fixed text) (due.Rows dir) ≡ line_ok line next = rw same at is in ap text_of (sym (pair_ok (Fixed text) line (due.Rows dir) next read).0)
  | inr other ↦ let none = rw other at is in cc
]
line_text n (due.Rows dir) [] line next is = ap text_of (sym (pair_ok (Fixed []) line due.Header next is).0)
line_text n (due.Rows dir) (b ∷ bs) line next is =
    let s = bind_ok (entry_of n dir (b ∷ bs)) (λ entry. line_ok entry (due.Rows dir)) (line, next) is in
    let parts = pair_ok s.0 line (due.Rows dir) next s.2 in
    row_text n dir (b ∷ bs) line (s.1 ∙ ap Ok parts.0)
line_text n due.Gap [] line next is = ap text_of (sym (pair_ok (Fixed []) line due.Header next is).0)
line_text n due.Gap (b ∷ bs) line next is = cc

-- ---- all lines

-- the first line that was read, and those behind it
pub record LinesRead (n : ℕ) (d : Due) (text : List ℕ) (texts : List (List ℕ)) (read : List BufferLine) : Type 0 where
  pub line : BufferLine
  pub next : Due
  pub tail : List BufferLine
  pub line_is : line_of n d text ≡ Ok (line, next)
  pub tail_is : lines_from (n + 1) next texts ≡ Ok tail
  pub is : read ≡ line ∷ tail

front_ok : (line : BufferLine) (r : Result (List BufferLine) BufferFault) (read : List BufferLine) → in_front (line ∷ []) r ≡ Ok read → (tail : List BufferLine) × (r ≡ Ok tail) × (read ≡ line ∷ tail)
front_ok line (Ok tail) read e = let same : line ∷ tail ≡ read = cc in (tail, refl, sym same)
front_ok line (Err x) read e = cc

pub lines-read : (n : ℕ) (d : Due) (text : List ℕ) (texts : List (List ℕ)) (read : List BufferLine) → lines_from n d (text ∷ texts) ≡ Ok read → LinesRead n d text texts read
lines-read n d text texts read e =
    let b = bind_ok (line_of n d text) (λ first. in_front (first.0 ∷ []) (lines_from (n + 1) first.1 texts)) read e in
    let f = front_ok b.0.0 (lines_from (n + 1) b.0.1 texts) read b.2 in
    record { line = b.0.0; next = b.0.1; tail = f.0; line_is = b.1; tail_is = f.1; is = f.2 }

at_end : (n : ℕ) (d : Due) (read : List BufferLine) → end_of n d ≡ Ok read → From d read
unfolding end_of
at_end n due.First read e = tt
at_end n due.Header read e = cc
at_end n (due.Total dir) read e = cc
at_end n (due.Rows dir) read e = record { rows = []; later = []; rows_are = tt; later_are = tt; is = let same : [] ≡ read = cc in sym same }
at_end n due.Gap read e = record { later = []; later_are = tt; is = let same : [] ≡ read = cc in sym same }

all_read : (n : ℕ) (d : Due) (texts : List (List ℕ)) (read : List BufferLine) → lines_from n d texts ≡ Ok read → From d read
all_read n d [] read e = at_end n d read e
all_read n d (text ∷ texts) read e =
    let h = lines-read n d text texts read e in
    subst (From d) (sym h.is) (step n d text h.line h.next h.tail h.line_is (all_read (n + 1) h.next texts h.tail h.tail_is))

pub end_empty : (n : ℕ) (d : Due) (read : List BufferLine) → end_of n d ≡ Ok read → read ≡ []
unfolding end_of
end_empty n due.First read e = cc
end_empty n due.Header read e = cc
end_empty n (due.Total dir) read e = cc
end_empty n (due.Rows dir) read e = let same : [] ≡ read = cc in sym same
end_empty n due.Gap read e = let same : [] ≡ read = cc in sym same

pub texts_read : (n : ℕ) (d : Due) (texts : List (List ℕ)) (read : List BufferLine) → lines_from n d texts ≡ Ok read → map text_of read ≡ texts
texts_read n d [] read e = ap (map text_of) (end_empty n d read e)
texts_read n d (text ∷ texts) read e =
    let h = lines-read n d text texts read e in
    ap (map text_of) h.is ∙ ap (λ (t : List ℕ). t ∷ map text_of h.tail) (line_text n d text h.line h.next h.line_is)
    ∙ ap (λ (ts : List (List ℕ)). text ∷ ts) (texts_read (n + 1) h.next texts h.tail h.tail_is)

-- ---- a whole buffer

pub record WholeRead (text : List ℕ) (read : List BufferLine) : Type 0 where
  pub few : length (lines text) ≤ max_lines
  pub is : lines_from 1 due.First (lines text) ≡ Ok read

pub whole-read : (text : List ℕ) (read : List BufferLine) → buffer_of text ≡ Ok read → WholeRead text read
whole-read text read e = elim (cases_Bool (nat_lt max_lines (length (lines text)))) [
  | inl many ↦ let none = rw many at e in cc
  | inr few ↦ record { few = ltb-false max_lines (length (lines text)) few; is = rw few at e }
]

title_line : (text : List ℕ) (line : BufferLine) (next : Due) → line_of 1 due.First text ≡ Ok (line, next) → (line ≡ Fixed (codes "dired 1")) × (next ≡ due.Header)
unfolding line_of
title_line text line next is = elim (cases_Bool (bytes_eq text (codes "dired 1"))) [
  | inl same ↦
      let read : line_ok (Fixed text) due.Header ≡ line_ok line next = rw same at is in
      let parts = pair_ok (Fixed text) line due.Header next read in
      (sym parts.0 ∙ ap Fixed (same_bytes text (codes "dired 1") same), sym parts.1)
  | inr other ↦ let none = rw other at is in cc
]

-- the sections of lines that were read
record Found (read : List BufferLine) : Type 0 where
  first : Section
  later : List Section
  first_is : IsSection first
  later_are : AllByRecursion IsSection later
  is : read ≡ buffer_lines (first ∷ later)

found : (texts : List (List ℕ)) (read : List BufferLine) → lines_from 1 due.First texts ≡ Ok read → Found read
unfolding end_of
found [] read e = cc
found (text ∷ texts) read e =
    let h = lines-read 1 due.First text texts read e in
    let title = title_line text h.line h.next h.line_is in
    let rest : FromHeader h.tail = subst (λ (d : Due). From d h.tail) title.1 (all_read 2 h.next texts h.tail h.tail_is) in
    record {
      first = rest.first;
      later = rest.later;
      first_is = rest.first_is;
      later_are = rest.later_are;
      is = h.is ∙ ap (λ (l : BufferLine). l ∷ h.tail) title.0 ∙ ap (λ (t : List BufferLine). Fixed (codes "dired 1") ∷ t) rest.is;
    }

is_buffer : (text : List ℕ) (first : Section) (later : List Section) → IsSection first → AllByRecursion IsSection later → length (lines text) ≤ max_lines → lines text ≡ buffer_texts (first ∷ later) → IsBuffer text (first ∷ later)
is_buffer text first later first_is later_are few same = record {
  some = λ e. cc;
  each = All-from_recursion IsSection (first ∷ later) (first_is, later_are);
  whole = subst (All OnOneLine) same (lines-whole text);
  few = subst (λ (ts : List (List ℕ)). length ts ≤ max_lines) same few;
  is = subst (λ (ts : List (List ℕ)). (text ≡ ended ts) ⊎ (text ++ 10 ∷ [] ≡ ended ts)) same (ended-lines text);
}

pub read-buffers : (text : List ℕ) (read : List BufferLine) → buffer_of text ≡ Ok read → (sections : List Section) × IsBuffer text sections × (read ≡ buffer_lines sections)
read-buffers text read e =
    let h = whole-read text read e in
    let f = found (lines text) read h.is in
    let same : lines text ≡ buffer_texts (f.first ∷ f.later) = sym (texts_read 1 due.First (lines text) read h.is) ∙ ap (map text_of) f.is in
    (f.first ∷ f.later, is_buffer text f.first f.later f.first_is f.later_are h.few same, f.is)
