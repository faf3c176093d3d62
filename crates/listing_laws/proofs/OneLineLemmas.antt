-- Which texts are on one line, and what the lines of a listing are.
use Rattle.std.proofs.Common.{◌≡◌, ◌≢◌, inl, inr, ℕ, zero, suc, ◌+◌, ◌-◌, ◌/◌, ◌%◌, ◌≤◌, Bool, true, false, if◌then◌else◌, ◌&&◌, ◌||◌, List, [], ◌∷◌, ◌++◌, length, refl, sym, ◌∙◌, ap, subst, arith, All, eqb, nat_le, decimal, nat_lt, append_assoc, map, codes, ℤ, unsigned_abs, pos}
use Rattle.std.proofs.lemmas.Bool.{cases_Bool, cases_eq, ne_eqb, and_parts, leb-true}
use Rattle.std.proofs.lemmas.List.Elements.{All-nil, All-cons, All-head, All-tail, All-append, All-replicate}
use Rattle.std.specs.List.{list_all}
use Rattle.std.specs.Fmt.{digit_glyph, digits_onto, digits}
use Rattle.dired_text.specs.Escape.{backslash, greater, is_control, octal, spelled, escaped}
use Rattle.dired_text.specs.Modes.{has, letter, third_letter, mode_letters}
use Rattle.dired_text.specs.Paths.{Names, joined}
use Rattle.dired_text.specs.Resolve.{with_first}
use Rattle.tree_core.specs.declared.node.Kind.{Kind}
use Rattle.tree_core.specs.declared.node.Kind.TheVariants.{File, Dir, Link}
use Rattle.listing_text.specs.declared.line.Line.{Line}
use Rattle.listing_text.specs.declared.line.Widths.{Widths}
use Rattle.listing_text.specs.Dates.{minute_text, shown_minute, year_of, month_of, day_of, two_digits, four_digits, stamp, stamp_of}
use Rattle.std.specs.Int.{int_div_euclid, int_rem_euclid}
use Rattle.listing_text.specs.Fields.{is_word, is_word_byte}
use Rattle.listing_text.specs.Grammar.{IsLawful}
use Rattle.listing_text.specs.Listed.{spaces, at_right, at_left, kind_letter, is_link, arrow, target_text, names_text, columns_text, start_text, line_text_of, dir_text, header_text_of, total_text_of, lines_text, section_text_of, widths_of}
use Rattle.wdired_buffer.specs.Lines.{lines}
use Rattle.listing_laws.specs.OneLine.{OnOneLine, IsListed, AreListed, section_lines, later_lines, sections_lines, sections_text, title}

none : OnOneLine []
none = All-nil (λ b. b ≢ 10)

byte : (b : ℕ) (bs : List ℕ) → b ≢ 10 → OnOneLine bs → OnOneLine (b ∷ bs)
byte b bs other h = All-cons (λ b. b ≢ 10) b bs other h

high : (b : ℕ) (bs : List ℕ) → 11 ≤ b → OnOneLine bs → OnOneLine (b ∷ bs)
high b bs large h = byte b bs (λ e. omega arith) h

both : (xs ys : List ℕ) → OnOneLine xs → OnOneLine ys → OnOneLine (xs ++ ys)
both xs ys h k = All-append (λ b. b ≢ 10) xs ys h k

first : (b : ℕ) (bs : List ℕ) → OnOneLine (b ∷ bs) → b ≢ 10
first b bs h = All-head (λ b. b ≢ 10) b bs h

later : (b : ℕ) (bs : List ℕ) → OnOneLine (b ∷ bs) → OnOneLine bs
later b bs h = All-tail (λ b. b ≢ 10) b bs h

pub lines-split : (text rest : List ℕ) → OnOneLine text → lines (text ++ 10 ∷ rest) ≡ text ∷ lines rest
lines-split [] rest h = refl
lines-split (b ∷ bs) rest h = rw (ne_eqb b 10 (first b bs h)) (ap (with_first b) (lines-split bs rest (later b bs h)))

passes : (text : List ℕ) → list_all (λ b. nat_le 11 b) text ≡ true → OnOneLine text
passes [] e = none
passes (b ∷ bs) e = let parts = and_parts (nat_le 11 b) (list_all (λ b. nat_le 11 b) bs) e in high b bs (leb-true 11 b parts.0) (passes bs parts.1)

-- what is escaped
octal-one_line : (b : ℕ) → OnOneLine (octal b)
octal-one_line b =
    high (48 + b / 64) ((48 + b / 8 % 8) ∷ (48 + b % 8) ∷ []) (omega arith) (high (48 + b / 8 % 8) ((48 + b % 8) ∷ []) (omega arith) (high (48 + b % 8) [] (omega arith) none))

other-one_line : (test : Bool) (b : ℕ) → b ≢ 10 → OnOneLine (if test then backslash ∷ octal b else b ∷ [])
other-one_line true b other = high backslash (octal b) (omega arith) (octal-one_line b)
other-one_line false b other = byte b [] other none

spelled-one_line : (in_link : Bool) (b : ℕ) → OnOneLine (spelled in_link b)
spelled-one_line in_link b =
    let Good : ℕ → Type 0 = λ n. OnOneLine (spelled in_link n) in
    elim (cases_eq b 92) [
      | inl same ↦ subst Good (sym same) (high 92 (92 ∷ []) (omega arith) (high 92 [] (omega arith) none))
      | inr not_backslash ↦ elim (cases_eq b 10) [
        | inl same ↦ subst Good (sym same) (high 92 (110 ∷ []) (omega arith) (high 110 [] (omega arith) none))
        | inr not_newline ↦ elim (cases_eq b 9) [
          | inl same ↦ subst Good (sym same) (high 92 (116 ∷ []) (omega arith) (high 116 [] (omega arith) none))
          | inr not_tab ↦ rw (ne_eqb b 92 not_backslash, ne_eqb b 10 not_newline, ne_eqb b 9 not_tab) (other-one_line (is_control b || (in_link && eqb b greater)) b not_newline)
        ]
      ]
    ]

pub escaped-one_line : (in_link : Bool) (text : List ℕ) → OnOneLine (escaped in_link text)
escaped-one_line in_link [] = none
escaped-one_line in_link (b ∷ text) = both (spelled in_link b) (escaped in_link text) (spelled-one_line in_link b) (escaped-one_line in_link text)

-- numbers
glyph-other : (d : ℕ) → digit_glyph false d ≢ 10
glyph-other d = elim (cases_Bool (nat_lt d 10)) [
  | inl small ↦ rw small (λ e. omega arith)
  | inr large ↦ rw large (λ e. omega arith)
]

onto-one_line : (k n : ℕ) (acc : List ℕ) → OnOneLine acc → OnOneLine (digits_onto k 10 false n acc)
onto-one_line zero n acc h = h
onto-one_line (suc k) n acc h = let more = byte (digit_glyph false (n % 10)) acc (glyph-other (n % 10)) h in elim (cases_Bool (eqb (n / 10) 0)) [
  | inl last ↦ rw last more
  | inr other ↦ rw other (onto-one_line k (n / 10) (digit_glyph false (n % 10) ∷ acc) more)
]

decimal-one_line : (n : ℕ) → OnOneLine (decimal n)
unfolding digits
decimal-one_line n = onto-one_line 64 n [] none

pub header-one_line : (dir : Names) → OnOneLine (header_text_of dir)
unfolding header_text_of dir_text
header-one_line [] = passes (32 ∷ 32 ∷ 46 ∷ 58 ∷ []) refl
header-one_line (name ∷ path) =
    both (32 ∷ 32 ∷ []) (escaped false (joined (name ∷ path)) ++ 58 ∷ []) (passes (32 ∷ 32 ∷ []) refl)
    (both (escaped false (joined (name ∷ path))) (58 ∷ []) (escaped-one_line false (joined (name ∷ path))) (passes (58 ∷ []) refl))

pub total-one_line : (count : ℕ) → OnOneLine (total_text_of count)
unfolding total_text_of
total-one_line count = both (codes "  total ") (decimal count) (passes (codes "  total ") refl) (decimal-one_line count)

-- a file's line
word-one_line : (w : List ℕ) → list_all is_word_byte w ≡ true → OnOneLine w
word-one_line [] all = none
word-one_line (b ∷ bs) all =
    let parts = and_parts (is_word_byte b) (list_all is_word_byte bs) all in
    let low = and_parts (nat_le 33 b) (nat_le b 126) parts.0 in
    let least : 33 ≤ b = leb-true 33 b low.0 in
    high b bs (omega arith) (word-one_line bs parts.1)

is_word-one_line : (w : List ℕ) → is_word w ≡ true → OnOneLine w
is_word-one_line w is = word-one_line w (and_parts (nat_le 1 (length w) && nat_le (length w) 64) (list_all is_word_byte w) is).1

spaces-one_line : (n : ℕ) → OnOneLine (spaces n)
spaces-one_line n = All-replicate (λ b. b ≢ 10) n 32 (λ e. omega arith)

right-one_line : (width : ℕ) (text : List ℕ) → OnOneLine text → OnOneLine (at_right width text)
right-one_line width text h = both (spaces (width - length text)) text (spaces-one_line (width - length text)) h

left-one_line : (width : ℕ) (text : List ℕ) → OnOneLine text → OnOneLine (at_left width text)
left-one_line width text h = both text (spaces (width - length text)) h (spaces-one_line (width - length text))

pair-one_line : (b : ℕ) (x y : List ℕ) → 11 ≤ b → OnOneLine x → OnOneLine y → OnOneLine (x ++ b ∷ y)
pair-one_line b x y large h k = both x (b ∷ y) h (high b y large k)

two-one_line : (n : ℕ) → OnOneLine (two_digits n)
two-one_line n = high (48 + n / 10) ((48 + n % 10) ∷ []) (omega arith) (high (48 + n % 10) [] (omega arith) none)

four-one_line : (n : ℕ) → OnOneLine (four_digits n)
four-one_line n = both (two_digits (n / 100)) (two_digits (n % 100)) (two-one_line (n / 100)) (two-one_line (n % 100))

stamp-one_line : (year month day hour minute : ℕ) → OnOneLine (stamp year month day hour minute)
stamp-one_line year month day hour minute =
    pair-one_line 45 (four_digits year) (two_digits month ++ 45 ∷ two_digits day ++ 32 ∷ two_digits hour ++ 58 ∷ two_digits minute) (omega arith) (four-one_line year)
    (pair-one_line 45 (two_digits month) (two_digits day ++ 32 ∷ two_digits hour ++ 58 ∷ two_digits minute) (omega arith) (two-one_line month)
    (pair-one_line 32 (two_digits day) (two_digits hour ++ 58 ∷ two_digits minute) (omega arith) (two-one_line day)
    (pair-one_line 58 (two_digits hour) (two_digits minute) (omega arith) (two-one_line hour) (two-one_line minute))))

day-one_line : (day : ℤ) (passed : ℕ) → OnOneLine (stamp_of day passed)
day-one_line day passed = stamp-one_line (year_of day) (month_of day) (day_of day) (passed / 60) (passed % 60)

minute-one_line : (minute : ℤ) → OnOneLine (minute_text minute)
unfolding minute_text
minute-one_line minute = day-one_line (int_div_euclid (shown_minute minute) (pos 1440)) (unsigned_abs (int_rem_euclid (shown_minute minute) (pos 1440)))

letter-high : (mode bit shown : ℕ) → 11 ≤ shown → 11 ≤ letter mode bit shown
letter-high mode bit shown h = elim (cases_Bool (has mode bit)) [
  | inl on ↦ rw on h
  | inr off ↦ rw off (omega arith)
]

third-high : (mode bit special small capital : ℕ) → 11 ≤ small → 11 ≤ capital → 11 ≤ third_letter mode bit special small capital
third-high mode bit special small capital h k = elim (cases_Bool (has mode special)) [
  | inl on ↦ elim (cases_Bool (has mode bit)) [
    | inl x ↦ rw (on, x) h
    | inr x ↦ rw (on, x) k
  ]
  | inr off ↦ rw off (letter-high mode bit 120 (omega arith))
]

class-one_line : (r w x : ℕ) (rest : List ℕ) → 11 ≤ r → 11 ≤ w → 11 ≤ x → OnOneLine rest → OnOneLine (r ∷ w ∷ x ∷ rest)
class-one_line r w x rest h k l m = high r (w ∷ x ∷ rest) h (high w (x ∷ rest) k (high x rest l m))

class-letters : (mode read write run special small capital : ℕ) (rest : List ℕ) → 11 ≤ small → 11 ≤ capital → OnOneLine rest
    → OnOneLine (letter mode read 114 ∷ letter mode write 119 ∷ third_letter mode run special small capital ∷ rest)
class-letters mode read write run special small capital rest h k m =
    class-one_line (letter mode read 114) (letter mode write 119) (third_letter mode run special small capital) rest
    (letter-high mode read 114 (omega arith)) (letter-high mode write 119 (omega arith)) (third-high mode run special small capital h k) m

others : ℕ → List ℕ
others mode = letter mode 0o4 114 ∷ letter mode 0o2 119 ∷ third_letter mode 0o1 0o1000 116 84 ∷ []

group : ℕ → List ℕ
group mode = letter mode 0o40 114 ∷ letter mode 0o20 119 ∷ third_letter mode 0o10 0o2000 115 83 ∷ others mode

letters-one_line : (mode : ℕ) → OnOneLine (mode_letters mode)
unfolding others group
letters-one_line mode =
    class-letters mode 0o400 0o200 0o100 0o4000 115 83 (group mode) (omega arith) (omega arith)
    (class-letters mode 0o40 0o20 0o10 0o2000 115 83 (others mode) (omega arith) (omega arith)
    (class-letters mode 0o4 0o2 0o1 0o1000 116 84 [] (omega arith) (omega arith) none))

kind-high : (kind : Kind) → 11 ≤ kind_letter kind
kind-high File = omega arith
kind-high Dir = omega arith
kind-high Link = omega arith

target-one_line : (kind : Kind) (target : List ℕ) → OnOneLine (target_text kind target)
target-one_line File target = none
target-one_line Dir target = none
target-one_line Link target = both arrow (escaped false target) (passes arrow refl) (escaped-one_line false target)

start-one_line : (mark : ℕ) (line : Line) → 32 ≤ mark → OnOneLine (start_text mark line)
unfolding start_text
start-one_line mark line low =
    class-one_line mark 32 (kind_letter line.kind) (mode_letters (line.mode % 0o10000)) (omega arith) (omega arith) (kind-high line.kind) (letters-one_line (line.mode % 0o10000))

parts-one_line : (a b c d : List ℕ) → OnOneLine a → OnOneLine b → OnOneLine c → OnOneLine d → OnOneLine (a ++ 32 ∷ b ++ 32 ∷ c ++ 32 ∷ d)
parts-one_line a b c d h k l m =
    pair-one_line 32 (a ++ 32 ∷ b ++ 32 ∷ c) d (omega arith) (pair-one_line 32 (a ++ 32 ∷ b) c (omega arith) (pair-one_line 32 a b (omega arith) h k) l) m

columns-one_line : (line : Line) (widths : Widths) → IsLawful line → OnOneLine (columns_text line widths)
unfolding columns_text
columns-one_line line widths h =
    parts-one_line (32 ∷ at_right widths.links (decimal line.links)) (at_left widths.owner line.owner) (at_left widths.group line.group) (at_right widths.size (decimal line.size))
    (high 32 (at_right widths.links (decimal line.links)) (omega arith) (right-one_line widths.links (decimal line.links) (decimal-one_line line.links)))
    (left-one_line widths.owner line.owner (is_word-one_line line.owner h.owner)) (left-one_line widths.group line.group (is_word-one_line line.group h.group))
    (right-one_line widths.size (decimal line.size) (decimal-one_line line.size))

names-one_line : (line : Line) → OnOneLine (names_text line)
unfolding names_text
names-one_line line = both (escaped (is_link line.kind) line.name) (target_text line.kind line.target) (escaped-one_line (is_link line.kind) line.name) (target-one_line line.kind line.target)

pub line-one_line : (mark : ℕ) (line : Line) (widths : Widths) → 32 ≤ mark → mark ≤ 126 → IsLawful line → OnOneLine (line_text_of mark line widths)
unfolding line_text_of
line-one_line mark line widths low most h =
    pair-one_line 32 (start_text mark line ++ columns_text line widths ++ 32 ∷ minute_text line.minute) (names_text line) (omega arith)
    (pair-one_line 32 (start_text mark line ++ columns_text line widths) (minute_text line.minute) (omega arith)
    (both (start_text mark line) (columns_text line widths) (start-one_line mark line low) (columns-one_line line widths h)) (minute-one_line line.minute))
    (names-one_line line)

-- the lines of a listing
files-lines : (widths : Widths) (ls : List (ℕ × Line)) (rest : List ℕ) → All IsListed ls
    → lines (lines_text widths ls ++ rest) ≡ map (λ (listed : ℕ × Line). line_text_of listed.0 listed.1 widths) ls ++ lines rest
unfolding lines_text
files-lines widths [] rest h = refl
files-lines widths (listed ∷ ls) rest h =
    let here : IsListed listed = All-head IsListed listed ls h in
    let text = line_text_of listed.0 listed.1 widths in
    ap lines (append_assoc text (10 ∷ lines_text widths ls) rest)
    ∙ lines-split text (lines_text widths ls ++ rest) (line-one_line listed.0 listed.1 widths here.0 here.1 here.2)
    ∙ ap (λ ts. text ∷ ts) (files-lines widths ls rest (All-tail IsListed listed ls h))

pub section-lines : (dir : Names) (ls : List (ℕ × Line)) (rest : List ℕ) → All IsListed ls → lines (section_text_of dir ls ++ rest) ≡ section_lines (dir, ls) ++ lines rest
unfolding section_text_of
section-lines dir ls rest h =
    let header = header_text_of dir in
    let total = total_text_of (length ls) in
    let files = lines_text (widths_of ls) ls in
    ap lines (append_assoc (header ++ 10 ∷ total) (10 ∷ files) rest ∙ append_assoc header (10 ∷ total) (10 ∷ (files ++ rest)))
    ∙ lines-split header (total ++ 10 ∷ (files ++ rest)) (header-one_line dir)
    ∙ ap (λ ts. header ∷ ts) (lines-split total (files ++ rest) (total-one_line (length ls)) ∙ ap (λ ts. total ∷ ts) (files-lines (widths_of ls) ls rest h))

pub later-lines : (sections : List (Names × List (ℕ × Line))) → AreListed sections → lines (sections_text sections) ≡ later_lines sections
later-lines [] h = refl
later-lines (s ∷ sections) h =
    let Listed : Names × List (ℕ × Line) → Type 0 = λ t. All IsListed t.1 in
    ap (λ ts. [] ∷ ts) (section-lines s.0 s.1 (sections_text sections) (All-head Listed s sections h)
    ∙ ap (λ ts. section_lines s ++ ts) (later-lines sections (All-tail Listed s sections h)))

pub listing-lines : (sections : List (Names × List (ℕ × Line))) → AreListed sections → lines (title ++ sections_text sections) ≡ title ∷ sections_lines sections
listing-lines [] h = refl
listing-lines (s ∷ sections) h =
    let Listed : Names × List (ℕ × Line) → Type 0 = λ t. All IsListed t.1 in
    lines-split title (section_text_of s.0 s.1 ++ sections_text sections) (passes title refl)
    ∙ ap (λ ts. title ∷ ts) (section-lines s.0 s.1 (sections_text sections) (All-head Listed s sections h)
    ∙ ap (λ ts. section_lines s ++ ts) (later-lines sections (All-tail Listed s sections h)))
