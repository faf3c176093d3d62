-- What is written of a listing is read back.
use Rattle.std.proofs.Common.{◌≡◌, ◌≢◌, ℕ, suc, ◌+◌, ◌-◌, ◌^◌, ◌<◌, ◌≤◌, true, false, not, ◌&&◌, nat_lt, nat_le, eqb, List, [], ◌∷◌, ◌++◌, length, drop, get_or, position, refl, sym, ◌∙◌, ap, subst, arith, All, IsUtf8, Some, None, Ok, Err, if◌then◌else◌, codes, decimal, append_assoc, length-append}
use Rattle.std.proofs.Math.Seq.{take-append_seam, drop-append_seam}
use Rattle.std.proofs.lemmas.Bool.{and_parts, or_parts, not-true, eqb-false, le-leb, le-ltb, leb-true, false_from_ne_true}
use Rattle.std.proofs.lemmas.Fmt.{decimal_nonempty, length-decimal-le}
use Rattle.std.proofs.lemmas.List.{append-nil, drop-append-le}
use Rattle.std.proofs.lemmas.List.Elements.{All-head, All-tail, All-append}
use Rattle.std.proofs.lemmas.List.Sums.{AllPass-from_list_all}
use Rattle.std.proofs.lemmas.Slice.Eq.{bytes_eq-Decides}
use Rattle.std.proofs.lemmas.Str.{IsUtf8-append, IsUtf8-nil}
use Rattle.std.specs.List.{list_all, prefix_len}
use Rattle.std.specs.Str.{bytes_eq}
use Rattle.dired_text.specs.Escape.{escaped}
use Rattle.dired_text.specs.Paths.{Names, slash, is_name, is_name_byte, is_dots, slashed, joined, path_bytes, max_path_bytes}
use Rattle.dired_text.specs.Resolve.{resolved, ended, walked, components, entered}
use Rattle.dired_text.specs.declared.resolving.NameError.TheVariants.{Absolute}
use Rattle.dired_text.proofs.ResolveLemmas.{walk-step, walk-last}
use Rattle.listing_text.specs.declared.line.Line.{Line}
use Rattle.listing_text.specs.declared.line.Widths.{Widths}
use Rattle.listing_text.specs.Fields.{name_of}
use Rattle.listing_text.specs.Grammar.{IsLawful, as_shown}
use Rattle.listing_text.specs.Listed.{line_text_of, header_text_of, total_text_of, dir_text}
use Rattle.listing_text.proofs.FieldReads.{decimal-all}
use Rattle.listing_text.proofs.GrammarLemmas.{grammar-read}
use Rattle.listing_text.proofs.NameLemmas.{name-back}
use Rattle.listing_text.proofs.WrittenLemmas.{line-written}
use Rattle.wdired_buffer.specs.declared.due.Due.TheVariants as due
use Rattle.wdired_buffer.specs.declared.line.BufferLine.TheVariants.{Header, Entry}
use Rattle.wdired_buffer.specs.Headers.{before, header_in, dir_named, is_total}
use Rattle.wdired_buffer.specs.Buffer.{entry_of, header_of}
use Rattle.wdired_buffer.specs.EntryLaws.{IsReadAs, IsEntryOf}
use Rattle.wdired_buffer.proofs.EntryLemmas.{entries_alike}

-- what a name is
name-parts : (n : List ℕ) → is_name n ≡ true → (1 ≤ length n) × (length n ≤ 255) × (list_all is_name_byte n ≡ true) × (is_dots n ≡ false)
name-parts n is =
    let outer = and_parts (nat_le 1 (length n) && nat_le (length n) 255 && list_all is_name_byte n) (not (is_dots n)) is in
    let middle = and_parts (nat_le 1 (length n) && nat_le (length n) 255) (list_all is_name_byte n) outer.0 in
    let inner = and_parts (nat_le 1 (length n)) (nat_le (length n) 255) middle.0 in
    (leb-true 1 (length n) inner.0, leb-true (length n) 255 inner.1, middle.1, not-true (is_dots n) outer.1)

byte-parts : (b : ℕ) → is_name_byte b ≡ true → (eqb b slash ≡ false) × (eqb b 0 ≡ false)
byte-parts b is =
    let parts = and_parts (not (eqb b slash)) (not (eqb b 0)) is in
    (not-true (eqb b slash) parts.0, not-true (eqb b 0) parts.1)

no-slash : (n : List ℕ) → list_all is_name_byte n ≡ true → All (λ b. b ≢ slash) n
no-slash n all k d l = eqb-false (get_or n k d) slash (byte-parts (get_or n k d) (AllPass-from_list_all is_name_byte n all k d l)).0

no-zero : (n : List ℕ) → list_all (λ b. not (eqb b 0)) n ≡ true → All (λ b. b ≢ 0) n
no-zero n all k d l = eqb-false (get_or n k d) 0 (not-true (eqb (get_or n k d) 0) (AllPass-from_list_all (λ b. not (eqb b 0)) n all k d l))

no-nul : (n : List ℕ) → list_all is_name_byte n ≡ true → All (λ b. b ≢ 0) n
no-nul n all k d l = eqb-false (get_or n k d) 0 (byte-parts (get_or n k d) (AllPass-from_list_all is_name_byte n all k d l)).1

nul-len : (n : List ℕ) → list_all is_name_byte n ≡ true → prefix_len (λ b. not (eqb b 0)) n ≡ length n
nul-len [] all = refl
nul-len (b ∷ n) all =
    let parts = and_parts (is_name_byte b) (list_all is_name_byte n) all in
    rw ((byte-parts b parts.0).1, nul-len n parts.1) (omega arith)

nul-nowhere : (n : List ℕ) → list_all is_name_byte n ≡ true → position (λ b. eqb b 0) n ≡ None
nul-nowhere n all =
    ap (λ k. if nat_lt k (length n) then Some k else None) (nul-len n all)
    ∙ ap (λ t. if t then Some (length n) else None) (le-ltb (length n) (length n) (omega arith))

-- the walk enters a name
enter-name : (dir : Names) (place : ℕ) (n : List ℕ) → is_name n ≡ true → entered dir place n ≡ Ok (dir ++ n ∷ [])
enter-name dir place [] is = let none : 1 ≤ length {A = ℕ} [] = (name-parts [] is).0 in absurd (omega (arith, none))
enter-name dir place (b ∷ n) is =
    let parts = name-parts (b ∷ n) is in
    let dots = or_parts (bytes_eq (b ∷ n) (codes ".")) (bytes_eq (b ∷ n) (codes "..")) parts.3 in
    rw (dots.0, dots.1, le-ltb 255 (length (b ∷ n)) parts.1, nul-nowhere (b ∷ n) parts.2) refl

ended-at : (bytes : ℕ) (p : Names) → 1 ≤ length p → path_bytes p ≤ max_path_bytes → ended bytes (Ok p) ≡ Ok p
ended-at bytes [] some short = absurd (omega arith)
ended-at bytes (n ∷ p) some short = rw (le-leb (path_bytes (n ∷ p)) max_path_bytes short) refl

-- a text that begins with a name's first byte and is walked to a path
resolved-walk : (dir : Names) (text : List ℕ) (p : Names) (b : ℕ) (rest : List ℕ) → text ≡ b ∷ rest → eqb b slash ≡ false → 1 ≤ length p → path_bytes p ≤ max_path_bytes
    → walked dir 0 (components text) ≡ Ok p → resolved dir text ≡ Ok p
resolved-walk dir text p b rest same other some short went =
    let walked_on : walked dir 0 (components (b ∷ rest)) ≡ Ok p = subst (λ t. walked dir 0 (components t) ≡ Ok p) same went in
    subst (λ t. resolved dir t ≡ Ok p) (sym same) (
    ap (λ t. if t then Err Absolute else ended (length (b ∷ rest)) (walked dir 0 (components (b ∷ rest)))) other
    ∙ ap (ended (length (b ∷ rest))) walked_on ∙ ended-at (length (b ∷ rest)) p some short)

pub resolved-name : (dir : Names) (n : List ℕ) → is_name n ≡ true → path_bytes (dir ++ n ∷ []) ≤ max_path_bytes → resolved dir n ≡ Ok (dir ++ n ∷ [])
resolved-name dir [] is short = let none : 1 ≤ length {A = ℕ} [] = (name-parts [] is).0 in absurd (omega (arith, none))
resolved-name dir (b ∷ n) is short =
    let parts = name-parts (b ∷ n) is in
    let first = and_parts (is_name_byte b) (list_all is_name_byte n) parts.2 in
    resolved-walk dir (b ∷ n) (dir ++ (b ∷ n) ∷ []) b n refl (byte-parts b first.0).0 (omega (arith, length-append dir ((b ∷ n) ∷ []))) short
    (walk-last dir 0 (b ∷ n) (no-slash (b ∷ n) parts.2) ∙ enter-name dir 0 (b ∷ n) is)

-- the walk through the names of a path
walk-all : (dir : Names) (place : ℕ) (n : List ℕ) (p : Names) → All (λ m. is_name m ≡ true) (n ∷ p) → walked dir place (components (n ++ slashed p)) ≡ Ok (dir ++ n ∷ p)
walk-all dir place n [] are =
    let is : is_name n ≡ true = All-head (λ m. is_name m ≡ true) n [] are in
    ap (λ t. walked dir place (components t)) (append-nil n) ∙ walk-last dir place n (no-slash n (name-parts n is).2) ∙ enter-name dir place n is
walk-all dir place n (m ∷ p) are =
    let is : is_name n ≡ true = All-head (λ m. is_name m ≡ true) n (m ∷ p) are in
    walk-step dir (dir ++ n ∷ []) place (n ++ slashed (m ∷ p)) n (m ++ slashed p) refl (no-slash n (name-parts n is).2) (enter-name dir place n is)
    ∙ walk-all (dir ++ n ∷ []) (place + (length n + 1)) m p (All-tail (λ m. is_name m ≡ true) n (m ∷ p) are)
    ∙ ap Ok (append_assoc dir (n ∷ []) (m ∷ p))

pub resolved-path : (p : Names) → p ≢ [] → All (λ n. is_name n ≡ true) p → path_bytes p ≤ max_path_bytes → resolved [] (joined p) ≡ Ok p
resolved-path [] some are short = absurd (some refl)
resolved-path ([] ∷ p) some are short =
    let is : is_name [] ≡ true = All-head (λ m. is_name m ≡ true) [] p are in
    let none : 1 ≤ length {A = ℕ} [] = (name-parts [] is).0 in absurd (omega (arith, none))
resolved-path ((b ∷ n) ∷ p) some are short =
    let is : is_name (b ∷ n) ≡ true = All-head (λ m. is_name m ≡ true) (b ∷ n) p are in
    let first = and_parts (is_name_byte b) (list_all is_name_byte n) (name-parts (b ∷ n) is).2 in
    resolved-walk [] (joined ((b ∷ n) ∷ p)) ((b ∷ n) ∷ p) b (n ++ slashed p) refl (byte-parts b first.0).0 (omega arith) short (walk-all [] 0 (b ∷ n) p are)

-- the line of a file
pub entry-read : (number : ℕ) (dir : Names) (mark : ℕ) (line : Line) (widths : Widths) → 32 ≤ mark → mark ≤ 126 → IsLawful line → is_name line.name ≡ true
    → path_bytes (dir ++ line.name ∷ []) ≤ max_path_bytes
    → (name_at : ℕ) × (entry_of number dir (line_text_of mark line widths)
    ≡ Ok (Entry (line_text_of mark line widths) name_at (dir ++ line.name ∷ []) (record { kind = line.kind; mode = line.mode; target = line.target })))
entry-read number dir mark line widths low high lawful is short =
    let read = grammar-read mark (as_shown line) (line_text_of mark line widths) (line-written mark line widths low high lawful) in
    let alike = subst (λ r. IsReadAs number dir (line_text_of mark line widths) r (entry_of number dir (line_text_of mark line widths))) read (entries_alike number dir (line_text_of mark line widths)) in
    subst (λ r. IsEntryOf number (line_text_of mark line widths) (as_shown line) r (entry_of number dir (line_text_of mark line widths))) (resolved-name dir line.name is short) alike

-- the total
pub total-read : (n : ℕ) → n ≤ 400_000 → is_total (total_text_of n) ≡ true
unfolding is_total total_text_of
total-read n few =
    let low : n < 2 ^ 64 = omega arith in
    let digits : length (decimal n) ≤ 6 = length-decimal-le 6 n (omega arith) (omega arith) low in
    rw (le-leb 1 (length (decimal n)) (decimal_nonempty n low), le-leb (length (decimal n)) 18 (omega arith), decimal-all n low) refl

-- the header
last : ℕ → List ℕ → ℕ
last d [] = d
last d (x ∷ xs) = last x xs

last-push : (d : ℕ) (xs : List ℕ) (x : ℕ) → last d (xs ++ x ∷ []) ≡ x
unfolding last
last-push d [] x = refl
last-push d (y ∷ xs) x = last-push y xs x

not-hidden : (z : List ℕ) → bytes_eq (z ++ codes ":") (codes ": ...") ≡ false
unfolding last
not-hidden z = false_from_ne_true (bytes_eq (z ++ codes ":") (codes ": ...")) (λ same.
    let e : z ++ codes ":" ≡ codes ": ..." = (bytes_eq-Decides (z ++ codes ":") (codes ": ...")).0 same in
    let ends : 58 ≡ 46 = sym (last-push 0 z 58) ∙ ap (last 0) e in
    absurd (omega (arith, ends)))

shown-whole : (x : List ℕ) → before (codes ": ...") (x ++ codes ":") ≡ None
shown-whole x =
    let count : length (x ++ codes ":") ≡ length x + 1 = length-append x (codes ":") in
    let split : drop (length (x ++ codes ":") - 5) (x ++ codes ":") ≡ drop (length (x ++ codes ":") - 5) x ++ codes ":" = drop-append-le (length (x ++ codes ":") - 5) x (codes ":") (omega (arith, count)) in
    let test : bytes_eq (drop (length (x ++ codes ":") - 5) (x ++ codes ":")) (codes ": ...") ≡ false =
    ap (λ t. bytes_eq t (codes ": ...")) split ∙ not-hidden (drop (length (x ++ codes ":") - 5) x) in
    rw test refl

path-shown : (x : List ℕ) → before (codes ":") (x ++ codes ":") ≡ Some x
path-shown x =
    let count : length (x ++ codes ":") ≡ length x + 1 = length-append x (codes ":") in
    let at : length (x ++ codes ":") - 1 ≡ length x = omega (arith, count) in
    rw (at, drop-append_seam x (codes ":"), take-append_seam x (codes ":")) refl

header-in : (dir : Names) → header_in (header_text_of dir) ≡ Some (false, dir_text dir)
unfolding header_in header_text_of
header-in dir = rw (shown-whole (dir_text dir), path-shown (dir_text dir)) refl

dot-utf8 : IsUtf8 (codes ".")
unfolding lib.Utf8.encode
dot-utf8 = (46 ∷ [], (refl, refl))

slash-utf8 : IsUtf8 (slash ∷ [])
unfolding lib.Utf8.encode
slash-utf8 = (47 ∷ [], (refl, refl))

slashed-utf8 : (p : Names) → All (λ n. (is_name n ≡ true) × IsUtf8 n) p → IsUtf8 (slashed p)
slashed-utf8 [] are = IsUtf8-nil
slashed-utf8 (n ∷ p) are =
    let is = All-head (λ n. (is_name n ≡ true) × IsUtf8 n) n p are in
    IsUtf8-append (slash ∷ []) (n ++ slashed p) slash-utf8
    (IsUtf8-append n (slashed p) is.1 (slashed-utf8 p (All-tail (λ n. (is_name n ≡ true) × IsUtf8 n) n p are)))

slashed-whole : (p : Names) → All (λ n. (is_name n ≡ true) × IsUtf8 n) p → All (λ b. b ≢ 0) (slashed p)
slashed-whole [] are = λ k d l. absurd (omega (arith, l))
slashed-whole (n ∷ p) are =
    let is = All-head (λ n. (is_name n ≡ true) × IsUtf8 n) n p are in
    All-append (λ b. b ≢ 0) (slash ∷ n) (slashed p)
    (All-append (λ b. b ≢ 0) (slash ∷ []) n (no-zero (slash ∷ []) refl) (no-nul n (name-parts n is.0).2))
    (slashed-whole p (All-tail (λ n. (is_name n ≡ true) × IsUtf8 n) n p are))

dir-named : (dir : Names) → All (λ n. (is_name n ≡ true) × IsUtf8 n) dir → path_bytes dir ≤ max_path_bytes → dir_named (dir_text dir) ≡ Some dir
unfolding dir_named dir_text
dir-named [] are short =
    let read : name_of (codes ".") ≡ Some (codes ".") = name-back false (codes ".") dot-utf8 (no-zero (codes ".") refl) (omega arith) in
    rw read refl
dir-named (n ∷ p) are short =
    let is = All-head (λ n. (is_name n ≡ true) × IsUtf8 n) n p are in
    let later = All-tail (λ n. (is_name n ≡ true) × IsUtf8 n) n p are in
    let parts = name-parts n is.0 in
    let read : name_of (escaped false (joined (n ∷ p))) ≡ Some (joined (n ∷ p)) = name-back false (joined (n ∷ p))
    (IsUtf8-append n (slashed p) is.1 (slashed-utf8 p later))
    (All-append (λ b. b ≢ 0) n (slashed p) (no-nul n parts.2) (slashed-whole p later))
    (omega (arith, length-append n (slashed p), parts.0)) in
    let found : resolved [] (joined (n ∷ p)) ≡ Ok (n ∷ p) = resolved-path (n ∷ p) (λ e. let no : suc (length p) ≡ 0 = ap length e in absurd (omega (arith, no))) (λ k d l. (are k d l).0) short in
    rw (read, found) refl

pub header-read : (number : ℕ) (dir : Names) → All (λ n. (is_name n ≡ true) × IsUtf8 n) dir → path_bytes dir ≤ max_path_bytes
    → header_of number (header_text_of dir) ≡ Ok (Header (header_text_of dir) dir, due.Total dir)
unfolding header_of
header-read number dir are short = rw (header-in dir, dir-named dir are short) refl
