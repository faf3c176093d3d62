-- Headers and totals, as they are read and as they are written.
use Rattle.std.proofs.Common.{◌≡◌, ◌≢◌, ◌⊎◌, inl, inr, ℕ, zero, suc, ◌+◌, ◌-◌, ◌≤◌, Bool, true, false, ◌&&◌, not, nat_le, if◌then◌else◌, List, [], ◌∷◌, ◌++◌, length, take, drop, All, refl, sym, ◌∙◌, ap, subst, arith, Option, Some, None, Result, Ok, Err, option_map, codes, IsTrue, append_assoc, length-append, get_or}
use Rattle.std.proofs.Math.Seq.{take-append_seam, drop-append_seam}
use Rattle.std.proofs.lemmas.Bool.{cases_Bool, and_parts, leb-true, le-leb, false_from_ne_true}
use Rattle.std.proofs.lemmas.List.{take-append-drop, drop-append-le}
use Rattle.std.proofs.lemmas.List.Sums.{AllPass-from_list_all, list_all-from_AllPass}
use Rattle.std.proofs.lemmas.Option.{cond_some}
use Rattle.std.proofs.lemmas.Slice.Eq.{bytes_eq-Decides}
use Rattle.std.specs.List.{list_all}
use Rattle.std.specs.Option.{option_and_then}
use Rattle.std.specs.Str.{bytes_eq}
use Rattle.dired_text.specs.Paths.{Names}
use Rattle.dired_text.specs.Resolve.{resolved}
use Rattle.dired_text.specs.declared.resolving.NameError.{NameError}
use Rattle.dired_text.specs.declared.resolving.NameError.TheVariants.{Empty, Absolute, AboveRoot, TooLong, Nul, Root, Memory}
use Rattle.listing_text.specs.Fields.{name_of}
use Rattle.listing_text.specs.Numbers.{is_digit}
use Rattle.listing_text.specs.Reading.{◌>>=◌}
use Rattle.wdired_buffer.specs.declared.due.Due.{Due}
use Rattle.wdired_buffer.specs.declared.due.Due.TheVariants as due
use Rattle.wdired_buffer.specs.declared.faults.BufferCause.{BufferCause}
use Rattle.wdired_buffer.specs.declared.faults.BufferCause.TheVariants as cause
use Rattle.wdired_buffer.specs.declared.faults.BufferFault.{BufferFault}
use Rattle.wdired_buffer.specs.declared.faults.EditsFault.{EditsFault}
use Rattle.wdired_buffer.specs.declared.line.BufferLine.{BufferLine}
use Rattle.wdired_buffer.specs.declared.line.BufferLine.TheVariants.{Header}
use Rattle.wdired_buffer.specs.Headers.{behind, before, header_in, dir_named, if_directory, first_of, is_total, is_number}
use Rattle.wdired_buffer.specs.Buffer.{or_bad, header_of}
use Rattle.buffer_laws.specs.Buffers.{NamesDir, IsTotal}

-- ---- answers, step by step

abbrev pub read_ok : {A : Type 0} → A → Result A BufferFault
read_ok a = Ok a

abbrev pub line_ok : BufferLine → Due → Result (BufferLine × Due) BufferFault
line_ok line next = Ok (line, next)

pub pair_ok : (a c : BufferLine) (b d : Due) → line_ok a b ≡ line_ok c d → (a ≡ c) × (b ≡ d)
pair_ok a c b d e = let pair : (a, b) ≡ (c, d) = cc in (ap (λ (p : BufferLine × Due). p.0) pair, ap (λ (p : BufferLine × Due). p.1) pair)

abbrev pub edits_ok : {A : Type 0} → A → Result A EditsFault
edits_ok a = Ok a

pub bind_ok : {A B E : Type 0} (r : Result A E) (f : A → Result B E) (b : B) → (r >>= f) ≡ Ok b → (a : A) × (r ≡ Ok a) × (f a ≡ Ok b)
bind_ok (Ok a) f b e = (a, refl, e)
bind_ok (Err x) f b e = cc

pub some_ok : {A : Type 0} (number : ℕ) (c : BufferCause) (o : Option A) (a : A) → or_bad number c o ≡ Ok a → o ≡ Some a
some_ok number c (Some b) a e = cc
some_ok number c None a e = cc

pub bind_some : {A B : Type 0} (o : Option A) (f : A → Option B) (b : B) → option_and_then f o ≡ Some b → (a : A) × (o ≡ Some a) × (f a ≡ Some b)
bind_some (Some a) f b e = (a, refl, e)
bind_some None f b e = cc

pub same_bytes : (xs ys : List ℕ) → bytes_eq xs ys ≡ true → xs ≡ ys
same_bytes xs ys is = (bytes_eq-Decides xs ys).0 is

pub own_bytes : (xs : List ℕ) → bytes_eq xs xs ≡ true
own_bytes xs = (bytes_eq-Decides xs xs).1 refl

-- ---- the front of a text and its end

behind_is : (front rest : List ℕ) → behind front (front ++ rest) ≡ Some rest
behind_is front rest = rw (take-append_seam front rest, own_bytes front, drop-append_seam front rest) refl

behind_from : (front text rest : List ℕ) → behind front text ≡ Some rest → text ≡ front ++ rest
behind_from front text rest e =
    let found = cond_some (bytes_eq (take (length front) text) front) (drop (length front) text) rest e in
    sym (take-append-drop (length front) text) ∙ ap (λ (t : List ℕ). t ++ drop (length front) text) (same_bytes (take (length front) text) front found.0) ∙ ap (λ (t : List ℕ). front ++ t) found.1

before_is : (end front : List ℕ) → before end (front ++ end) ≡ Some front
before_is end front =
    let count : length (front ++ end) ≡ length front + length end = length-append front end in
    let at : length (front ++ end) - length end ≡ length front = omega (arith, count) in
    rw (at, drop-append_seam front end, own_bytes end, take-append_seam front end) refl

before_from : (end text front : List ℕ) → before end text ≡ Some front → text ≡ front ++ end
before_from end text front e =
    let place = length text - length end in
    let found = cond_some (bytes_eq (drop place text) end) (take place text) front e in
    sym (take-append-drop place text) ∙ ap (λ (t : List ℕ). t ++ drop place text) found.1 ∙ ap (λ (t : List ℕ). front ++ t) (same_bytes (drop place text) end found.0)

-- ---- headers

-- how a header ends that hides its section, and one that doesn't
abbrev pub end_of : Bool → List ℕ
end_of true = codes ": ..."
end_of false = codes ":"

last : ℕ → List ℕ → ℕ
last d [] = d
last d (x ∷ xs) = last x xs

last-push : (d : ℕ) (xs : List ℕ) (x : ℕ) → last d (xs ++ x ∷ []) ≡ x
unfolding last
last-push d [] x = refl
last-push d (y ∷ xs) x = last-push y xs x

not-hidden : (z : List ℕ) → bytes_eq (z ++ codes ":") (codes ": ...") ≡ false
unfolding last
not-hidden z = false_from_ne_true (bytes_eq (z ++ codes ":") (codes ": ...")) (λ same.
    let e : z ++ codes ":" ≡ codes ": ..." = same_bytes (z ++ codes ":") (codes ": ...") same in
    let ends : 58 ≡ 46 = sym (last-push 0 z 58) ∙ ap (last 0) e in
    absurd (omega (arith, ends)))

shown-whole : (x : List ℕ) → before (codes ": ...") (x ++ codes ":") ≡ None
shown-whole x =
    let count : length (x ++ codes ":") ≡ length x + 1 = length-append x (codes ":") in
    let split : drop (length (x ++ codes ":") - 5) (x ++ codes ":") ≡ drop (length (x ++ codes ":") - 5) x ++ codes ":" = drop-append-le (length (x ++ codes ":") - 5) x (codes ":") (omega (arith, count)) in
    let test : bytes_eq (drop (length (x ++ codes ":") - 5) (x ++ codes ":")) (codes ": ...") ≡ false =
    ap (λ t. bytes_eq t (codes ": ...")) split ∙ not-hidden (drop (length (x ++ codes ":") - 5) x) in
    rw test refl

-- the first of two paths that is there, with what it says of the header
abbrev picked : Option (List ℕ) → Option (List ℕ) → Option (Bool × List ℕ)
picked a b = first_of (option_map (λ path. (true, path)) a) (option_map (λ path. (false, path)) b)

abbrev either : List ℕ → Option (Bool × List ℕ)
either rest = picked (before (codes ": ...") rest) (before (codes ":") rest)

either_is : (hidden : Bool) (path : List ℕ) → either (path ++ end_of hidden) ≡ Some (hidden, path)
either_is true path = ap (λ (o : Option (List ℕ)). picked o (before (codes ":") (path ++ codes ": ..."))) (before_is (codes ": ...") path)
either_is false path =
    ap (λ (o : Option (List ℕ)). picked o (before (codes ":") (path ++ codes ":"))) (shown-whole path) ∙ ap (picked None) (before_is (codes ":") path)

either_from : (rest : List ℕ) (hidden : Bool) (path : List ℕ) → either rest ≡ Some (hidden, path) → rest ≡ path ++ end_of hidden
either_from rest hidden path e = by_ends (before (codes ": ...") rest) (before (codes ":") rest) refl refl e
  where
    by_ends : (a b : Option (List ℕ)) → before (codes ": ...") rest ≡ a → before (codes ":") rest ≡ b
        → picked a b ≡ Some (hidden, path) → rest ≡ path ++ end_of hidden
    by_ends (Some x) b a_is b_is same =
        let pair : (true, x) ≡ (hidden, path) = cc in
        let h : true ≡ hidden = ap (λ (t : Bool × List ℕ). t.0) pair in
        let p : x ≡ path = ap (λ (t : Bool × List ℕ). t.1) pair in
        before_from (codes ": ...") rest x a_is ∙ ap (λ (t : List ℕ). t ++ codes ": ...") p ∙ ap (λ (t : Bool). path ++ end_of t) h
    by_ends None (Some x) a_is b_is same =
        let pair : (false, x) ≡ (hidden, path) = cc in
        let h : false ≡ hidden = ap (λ (t : Bool × List ℕ). t.0) pair in
        let p : x ≡ path = ap (λ (t : Bool × List ℕ). t.1) pair in
        before_from (codes ":") rest x b_is ∙ ap (λ (t : List ℕ). t ++ codes ":") p ∙ ap (λ (t : Bool). path ++ end_of t) h
    by_ends None None a_is b_is same = cc

header_in-is : (hidden : Bool) (path : List ℕ) → header_in (codes "  " ++ path ++ end_of hidden) ≡ Some (hidden, path)
unfolding header_in
header_in-is hidden path = either_is hidden path

header_in-from : (text : List ℕ) (hidden : Bool) (path : List ℕ) → header_in text ≡ Some (hidden, path) → text ≡ codes "  " ++ path ++ end_of hidden
unfolding header_in
header_in-from text hidden path e =
    let b = bind_some (behind (codes "  ") text) either (hidden, path) e in
    behind_from (codes "  ") text b.0 b.1 ∙ ap (λ (t : List ℕ). codes "  " ++ t) (either_from b.0 hidden path b.2)

-- ---- directories

directory_from : (r : Result Names NameError) (dir : Names) → if_directory r ≡ Some dir → (r ≡ Ok dir) ⊎ ((r ≡ Err Root) × (dir ≡ []))
directory_from (Ok path) dir e = let same : path ≡ dir = cc in inl (ap Ok same)
directory_from (Err Root) dir e = let same : [] ≡ dir = cc in inr (refl, sym same)
directory_from (Err Empty) dir e = cc
directory_from (Err Absolute) dir e = cc
directory_from (Err AboveRoot) dir e = cc
directory_from (Err (TooLong k)) dir e = cc
directory_from (Err (Nul k)) dir e = cc
directory_from (Err Memory) dir e = cc

directory_is : (r : Result Names NameError) (dir : Names) → (r ≡ Ok dir) ⊎ ((r ≡ Err Root) × (dir ≡ [])) → if_directory r ≡ Some dir
directory_is r dir (inl is) = ap if_directory is
directory_is r dir (inr root) = ap if_directory root.0 ∙ ap Some (sym root.1)

dir-from : (shown : List ℕ) (dir : Names) → dir_named shown ≡ Some dir → NamesDir shown dir
unfolding dir_named
dir-from shown dir e =
    let b = bind_some (name_of shown) (λ path. if_directory (resolved [] path)) dir e in
    (b.0, b.1, directory_from (resolved [] b.0) dir b.2)

dir-is : (shown : List ℕ) (dir : Names) → NamesDir shown dir → dir_named shown ≡ Some dir
unfolding dir_named
dir-is shown dir h = ap (λ (o : Option (List ℕ)). option_and_then (λ path. if_directory (resolved [] path)) o) h.1 ∙ directory_is (resolved [] h.0) dir h.2

-- ---- the line of a header

-- what is due behind a header
abbrev pub due_behind : Bool → Names → Due
due_behind true dir = due.Gap
due_behind false dir = due.Total dir

-- a header that was read, which hides its section or doesn't
pub record IsHeaderText (hidden : Bool) (dir : Names) (text : List ℕ) : Type 0 where
  pub shown : List ℕ
  pub is : text ≡ codes "  " ++ shown ++ end_of hidden
  pub names : NamesDir shown dir

behind_same : (hidden : Bool) (dir : Names) → (if hidden then due.Gap else due.Total dir) ≡ due_behind hidden dir
behind_same true dir = refl
behind_same false dir = refl

pub header-is : (number : ℕ) (hidden : Bool) (dir : Names) (text : List ℕ) → IsHeaderText hidden dir text → header_of number text ≡ Ok (Header text dir, due_behind hidden dir)
unfolding header_of
header-is number hidden dir text h =
    let found : header_in text ≡ Some (hidden, h.shown) = ap header_in h.is ∙ header_in-is hidden h.shown in
    rw (found, dir-is h.shown dir h.names, behind_same hidden dir) refl

pub record HeaderRead (text : List ℕ) (line : BufferLine) (next : Due) : Type 0 where
  pub hidden : Bool
  pub dir : Names
  pub form : IsHeaderText hidden dir text
  pub line_is : line ≡ Header text dir
  pub next_is : next ≡ due_behind hidden dir

pub header-from : (number : ℕ) (text : List ℕ) (line : BufferLine) (next : Due) → header_of number text ≡ Ok (line, next) → HeaderRead text line next
unfolding header_of
header-from number text line next e =
    let b = bind_ok (or_bad number cause.Header (header_in text)) (λ header. or_bad number cause.Header (dir_named header.1) >>= λ dir. Ok (Header text dir, if header.0 then due.Gap else due.Total dir)) (line, next) e in
    let c = bind_ok (or_bad number cause.Header (dir_named b.0.1)) (λ dir. Ok (Header text dir, if b.0.0 then due.Gap else due.Total dir)) (line, next) b.2 in
    let header : header_in text ≡ Some (b.0.0, b.0.1) = some_ok number cause.Header (header_in text) b.0 b.1 in
    let dir : dir_named b.0.1 ≡ Some c.0 = some_ok number cause.Header (dir_named b.0.1) c.0 c.1 in
    let parts = pair_ok (Header text c.0) line (if b.0.0 then due.Gap else due.Total c.0) next c.2 in
    record {
      hidden = b.0.0;
      dir = c.0;
      form = record { shown = b.0.1; is = header_in-from text b.0.0 b.0.1 header; names = dir-from b.0.1 c.0 dir };
      line_is = sym parts.0;
      next_is = sym parts.1 ∙ behind_same b.0.0 c.0;
    }

-- ---- totals

pub total-is : (text : List ℕ) → IsTotal text → is_total text ≡ true
unfolding is_total
total-is text h =
    ap (λ t. is_number (behind (codes "  total ") t)) h.1 ∙ ap is_number (behind_is (codes "  total ") h.0)
    ∙ rw (le-leb 1 (length h.0) h.2, le-leb (length h.0) 18 h.3, list_all-from_AllPass is_digit h.0 h.4) refl

pub total-from : (text : List ℕ) → is_total text ≡ true → IsTotal text
unfolding is_total
total-from text e = by_front (behind (codes "  total ") text) refl e
  where
    by_front : (o : Option (List ℕ)) → behind (codes "  total ") text ≡ o → is_number o ≡ true → IsTotal text
    by_front None is number = cc
    by_front (Some digits) is number =
        let outer = and_parts (nat_le 1 (length digits) && nat_le (length digits) 18) (list_all is_digit digits) number in
        let inner = and_parts (nat_le 1 (length digits)) (nat_le (length digits) 18) outer.0 in
        (digits, behind_from (codes "  total ") text digits is, leb-true 1 (length digits) inner.0, leb-true (length digits) 18 inner.1, AllPass-from_list_all is_digit digits outer.1)
