-- What an edited buffer asks for, line by line.
use Rattle.std.proofs.Common.{◌≡◌, ◌≢◌, ◌⊎◌, inl, inr, ℕ, zero, suc, ◌+◌, ◌==◌, Bool, true, false, ◌||◌, List, [], ◌∷◌, ◌++◌, length, map, flat_map, All, refl, sym, ◌∙◌, ap, subst, arith, Option, Some, None, option_to_list, Result, Ok, Err, if◌then◌else◌, length-append, eq-eqb, eqb-true, codes}
use Rattle.std.proofs.lemmas.Bool.{cases_Bool}
use Rattle.std.proofs.lemmas.List.Elements.{recursion_from_All, All-from_recursion}
use Rattle.std.specs.List.{AllByRecursion, AllZip, filter_map, list_any}
use Rattle.std.specs.Str.{bytes_eq}
use Rattle.dired_text.specs.Paths.{Names}
use Rattle.tree_core.specs.declared.edit.Edit.{Edit}
use Rattle.listing_text.specs.Reading.{◌>>=◌}
use Rattle.wdired_buffer.specs.declared.due.Due.{Due}
use Rattle.wdired_buffer.specs.declared.due.Due.TheVariants as due
use Rattle.wdired_buffer.specs.declared.faults.BufferFault.{BufferFault}
use Rattle.wdired_buffer.specs.declared.faults.EditsFault.{EditsFault}
use Rattle.wdired_buffer.specs.declared.line.BufferLine.{BufferLine}
use Rattle.wdired_buffer.specs.declared.line.BufferLine.TheVariants.{Fixed, Header, Entry}
use Rattle.wdired_buffer.specs.declared.typed.Asked.{Asked}
use Rattle.wdired_buffer.specs.Buffer.{buffer_of, lines_from, line_of, end_of, entry_of}
use Rattle.wdired_buffer.specs.Headers.{is_total}
use Rattle.wdired_buffer.specs.Lines.{lines}
use Rattle.wdired_buffer.specs.Edits.{Asks, asks_once, in_front_of, once, asks_behind, line_asks, section, shows, is_twice, same_path, edits_of}
use Rattle.wdired_buffer.proofs.EditLemmas.{section-push, shows-push}
use Rattle.buffer_laws.specs.Buffers.{row_line}
use Rattle.buffer_laws.specs.Differences.{Place, places, dir_behind, path_of, AreApart, After, IsAfterLine, IsAfter, AreDifferences}
use Rattle.buffer_laws.proofs.HeaderLemmas.{bind_ok, line_ok, pair_ok, due_behind, header-from}
use Rattle.buffer_laws.proofs.RowLemmas.{row-from}
use Rattle.buffer_laws.proofs.ReadingLemmas.{lines-read, whole-read, end_empty}
use Rattle.buffer_laws.proofs.ChangeLemmas.{path_decides}
use Rattle.buffer_laws.proofs.LineLemmas.{IsReadLine, after_of, asked_by, after-from, after-is}

-- ---- the lines of a buffer were read in their places

abbrev IsReadPlace : Place → Type 0
IsReadPlace place = IsReadLine place.number place.dir place.line

-- where a file's line may stand, it is in this directory
abbrev Fits : Due → Names → Type 0
Fits due.First dir = Unit {0}
Fits due.Header dir = Unit {0}
Fits (due.Total own) dir = own ≡ dir
Fits (due.Rows own) dir = own ≡ dir
Fits due.Gap dir = Unit {0}

record InPlace (n : ℕ) (dir : Names) (line : BufferLine) (next : Due) : Type 0 where
  read : IsReadLine n dir line
  fits : Fits next (dir_behind dir line)

fixed_place : (n : ℕ) (dir : Names) (text : List ℕ) (d next : Due) (line : BufferLine) → line_ok (Fixed text) d ≡ line_ok line next → Fits d dir → InPlace n dir line next
fixed_place n dir text d next line e fits =
    let parts = pair_ok (Fixed text) line d next e in
    subst (λ (l : BufferLine). InPlace n dir l next) parts.0 (subst (λ (x : Due). InPlace n dir (Fixed text) x) parts.1 (record { read = tt; fits = fits }))

fits_behind : (hidden : Bool) (dir : Names) → Fits (due_behind hidden dir) dir
fits_behind true dir = tt
fits_behind false dir = refl

header_place : (n : ℕ) (dir : Names) (text : List ℕ) (hidden : Bool) (own : Names) (line : BufferLine) (next : Due) → line ≡ Header text own → next ≡ due_behind hidden own → InPlace n dir line next
header_place n dir text hidden own line next line_is next_is =
    subst (λ (l : BufferLine). InPlace n dir l next) (sym line_is) (subst (λ (x : Due). InPlace n dir (Header text own) x) (sym next_is) (record { read = tt; fits = fits_behind hidden own }))

row_place : (n : ℕ) (own dir : Names) (text : List ℕ) (line : BufferLine) → own ≡ dir → entry_of n own text ≡ Ok line → InPlace n dir line (due.Rows own)
row_place n own dir text line same read =
    let h = row-from n own text line read in
    let row : entry_of n dir h.row.text ≡ Ok (row_line h.row) =
    ap (λ (d : Names). entry_of n d h.row.text) (sym same) ∙ ap (entry_of n own) h.text_is ∙ read ∙ ap Ok h.line_is in
    subst (λ (l : BufferLine). InPlace n dir l (due.Rows own)) (sym h.line_is) (record { read = row; fits = same })

total_place : (n : ℕ) (dir own : Names) (text : List ℕ) (line : BufferLine) (next : Due) → own ≡ dir → line_of n (due.Total own) text ≡ Ok (line, next) → InPlace n dir line next
unfolding line_of
total_place n dir own text line next same e = elim (cases_Bool (is_total text)) [
  | inl total ↦ fixed_place n dir text (due.Rows own) next line (rw total at e) same
  | inr other ↦ let none = rw other at e in cc
]

first_place : (n : ℕ) (dir : Names) (text : List ℕ) (line : BufferLine) (next : Due) → line_of n due.First text ≡ Ok (line, next) → InPlace n dir line next
unfolding line_of
first_place n dir text line next e = elim (cases_Bool (bytes_eq text (codes "dired 1"))) [
  | inl same ↦ fixed_place n dir text due.Header next line (rw same at e) tt
  | inr other ↦ let none = rw other at e in cc
]

in_place : (n : ℕ) (d : Due) (dir : Names) (text : List ℕ) (line : BufferLine) (next : Due) → Fits d dir → line_of n d text ≡ Ok (line, next) → InPlace n dir line next
unfolding line_of
in_place n due.First dir text line next fits e = first_place n dir text line next e
in_place n due.Header dir text line next fits e =
    let h = header-from n text line next e in header_place n dir text h.hidden h.dir line next h.line_is h.next_is
in_place n (due.Total own) dir text line next fits e = total_place n dir own text line next fits e
in_place n (due.Rows own) dir [] line next fits e = fixed_place n dir [] due.Header next line e tt
in_place n (due.Rows own) dir (b ∷ bs) line next fits e =
    let s = bind_ok (entry_of n own (b ∷ bs)) (λ entry. line_ok entry (due.Rows own)) (line, next) e in
    let parts = pair_ok s.0 line (due.Rows own) next s.2 in
    subst (λ (x : Due). InPlace n dir line x) parts.1 (row_place n own dir (b ∷ bs) line fits (s.1 ∙ ap Ok parts.0))
in_place n due.Gap dir [] line next fits e = fixed_place n dir [] due.Header next line e tt
in_place n due.Gap dir (b ∷ bs) line next fits e = cc

places_read : (n : ℕ) (d : Due) (dir : Names) (texts : List (List ℕ)) (read : List BufferLine) → Fits d dir → lines_from n d texts ≡ Ok read → AllByRecursion IsReadPlace (places n dir read)
places_read n d dir [] read fits e = subst (λ (r : List BufferLine). AllByRecursion IsReadPlace (places n dir r)) (sym (end_empty n d read e)) tt
places_read n d dir (text ∷ texts) read fits e =
    let h = lines-read n d text texts read e in
    let p = in_place n d dir text h.line h.next fits h.line_is in
    subst (λ (r : List BufferLine). AllByRecursion IsReadPlace (places n dir r)) (sym h.is) (p.read, places_read (n + 1) h.next (dir_behind dir h.line) texts h.tail p.fits h.tail_is)

-- ---- no path twice

-- the paths of lines
abbrev paths_of : List BufferLine → List Names
paths_of before = filter_map path_of before

-- none of the lines shows a path of an earlier one
abbrev Fresh : List BufferLine → List BufferLine → Type 0
Fresh earlier [] = Unit {0}
Fresh earlier (line ∷ later) = (is_twice earlier line ≡ false) × Fresh (earlier ++ line ∷ []) later

abbrev Absent : List BufferLine → Names → Type 0
Absent earlier p = list_any (shows p) earlier ≡ false

or_false : (a b : Bool) → (a || b) ≡ false → (a ≡ false) × (b ≡ false)
or_false true b e = cc
or_false false b e = (refl, e)

both_false : (a b : Bool) → a ≡ false → b ≡ false → (a || b) ≡ false
both_false a b is also = rw (is, also) refl

absent_before : (earlier : List BufferLine) (line : BufferLine) (ps : List Names) → AllByRecursion (Absent (earlier ++ line ∷ [])) ps → AllByRecursion (Absent earlier) ps
absent_before earlier line [] all = tt
absent_before earlier line (p ∷ ps) all =
    ((or_false (list_any (shows p) earlier) (shows p line) (sym (shows-push p earlier line) ∙ all.0)).0, absent_before earlier line ps all.1)

other_path : (p q : Names) → same_path p q ≡ false → p ≢ q
other_path p q other e = let is : same_path p q ≡ true = (path_decides p q).1 e in let no : true ≡ false = sym is ∙ other in cc

path_other : (p q : Names) → p ≢ q → same_path p q ≡ false
path_other p q other = elim (cases_Bool (same_path p q)) [
  | inl is ↦ absurd (other ((path_decides p q).0 is))
  | inr different ↦ different
]

-- the line of an entry shows its path alone
others_from : (earlier : List BufferLine) (line : BufferLine) (source : Names) (ps : List Names) → ((p : Names) → shows p line ≡ same_path p source) → AllByRecursion (Absent (earlier ++ line ∷ [])) ps → AllByRecursion (λ q. q ≢ source) ps
others_from earlier line source [] shown all = tt
others_from earlier line source (p ∷ ps) shown all =
    let other = (or_false (list_any (shows p) earlier) (shows p line) (sym (shows-push p earlier line) ∙ all.0)).1 in
    (other_path p source (sym (shown p) ∙ other), others_from earlier line source ps shown all.1)

absent_behind : (earlier : List BufferLine) (line : BufferLine) (ps : List Names) → AllByRecursion (λ p. shows p line ≡ false) ps → AllByRecursion (Absent earlier) ps → AllByRecursion (Absent (earlier ++ line ∷ [])) ps
absent_behind earlier line [] others all = tt
absent_behind earlier line (p ∷ ps) others all =
    (shows-push p earlier line ∙ both_false (list_any (shows p) earlier) (shows p line) all.0 others.0, absent_behind earlier line ps others.1 all.1)

unshown : (line : BufferLine) (ps : List Names) → ((p : Names) → shows p line ≡ false) → AllByRecursion (λ p. shows p line ≡ false) ps
unshown line [] none = tt
unshown line (p ∷ ps) none = (none p, unshown line ps none)

others_unshown : (line : BufferLine) (source : Names) (ps : List Names) → ((p : Names) → shows p line ≡ same_path p source) → AllByRecursion (λ q. q ≢ source) ps → AllByRecursion (λ p. shows p line ≡ false) ps
others_unshown line source [] shown others = tt
others_unshown line source (p ∷ ps) shown others = (shown p ∙ path_other p source others.0, others_unshown line source ps shown others.1)

record Apart (earlier before : List BufferLine) : Type 0 where
  apart : AreApart (paths_of before)
  absent : AllByRecursion (Absent earlier) (paths_of before)

apart_from : (earlier before : List BufferLine) → Fresh earlier before → Apart earlier before
apart_from earlier [] fresh = record { apart = tt; absent = tt }
apart_from earlier (Fixed text ∷ later) fresh =
    let inner = apart_from (earlier ++ Fixed text ∷ []) later fresh.1 in
    record { apart = inner.apart; absent = absent_before earlier (Fixed text) (paths_of later) inner.absent }
apart_from earlier (Header text own ∷ later) fresh =
    let inner = apart_from (earlier ++ Header text own ∷ []) later fresh.1 in
    record { apart = inner.apart; absent = absent_before earlier (Header text own) (paths_of later) inner.absent }
apart_from earlier (Entry text name_at source was ∷ later) fresh =
    let line : BufferLine = Entry text name_at source was in
    let inner = apart_from (earlier ++ line ∷ []) later fresh.1 in
    record {
      apart = (All-from_recursion (λ (q : Names). q ≢ source) (paths_of later) (others_from earlier line source (paths_of later) (λ p. refl) inner.absent), inner.apart);
      absent = (fresh.0, absent_before earlier line (paths_of later) inner.absent);
    }

apart_is : (earlier before : List BufferLine) → AreApart (paths_of before) → AllByRecursion (Absent earlier) (paths_of before) → Fresh earlier before
apart_is earlier [] apart absent = tt
apart_is earlier (Fixed text ∷ later) apart absent =
    (refl, apart_is (earlier ++ Fixed text ∷ []) later apart (absent_behind earlier (Fixed text) (paths_of later) (unshown (Fixed text) (paths_of later) (λ p. refl)) absent))
apart_is earlier (Header text own ∷ later) apart absent =
    (refl, apart_is (earlier ++ Header text own ∷ []) later apart (absent_behind earlier (Header text own) (paths_of later) (unshown (Header text own) (paths_of later) (λ p. refl)) absent))
apart_is earlier (Entry text name_at source was ∷ later) apart absent =
    let line : BufferLine = Entry text name_at source was in
    let others : AllByRecursion (λ (q : Names). q ≢ source) (paths_of later) = recursion_from_All (λ (q : Names). q ≢ source) (paths_of later) apart.0 in
    (absent.0, apart_is (earlier ++ line ∷ []) later apart.1 (absent_behind earlier line (paths_of later) (others_unshown line source (paths_of later) (λ p. refl) others) absent.1))

all_absent : (ps : List Names) → AllByRecursion (Absent []) ps
all_absent [] = tt
all_absent (p ∷ ps) = (refl, all_absent ps)

-- ---- line by line

-- the number and the directory behind these lines
record Behind (earlier : List BufferLine) (number : ℕ) (dir : Names) : Type 0 where
  number_is : length earlier + 1 ≡ number
  dir_is : section [] earlier ≡ dir

section_once : (dir : Names) (line : BufferLine) → section dir (line ∷ []) ≡ dir_behind dir line
section_once dir (Fixed text) = refl
section_once dir (Header text own) = refl
section_once dir (Entry text name_at source was) = refl

behind_more : (earlier : List BufferLine) (number : ℕ) (dir : Names) (line : BufferLine) → Behind earlier number dir → Behind (earlier ++ line ∷ []) (number + 1) (dir_behind dir line)
behind_more earlier number dir line h = record {
  number_is = let l = length-append earlier (line ∷ []) in let n = h.number_is in omega arith;
  dir_is = section-push [] earlier line ∙ ap (λ (d : Names). section d (line ∷ [])) h.dir_is ∙ section_once dir line;
}

abbrev edits_in : List After → List Edit
edits_in ls = flat_map (λ (after : After). option_to_list after.edit) ls

abbrev emptied_in : List After → List Names
emptied_in ls = flat_map (λ (after : After). option_to_list after.emptied) ls

abbrev texts_of : List After → List (List ℕ)
texts_of ls = map (λ (after : After). after.text) ls

record Lined (number : ℕ) (dir : Names) (earlier before : List BufferLine) (texts : List (List ℕ)) (asks : Asks) : Type 0 where
  ls : List After
  texts_are : texts ≡ texts_of ls
  each : AllZip IsAfter (places number dir before) ls
  fresh : Fresh earlier before
  edits : asks.edits ≡ edits_in ls
  emptied : asks.emptied ≡ emptied_in ls

once_ok : (number : ℕ) (twice : Bool) (asked got : Asked) → once number twice asked ≡ Ok got → (twice ≡ false) × (asked ≡ got)
once_ok number true asked got e = cc
once_ok number false asked got e = (refl, cc)

front_of_ok : (first : Asks) (r : Result Asks EditsFault) (asks : Asks) → in_front_of first r ≡ Ok asks → (later : Asks) × (r ≡ Ok later) × (asks.edits ≡ first.edits ++ later.edits) × (asks.emptied ≡ first.emptied ++ later.emptied)
front_of_ok first (Ok later) asks e =
    let whole : Asks = record { edits = first.edits ++ later.edits; emptied = first.emptied ++ later.emptied } in
    let same : whole ≡ asks = cc in
    (later, refl, ap (λ (a : Asks). a.edits) (sym same), ap (λ (a : Asks). a.emptied) (sym same))
front_of_ok first (Err x) asks e = cc

lined_from : (number : ℕ) (dir : Names) (earlier before : List BufferLine) (texts : List (List ℕ)) (asks : Asks) → Behind earlier number dir → length texts ≡ length before
    → AllByRecursion IsReadPlace (places number dir before) → asks_behind earlier before texts ≡ Ok asks → Lined number dir earlier before texts asks
lined_from number dir earlier [] [] asks at long read e =
    let empty : Asks = record { edits = []; emptied = [] } in
    let same : empty ≡ asks = cc in
    record { ls = []; texts_are = refl; each = tt; fresh = tt; edits = ap (λ (a : Asks). a.edits) (sym same); emptied = ap (λ (a : Asks). a.emptied) (sym same) }
lined_from number dir earlier [] (text ∷ texts) asks at long read e = absurd (omega arith)
lined_from number dir earlier (line ∷ later) [] asks at long read e = absurd (omega arith)
lined_from number dir earlier (line ∷ later) (text ∷ texts) asks at long read e =
    let place = length earlier + 1 in
    let b1 = bind_ok (line_asks place (section [] earlier) line text) (λ asked. once place (is_twice earlier line) asked >>= λ asked. in_front_of (asks_once asked) (asks_behind (earlier ++ line ∷ []) later texts)) asks e in
    let b2 = bind_ok (once place (is_twice earlier line) b1.0) (λ asked. in_front_of (asks_once asked) (asks_behind (earlier ++ line ∷ []) later texts)) asks b1.2 in
    let o = once_ok place (is_twice earlier line) b1.0 b2.0 b2.1 in
    let f = front_of_ok (asks_once b2.0) (asks_behind (earlier ++ line ∷ []) later texts) asks b2.2 in
    let asked : line_asks number dir line text ≡ Ok b2.0 =
    ap (λ (n : ℕ). line_asks n dir line text) (sym at.number_is) ∙ ap (λ (d : Names). line_asks place d line text) (sym at.dir_is) ∙ b1.1 ∙ ap Ok o.1 in
    let more : length texts ≡ length later = omega arith in
    let inner = lined_from (number + 1) (dir_behind dir line) (earlier ++ line ∷ []) later texts f.0 (behind_more earlier number dir line at) more read.1 f.1 in
    record {
      ls = after_of text b2.0 ∷ inner.ls;
      texts_are = ap (λ (ts : List (List ℕ)). text ∷ ts) inner.texts_are;
      each = (after-from number dir line text b2.0 read.0 asked, inner.each);
      fresh = (o.0, inner.fresh);
      edits = f.2 ∙ ap (λ (es : List Edit). option_to_list b2.0.edit ++ es) inner.edits;
      emptied = f.3 ∙ ap (λ (es : List Names). option_to_list b2.0.emptied ++ es) inner.emptied;
    }

-- an answer from its parts
made : List Edit → List Names → Asks
made edits emptied = record { edits = edits; emptied = emptied }

made_is : (a : Asks) → made a.edits a.emptied ≡ a
unfolding made
made_is a = refl

lined_is : (number : ℕ) (dir : Names) (earlier before : List BufferLine) (ls : List After) → Behind earlier number dir → AllByRecursion IsReadPlace (places number dir before)
    → AllZip IsAfter (places number dir before) ls → Fresh earlier before → asks_behind earlier before (texts_of ls) ≡ Ok (made (edits_in ls) (emptied_in ls))
unfolding made
lined_is number dir earlier [] [] at read each fresh = refl
lined_is number dir earlier [] (after ∷ ls) at read each fresh = absurd each
lined_is number dir earlier (line ∷ later) [] at read each fresh = absurd each
lined_is number dir earlier (line ∷ later) (after ∷ ls) at read each fresh =
    let place = length earlier + 1 in
    let asked : line_asks place (section [] earlier) line after.text ≡ Ok (asked_by after) =
    ap (λ (n : ℕ). line_asks n (section [] earlier) line after.text) at.number_is ∙ ap (λ (d : Names). line_asks number d line after.text) at.dir_is
    ∙ after-is number dir line after read.0 each.0 in
    let inner = lined_is (number + 1) (dir_behind dir line) (earlier ++ line ∷ []) later ls (behind_more earlier number dir line at) read.1 each.1 fresh.1 in
    let once_is : once place (is_twice earlier line) (asked_by after) ≡ Ok (asked_by after) = (let f = fresh.0 in rw f refl) in
    ap (λ (r : Result Asked EditsFault). r >>= λ asked. once place (is_twice earlier line) asked >>= λ asked. in_front_of (asks_once asked) (asks_behind (earlier ++ line ∷ []) later (texts_of ls))) asked
    ∙ ap (λ (r : Result Asked EditsFault). r >>= λ asked. in_front_of (asks_once asked) (asks_behind (earlier ++ line ∷ []) later (texts_of ls))) once_is
    ∙ ap (in_front_of (asks_once (asked_by after))) inner

-- ---- two buffers

at_first : Behind [] 1 []
at_first = record { number_is = refl; dir_is = refl }

texts_length : (ls : List After) → length (texts_of ls) ≡ length ls
texts_length [] = refl
texts_length (after ∷ ls) = ap suc (texts_length ls)

zip_length : (number : ℕ) (dir : Names) (before : List BufferLine) (ls : List After) → AllZip IsAfter (places number dir before) ls → length ls ≡ length before
zip_length number dir [] [] each = refl
zip_length number dir [] (after ∷ ls) each = absurd each
zip_length number dir (line ∷ later) [] each = absurd each
zip_length number dir (line ∷ later) (after ∷ ls) each = ap suc (zip_length (number + 1) (dir_behind dir line) later ls each.1)

pub edits-differ : (old new : List ℕ) (before : List BufferLine) (asks : Asks) → buffer_of old ≡ Ok before → edits_of before new ≡ Ok asks → AreDifferences before (lines new) asks
edits-differ old new before asks read e = elim (cases_Bool (length (lines new) == length before)) [
  | inl same ↦
      let all = places_read 1 due.First [] (lines old) before tt (whole-read old before read).is in
      let h = lined_from 1 [] [] before (lines new) asks at_first (eqb-true (length (lines new)) (length before) same) all (rw same at e) in
      record { lines = h.ls; are = h.texts_are; each = h.each; apart = (apart_from [] before h.fresh).apart; edits = h.edits; emptied = h.emptied }
  | inr other ↦ let none = rw other at e in cc
]

asks_if : (before : List BufferLine) (new : List ℕ) (asks : Asks) → length (lines new) ≡ length before → asks_behind [] before (lines new) ≡ Ok asks → edits_of before new ≡ Ok asks
asks_if before new asks long e = rw (eq-eqb (length (lines new)) (length before) long) e

pub differences-taken : (old new : List ℕ) (before : List BufferLine) (asks : Asks) → buffer_of old ≡ Ok before → AreDifferences before (lines new) asks → edits_of before new ≡ Ok asks
unfolding made
differences-taken old new before asks read h =
    let all = places_read 1 due.First [] (lines old) before tt (whole-read old before read).is in
    let long : length (lines new) ≡ length before = ap length h.are ∙ texts_length h.lines ∙ zip_length 1 [] before h.lines h.each in
    let parts : made (edits_in h.lines) (emptied_in h.lines) ≡ made asks.edits asks.emptied =
    ap (λ (es : List Edit). made es (emptied_in h.lines)) (sym h.edits) ∙ ap (λ (ns : List Names). made asks.edits ns) (sym h.emptied) in
    let taken : asks_behind [] before (lines new) ≡ Ok asks =
    ap (asks_behind [] before) h.are ∙ lined_is 1 [] [] before h.lines at_first all h.each (apart_is [] before h.apart (all_absent (paths_of before)))
    ∙ ap Ok (parts ∙ made_is asks) in
    asks_if before new asks long taken
