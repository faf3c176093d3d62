-- What lines ask for, line by line.
use Rattle.std.proofs.Common.{◌≡◌, inl, inr, ℕ, ◌+◌, ◌<◌, Bool, true, false, cond, ◌||◌, List, [], ◌∷◌, ◌++◌, length, take, refl, sym, ◌∙◌, ap, arith, length-take, eq-eqb, Result, Ok, Err, append_assoc}
use Rattle.std.specs.List.{list_any}
use Rattle.std.specs.Ordering.{is_eq}
use Rattle.std.specs.Bool.{Decides}
use Rattle.std.proofs.lemmas.Bool.Decides.{same_from_decides}
use Rattle.std.proofs.lemmas.Slice.Eq.{bytes_eq-Decides, slice_eq-Decides}
use Rattle.std.proofs.lemmas.List.{append-nil}
use Rattle.std.proofs.lemmas.List.Folds.{list_any-append}
use Rattle.dired_text.specs.Answers.{IsOrMemory}
use Rattle.dired_text.specs.Paths.{Names, path_cmp}
use Rattle.tree_core.specs.declared.edit.Edit.{Edit}
use Rattle.dired_text.proofs.PathLemmas.{path_decides}
use Rattle.listing_text.specs.Reading.{◌>>=◌}
use Rattle.wdired_buffer.specs.declared.faults.EditsFault.{EditsFault}
use Rattle.wdired_buffer.specs.declared.faults.EditsFault.TheVariants.{Faulty}
use Rattle.wdired_buffer.specs.declared.faults.LineCause.TheVariants as cause
use Rattle.wdired_buffer.specs.declared.line.BufferLine.{BufferLine}
use Rattle.wdired_buffer.specs.declared.line.BufferLine.TheVariants.{Fixed, Header, Entry}
use Rattle.wdired_buffer.specs.declared.typed.Asked.{Asked}
use Rattle.wdired_buffer.specs.Lines.{lines}
use Rattle.wdired_buffer.specs.Edits.{Asks, in_front_of, asks_once, asks_behind, line_asks, once, section, shows, is_shown, is_twice, same_path, edits_of}

-- ---- the lines before

-- one line more
pub section-push : (dir : Names) (earlier : List BufferLine) (line : BufferLine) → section dir (earlier ++ line ∷ []) ≡ section (section dir earlier) (line ∷ [])
section-push dir [] line = refl
section-push dir (Fixed text ∷ later) line = section-push dir later line
section-push dir (Header text own ∷ later) line = section-push own later line
section-push dir (Entry text name_at source was ∷ later) line = section-push dir later line

or-false : (b : Bool) → (b || false) ≡ b
or-false true = refl
or-false false = refl

pub shows-push : (path : Names) (earlier : List BufferLine) (line : BufferLine) → list_any (shows path) (earlier ++ line ∷ []) ≡ (list_any (shows path) earlier || shows path line)
shows-push path earlier line =
    list_any-append (shows path) earlier (line ∷ []) ∙ ap (λ b. list_any (shows path) earlier || b) (or-false (shows path line))

-- whether earlier lines show the path of a line, by what is known of each path
pub twice_is : (among : Names → Bool) (earlier : List BufferLine) (line : BufferLine) → ((q : Names) → among q ≡ list_any (shows q) earlier) → is_shown among line ≡ is_twice earlier line
twice_is among earlier (Fixed text) is = refl
twice_is among earlier (Header text own) is = refl
twice_is among earlier (Entry text name_at source was) is = is source

-- the order of paths ties the same paths
pub tie_is : (source q : Names) → is_eq (path_cmp source q) ≡ same_path q source
tie_is source q =
    let tells : Decides (same_path q source) (q ≡ source) = slice_eq-Decides bytes_eq-Decides q source (same_path q source) refl in
    same_from_decides (is_eq (path_cmp source q)) (same_path q source) (path_decides source q) ((λ t. sym (tells.0 t)), (λ e. tells.1 (sym e)))

cond-or : (b c : Bool) → cond b true c ≡ (c || b)
cond-or true true = refl
cond-or true false = refl
cond-or false true = refl
cond-or false false = refl

pub added : (source q : Names) (before : Bool) → cond (is_eq (path_cmp source q)) true before ≡ (before || same_path q source)
added source q before = cond-or (is_eq (path_cmp source q)) before ∙ ap (λ b. before || b) (tie_is source q)

-- ---- what is asked for

abbrev pub both : Asks → Asks → Asks
both first later = record { edits = first.edits ++ later.edits; emptied = first.emptied ++ later.emptied }

in_front_of-twice : (first next : Asks) (later : Result Asks EditsFault) → in_front_of first (in_front_of next later) ≡ in_front_of (both first next) later
in_front_of-twice first next (Ok later) =
    ap (λ es. Ok (record { edits = es; emptied = first.emptied ++ (next.emptied ++ later.emptied) })) (sym (append_assoc first.edits next.edits later.edits))
    ∙ ap (λ ps. Ok (record { edits = (first.edits ++ next.edits) ++ later.edits; emptied = ps })) (sym (append_assoc first.emptied next.emptied later.emptied))
in_front_of-twice first next (Err e) = refl

pub in_front_of-none : (later : Result Asks EditsFault) → in_front_of (record { edits = []; emptied = [] }) later ≡ later
in_front_of-none (Ok later) = refl
in_front_of-none (Err e) = refl

-- the first of the lines that are left, unfolded
asks_first : (done : Asks) (earlier later from : List BufferLine) (line : BufferLine) (rest text behind : List ℕ) → from ≡ line ∷ later → lines rest ≡ text ∷ lines behind → in_front_of done (asks_behind earlier from (lines rest)) ≡ in_front_of done (line_asks (length earlier + 1) (section [] earlier) line text >>= λ a. once (length earlier + 1) (is_twice earlier line) a >>= λ b. in_front_of (asks_once b) (asks_behind (earlier ++ line ∷ []) later (lines behind)))
asks_first done earlier later from line rest text behind is first =
    ap (λ (bs : List BufferLine). in_front_of done (asks_behind earlier bs (lines rest))) is
    ∙ ap (λ (ls : List (List ℕ)). in_front_of done (asks_behind earlier (line ∷ later) ls)) first

asks_here : (number : ℕ) (dir : Names) (earlier : List BufferLine) (line : BufferLine) (text : List ℕ) (answer : Result Asked EditsFault) → number ≡ length earlier + 1 → dir ≡ section [] earlier → line_asks number dir line text ≡ answer → line_asks (length earlier + 1) (section [] earlier) line text ≡ answer
asks_here number dir earlier line text answer counted in_section asks =
    ap (λ n. line_asks n (section [] earlier) line text) (sym counted) ∙ ap (λ d. line_asks number d line text) (sym in_section) ∙ asks

pub asks_taken : (done : Asks) (asked : Asked) (number : ℕ) (dir : Names) (earlier later from : List BufferLine) (line : BufferLine) (rest text behind : List ℕ) → from ≡ line ∷ later → lines rest ≡ text ∷ lines behind → number ≡ length earlier + 1 → dir ≡ section [] earlier → line_asks number dir line text ≡ Ok asked → is_twice earlier line ≡ false → in_front_of done (asks_behind earlier from (lines rest)) ≡ in_front_of (both done (asks_once asked)) (asks_behind (earlier ++ line ∷ []) later (lines behind))
asks_taken done asked number dir earlier later from line rest text behind is first counted in_section asks fresh =
    let follow : Result Asks EditsFault = asks_behind (earlier ++ line ∷ []) later (lines behind) in
    asks_first done earlier later from line rest text behind is first
    ∙ ap (λ (r : Result Asked EditsFault). in_front_of done (r >>= λ a. once (length earlier + 1) (is_twice earlier line) a >>= λ b. in_front_of (asks_once b) follow)) (asks_here number dir earlier line text (Ok asked) counted in_section asks)
    ∙ ap (λ (t : Bool). in_front_of done (once (length earlier + 1) t asked >>= λ b. in_front_of (asks_once b) follow)) fresh
    ∙ in_front_of-twice done (asks_once asked) follow

pub asks_refused : (done : Asks) (e : EditsFault) (number : ℕ) (dir : Names) (earlier later from : List BufferLine) (line : BufferLine) (rest text behind : List ℕ) → from ≡ line ∷ later → lines rest ≡ text ∷ lines behind → number ≡ length earlier + 1 → dir ≡ section [] earlier → line_asks number dir line text ≡ Err e → in_front_of done (asks_behind earlier from (lines rest)) ≡ Err e
asks_refused done e number dir earlier later from line rest text behind is first counted in_section asks =
    let follow : Result Asks EditsFault = asks_behind (earlier ++ line ∷ []) later (lines behind) in
    asks_first done earlier later from line rest text behind is first
    ∙ ap (λ (r : Result Asked EditsFault). in_front_of done (r >>= λ a. once (length earlier + 1) (is_twice earlier line) a >>= λ b. in_front_of (asks_once b) follow)) (asks_here number dir earlier line text (Err e) counted in_section asks)

pub asks_twice : (done : Asks) (asked : Asked) (number : ℕ) (dir : Names) (earlier later from : List BufferLine) (line : BufferLine) (rest text behind : List ℕ) → from ≡ line ∷ later → lines rest ≡ text ∷ lines behind → number ≡ length earlier + 1 → dir ≡ section [] earlier → line_asks number dir line text ≡ Ok asked → is_twice earlier line ≡ true → in_front_of done (asks_behind earlier from (lines rest)) ≡ Err (Faulty number cause.Twice)
asks_twice done asked number dir earlier later from line rest text behind is first counted in_section asks twice =
    let follow : Result Asks EditsFault = asks_behind (earlier ++ line ∷ []) later (lines behind) in
    asks_first done earlier later from line rest text behind is first
    ∙ ap (λ (r : Result Asked EditsFault). in_front_of done (r >>= λ a. once (length earlier + 1) (is_twice earlier line) a >>= λ b. in_front_of (asks_once b) follow)) (asks_here number dir earlier line text (Ok asked) counted in_section asks)
    ∙ ap (λ (t : Bool). in_front_of done (once (length earlier + 1) t asked >>= λ b. in_front_of (asks_once b) follow)) twice
    ∙ ap (λ n. Err (Faulty n cause.Twice)) (sym counted)

-- no line is left
pub asks_done : (done : Asks) (earlier from : List BufferLine) (rest : List ℕ) → from ≡ [] → in_front_of done (asks_behind earlier from (lines rest)) ≡ Ok done
asks_done done earlier from rest none =
    ap (λ (bs : List BufferLine). in_front_of done (asks_behind earlier bs (lines rest))) none ∙ ap (λ es. Ok (record { edits = es; emptied = done.emptied ++ [] })) (append-nil done.edits)
    ∙ ap (λ ps. Ok (record { edits = done.edits; emptied = ps })) (append-nil done.emptied)

-- ---- the loop over the lines

pub same_count : (before : List BufferLine) (after : List ℕ) (count : ℕ) → count ≡ length (lines after) → count ≡ length before → edits_of before after ≡ asks_behind [] before (lines after)
same_count before after count is same = rw (eq-eqb (length (lines after)) (length before) (sym is ∙ same)) refl

pub counted : (before : List BufferLine) (index number : ℕ) → number ≡ index + 1 → index < length before → number ≡ length (take index before) + 1
counted before index number is below = omega (arith, length-take index before)

pub answer_is : {T E : Type 0} (memory : E) (x : T) (wanted : Result T E) → IsOrMemory memory wanted (Ok x) → wanted ≡ Ok x
answer_is memory x wanted (inl e) = cc
answer_is memory x wanted (inr e) = sym e

abbrev lists : List Edit → List Names → Asks
lists es ps = record { edits = es; emptied = ps }

pub same_asks : (es fs : List Edit) (ps qs : List Names) → es ≡ fs → ps ≡ qs → lists es ps ≡ lists fs qs
same_asks es fs ps qs e p = ap (λ l. lists l ps) e ∙ ap (lists fs) p
