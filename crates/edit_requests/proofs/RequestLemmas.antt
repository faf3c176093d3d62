-- What several lines ask for can be asked.
use Rattle.std.proofs.Common.{◌≡◌, ℕ, ◌+◌, ◌<◌, Bool, true, false, ◌==◌, List, [], ◌∷◌, ◌++◌, length, map, refl, sym, ◌∙◌, ap, arith, All, Option, Some, None, option_to_list, min, length-append, Result, Ok, Err, if◌then◌else◌}
use Rattle.std.specs.List.{AllByRecursion, list_any}
use Rattle.std.proofs.lemmas.Bool.{or_parts}
use Rattle.std.proofs.lemmas.List.{length-map}
use Rattle.std.proofs.lemmas.Option.{same_Some}
use Rattle.std.proofs.lemmas.List.Elements.{All-nil, All-cons, All-map, All-weaker, Contains-append_right}
use Rattle.std.proofs.lemmas.List.Kept.{AllPairs-cons}
use Rattle.dired_text.specs.Paths.{Names}
use Rattle.tree_core.specs.declared.edit.Edit.{Edit}
use Rattle.listing_text.specs.Reading.{◌>>=◌}
use Rattle.wdired_buffer.specs.declared.faults.EditsFault.{EditsFault}
use Rattle.wdired_buffer.specs.declared.faults.EditsFault.TheVariants.{Faulty}
use Rattle.wdired_buffer.specs.declared.faults.LineCause.TheVariants as cause
use Rattle.wdired_buffer.specs.declared.line.BufferLine.{BufferLine}
use Rattle.wdired_buffer.specs.declared.line.BufferLine.TheVariants.{Entry}
use Rattle.wdired_buffer.specs.declared.typed.Asked.{Asked}
use Rattle.wdired_buffer.specs.EntryLaws.{AllOk}
use Rattle.wdired_buffer.specs.Edits.{same_path, line_asks, shows, is_twice, once, section, Asks, asks_once, in_front_of, asks_behind, edits_of}
use Rattle.wdired_buffer.specs.Lines.{lines}
use Rattle.wdired_buffer.specs.Buffer.{buffer_of}
use Rattle.wdired_buffer.proofs.EditLemmas.{shows-push}
use Rattle.edit_words.specs.declared.row.Row.{Row}
use Rattle.edit_words.specs.Rows.{edit_row}
use Rattle.edit_words.specs.WellFormed.{IsEdit, IsNoRoot, HasOtherSource, LinesRise, SourcesDiffer}
use Rattle.edit_requests.specs.RequestLaws.{EditsCanBeAsked, EmptiedAreOfLines, IsOfLine}
use Rattle.edit_requests.proofs.LineLemmas.{then_all, all_at, HasSource, sources_some}
use Rattle.edit_requests.proofs.AskedLemmas.{IsOfNumber, IsSourceOf, IsAskedOf, same_self, test_false, line_asked}

-- An edit of a line behind these earlier ones, which don't show its source.
record IsBehind (earlier : List BufferLine) (edit : Edit) : Type 0 where
  line : length earlier < edit.line
  fresh : list_any (shows edit.source) earlier ≡ false
  not_root : IsNoRoot (edit_row edit)
  lawful : IsEdit edit

-- The edits and the emptied names of later lines, which stand behind these earlier ones.
record AreBehind (earlier later : List BufferLine) (asks : Asks) : Type 0 where
  each : All (IsBehind earlier) asks.edits
  lines : LinesRise (map edit_row asks.edits)
  sources : SourcesDiffer (map edit_row asks.edits)
  emptied : All (IsOfLine later) asks.emptied

-- ---- from one line to the next

none_behind : (earlier later : List BufferLine) → AreBehind earlier later (record { edits = []; emptied = [] })
none_behind earlier later = record {
  each = All-nil (IsBehind earlier);
  lines = λ i j d lt within. absurd (omega arith);
  sources = λ i j d lt within. absurd (omega arith);
  emptied = All-nil (IsOfLine later);
}

-- no line shows the path, and the last one doesn't either
push_parts : (path : Names) (earlier : List BufferLine) (line : BufferLine) → list_any (shows path) (earlier ++ line ∷ []) ≡ false → (list_any (shows path) earlier ≡ false) × (shows path line ≡ false)
push_parts path earlier line is = or_parts (list_any (shows path) earlier) (shows path line) (sym (shows-push path earlier line) ∙ is)

-- what is behind one line more is behind the earlier lines
nearer : (earlier : List BufferLine) (line : BufferLine) (edit : Edit) → IsBehind (earlier ++ line ∷ []) edit → IsBehind earlier edit
nearer earlier line edit far = record {
  line = let long = length-append earlier (line ∷ []) in let behind = far.line in omega arith;
  fresh = (push_parts edit.source earlier line far.fresh).0;
  not_root = far.not_root;
  lawful = far.lawful;
}

-- a line's edit and one behind the line
above : (earlier : List BufferLine) (line : BufferLine) (edit later : Edit) → IsOfNumber (length earlier + 1) line edit → IsBehind (earlier ++ line ∷ []) later → edit.line < later.line
above earlier line edit later here far =
    let long = length-append earlier (line ∷ []) in
    let number = here.numbered in
    let behind = far.line in
    omega arith

other_source : (earlier : List BufferLine) (line : BufferLine) (edit later : Edit) → IsOfNumber (length earlier + 1) line edit → IsBehind (earlier ++ line ∷ []) later → HasOtherSource (Some edit.source) (Some later.source)
other_source earlier line edit later here far p q first second same =
    let paths : later.source ≡ edit.source = same_Some later.source q second ∙ sym same ∙ sym (same_Some edit.source p first) in
    let unshown : shows later.source line ≡ false = (push_parts later.source earlier line far.fresh).1 in
    let entry : same_path later.source edit.source ≡ false = ap (shows later.source) (sym here.is.2) ∙ unshown in
    test_false (same_path later.source edit.source) entry (ap (λ r. same_path r edit.source) paths ∙ same_self edit.source)

here_behind : (earlier : List BufferLine) (line : BufferLine) (edit : Edit) → is_twice earlier line ≡ false → IsOfNumber (length earlier + 1) line edit → IsBehind earlier edit
here_behind earlier line edit fresh here = record {
  line = let number = here.numbered in omega arith;
  fresh = ap (is_twice earlier) (sym here.is.2) ∙ fresh;
  not_root = here.not_root;
  lawful = here.lawful;
}

-- the paths whose names were emptied, in a longer list
later_line : (line : BufferLine) (later : List BufferLine) (path : Names) → IsOfLine later path → IsOfLine (line ∷ later) path
later_line line later path is = (is.0, (is.1.0, is.1.1, is.1.2, Contains-append_right (line ∷ []) later (Entry is.1.0 is.1.1 path is.1.2) is.1.3))

first_line : (line : BufferLine) (later : List BufferLine) (path : Names) → IsSourceOf line path → IsOfLine (line ∷ later) path
first_line line later path is = (is.0, (is.1.0, is.1.1, is.1.2, (0, (omega arith), is.1.3)))

-- ---- the lines, from the last to the first

-- a line's edit, if any, in front of those behind it
with_edit : (earlier : List BufferLine) (line : BufferLine) (o : Option Edit) (edits : List Edit) → is_twice earlier line ≡ false → ((edit : Edit) → o ≡ Some edit → IsOfNumber (length earlier + 1) line edit) → All (IsBehind (earlier ++ line ∷ [])) edits → LinesRise (map edit_row edits) → SourcesDiffer (map edit_row edits)
    → All (IsBehind earlier) (option_to_list o ++ edits) × LinesRise (map edit_row (option_to_list o ++ edits)) × SourcesDiffer (map edit_row (option_to_list o ++ edits))
with_edit earlier line None edits fresh here each rise differ = (All-weaker (IsBehind (earlier ++ line ∷ [])) (IsBehind earlier) (nearer earlier line) edits each, rise, differ)
with_edit earlier line (Some edit) edits fresh here each rise differ =
    let this = here edit refl in
    let Behind : Edit → Type 0 = IsBehind (earlier ++ line ∷ []) in (
      All-cons (IsBehind earlier) edit edits (here_behind earlier line edit fresh this) (All-weaker Behind (IsBehind earlier) (nearer earlier line) edits each),
      AllPairs-cons (λ (r o : Row). r.line < o.line) (edit_row edit) (map edit_row edits) (All-map (λ (o : Row). edit.line < o.line) edit_row edits (All-weaker Behind (λ (e : Edit). edit.line < e.line) (λ e far. above earlier line edit e this far) edits each)) rise,
      AllPairs-cons (λ (r o : Row). HasOtherSource r.source o.source) (edit_row edit) (map edit_row edits) (All-map (λ (o : Row). HasOtherSource (Some edit.source) o.source) edit_row edits (All-weaker Behind (λ (e : Edit). HasOtherSource (Some edit.source) (Some e.source)) (λ e far. other_source earlier line edit e this far) edits each)) differ,
    )

with_emptied : (line : BufferLine) (later : List BufferLine) (o : Option Names) (paths : List Names) → ((path : Names) → o ≡ Some path → IsSourceOf line path) → All (IsOfLine later) paths → All (IsOfLine (line ∷ later)) (option_to_list o ++ paths)
with_emptied line later None paths here each = All-weaker (IsOfLine later) (IsOfLine (line ∷ later)) (later_line line later) paths each
with_emptied line later (Some path) paths here each =
    All-cons (IsOfLine (line ∷ later)) path paths (first_line line later path (here path refl)) (All-weaker (IsOfLine later) (IsOfLine (line ∷ later)) (later_line line later) paths each)

with_asked : (earlier later : List BufferLine) (line : BufferLine) (asked : Asked) (r : Result Asks EditsFault) → is_twice earlier line ≡ false → IsAskedOf (length earlier + 1) line asked → AllOk (AreBehind (earlier ++ line ∷ []) later) r → AllOk (AreBehind earlier (line ∷ later)) (in_front_of (asks_once asked) r)
with_asked earlier later line asked (Err e) fresh here rest = tt
with_asked earlier later line asked (Ok asks) fresh here rest =
    let edits = with_edit earlier line asked.edit asks.edits fresh here.edit rest.each rest.lines rest.sources in
    record {
      each = edits.0;
      lines = edits.1;
      sources = edits.2;
      emptied = with_emptied line later asked.emptied asks.emptied here.emptied rest.emptied;
    }

taken_once : (earlier later : List BufferLine) (line : BufferLine) (asked : Asked) (r : Result Asks EditsFault) (number : ℕ) (twice : Bool) → is_twice earlier line ≡ twice → IsAskedOf (length earlier + 1) line asked → AllOk (AreBehind (earlier ++ line ∷ []) later) r → AllOk (AreBehind earlier (line ∷ later)) (once number twice asked >>= λ asked. in_front_of (asks_once asked) r)
taken_once earlier later line asked r number true is here rest = tt
taken_once earlier later line asked r number false is here rest = with_asked earlier later line asked r is here rest

lines_asked : (earlier later : List BufferLine) (texts : List (List ℕ)) → AllByRecursion HasSource later → AllOk (AreBehind earlier later) (asks_behind earlier later texts)
lines_asked earlier [] texts has = none_behind earlier []
lines_asked earlier (line ∷ later) [] has = none_behind earlier (line ∷ later)
lines_asked earlier (line ∷ later) (text ∷ texts) has =
    then_all (AreBehind earlier (line ∷ later)) (line_asks (length earlier + 1) (section [] earlier) line text) (λ asked. once (length earlier + 1) (is_twice earlier line) asked >>= λ asked. in_front_of (asks_once asked) (asks_behind (earlier ++ line ∷ []) later texts)) (λ asked is.
    taken_once earlier later line asked (asks_behind (earlier ++ line ∷ []) later texts) (length earlier + 1) (is_twice earlier line) refl
    (all_at (IsAskedOf (length earlier + 1) line) (line_asks (length earlier + 1) (section [] earlier) line text) asked (line_asked (length earlier + 1) (section [] earlier) line text has.0) is)
    (lines_asked (earlier ++ line ∷ []) later texts has.1))

-- ---- the laws

all_asked : (bytes after : List ℕ) (before : List BufferLine) (asks : Asks) → buffer_of bytes ≡ Ok before → edits_of before after ≡ Ok asks → AreBehind [] before asks
all_asked bytes after before asks read is = by_count (length (lines after) == length before) is
  where
    by_count : (x : Bool) → (if x then asks_behind [] before (lines after) else Err (Faulty (min (length (lines after)) (length before) + 1) cause.LineCount)) ≡ Ok asks → AreBehind [] before asks
    by_count true e = all_at (AreBehind [] before) (asks_behind [] before (lines after)) asks (lines_asked [] before (lines after) (sources_some bytes before read)) e
    by_count false e = cc

pub can_be_asked : EditsCanBeAsked
can_be_asked bytes after before asks read is few =
    let all = all_asked bytes after before asks read is in
    record {
      lines = all.lines;
      sources = all.sources;
      not_root = All-map IsNoRoot edit_row asks.edits (All-weaker (IsBehind []) (λ (e : Edit). IsNoRoot (edit_row e)) (λ e behind. behind.not_root) asks.edits all.each);
      lawful = All-weaker (IsBehind []) IsEdit (λ e behind. behind.lawful) asks.edits all.each;
      count = let long = length-map asks.edits edit_row in omega arith;
    }

pub emptied_are : EmptiedAreOfLines
emptied_are bytes after before asks read is = (all_asked bytes after before asks read is).emptied
