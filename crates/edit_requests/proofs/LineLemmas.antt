-- The lines of a buffer that was read: no entry's line shows the root.
use Rattle.std.proofs.Common.{◌≡◌, ◌≢◌, ℕ, ◌+◌, ◌-◌, Bool, true, false, List, [], ◌∷◌, length, take, drop, refl, subst, Option, Some, None, Result, Ok, Err, if◌then◌else◌, codes, nat_lt}
use Rattle.std.specs.List.{AllByRecursion}
use Rattle.std.specs.Str.{bytes_eq}
use Rattle.dired_text.specs.Paths.{Names}
use Rattle.tree_core.specs.declared.node.Kind.{Kind}
use Rattle.tree_core.specs.declared.node.Kind.TheVariants.{File, Dir, Link}
use Rattle.listing_text.specs.declared.faults.Field.TheVariants as field
use Rattle.listing_text.specs.Fields.{target_of, arrow_place}
use Rattle.listing_text.specs.Reading.{Front, ◌>>=◌, front_of, behind_space}
use Rattle.wdired_buffer.specs.declared.due.Due.{Due}
use Rattle.wdired_buffer.specs.declared.due.Due.TheVariants as due
use Rattle.wdired_buffer.specs.declared.faults.BufferCause.{BufferCause}
use Rattle.wdired_buffer.specs.declared.faults.BufferCause.TheVariants as cause
use Rattle.wdired_buffer.specs.declared.faults.BufferFault.{BufferFault}
use Rattle.wdired_buffer.specs.declared.faults.BufferFault.TheVariants as fault
use Rattle.wdired_buffer.specs.declared.line.BufferLine.{BufferLine}
use Rattle.wdired_buffer.specs.declared.line.BufferLine.TheVariants.{Fixed, Header, Entry}
use Rattle.wdired_buffer.specs.EntryLaws.{AllOk}
use Rattle.wdired_buffer.specs.Headers.{named, header_in, dir_named, is_total}
use Rattle.wdired_buffer.specs.Lines.{lines, in_front}
use Rattle.wdired_buffer.specs.Buffer.{or_bad, at_line, shown, link_shown, entry_of, header_of, line_of, end_of, lines_from, buffer_of, max_lines}
use Rattle.edit_requests.proofs.ReadLemmas.{named_some}

-- ---- what was read, from the answer

pub then_all : {A B E : Type 0} (Q : B → Type 0) (first : Result A E) (next : A → Result B E) → ((a : A) → first ≡ Ok a → AllOk Q (next a)) → AllOk Q (first >>= next)
then_all Q (Ok a) next each = each a refl
then_all Q (Err e) next each = tt

pub all_at : {B E : Type 0} (Q : B → Type 0) (r : Result B E) (b : B) → AllOk Q r → r ≡ Ok b → Q b
all_at Q (Ok a) b all is = let same : a ≡ b = cc in subst Q same all
all_at Q (Err e) b all is = cc

some_at : {A : Type 0} (number : ℕ) (cause : BufferCause) (o : Option A) (a : A) → or_bad number cause o ≡ Ok a → o ≡ Some a
some_at number cause (Some b) a is = cc
some_at number cause None a is = cc

-- ---- one line

-- an entry's line shows a path that isn't the root
abbrev pub HasSource : BufferLine → Type 0
HasSource (Fixed text) = Unit {0}
HasSource (Header text own) = Unit {0}
HasSource (Entry text name_at source was) = source ≢ []

abbrev IsSome : Names × List ℕ → Type 0
IsSome names = names.0 ≢ []

-- a name, and whatever is made of its path
path_some : {B : Type 0} (Q : B → Type 0) (number : ℕ) (dir : Names) (name : List ℕ) (next : Names → Result B BufferFault) → ((path : Names) → path ≢ [] → AllOk Q (next path)) → AllOk Q (or_bad number (cause.Line field.Name) (named dir name) >>= next)
path_some Q number dir name next each =
    then_all Q (or_bad number (cause.Line field.Name) (named dir name)) next (λ path is. each path (named_some dir name path (some_at number (cause.Line field.Name) (named dir name) path is)))

link_some : (number : ℕ) (dir : Names) (rest : List ℕ) (place : Option ℕ) → AllOk IsSome (link_shown number dir rest place)
unfolding link_shown
link_some number dir rest None = tt
link_some number dir rest (Some place) =
    path_some IsSome number dir (take place rest) (λ path. or_bad number (cause.Line field.Target) (target_of (drop (place + 4) rest)) >>= λ target. Ok (path, target)) (λ path some.
    then_all IsSome (or_bad number (cause.Line field.Target) (target_of (drop (place + 4) rest))) (λ target. Ok (path, target)) (λ target is. some))

shown_some : (number : ℕ) (dir : Names) (kind : Kind) (rest : List ℕ) → AllOk IsSome (shown number dir kind rest)
unfolding shown
shown_some number dir File rest = path_some IsSome number dir rest (λ path. Ok (path, [])) (λ path some. some)
shown_some number dir Dir rest = path_some IsSome number dir rest (λ path. Ok (path, [])) (λ path some. some)
shown_some number dir Link rest = link_some number dir rest (arrow_place rest)

abbrev k_names : List ℕ → Front → List ℕ → Names × List ℕ → Result BufferLine BufferFault
k_names text front rest names = Ok (Entry text (length text - length rest) names.0 (record { kind = front.kind; mode = front.mode; target = names.1 }))

abbrev k_rest : ℕ → Names → List ℕ → Front → List ℕ → Result BufferLine BufferFault
k_rest number dir text front rest = shown number dir front.kind rest >>= k_names text front rest

abbrev k_front : ℕ → Names → List ℕ → Front → Result BufferLine BufferFault
k_front number dir text front = or_bad number (cause.Line field.Name) (behind_space front.rest) >>= k_rest number dir text front

entry_some : (number : ℕ) (dir : Names) (text : List ℕ) → AllOk HasSource (entry_of number dir text)
unfolding entry_of
entry_some number dir text =
    then_all HasSource (at_line number (front_of text)) (k_front number dir text) (λ front front_is.
    then_all HasSource (or_bad number (cause.Line field.Name) (behind_space front.rest)) (k_rest number dir text front) (λ rest rest_is.
    then_all HasSource (shown number dir front.kind rest) (k_names text front rest) (λ names names_is.
    all_at IsSome (shown number dir front.kind rest) names (shown_some number dir front.kind rest) names_is)))

-- ---- lines

abbrev HasFirst : BufferLine × Due → Type 0
HasFirst first = HasSource first.0

header_some : (number : ℕ) (text : List ℕ) → AllOk HasFirst (header_of number text)
unfolding header_of
header_some number text =
    then_all HasFirst (or_bad number cause.Header (header_in text)) (λ header. or_bad number cause.Header (dir_named header.1) >>= λ dir. Ok (Header text dir, if header.0 then due.Gap else due.Total dir)) (λ header is.
    then_all HasFirst (or_bad number cause.Header (dir_named header.1)) (λ dir. Ok (Header text dir, if header.0 then due.Gap else due.Total dir)) (λ dir dir_is. tt))

fixed_some : (test : Bool) (text : List ℕ) (next : Due) (e : BufferFault) → AllOk HasFirst (if test then Ok (Fixed text, next) else Err e)
fixed_some true text next e = tt
fixed_some false text next e = tt

line_some : (number : ℕ) (now : Due) (text : List ℕ) → AllOk HasFirst (line_of number now text)
unfolding line_of
line_some number due.First text = fixed_some (bytes_eq text (codes "dired 1")) text due.Header (fault.Bad number cause.FirstLine)
line_some number due.Header text = header_some number text
line_some number (due.Total dir) text = fixed_some (is_total text) text (due.Rows dir) (fault.Bad number cause.Total)
line_some number (due.Rows dir) [] = tt
line_some number (due.Rows dir) (b ∷ bs) =
    then_all HasFirst (entry_of number dir (b ∷ bs)) (λ entry. Ok (entry, due.Rows dir)) (λ entry is.
    all_at HasSource (entry_of number dir (b ∷ bs)) entry (entry_some number dir (b ∷ bs)) is)
line_some number due.Gap [] = tt
line_some number due.Gap (b ∷ bs) = tt

abbrev Have : List BufferLine → Type 0
Have ls = AllByRecursion HasSource ls

end_some : (number : ℕ) (now : Due) → AllOk Have (end_of number now)
unfolding end_of
end_some number due.First = tt
end_some number due.Header = tt
end_some number (due.Total dir) = tt
end_some number (due.Rows dir) = tt
end_some number due.Gap = tt

with_line : (line : BufferLine) (r : Result (List BufferLine) BufferFault) → HasSource line → AllOk Have r → AllOk Have (in_front (line ∷ []) r)
with_line line (Ok ls) has rest = (has, rest)
with_line line (Err e) has rest = tt

lines_some : (number : ℕ) (now : Due) (texts : List (List ℕ)) → AllOk Have (lines_from number now texts)
lines_some number now [] = end_some number now
lines_some number now (text ∷ texts) =
    then_all Have (line_of number now text) (λ first. in_front (first.0 ∷ []) (lines_from (number + 1) first.1 texts)) (λ first is.
    with_line first.0 (lines_from (number + 1) first.1 texts) (all_at HasFirst (line_of number now text) first (line_some number now text) is) (lines_some (number + 1) first.1 texts))

-- the lines of a buffer
pub sources_some : (bytes : List ℕ) (before : List BufferLine) → buffer_of bytes ≡ Ok before → AllByRecursion HasSource before
sources_some bytes before is = by_test (nat_lt max_lines (length (lines bytes))) is
  where
    by_test : (x : Bool) → (if x then Err (fault.TooManyLines (length (lines bytes))) else lines_from 1 due.First (lines bytes)) ≡ Ok before → AllByRecursion HasSource before
    by_test true e = cc
    by_test false e = all_at Have (lines_from 1 due.First (lines bytes)) before (lines_some 1 due.First (lines bytes)) e
