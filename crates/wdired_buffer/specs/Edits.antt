-- What an edited text of a buffer asks for, line by line.
use Rattle.std.specs.Prelude.{ℕ, ◌+◌, ◌==◌, Bool, false, not, ◌&&◌, ◌||◌, min, List, [], ◌∷◌, ◌++◌, length, take, drop, Option, Some, None, is_some, option_map, option_to_list, Result, Ok, Err, if◌then◌else◌}
use Rattle.std.specs.List.{list_any}
use Rattle.std.specs.Str.{bytes_eq}
use Rattle.std.specs.Cmp.Lexicographic.{pointwise}
use Rattle.dired_text.specs.Paths.{Names}
use Rattle.dired_text.specs.Modes.{read_letters}
use Rattle.tree_core.specs.declared.edit.Edit.{Edit}
use Rattle.tree_core.specs.declared.edit.Shown.{Shown}
use Rattle.tree_core.specs.declared.node.Kind.{Kind}
use Rattle.tree_core.specs.declared.node.Kind.TheVariants.{File, Dir, Link}
use Rattle.listing_text.specs.Fields.{target_of, arrow_place}
use Rattle.listing_text.specs.Listed.{is_link}
use Rattle.listing_text.specs.Reading.{◌>>=◌}
use Rattle.wdired_buffer.specs.declared.editing.Edited.{Edited}
use Rattle.wdired_buffer.specs.declared.faults.EditsFault.{EditsFault}
use Rattle.wdired_buffer.specs.declared.faults.EditsFault.TheVariants.{Faulty}
use Rattle.wdired_buffer.specs.declared.faults.LineCause.{LineCause}
use Rattle.wdired_buffer.specs.declared.faults.LineCause.TheVariants as cause
use Rattle.wdired_buffer.specs.declared.line.BufferLine.{BufferLine}
use Rattle.wdired_buffer.specs.declared.line.BufferLine.TheVariants.{Fixed, Header, Entry}
use Rattle.wdired_buffer.specs.declared.typed.Asked.{Asked}
use Rattle.wdired_buffer.specs.declared.typed.Typed.{Typed}
use Rattle.wdired_buffer.specs.Lines.{lines}
use Rattle.wdired_buffer.specs.Headers.{named}

-- a value, or the fault of a line
abbrev pub or_faulty : {A : Type 0} → ℕ → LineCause → Option A → Result A EditsFault
or_faulty number cause (Some a) = Ok a
or_faulty number cause None = Err (Faulty number cause)

abbrev pub same_path : Names → Names → Bool
same_path p q = pointwise bytes_eq p q

-- ---- what an edited line shows

-- of a link's line, what stands before its first ` -> ` and behind it; without one all is the text of the name
abbrev pub link_texts : List ℕ → Option ℕ → List ℕ × Option (List ℕ)
link_texts rest None = (rest, None)
link_texts rest (Some place) = (take place rest, Some (drop (place + 4) rest))

-- the texts of name and target
unfoldable pub texts_in : Kind → List ℕ → List ℕ × Option (List ℕ)
texts_in File rest = (rest, None)
texts_in Dir rest = (rest, None)
texts_in Link rest = link_texts rest (arrow_place rest)

-- the path that a name's text names, if it isn't empty
unfoldable pub path_typed : Names → List ℕ → Option (Option Names)
path_typed dir [] = Some None
path_typed dir (b ∷ bs) = option_map Some (named dir (b ∷ bs))

-- the mode that letters show. A link keeps its own
abbrev pub kept : Shown → Option ℕ → Option ℕ
kept was None = None
kept was (Some mode) = if is_link was.kind && not (mode == was.mode) then None else Some mode

unfoldable pub mode_typed : Shown → List ℕ → Option ℕ
mode_typed was letters = kept was (read_letters letters)

-- the target, which a link has
unfoldable pub target_typed : Kind → Option (List ℕ) → Option (Option (List ℕ))
target_typed File text = Some None
target_typed Dir text = Some None
target_typed Link None = None
target_typed Link (Some text) = option_map Some (target_of text)

-- what an entry's new line shows, or its lowest fault
unfoldable pub typed_of : ℕ → Names → ℕ → Shown → List ℕ → Result Typed EditsFault
typed_of number dir name_at was after = do
  let texts = texts_in was.kind (drop name_at after)
  path ← or_faulty number cause.BadName (path_typed dir texts.0)
  mode ← or_faulty number cause.BadMode (mode_typed was (take 9 (drop 3 after)))
  target ← or_faulty number cause.BadTarget (target_typed was.kind texts.1)
  Ok (record { path = path; mode = mode; target = target })

-- ---- what is asked for

-- a value that is there and another one than before
abbrev pub changed : {A : Type 0} → (A → A → Bool) → A → Option A → Option A
changed same old None = None
changed same old (Some new) = if same new old then None else Some new

abbrev pub if_any : Edit → Option Edit
if_any edit = if is_some edit.to || is_some edit.target || is_some edit.mode then Some edit else None

abbrev pub if_emptied : Names → Option Names → Option Names
if_emptied source None = Some source
if_emptied source (Some path) = None

-- an entry showed one thing and shows another
unfoldable pub asked_of : ℕ → Names → Shown → Typed → Asked
asked_of number source was typed = record {
  edit = if_any (record {
    source = source;
    was = was;
    to = changed same_path source typed.path;
    target = changed bytes_eq was.target typed.target;
    mode = changed ◌==◌ was.mode (Some typed.mode);
    line = number;
  });
  emptied = if_emptied source typed.path;
}

abbrev pub nothing : Asked
nothing = record { edit = None; emptied = None }

-- the bytes of an entry's line outside mode, name and target: mark and kind, and what stands between mode and name
abbrev pub same_fixed : ℕ → List ℕ → List ℕ → Bool
same_fixed name_at text after =
    bytes_eq (take 3 after) (take 3 text) && bytes_eq (drop 12 (take name_at after)) (drop 12 (take name_at text))

-- ---- lines

-- what a line of a directory's section asks for by its new text
unfoldable pub line_asks : ℕ → Names → BufferLine → List ℕ → Result Asked EditsFault
line_asks number dir (Fixed text) after = if bytes_eq after text then Ok nothing else Err (Faulty number cause.Fixed)
line_asks number dir (Header text own) after = if bytes_eq after text then Ok nothing else Err (Faulty number cause.Fixed)
line_asks number dir (Entry text name_at source was) after =
    if bytes_eq after text then Ok nothing
    else if same_fixed name_at text after then (typed_of number dir name_at was after >>= λ typed. Ok (asked_of number source was typed))
    else Err (Faulty number cause.Fixed)

-- the directory of the section behind lines: that of their last header
abbrev pub section : Names → List BufferLine → Names
section dir [] = dir
section dir (Fixed text ∷ later) = section dir later
section dir (Header text own ∷ later) = section own later
section dir (Entry text name_at source was ∷ later) = section dir later

-- whether a line shows this path
abbrev pub shows : Names → BufferLine → Bool
shows path (Fixed text) = false
shows path (Header text own) = false
shows path (Entry text name_at source was) = same_path path source

-- whether the path of a line is among some paths
abbrev pub is_shown : (Names → Bool) → BufferLine → Bool
is_shown among (Fixed text) = false
is_shown among (Header text own) = false
is_shown among (Entry text name_at source was) = among source

-- whether an earlier line shows the path of a line
abbrev pub is_twice : List BufferLine → BufferLine → Bool
is_twice earlier line = is_shown (λ path. list_any (shows path) earlier) line

-- the edits and the emptied names of several lines
pub record Asks : Type 0 where
  pub edits : List Edit
  pub emptied : List Names

abbrev pub in_front_of : Asks → Result Asks EditsFault → Result Asks EditsFault
in_front_of first (Ok later) = Ok (record { edits = first.edits ++ later.edits; emptied = first.emptied ++ later.emptied })
in_front_of first (Err e) = Err e

abbrev pub asks_once : Asked → Asks
asks_once asked = record { edits = option_to_list asked.edit; emptied = option_to_list asked.emptied }

abbrev pub once : ℕ → Bool → Asked → Result Asked EditsFault
once number twice asked = if twice then Err (Faulty number cause.Twice) else Ok asked

-- what lines ask for that stand behind these earlier ones
abbrev pub asks_behind : List BufferLine → List BufferLine → List (List ℕ) → Result Asks EditsFault
asks_behind earlier (line ∷ later) (text ∷ texts) = do
  let number = length earlier + 1
  asked ← line_asks number (section [] earlier) line text
  asked ← once number (is_twice earlier line) asked
  in_front_of (asks_once asked) (asks_behind (earlier ++ line ∷ []) later texts)
asks_behind earlier [] texts = Ok (record { edits = []; emptied = [] })
asks_behind earlier (line ∷ later) [] = Ok (record { edits = []; emptied = [] })

abbrev pub edits_of : List BufferLine → List ℕ → Result Asks EditsFault
edits_of before after =
    if length (lines after) == length before then asks_behind [] before (lines after)
    else Err (Faulty (min (length (lines after)) (length before) + 1) cause.LineCount)

-- a whole answer, as the two lists that it holds
abbrev pub asks_in : Edited → Asks
asks_in edited = record { edits = edited.edits.items; emptied = edited.emptied.items }
