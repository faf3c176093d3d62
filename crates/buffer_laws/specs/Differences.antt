-- What an edited buffer asks for: line by line the differences between what the lines show.
use Rattle.std.specs.Prelude.{◌≡◌, ◌≢◌, ◌⊎◌, ℕ, ◌+◌, List, [], ◌∷◌, ◌++◌, length, map, flat_map, Option, Some, None, option_to_list, IsTrue, is_some, All, Ok}
use Rattle.std.specs.List.{AllZip, filter_map}
use Rattle.dired_text.specs.Modes.{mode_letters}
use Rattle.dired_text.specs.Paths.{Names}
use Rattle.dired_text.specs.Resolve.{resolved}
use Rattle.tree_core.specs.declared.edit.Edit.{Edit}
use Rattle.tree_core.specs.declared.edit.Shown.{Shown}
use Rattle.tree_core.specs.declared.node.Kind.{Kind}
use Rattle.tree_core.specs.declared.node.Kind.TheVariants.{File, Dir, Link}
use Rattle.listing_text.specs.Fields.{name_of, target_of, arrow_place}
use Rattle.listing_text.specs.Grammar.{IsModeOf}
use Rattle.listing_text.specs.Listed.{arrow}
use Rattle.wdired_buffer.specs.declared.line.BufferLine.{BufferLine}
use Rattle.wdired_buffer.specs.declared.line.BufferLine.TheVariants.{Fixed, Header, Entry}
use Rattle.wdired_buffer.specs.Edits.{Asks}

-- ---- the lines before, each in its place

-- a line, its number from 1, and the directory of the section that it stands in
pub record Place : Type 0 where
  pub number : ℕ
  pub dir : Names
  pub line : BufferLine

-- the directory of the section behind a line
abbrev pub dir_behind : Names → BufferLine → Names
dir_behind dir (Fixed text) = dir
dir_behind dir (Header text own) = own
dir_behind dir (Entry text name_at source was) = dir

-- lines from this number on, in this directory's section
abbrev pub places : ℕ → Names → List BufferLine → List Place
places number dir [] = []
places number dir (line ∷ later) = record { number = number; dir = dir; line = line } ∷ places (number + 1) (dir_behind dir line) later

-- the path of an entry
abbrev pub path_of : BufferLine → Option Names
path_of (Fixed text) = None
path_of (Header text own) = None
path_of (Entry text name_at source was) = Some source

-- no path stands twice in the list
abbrev pub AreApart : List Names → Type 0
AreApart [] = Unit {0}
AreApart (p ∷ paths) = All (λ q. q ≢ p) paths × AreApart paths

-- ---- the fields that an edited line of an entry shows

-- its path, or None where its name is empty, its mode and its target, which is empty where it is no link
pub record Fields : Type 0 where
  pub path : Option Names
  pub mode : ℕ
  pub target : List ℕ

-- a name is empty, or it names this path from the directory
abbrev pub IsNameText : Names → Option Names → List ℕ → Type 0
IsNameText dir None shown = shown ≡ []
IsNameText dir (Some path) shown = (name : List ℕ) × (name_of shown ≡ Some name) × (resolved dir name ≡ Ok path)

-- the text of a name, and for a link of ` -> ` and a target, where the name ends before the first ` -> `
abbrev pub IsNamesText : Kind → Names → Option Names → List ℕ → List ℕ → Type 0
IsNamesText File dir path target text = IsNameText dir path text × (target ≡ [])
IsNamesText Dir dir path target text = IsNameText dir path text × (target ≡ [])
IsNamesText Link dir path target text =
    (name_shown : List ℕ) × (target_shown : List ℕ) × (text ≡ name_shown ++ (arrow ++ target_shown))
    × (arrow_place text ≡ Some (length name_shown))
    × IsNameText dir path name_shown × (target_of target_shown ≡ Some target)

-- The text shows these fields. All else is as in the line before: mark, space and kind before the mode, and what stands between the
-- mode and the place of the name.
pub record IsEdited (dir : Names) (text : List ℕ) (name_at : ℕ) (kind : Kind) (after : List ℕ) (fields : Fields) : Type 0 where
  pub front : List ℕ
  pub letters : List ℕ
  pub middle : List ℕ
  pub old_names : List ℕ
  pub names : List ℕ
  pub old : text ≡ front ++ (letters ++ (middle ++ old_names))
  pub new : after ≡ front ++ (mode_letters fields.mode ++ (middle ++ names))
  pub front_length : length front ≡ 3
  pub letters_length : length letters ≡ 9
  pub place : length front + length letters + length middle ≡ name_at
  pub mode : IsModeOf kind fields.mode
  pub shown : IsNamesText kind dir fields.path fields.target names

-- ---- differences

-- a value is shown and is another one than before, or it isn't
abbrev pub IsChange : {A : Type 0} → A → Option A → Option A → Type 0
IsChange old shown None = (shown ≡ None) ⊎ (shown ≡ Some old)
IsChange old shown (Some new) = (shown ≡ Some new) × (new ≢ old)

-- the edit names each field that differs, and there is one where any differs
abbrev pub IsDifference : ℕ → Names → Shown → Fields → Option Edit → Type 0
IsDifference number source was fields None =
    IsChange source fields.path None × IsChange was.mode (Some fields.mode) None × IsChange was.target (Some fields.target) None
IsDifference number source was fields (Some edit) =
    (edit.line ≡ number) × (edit.source ≡ source) × (edit.was ≡ was)
    × IsChange source fields.path edit.to × IsChange was.mode (Some fields.mode) edit.mode
    × IsChange was.target (Some fields.target) edit.target
    × (IsTrue (is_some edit.to) ⊎ IsTrue (is_some edit.mode) ⊎ IsTrue (is_some edit.target))

-- the path of an entry is emptied where no name is shown
abbrev pub IsEmptied : Names → Option Names → Option Names → Type 0
IsEmptied source None emptied = emptied ≡ Some source
IsEmptied source (Some path) emptied = emptied ≡ None

-- ---- two buffers

-- a line of the edited buffer: its text, the edit that it asks for, and the path whose name it empties
pub record After : Type 0 where
  pub text : List ℕ
  pub edit : Option Edit
  pub emptied : Option Names

-- an entry's line shows fields, and asks for their differences. Every other line is the same
abbrev pub IsAfterLine : ℕ → Names → BufferLine → After → Type 0
IsAfterLine number dir (Fixed text) after = (after.text ≡ text) × (after.edit ≡ None) × (after.emptied ≡ None)
IsAfterLine number dir (Header text own) after = (after.text ≡ text) × (after.edit ≡ None) × (after.emptied ≡ None)
IsAfterLine number dir (Entry text name_at source was) after =
    (fields : Fields) × IsEdited dir text name_at was.kind after.text fields
    × IsDifference number source was fields after.edit × IsEmptied source fields.path after.emptied

abbrev pub IsAfter : Place → After → Type 0
IsAfter place after = IsAfterLine place.number place.dir place.line after

-- The texts are those of the edited lines, one for each line before. What is asked for are their edits and their emptied paths, in the
-- order of the lines. No two lines before show the same path.
pub record AreDifferences (before : List BufferLine) (texts : List (List ℕ)) (asks : Asks) : Type 0 where
  pub lines : List After
  pub are : texts ≡ map (λ (after : After). after.text) lines
  pub each : AllZip IsAfter (places 1 [] before) lines
  pub apart : AreApart (filter_map path_of before)
  pub edits : asks.edits ≡ flat_map (λ (after : After). option_to_list after.edit) lines
  pub emptied : asks.emptied ≡ flat_map (λ (after : After). option_to_list after.emptied) lines
