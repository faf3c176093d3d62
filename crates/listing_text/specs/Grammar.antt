-- The grammar of a file's line, as a relation between a text and what it shows.
use Rattle.std.specs.Prelude.{◌≡◌, ℕ, ◌≤◌, ◌^◌, ◌<◌, List, [], ◌∷◌, ◌++◌, length, Some, IsTrue, decimal, ◌≢◌, All, IsUtf8}
use Rattle.dired_text.specs.Modes.{mode_letters}
use Rattle.tree_core.specs.declared.node.Kind.{Kind}
use Rattle.tree_core.specs.declared.node.Kind.TheVariants.{File, Dir, Link}
use Rattle.listing_text.specs.declared.line.Line.{Line}
use Rattle.listing_text.specs.Dates.{minute_text, shown_minute}
use Rattle.listing_text.specs.Fields.{is_word, name_of, target_of, arrow_place}
use Rattle.listing_text.specs.Listed.{spaces, kind_letter, arrow}

-- the mode of a link shows all read, write and execute bits and no others
abbrev pub IsModeOf : Kind → ℕ → Type 0
IsModeOf File mode = mode ≤ 0o7777
IsModeOf Dir mode = mode ≤ 0o7777
IsModeOf Link mode = mode ≡ 0o777

-- the text of a name, and for a link of ` -> ` and a target, where the name ends before the first ` -> `
abbrev pub IsNamesText : Kind → List ℕ → List ℕ → List ℕ → Type 0
IsNamesText File name target text = (name_of text ≡ Some name) × (target ≡ [])
IsNamesText Dir name target text = (name_of text ≡ Some name) × (target ≡ [])
IsNamesText Link name target text =
    (name_shown : List ℕ) × (target_shown : List ℕ) × (text ≡ name_shown ++ arrow ++ target_shown)
    × (arrow_place text ≡ Some (length name_shown))
    × (name_of name_shown ≡ Some name) × (target_of target_shown ≡ Some target)

-- the text shows the line behind this mark. Before links, owner, group and size stand a space and any number of further ones
pub record IsLineText (mark : ℕ) (line : Line) (text : List ℕ) : Type 0 where
  pub before_links : ℕ
  pub before_owner : ℕ
  pub before_group : ℕ
  pub before_size : ℕ
  pub names : List ℕ
  pub is : text ≡ mark ∷ 32 ∷ kind_letter line.kind ∷ mode_letters line.mode
      ++ 32 ∷ spaces before_links ++ decimal line.links ++ 32 ∷ spaces before_owner ++ line.owner
      ++ 32 ∷ spaces before_group ++ line.group ++ 32 ∷ spaces before_size ++ decimal line.size
      ++ 32 ∷ minute_text line.minute ++ 32 ∷ names
  pub mark_low : 32 ≤ mark
  pub mark_high : mark ≤ 126
  pub mode : IsModeOf line.kind line.mode
  pub links : line.links < 2 ^ 32
  pub owner : IsTrue (is_word line.owner)
  pub group : IsTrue (is_word line.group)
  pub size : line.size < 2 ^ 64
  pub minute : shown_minute line.minute ≡ line.minute
  pub name : IsNamesText line.kind line.name line.target names

-- the target that a line may have: of a link 1 to 4,095 bytes of UTF-8 without NUL, else none
abbrev pub IsTargetOf : Kind → List ℕ → Type 0
IsTargetOf File target = target ≡ []
IsTargetOf Dir target = target ≡ []
IsTargetOf Link target = IsUtf8 target × All (λ b. b ≢ 0) target × (1 ≤ length target) × (length target ≤ 4095)

-- the fields of the line are lawful, whatever its minute
pub record IsLawful (line : Line) : Type 0 where
  pub mode : IsModeOf line.kind line.mode
  pub links : line.links < 2 ^ 32
  pub owner : IsTrue (is_word line.owner)
  pub group : IsTrue (is_word line.group)
  pub size : line.size < 2 ^ 64
  pub name_utf8 : IsUtf8 line.name
  pub name_whole : All (λ b. b ≢ 0) line.name
  pub name_some : 1 ≤ length line.name
  pub target : IsTargetOf line.kind line.target

-- the line with the minute that is shown for its own
abbrev pub as_shown : Line → Line
as_shown line = record line { minute = shown_minute line.minute }
