-- The tokens of a regexp (GNU Emacs Manual, "Syntax of Regular Expressions"). A text is the list of its characters, and
-- places are counted in characters here.
use Rattle.std.specs.Prelude.{ℕ, ◌+◌, ◌==◌, Bool, true, false, ◌&&◌, ◌||◌, List, [], ◌∷◌, drop, codes, Option, Some, None, Result, Ok, Err, if◌then◌else◌}
use Rattle.std.specs.List.{list_any}
use Rattle.emacs_regexp.specs.declared.fault.RegexpFault.{RegexpFault}
use Rattle.emacs_regexp.specs.declared.fault.RegexpFault.TheVariants.{BadInterval, NotInProfile, TrailingBackslash}
use Rattle.emacs_regexp.specs.declared.lexing.Before.{Before}
use Rattle.emacs_regexp.specs.declared.lexing.Before.TheVariants.{Start, Caret, Item}
use Rattle.emacs_regexp.specs.declared.token.Atom.TheVariants.{Any, LineBegin, LineEnd, TextBegin, TextEnd, Char, Set, Word, NotWord, Boundary, NotBoundary}
use Rattle.emacs_regexp.specs.declared.token.Member.{Member}
use Rattle.emacs_regexp.specs.declared.token.Quantifier.{Quantifier}
use Rattle.emacs_regexp.specs.declared.token.Token.{Token}
use Rattle.emacs_regexp.specs.declared.token.Token.TheVariants.{Atom as one, Repeat, Open, Close, Or}
use Rattle.emacs_regexp.specs.Intervals.{is_next, is_repeat, quantifier_of, interval}
use Rattle.emacs_regexp.specs.Sets.{members_from}

-- what stands first in a text: a token, and how many characters behind the first one it takes, or a fault
abbrev pub Read : Type 0
Read = Result (Token × ℕ) RegexpFault

-- nothing stands before: the start of the regexp, of a group or of an alternative
abbrev pub is_start : Before → Bool
is_start Start = true
is_start Caret = false
is_start Item = false

-- an item stands before, which can be repeated
abbrev pub is_item : Before → Bool
is_item Start = false
is_item Caret = false
is_item Item = true

-- an alternative ends here: the text does, or goes on with `\)` or `\|`
abbrev pub is_end : List ℕ → Bool
is_end [] = true
is_end (c ∷ rest) = c == 92 && (is_next 41 rest || is_next 124 rest)

-- `[`, with these members up to its `]`
abbrev pub as_set : Bool → ℕ → Result (List Member × ℕ) RegexpFault → Read
as_set is_negated before (Ok (members, more)) = Ok (one (Set is_negated members), before + more)
as_set is_negated before (Err fault) = Err fault

abbrev pub set_of : ℕ → List ℕ → Read
set_of at rest =
    if is_next 94 rest then as_set true 1 (members_from at true (at + 2) 0 (drop 1 rest))
    else as_set false 0 (members_from at true (at + 1) 0 rest)

-- `\(`, and `\(?:`, which has no number
abbrev pub open_of : ℕ → List ℕ → Read
open_of at rest =
    if is_next 63 rest then (if is_next 58 (drop 1 rest) then Ok (Open false, 3) else Err (NotInProfile at))
    else Ok (Open true, 1)

abbrev pub as_interval : ℕ → Option (Quantifier × ℕ) → Read
as_interval at (Some (quantifier, more)) = Ok (Repeat quantifier, 1 + more)
as_interval at None = Err (BadInterval at)

-- `\{`, with an interval behind it
abbrev pub interval_of : Before → ℕ → List ℕ → Read
interval_of before at rest = if is_item before then as_interval at (interval rest) else Err (BadInterval at)

-- a backslash and a character that write an atom
abbrev pub atom_of : ℕ → ℕ → Read
atom_of at c =
    if c == 119 then Ok (one Word, 1)
    else if c == 87 then Ok (one NotWord, 1)
    else if c == 98 then Ok (one Boundary, 1)
    else if c == 66 then Ok (one NotBoundary, 1)
    else if c == 96 then Ok (one TextBegin, 1)
    else if c == 39 then Ok (one TextEnd, 1)
    else if list_any (λ other. c == other) (codes "sScC<>_=0123456789") then Err (NotInProfile at)
    else Ok (one (Char c), 1)

-- a backslash
abbrev pub escape_of : Before → ℕ → List ℕ → Read
escape_of before at [] = Err TrailingBackslash
escape_of before at (c ∷ rest) =
    if c == 40 then open_of at rest
    else if c == 41 then Ok (Close, 1)
    else if c == 124 then Ok (Or, 1)
    else if c == 123 then interval_of before at rest
    else if c == 125 then Err (BadInterval at)
    else atom_of at c

abbrev pub repeat_of : ℕ → List ℕ → Token × ℕ
repeat_of c rest = if is_next 63 rest then (Repeat (quantifier_of c true), 1) else (Repeat (quantifier_of c false), 0)

-- the token that begins with a character at a place
abbrev pub token_of : Before → ℕ → ℕ → List ℕ → Read
token_of before at c rest =
    if c == 92 then escape_of before at rest
    else if c == 91 then set_of at rest
    else if c == 46 then Ok (one Any, 0)
    else if c == 94 && is_start before then Ok (one LineBegin, 0)
    else if c == 36 && is_end rest then Ok (one LineEnd, 0)
    else if is_item before && is_repeat c then Ok (repeat_of c rest)
    else Ok (one (Char c), 0)

-- what stands before the place behind a token
abbrev pub before_behind : Token → Before
before_behind (Open is_numbered) = Start
before_behind Or = Start
before_behind (one LineBegin) = Caret
before_behind (one Any) = Item
before_behind (one LineEnd) = Item
before_behind (one TextBegin) = Item
before_behind (one TextEnd) = Item
before_behind (one (Char c)) = Item
before_behind (one (Set is_negated members)) = Item
before_behind (one Word) = Item
before_behind (one NotWord) = Item
before_behind (one Boundary) = Item
before_behind (one NotBoundary) = Item
before_behind (Repeat quantifier) = Item
before_behind Close = Item
