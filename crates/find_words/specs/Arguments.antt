-- What the words of a predicate say (POSIX, "find"). Words are lists of characters here.
use Rattle.std.specs.Prelude.{ℕ, ◌+◌, ◌-◌, ◌*◌, ◌==◌, ◌&&◌, ◌||◌, nat_le, nat_lt, List, [], ◌∷◌, length, take, get_or, codes, Option, Some, None, option_map, if◌then◌else◌}
use Rattle.std.specs.Str.{bytes_eq}
use Rattle.tree_core.specs.declared.node.Kind.TheVariants as kind
use Rattle.find_words.specs.declared.arguments.Primary.{Primary}
use Rattle.find_words.specs.declared.arguments.Primary.TheVariants as primary
use Rattle.find_words.specs.declared.arguments.Symbol.{Symbol}
use Rattle.find_words.specs.declared.arguments.Symbol.TheVariants.{Open, Close, Not, And, Or, Begins, Unknown}
use Rattle.find_words.specs.declared.conditions.Bound.{Bound}
use Rattle.find_words.specs.declared.conditions.Bound.TheVariants.{Exactly, MoreThan, LessThan}
use Rattle.find_words.specs.declared.conditions.Condition.{Condition}
use Rattle.find_words.specs.declared.conditions.Condition.TheVariants.{Name, OfKind, Blocks, Bytes, Days, ModeIs, ModeHas, Links}
use Rattle.name_patterns.specs.Patterns.{glyphs_of, pieces_of}

-- what a word is where no argument is due, by a table of words
abbrev pub symbol_in : List (List ℕ × Symbol) → List ℕ → Symbol
symbol_in [] word = Unknown
symbol_in (entry ∷ entries) word = if bytes_eq word entry.0 then entry.1 else symbol_in entries word

abbrev pub symbols : List (List ℕ × Symbol)
symbols =
    (codes "(", Open) ∷ (codes ")", Close) ∷ (codes "!", Not) ∷ (codes "-a", And) ∷ (codes "-o", Or)
    ∷ (codes "-name", Begins primary.Name) ∷ (codes "-type", Begins primary.Kind) ∷ (codes "-size", Begins primary.Size)
    ∷ (codes "-mtime", Begins primary.Days) ∷ (codes "-perm", Begins primary.Mode) ∷ (codes "-links", Begins primary.Links) ∷ []

abbrev pub symbol_of : List ℕ → Symbol
symbol_of word = symbol_in symbols word

-- the value of a digit to a base
abbrev pub digit_of : ℕ → ℕ → Option ℕ
digit_of base c = if nat_lt c 48 || nat_le (48 + base) c then None else Some (c - 48)

-- the number that is written by digits behind those that write `value`
abbrev pub value_from : ℕ → ℕ → List ℕ → Option ℕ
value_from base value [] = Some value
value_from base value (c ∷ cs) = if nat_lt c 48 || nat_le (48 + base) c then None else value_from base (value * base + (c - 48)) cs

-- the number that one digit or more, and so many at most, write to a base
abbrev pub number_of : ℕ → ℕ → List ℕ → Option ℕ
number_of base most digits = if nat_le 1 (length digits) && nat_le (length digits) most then value_from base 0 digits else None

abbrev pub decimal_of : List ℕ → Option ℕ
decimal_of digits = number_of 10 18 digits

-- `n`, `+n` for more than n, `-n` for less than n
abbrev pub bound_of : List ℕ → Option Bound
bound_of [] = None
bound_of (c ∷ cs) =
    if c == 43 then option_map MoreThan (decimal_of cs)
    else if c == 45 then option_map LessThan (decimal_of cs)
    else option_map Exactly (decimal_of (c ∷ cs))

abbrev pub kind_of : List ℕ → Option Condition
kind_of [] = None
kind_of (c ∷ []) =
    if c == 102 then Some (OfKind kind.File)
    else if c == 100 then Some (OfKind kind.Dir)
    else if c == 108 then Some (OfKind kind.Link)
    else None
kind_of (c ∷ d ∷ cs) = None

-- a size in units of 512 bytes, or with a `c` behind it in bytes
abbrev pub size_of : List ℕ → Option Condition
size_of word =
    if nat_le 1 (length word) && get_or word (length word - 1) 0 == 99 then option_map Bytes (bound_of (take (length word - 1) word))
    else option_map Blocks (bound_of word)

-- octal permission bits, or with a `-` in front those that are set
abbrev pub mode_of : List ℕ → Option Condition
mode_of [] = None
mode_of (c ∷ cs) = if c == 45 then option_map ModeHas (number_of 8 4 cs) else option_map ModeIs (number_of 8 4 (c ∷ cs))

-- the condition that a word writes behind the word that begins it
abbrev pub condition_of : Primary → List ℕ → Option Condition
condition_of primary.Name word = Some (Name (pieces_of (glyphs_of word)))
condition_of primary.Kind word = kind_of word
condition_of primary.Size word = size_of word
condition_of primary.Days word = option_map Days (bound_of word)
condition_of primary.Mode word = mode_of word
condition_of primary.Links word = option_map Links (bound_of word)
