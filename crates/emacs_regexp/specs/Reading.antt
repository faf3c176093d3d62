-- Which regexp a text writes, and which fault it has.
use Rattle.std.specs.Prelude.{◌≡◌, ℕ, zero, suc, ◌+◌, ◌-◌, ◌==◌, List, [], ◌∷◌, Result, Ok, Err, if◌then◌else◌}
use Rattle.std.specs.Str.{chars}
use Rattle.emacs_regexp.specs.declared.fault.RegexpFault.{RegexpFault}
use Rattle.emacs_regexp.specs.declared.fault.RegexpFault.TheVariants.{Unclosed, Unopened, BadInterval, BadClass, TrailingBackslash, NotInProfile, Memory}
use Rattle.emacs_regexp.specs.declared.lexing.Before.{Before}
use Rattle.emacs_regexp.specs.declared.lexing.Before.TheVariants.{Start}
use Rattle.emacs_regexp.specs.declared.reading.Nesting.{Nesting}
use Rattle.emacs_regexp.specs.declared.token.Token.{Token}
use Rattle.emacs_regexp.specs.declared.token.Token.TheVariants.{Atom as one, Repeat, Open, Close, Or}
use Rattle.emacs_regexp.specs.Places.{in_bytes}
use Rattle.emacs_regexp.specs.Tokens.{Read, token_of, before_behind}
use Rattle.emacs_regexp.specs.Trees.{Tree, Writes, tree_of}

-- the groups that are open behind a token at a place: how many they are, and where the outermost began
abbrev pub nesting_behind : ℕ → Token → Nesting → Result Nesting RegexpFault
nesting_behind at (Open is_numbered) nesting =
    Ok (record { depth = nesting.depth + 1; first = if nesting.depth == 0 then at else nesting.first })
nesting_behind at Close nesting =
    if nesting.depth == 0 then Err (Unopened at) else Ok (record { depth = nesting.depth - 1; first = nesting.first })
nesting_behind at (one atom) nesting = Ok nesting
nesting_behind at (Repeat quantifier) nesting = Ok nesting
nesting_behind at Or nesting = Ok nesting

-- a fault of a token. A set that isn't closed stands behind a group that isn't.
abbrev pub fault_within : Nesting → RegexpFault → RegexpFault
fault_within nesting (Unclosed at) = Unclosed (if nesting.depth == 0 then at else nesting.first)
fault_within nesting (Unopened at) = Unopened at
fault_within nesting (BadInterval at) = BadInterval at
fault_within nesting (BadClass at) = BadClass at
fault_within nesting TrailingBackslash = TrailingBackslash
fault_within nesting (NotInProfile at) = NotInProfile at
fault_within nesting Memory = Memory

-- the end of the text, where no group may be open
abbrev pub end_of : Nesting → Result (List Token) RegexpFault
end_of nesting = if nesting.depth == 0 then Ok [] else Err (Unclosed nesting.first)

abbrev pub with_token : Token → Result (List Token) RegexpFault → Result (List Token) RegexpFault
with_token token (Ok tokens) = Ok (token ∷ tokens)
with_token token (Err fault) = Err fault

-- a token, and the tokens behind it, by the groups that are open there
abbrev pub then_nested : Token → Result Nesting RegexpFault → (Nesting → Result (List Token) RegexpFault) → Result (List Token) RegexpFault
then_nested token (Err fault) later = Err fault
then_nested token (Ok nesting) later = with_token token (later nesting)

-- a token that was read at a place, and the tokens behind it, by what stands before them and by how many further
-- characters belong to this one
abbrev pub then_token : Nesting → ℕ → Read → (Nesting → Before → ℕ → Result (List Token) RegexpFault) → Result (List Token) RegexpFault
then_token nesting at (Err fault) later = Err (fault_within nesting fault)
then_token nesting at (Ok (token, more)) later =
    then_nested token (nesting_behind at token nesting) (λ nested. later nested (before_behind token) more)

-- the tokens of the rest of a text from a place on, where so many characters still belong to the token before
abbrev pub tokens_from : Nesting → Before → ℕ → ℕ → List ℕ → Result (List Token) RegexpFault
tokens_from nesting before at more [] = end_of nesting
tokens_from nesting before at (suc more) (c ∷ cs) = tokens_from nesting before (at + 1) more cs
tokens_from nesting before at zero (c ∷ cs) =
    then_token nesting at (token_of before at c cs) (λ nested behind more. tokens_from nested behind (at + 1) more cs)

-- no group is open
abbrev pub unnested : Nesting
unnested = record { depth = 0; first = 0 }

-- the tokens of a text, or its first fault, with its place in characters
abbrev pub tokens_read : List ℕ → Result (List Token) RegexpFault
tokens_read text = tokens_from unnested Start 0 0 text

abbrev pub as_regexp : List ℕ → Result (List Token) RegexpFault → Result Tree RegexpFault
as_regexp text (Ok tokens) = Ok (tree_of tokens)
as_regexp text (Err fault) = Err (in_bytes text fault)

-- the regexp that a text writes, or its first fault
abbrev pub regexp_of : List ℕ → Result Tree RegexpFault
regexp_of text = as_regexp (chars text) (tokens_read (chars text))

-- a regexp whose tokens are those of a text
abbrev pub IsRegexpOf : List ℕ → Tree → Type 0
IsRegexpOf text tree = (tokens : List Token) × (tokens_read (chars text) ≡ Ok tokens) × Writes tokens tree
